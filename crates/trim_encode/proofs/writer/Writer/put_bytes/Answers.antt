use Rattle.std.proofs.Common.{refl}
use Rattle.trim_encode.proofs.Writes.{over_put}
use Rattle.trim_encode.proofs.writer.Writer.put_bytes.Goals as goal

pub returns : goal.returns
returns c = over_put _ _ _ c.requires refl c.copy_to.ensures refl
