use Rattle.std.proofs.Common.{ℕ, sym}
use lib.ListN.{length-replicate}
use Rattle.vectors.specs.Space.{space_bytes}
use Rattle.vectors.proofs.space.space_for_body.Goals as goal

pub returns : goal.returns
returns c = sym (length-replicate {A = ℕ} space_bytes 0)
