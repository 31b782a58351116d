use Rattle.trim_encode.proofs.Writes.{then_put}
use Rattle.trim_encode.proofs.writer.Writer.put_five.Goals as goal

pub returns : goal.returns
returns c = then_put c.put_byte.ensures (then_put c.put_byte-2.ensures (then_put c.put_byte-3.ensures c.put_u16.ensures))
