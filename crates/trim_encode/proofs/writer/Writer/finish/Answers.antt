use Rattle.std.proofs.Common.{refl}
use Rattle.trim_encode.proofs.Writes.{then_put, put_over}
use Rattle.trim_encode.proofs.writer.Writer.finish.Goals as goal

pub returns : goal.returns
returns c =
    let p = then_put c.put_u16.ensures c.put_u16-2.ensures in
    record { same = p.same; bytes = put_over p; at = refl }
