use Rattle.std.proofs.Common.{rules, ◌∙◌}
use Rattle.trim_encode.proofs.Writes.{written_whole}
use Rattle.trim_encode.proofs.ImageWritten.{whole_encodes}
use native.Mathlib.Omega.{arith}
use Rattle.trim_encode.proofs.trimming.Trimming.write.Goals as goal

pub put_all-requires : goal.put_all-requires
put_all-requires c =
    let e = whole_encodes _ _ _ _ _ _ c.args.self.now.formulas.numbered c.args.self.now.lines.numbered c.args.self.now.image.lengths.records in
    let a = c.new-writer.ensures.at in
    rw (e, c.new-writer.ensures.bytes) (omega (arith, a, c.requires))

pub returns : goal.returns
returns c =
    let e = whole_encodes _ _ _ _ _ _ c.args.self.now.formulas.numbered c.args.self.now.lines.numbered c.args.self.now.image.lengths.records in
    let h = rw (e, c.new-writer.ensures.bytes) at (written_whole _ _ _ c.new-writer.ensures.at c.put_all.ensures) in
    let q = c.put_all.ensures.same ∙ c.new-writer.ensures.same in
    search rules
