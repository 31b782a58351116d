use Rattle.std.proofs.Common.{◌≡◌, take, length}
use Rattle.trim_encode.specs.Writing.{overwritten}
use Rattle.trim_encode.proofs.writer.copy_to.Given as goal

abbrev pub invariant-loop-i : goal.invariant-loop-i
invariant-loop-i l = (l.out ≡ overwritten l.fn.out l.at (take l.i l.body)) × (length l.out ≡ length l.fn.out)
