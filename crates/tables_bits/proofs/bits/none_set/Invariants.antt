use Rattle.std.proofs.Common.{◌≡◌, true}
use Rattle.tables_bits.specs.Bits.{none_set}
use Rattle.tables_bits.proofs.bits.none_set.Given as goal

abbrev pub invariant-loop-w : goal.invariant-loop-w
invariant-loop-w l = none_set l.bits l.n l.w ≡ true
