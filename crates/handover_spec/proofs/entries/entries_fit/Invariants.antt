use Rattle.std.proofs.Common.{◌≡◌, true}
use Rattle.handover_spec.specs.Fits.{entries_fit}
use Rattle.handover_spec.proofs.entries.entries_fit.Given as goal

abbrev pub invariant-loop-k : goal.invariant-loop-k
invariant-loop-k l = entries_fit l.table l.last l.lines l.from l.k ≡ true
