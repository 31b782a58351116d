use Rattle.std.proofs.Common.{◌≡◌, ◌≤◌, ◌-◌, length}
use Rattle.tables_digits.specs.SlotColumn.{Widened}
use Rattle.tables_digits.proofs.run.widen.Given as goal

abbrev pub invariant-loop-to : goal.invariant-loop-to
invariant-loop-to l = (l.from ≤ l.to) × (l.to ≤ l.n) × Widened l.from l.n l.fn.out l.to l.out × (length l.out ≡ length l.fn.out)

abbrev pub decreases-loop-to : goal.decreases-loop-to
decreases-loop-to l = l.n - l.to
