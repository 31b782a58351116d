use Rattle.std.proofs.Common.{◌≡◌, ◌≤◌}
use Rattle.trim_spec.specs.Live.{renumbered, numbers_to}
use Rattle.trim_encode.proofs.numbering.fill_numbers.Given as goal

abbrev pub invariant-loop-i : goal.invariant-loop-i
invariant-loop-i l = (l.n ≡ renumbered l.marks l.i) × ((l.table ≡ numbers_to l.marks l.i) × (l.n ≤ l.i))
