use Rattle.std.proofs.Common.{◌≡◌, ℕ, ◌≤◌, length, get_or}
use Rattle.tables_columns.specs.Column.{Zipped}
use Rattle.tables_columns.proofs.column.zip_with.Given as goal

abbrev pub invariant-loop-i : goal.invariant-loop-i
invariant-loop-i g l =
    Zipped (goal.F-post g l.combine) l.i l.fn.list l.fn.other l.list
    × ((d : _) (j : ℕ) → l.i ≤ j → get_or l.list j d ≡ get_or l.fn.list j d) × (length l.list ≡ length l.fn.list)
