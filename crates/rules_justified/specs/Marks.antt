-- Marks of lines, which count from 1: the mark of line n is entry n - 1.
use Rattle.std.specs.Prelude.{Bool, false, cond, List, ℕ, ◌-◌, eqb, get_or, set, replicate}
use Rattle.limits.specs.Limits.{lines}
use Rattle.rules_justified.specs.declared.marks.Marks.{Marks}

-- a list of marks as the code's struct
abbrev pub as_marks : List Bool → Marks
as_marks l = record { on = l }

-- no line has a mark
unfoldable pub no_marks : Marks
no_marks = record { on = replicate lines false }

-- line n has a mark
unfoldable pub is_marked : Marks → ℕ → Bool
is_marked m n = cond (eqb n 0) false (get_or m.on (n - 1) false)

-- the marks with b for line n
unfoldable pub with_mark : Marks → ℕ → Bool → Marks
with_mark m n b = cond (eqb n 0) m (record { on = set m.on (n - 1) b })
