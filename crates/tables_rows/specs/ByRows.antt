-- Tests by rows, and assertions by truth table.
use Rattle.std.specs.Prelude.{ℕ, ◌-◌, ◌^◌, List, [], ◌∷◌, Bool, false, cond, ltb}
use Rattle.semantics.specs.Code.{Code}
use Rattle.semantics.specs.Limits
use Rattle.limits.specs.Limits.{nesting}
use Rattle.formula.specs.Codes.{set_of}
use Rattle.formula.specs.Tree.{Tree}
use Rattle.tables_bits.specs.TruthTable.{by_leaves}
use Rattle.tables_rows.specs.Entailment.{ImpT, pair_in, imp_of, premises_from}
use Rattle.tables_rows.specs.EveryRow.{every_t}
use Rattle.tables_digits.specs.declared.value_column.Reading.{Reading}
use Rattle.tables_rows.specs.declared.entailment.Task.{Task}
use Rattle.tables_rows.specs.declared.by_rows.Implications.{Implications}

-- the leaves by rows: names and flags
abbrev pub by_names : ℕ → Reading
by_names R = record { leaves = set_of (Code.reg ∷ Code.word ∷ Code.unsync ∷ Code.cov ∷ []); range = R }

-- "wherever the left test is true the right one must be. At most 4,096 rows". A range below 2, which no image has, is refused
unfoldable pub rows_t : ℕ → Tree → Tree → Bool
rows_t R u v = cond (ltb R 2) false (every_t (by_names R) Limits.rows [] (record { left = u; right = v }))

-- the line is true at each row at which every premise is; "at most 10 distinct leaves"
unfoldable pub table_t : List ImpT → ImpT → Bool
table_t ps c = every_t by_leaves (2 ^ Limits.leaves) ps c

-- a line and its premises, all nested at most 16 deep
abbrev pub task_of : Implications → Task
task_of p = record { premises = p.count - 1; left = nesting; right = nesting }

-- the line, as trees
abbrev pub line_of : List ℕ → Implications → ImpT
line_of s p = imp_of s (pair_in p.pairs) (task_of p) 0

-- the premises of the line, as trees
abbrev pub premises_of : List ℕ → Implications → List ImpT
premises_of s p = premises_from s (pair_in p.pairs) (task_of p) 0
