-- The value of a tree at given registers; of a test, 1 for true. R: the range; g: the registers, which count from 1.
use Rattle.std.specs.Prelude.{ℕ, List, cond, eqb}
use Rattle.semantics.specs.Code
use Rattle.semantics.specs.Code.{byte}
use Rattle.limits.specs.Numbers.{nth}
use Rattle.formula.specs.Tree.{Tree, none, node, ParsedTree}
use Rattle.tables_columns.specs.Combine.{combine}
use Rattle.replay_machine.specs.declared.evaluate.Worked.{Worked}

-- a node's value from the values of its parts
unfoldable pub worked_here : ℕ → List ℕ → ℕ → ℕ → ℕ → ℕ → ℕ
worked_here R g c o a b = cond (eqb c (byte Code.reg)) (nth g o 0) (combine R c o a b)

-- the value of a tree
unfoldable pub worked_t : ℕ → List ℕ → Tree → ℕ
worked_t R g none = 0
worked_t R g (node c o l r) = worked_here R g c o (worked_t R g l) (worked_t R g r)

-- the value of a tree, and the position after it
abbrev pub worked_at : ℕ → List ℕ → ParsedTree → Worked
worked_at R g u = record { value = worked_t R g u.tree; end = u.end }
