-- The side condition of rules 48 and 49: a value is that of the new write, as it reads after the step.
use Rattle.std.specs.Prelude.{Bool, cond, List, ℕ, eqb}
use Rattle.semantics.specs.Code
use Rattle.semantics.specs.Code.{byte}
use Rattle.logic.specs.Opcode
use Rattle.limits.specs.Limits.{nesting}
use Rattle.formula.specs.Tree.{Tree, none, node, parse_tree}
use Rattle.formula_compare.specs.Same.{same_tree}

-- the formula at position f is u
unfoldable pub formula_is : List ℕ → ℕ → Tree → Bool
formula_is s f u = same_tree (parse_tree s nesting f).tree u

-- u is the sum of register r and the formula at position f
unfoldable pub sum_is : List ℕ → ℕ → ℕ → Tree → Bool
sum_is s r f u = same_tree (node (byte Code.sum) 0 (node (byte Code.reg) r none none) (parse_tree s nesting f).tree) u

-- u is the new write's value: for fetch-add the result register plus the operand, else the operand
unfoldable pub fresh_is : List ℕ → ℕ → ℕ → ℕ → Tree → Bool
fresh_is s op r f u = cond (eqb op Opcode.fetch_add) (sum_is s r f u) (formula_is s f u)
