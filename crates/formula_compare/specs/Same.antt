-- Equality of two trees.
use Rattle.std.specs.Prelude.{ℕ, List, Bool, true, false, cond, ◌&&◌, eqb, Option, Some, None}
use Rattle.formula.specs.Tree.{Tree, none, node, ParsedTree, node_at}
use Rattle.formula.specs.declared.node.Node.{Node}
use Rattle.formula_compare.specs.declared.same.Pair.{Pair}
use Rattle.formula_compare.specs.declared.same.Pair.TheVariants.{Differ, Ended, One, Two}

-- the trees are equal: "formulas compared by bytes"
unfoldable pub same_tree : Tree → Tree → Bool
same_tree none none = true
same_tree none (node d p m s) = false
same_tree (node c o l r) none = false
same_tree (node c o l r) (node d p m s) = eqb c d && (eqb o p && (same_tree l m && same_tree r s))

-- the positions past two trees, if they are equal
abbrev pub same_of : ParsedTree → ParsedTree → Option (ℕ × ℕ)
same_of u v = cond (same_tree u.tree v.tree) (Some (u.end, v.end)) None

-- two nodes compared
unfoldable pub pair_of : Node → Node → Pair
pair_of x y =
    cond (eqb x.code y.code)
    (cond (eqb x.operand y.operand)
    (cond (eqb x.parts 0) (Ended x.next y.next) (cond (eqb x.parts 1) (One x.next y.next) (Two x.next y.next)))
    Differ)
    Differ

-- the nodes at the positions a and b compared, with m and k levels of nesting left
unfoldable pub pair_at : List ℕ → ℕ → ℕ → ℕ → ℕ → Pair
pair_at s a m b k = cond (eqb m 0) (cond (eqb k 0) (Ended a b) Differ) (cond (eqb k 0) Differ (pair_of (node_at s a) (node_at s b)))
