-- Formulas as uniform trees, and the tree of the formula at a position.
use Rattle.std.specs.Prelude.{ℕ, zero, suc, ◌+◌, List, Bool, true, false, cond, length, get_or, ltb}
use Rattle.formula.specs.Codes.{has_operand, part_count}
use Rattle.formula.specs.declared.node.Node.{Node}

-- a code, an operand (0 where there is none) and two parts; a missing part is none
pub data Tree : Type 0 where
  none : Tree
  node : ℕ → ℕ → Tree → Tree → Tree

-- the node at a position; past the end a leaf of no bytes
unfoldable pub node_at : List ℕ → ℕ → Node
node_at s at =
    cond (ltb at (length s))
    (cond (has_operand (get_or s at 0))
    (record { code = get_or s at 0; operand = get_or s (at + 1) 0; parts = part_count (get_or s at 0); next = at + 2 })
    (record { code = get_or s at 0; operand = 0; parts = part_count (get_or s at 0); next = at + 1 }))
    (record { code = 0; operand = 0; parts = 0; next = at })

-- a tree, and the position past it
pub record ParsedTree : Type 0 where
  pub tree : Tree
  pub end : ℕ

-- a part, read by f, if there is one
abbrev pub part : (ℕ → ParsedTree) → Bool → ℕ → ParsedTree
part f true at = f at
part f false at = record { tree = none; end = at }

-- the tree of a node, its parts read by f one after the other
abbrev pub grow : (ℕ → ParsedTree) → Node → ParsedTree
grow f n =
    let l = part f (ltb 0 n.parts) n.next in
    let r = part f (ltb 1 n.parts) l.end in
    record { tree = node n.code n.operand l.tree r.tree; end = r.end }

-- the tree at a position, down to the nesting k. It is total: past the end it is a leaf of no bytes, below the nesting none
unfoldable pub parse_tree : List ℕ → ℕ → ℕ → ParsedTree
parse_tree s zero at = record { tree = none; end = at }
parse_tree s (suc k) at = grow (λ p. parse_tree s k p) (node_at s at)
