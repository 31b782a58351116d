-- The matcher on trees: a template and a tree, with the bindings of the holes so far.
use Rattle.std.specs.Prelude.{Bool, true, false, ℕ, ◌-◌, eqb, ltb, leb}
use Rattle.std.proofs.Math.Option.{Option, none, some}
use Rattle.semantics.specs.Base.{upd}
use Rattle.formula.specs.Codes.{has_operand}
use Rattle.formula.specs.Tree.{Tree, Tree.node}
use Rattle.formula_compare.specs.Same.{same_tree}
use Rattle.formula_match.specs.Template.{first_hole, first_number}

-- the bindings of the holes for numbers and for trees
pub record Taken : Type 0 where
  pub num : ℕ → Option ℕ
  pub tree : ℕ → Option Tree

-- f of the value, if there is one
abbrev pub and_then : {A B : Type 0} → Option A → (A → Option B) → Option B
and_then none f = none
and_then (some a) f = f a

-- a if the test is passed
abbrev pub when : {A : Type 0} → Bool → A → Option A
when true a = some a
when false a = none

-- a hole for a formula is bound to the tree that comes first, and compared with those that come later
abbrev pub take_tree : ℕ → Tree → Taken → Option Tree → Option Taken
take_tree j u b none = some (record { num = b.num; tree = upd b.tree j (some u) })
take_tree j u b (some v) = when (same_tree v u) b

-- a hole for a number is bound to the number that comes first, and compared with those that come later
abbrev pub take_num : ℕ → ℕ → Taken → Option ℕ → Option Taken
take_num j n b none = some (record { num = upd b.num j (some n); tree = b.tree })
take_num j n b (some m) = when (eqb m n) b

-- the operand of a node with the code d: none, a hole for a number, or a fixed number
abbrev pub take_operand : ℕ → ℕ → ℕ → Taken → Option Taken
take_operand d o n b = elim (has_operand d) [
  | false ↦ when (eqb 0 n) b
  | true ↦ elim (ltb o first_number) [ true ↦ take_num o n b (b.num o) | false ↦ when (eqb (o - first_number) n) b ]
]

-- f of the node's fields, if the tree is a node
abbrev pub is_node : {A : Type 0} → Tree → (ℕ → ℕ → Tree → Tree → Option A) → Option A
is_node Tree.none f = none
is_node (node d o l r) f = f d o l r

-- the template against the tree: the bindings, if they match
unfoldable pub match_t : Tree → Tree → Taken → Option Taken
match_t Tree.none Tree.none b = some b
match_t Tree.none (node e n m s) b = none
match_t (node d o l r) u b = elim (leb first_hole d) [
  | true ↦ take_tree (d - first_hole) u b (b.tree (d - first_hole))
  | false ↦ is_node u (λ e n m s. and_then (when (eqb d e) b)
      (λ b₀. and_then (take_operand d o n b₀) (λ b₁. and_then (match_t l m b₁) (λ b₂. match_t r s b₂))))
]
