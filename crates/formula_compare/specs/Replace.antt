-- Substitution of trees for names.
use Rattle.std.specs.Prelude.{ℕ, List, [], ◌∷◌, Bool, cond, ◌&&◌, eqb, Option, Some, None}
use Rattle.semantics.specs.Code
use Rattle.semantics.specs.Code.{byte}
use Rattle.formula.specs.Codes.{among}
use Rattle.formula.specs.Tree.{Tree, none, node, ParsedTree, node_at, parse_tree}
use Rattle.formula_compare.specs.Same.{same_tree}
use Rattle.formula_compare.specs.declared.replace.Name.{Name}
use Rattle.formula_compare.specs.declared.replace.Replacing.{Replacing}
use Rattle.formula_compare.specs.declared.replace.Replacing.TheVariants.{Formula, Word}
use Rattle.formula_compare.specs.declared.replace.Substitution.{Substitution}

-- names: registers, and words as values
unfoldable pub is_name : ℕ → Bool
is_name c = among c (Code.reg ∷ Code.word ∷ [])

-- each name of the code c and the number o replaced by σ c o, all at once
unfoldable pub replace_t : (ℕ → ℕ → Tree) → Tree → Tree
replace_t σ none = none
replace_t σ (node c o l r) = cond (is_name c) (σ c o) (node c o (replace_t σ l) (replace_t σ r))

-- a node with the code c and the operand o is the name: a word's value or a register
unfoldable pub is_named : Name → ℕ → ℕ → Bool
is_named (Name.Word x) c o = eqb c (byte Code.word) && eqb o x
is_named (Name.Register r) c o = eqb c (byte Code.reg) && eqb o r

-- one name replaced by f; the others stay
unfoldable pub one_name : Name → Tree → ℕ → ℕ → Tree
one_name n f c o = cond (is_named n c o) f (node c o none none)

-- a register and the tree that replaces it: on trees, a note (an auxiliary assignment)
pub record NoteT : Type 0 where
  pub to : ℕ
  pub by : Tree

-- several registers at once, "without one feeding the other"
abbrev pub named : List NoteT → ℕ → ℕ → Tree
named [] c o = node c o none none
named (n ∷ l) c o = cond (is_named (Name.Register n.to) c o) n.by (named l c o)

-- a node without parts, at no position
abbrev pub leaf_only : ℕ → ℕ → ParsedTree
leaf_only c o = record { tree = node c o none none; end = 0 }

-- what replaces a name
abbrev pub stands_for : List ℕ → Replacing → ParsedTree
stands_for s (Formula at left) = parse_tree s left at
stands_for s (Word x) = leaf_only (byte Code.word) x

-- what replaces the name of the code c and the number o, if it is the substitution's second name, which is a register
abbrev pub second_of : Option (ℕ × Replacing) → ℕ → ℕ → Option Replacing
second_of None c o = None
second_of (Some q) c o = cond (is_named (Name.Register q.0) c o) (Some q.1) None

-- what replaces the name of the code c and the number o, if the substitution does
unfoldable pub replacing_of : Substitution → ℕ → ℕ → Option Replacing
replacing_of w c o = cond (is_named w.name c o) (Some w.by) (second_of w.second c o)

-- the tree that is put for the name of the code c and the number o, which stays if nothing replaces it
abbrev pub put_for : List ℕ → Option Replacing → ℕ → ℕ → Tree
put_for s None c o = node c o none none
put_for s (Some by) c o = (stands_for s by).tree

-- what a substitution puts for the name of the code c and the number o
unfoldable pub substituted : List ℕ → Substitution → ℕ → ℕ → Tree
substituted s w c o = put_for s (replacing_of w c o) c o

-- the positions past both trees, if the second is the first after the substitution
abbrev pub replaced_of : List ℕ → Substitution → ParsedTree → ParsedTree → Option (ℕ × ℕ)
replaced_of s w u v = cond (same_tree (replace_t (substituted s w) u.tree) v.tree) (Some (u.end, v.end)) None

-- a position, and what replaces the name before it
abbrev pub past_name : ℕ → Option Replacing → Option (ℕ × Replacing)
past_name p None = None
past_name p (Some by) = Some (p, by)

-- the position past the node at position a and what replaces it, if it is a name that is replaced
unfoldable pub hit_at : List ℕ → ℕ → ℕ → Substitution → Option (ℕ × Replacing)
hit_at s a k w = cond (eqb k 0) None (past_name (node_at s a).next (replacing_of w (node_at s a).code (node_at s a).operand))
