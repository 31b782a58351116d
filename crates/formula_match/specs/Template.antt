-- Templates: patterns of rule schemas as trees with holes, in the code's numbers. A code from 64 on is a hole for a formula; an operand
-- below 8 is a hole for a number, and 8 + n is the number n.
use Rattle.std.specs.Prelude.{true, false, List, [], ℕ, ◌+◌, ◌-◌, ltb, leb}
use Rattle.semantics.specs.Code
use Rattle.semantics.specs.Code.{byte}
use Rattle.semantics.specs.Formula.{Sort}
use Rattle.logic_schemas.specs.Pattern.{Num, Pattern, Fill, t, x, r, u, y, any_a, any_i, any_e, any_v, f, const, reg, word, equal, and, unsync, cov, box, one, chop, both, either, sees, both_a, either_a, start, holds}
use Rattle.logic_schemas.specs.Rules.{Shape, Premises, these, implications}
use Rattle.formula.specs.Codes.{has_operand}
use Rattle.formula.specs.Tree.{Tree, none, node}
use Rattle.formula_trees.specs.ToTree.{of_tree}

-- the first code that is a hole for a formula
abbrev pub first_hole : ℕ
first_hole = 64

-- the number of the hole for the instruction's formula
abbrev pub formula_hole : ℕ
formula_hole = 4

-- the operand of the fixed number 0
abbrev pub first_number : ℕ
first_number = 8

-- the hole for each number of a pattern: the instruction's thread t, word x and register r, and u and y, which are any
abbrev pub num_hole : Num → ℕ
num_hole t = 0
num_hole x = 1
num_hole r = 2
num_hole u = 3
num_hole y = 4

-- a hole for a formula, as a tree
abbrev pub hole : ℕ → Tree
hole k = node (first_hole + k) 0 none none

-- a pattern as a tree
abbrev pub pattern_to_tree : {s : Sort} → Pattern s → Tree
pattern_to_tree (any_a k) = hole k
pattern_to_tree (any_i k) = hole k
pattern_to_tree (any_e k) = hole k
pattern_to_tree (any_v k) = hole k
pattern_to_tree f = hole formula_hole
pattern_to_tree (const n) = node (byte Code.const) (first_number + n) none none
pattern_to_tree (reg n) = node (byte Code.reg) (num_hole n) none none
pattern_to_tree (word n) = node (byte Code.word) (num_hole n) none none
pattern_to_tree (unsync n) = node (byte Code.unsync) (num_hole n) none none
pattern_to_tree (cov n) = node (byte Code.cov) (num_hole n) none none
pattern_to_tree (one n) = node (byte Code.one) (num_hole n) none none
pattern_to_tree (equal p q) = node (byte Code.equal) 0 (pattern_to_tree p) (pattern_to_tree q)
pattern_to_tree (and p q) = node (byte Code.and) 0 (pattern_to_tree p) (pattern_to_tree q)
pattern_to_tree (chop p q) = node (byte Code.chop) 0 (pattern_to_tree p) (pattern_to_tree q)
pattern_to_tree (both p q) = node (byte Code.both) 0 (pattern_to_tree p) (pattern_to_tree q)
pattern_to_tree (either p q) = node (byte Code.either) 0 (pattern_to_tree p) (pattern_to_tree q)
pattern_to_tree (both_a p q) = node (byte Code.both_a) 0 (pattern_to_tree p) (pattern_to_tree q)
pattern_to_tree (either_a p q) = node (byte Code.either_a) 0 (pattern_to_tree p) (pattern_to_tree q)
pattern_to_tree (box p) = node (byte Code.box) 0 (pattern_to_tree p) none
pattern_to_tree (holds p) = node (byte Code.holds) 0 (pattern_to_tree p) none
pattern_to_tree (sees n p) = node (byte Code.sees) (num_hole n) (pattern_to_tree p) none
pattern_to_tree start = node (byte Code.start) 0 none none

-- the premises of a rule as shapes; rule 20, which takes any implications, has none
abbrev pub shapes : Premises → List Shape
shapes (these l) = l
shapes implications = []

-- a value for each hole: a substitution for the schema's metavariables
pub record Holes : Type 0 where
  pub num : ℕ → ℕ
  pub tree : ℕ → Tree

-- an operand of a node with the code d, filled
abbrev pub operand_t : Holes → ℕ → ℕ → ℕ
operand_t c d o = elim (has_operand d) [ false ↦ 0 | true ↦ elim (ltb o first_number) [ true ↦ c.num o | false ↦ o - first_number ] ]

-- the instance of a template: each hole replaced by its value
abbrev pub inst_t : Holes → Tree → Tree
inst_t c none = none
inst_t c (node d o l m) = elim (leb first_hole d) [ true ↦ c.tree (d - first_hole) | false ↦ node d (operand_t c d o) (inst_t c l) (inst_t c m) ]

-- the substitution as one for patterns: each hole read as a formula of its sort
abbrev pub fill_of : Holes → Fill
fill_of c = record {
  u = c.num (num_hole u);
  y = c.num (num_hole y);
  assertion = λ k. of_tree Sort.assertion (c.tree k);
  interval = λ k. of_tree Sort.interval (c.tree k);
  test = λ k. of_tree Sort.test (c.tree k);
  value = λ k. of_tree Sort.value (c.tree k);
}
