-- A template filled, read as a formula, is the pattern filled.
use mathlib.Core.Path.{◌≡◌, refl, ap, ap₂, sym, ◌∙◌}
use mathlib.Core.Bool.{Bool, true, false}
use Prim.Native.Nat.{ℕ, ◌+◌, ◌-◌}
use native.Mathlib.Omega.{arith}
use borrow.Author.Tests.{le-ltb, le-leb}
use lib.Dec.{ltb, leb}
use Rattle.semantics.specs.Code
use Rattle.semantics.specs.Code.{byte}
use Rattle.semantics.specs.Formula.{Sort, Formula}
use Rattle.logic_schemas.specs.Pattern.{Num, Pattern, Given, t, x, r, u, y, any_a, any_i, any_e, any_v, f, const, reg, word, equal, and, unsync, cov, box, one, chop, both, either, sees, both_a, either_a, start, holds, number, inst}
use Rattle.formula.specs.Codes.{has_operand}
use Rattle.formula.specs.Tree.{Tree, node}
use Rattle.formula_trees.specs.ToTree.{to_tree, of_tree}
use Rattle.formula_trees.proofs.TreeAgree.{of_tree_to_tree}
use Rattle.formula_match.specs.Template.{first_hole, first_number, formula_hole, num_hole, hole, pattern_to_tree, Holes, operand_t, inst_t, fill_of}

-- what stands in a hole
pub hole-at : (c : Holes) (k : ℕ) → inst_t c (hole k) ≡ c.tree k
hole-at c k = go (leb first_hole (first_hole + k)) (le-leb first_hole (first_hole + k) (omega arith))
  where
    go : (b : Bool) → b ≡ true → ◌≡◌ {A = Tree} (elim b
        [ true ↦ c.tree (first_hole + k - first_hole) | false ↦ node (first_hole + k) (operand_t c (first_hole + k) 0) Tree.none Tree.none ])
        (c.tree k)
    go true e = ap c.tree (let q : first_hole + k - first_hole ≡ k = omega arith in q)
    go false e = let z : ◌≡◌ {A = ℕ} 0 1 = cc in absurd (omega arith)

-- a number as an operand
pub literal : (c : Holes) (n : ℕ) → operand_t c (byte Code.const) (first_number + n) ≡ n
unfolding has_operand
literal c n = go (ltb (first_number + n) first_number) (le-ltb (first_number + n) first_number (omega arith))
  where
    go : (b : Bool) → b ≡ false → ◌≡◌ {A = ℕ} (elim b [ true ↦ c.num (first_number + n) | false ↦ first_number + n - first_number ]) n
    go true e = let z : ◌≡◌ {A = ℕ} 0 1 = cc in absurd (omega arith)
    go false e = omega arith

-- holes that were set before the match agree with what is given
pub record Agrees (g : Given) (c : Holes) : Type 0 where
  pub t : c.num (num_hole t) ≡ g.t
  pub x : c.num (num_hole x) ≡ g.x
  pub r : c.num (num_hole r) ≡ g.r
  pub f : of_tree Sort.value (c.tree formula_hole) ≡ g.f

module _ (g : Given) (c : Holes) (ag : Agrees g c) where
  op_of_tree : (n : Num) → ◌≡◌ {A = ℕ} (elim (ltb (num_hole n) first_number) [ true ↦ c.num (num_hole n) | false ↦ num_hole n - first_number ])
      (number g (fill_of c) n)
  op_of_tree t = ag.t
  op_of_tree x = ag.x
  op_of_tree r = ag.r
  op_of_tree u = refl
  op_of_tree y = refl

  pub of_tree_inst : {s : Sort} (p : Pattern s) → of_tree s (inst_t c (pattern_to_tree p)) ≡ inst g (fill_of c) p
  unfolding has_operand
  of_tree_inst (any_a k) = ap (of_tree Sort.assertion) (hole-at c k)
  of_tree_inst (any_i k) = ap (of_tree Sort.interval) (hole-at c k)
  of_tree_inst (any_e k) = ap (of_tree Sort.test) (hole-at c k)
  of_tree_inst (any_v k) = ap (of_tree Sort.value) (hole-at c k)
  of_tree_inst f = ag.f
  of_tree_inst (const n) = ap Formula.const (literal c n)
  of_tree_inst (reg n) = ap Formula.reg (op_of_tree n)
  of_tree_inst (word n) = ap Formula.word (op_of_tree n)
  of_tree_inst (unsync n) = ap Formula.unsync (op_of_tree n)
  of_tree_inst (cov n) = ap Formula.cov (op_of_tree n)
  of_tree_inst (one n) = ap Formula.one (op_of_tree n)
  of_tree_inst (equal p q) = ap₂ Formula.equal (of_tree_inst p) (of_tree_inst q)
  of_tree_inst (and p q) = ap₂ Formula.and (of_tree_inst p) (of_tree_inst q)
  of_tree_inst (chop p q) = ap₂ Formula.chop (of_tree_inst p) (of_tree_inst q)
  of_tree_inst (both p q) = ap₂ Formula.both (of_tree_inst p) (of_tree_inst q)
  of_tree_inst (either p q) = ap₂ Formula.either (of_tree_inst p) (of_tree_inst q)
  of_tree_inst (both_a p q) = ap₂ Formula.both_a (of_tree_inst p) (of_tree_inst q)
  of_tree_inst (either_a p q) = ap₂ Formula.either_a (of_tree_inst p) (of_tree_inst q)
  of_tree_inst (box p) = ap Formula.box (of_tree_inst p)
  of_tree_inst (holds p) = ap Formula.holds (of_tree_inst p)
  of_tree_inst (sees n p) = ap₂ Formula.sees (op_of_tree n) (of_tree_inst p)
  of_tree_inst start = refl

  -- a formula whose tree is the template filled is the pattern filled
  pub from_tree : {s : Sort} (p : Pattern s) (a : Formula s) → inst_t c (pattern_to_tree p) ≡ to_tree a → inst g (fill_of c) p ≡ a
  from_tree {s} p a e = sym (of_tree_inst p) ∙ ap (of_tree s) e ∙ of_tree_to_tree a
