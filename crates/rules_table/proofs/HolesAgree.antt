-- The holes of patterns. Two fillings, one of templates and one of patterns, make the same formula of a pattern exactly if they agree at
-- its holes. What a row of the table may ask of its holes is one test that computes.
use mathlib.Core.Path.{◌≡◌, refl, ap, ap₂, sym, ◌∙◌}
use mathlib.Core.Bool.{true, false}
use mathlib.Core.List.{List, [], ◌∷◌, ◌++◌}
use Prim.Native.Nat.{ℕ, ◌-◌}
use lib.Dec.{ltb}
use Rattle.semantics.specs.Base.{All}
use Rattle.semantics.specs.Code
use Rattle.semantics.specs.Code.{byte}
use Rattle.semantics.specs.Formula.{Sort, Formula}
use Rattle.logic_schemas.specs.Pattern
use Rattle.logic_schemas.specs.Pattern.{Num, Pattern, Given, Fill, number, inst}
use Rattle.formula.specs.Codes.{has_operand}
use Rattle.formula.specs.Tree.{Tree, Tree.node}
use Rattle.formula_trees.specs.ToTree.{to_tree}
use Rattle.formula_match.specs.Template.{first_number, formula_hole, num_hole, pattern_to_tree, Holes, inst_t}
use Rattle.formula_match.proofs.TemplateFilled.{hole-at, literal}

-- a hole for a formula of a sort, by its number; a number; the instruction's formula
pub data Hole : Type 0 where
  formula : Sort → ℕ → Hole
  num : Num → Hole
  operand : Hole

abbrev pub holes : {s : Sort} → Pattern s → List Hole
holes (Pattern.any_a k) = formula Sort.assertion k ∷ []
holes (Pattern.any_i k) = formula Sort.interval k ∷ []
holes (Pattern.any_e k) = formula Sort.test k ∷ []
holes (Pattern.any_v k) = formula Sort.value k ∷ []
holes Pattern.f = operand ∷ []
holes (Pattern.const n) = []
holes (Pattern.reg n) = num n ∷ []
holes (Pattern.word n) = num n ∷ []
holes (Pattern.unsync n) = num n ∷ []
holes (Pattern.cov n) = num n ∷ []
holes (Pattern.one n) = num n ∷ []
holes (Pattern.equal p q) = holes p ++ holes q
holes (Pattern.and p q) = holes p ++ holes q
holes (Pattern.chop p q) = holes p ++ holes q
holes (Pattern.both p q) = holes p ++ holes q
holes (Pattern.either p q) = holes p ++ holes q
holes (Pattern.both_a p q) = holes p ++ holes q
holes (Pattern.either_a p q) = holes p ++ holes q
holes (Pattern.box p) = holes p
holes (Pattern.holds p) = holes p
holes (Pattern.sees n p) = num n ∷ holes p
holes Pattern.start = []

pub all_left : (Q : Hole → Type 0) (l m : List Hole) → All Q (l ++ m) → All Q l
all_left Q [] m h = tt
all_left Q (x ∷ l) m h = (h.0, all_left Q l m h.1)

pub all_right : (Q : Hole → Type 0) (l m : List Hole) → All Q (l ++ m) → All Q m
all_right Q [] m h = h
all_right Q (x ∷ l) m h = all_right Q l m h.1

pub all_join : (Q : Hole → Type 0) (l m : List Hole) → All Q l → All Q m → All Q (l ++ m)
all_join Q [] m h g = g
all_join Q (x ∷ l) m h g = (h.0, all_join Q l m h.1 g)

-- what stands in the hole of a sort
abbrev pub fill_at : Fill → (s : Sort) → ℕ → Formula s
fill_at σ Sort.value k = σ.value k
fill_at σ Sort.test k = σ.test k
fill_at σ Sort.interval k = σ.interval k
fill_at σ Sort.assertion k = σ.assertion k

abbrev pub left_part : Tree → Tree
left_part Tree.none = Tree.none
left_part (node d o l r) = l

abbrev pub right_part : Tree → Tree
right_part Tree.none = Tree.none
right_part (node d o l r) = r

abbrev pub operand_of : Tree → ℕ
operand_of Tree.none = 0
operand_of (node d o l r) = o

module _ (g : Given) (σ : Fill) (c : Holes) where
  -- the fillings agree at a hole
  abbrev pub At : Hole → Type 0
  At (formula s k) = c.tree k ≡ to_tree (fill_at σ s k)
  At (num n) = c.num (num_hole n) ≡ number g σ n
  At operand = c.tree formula_hole ≡ to_tree g.f

  num_is : (n : Num) → ◌≡◌ {A = ℕ} (elim (ltb (num_hole n) first_number) [ true ↦ c.num (num_hole n) | false ↦ num_hole n - first_number ])
      (c.num (num_hole n))
  num_is Pattern.t = refl
  num_is Pattern.x = refl
  num_is Pattern.r = refl
  num_is Pattern.u = refl
  num_is Pattern.y = refl

  -- fillings that agree make the same of a pattern
  pub same_filled : {s : Sort} (p : Pattern s) → All At (holes p) → inst_t c (pattern_to_tree p) ≡ to_tree (inst g σ p)
  unfolding has_operand
  same_filled (Pattern.any_a k) h = hole-at c k ∙ h.0
  same_filled (Pattern.any_i k) h = hole-at c k ∙ h.0
  same_filled (Pattern.any_e k) h = hole-at c k ∙ h.0
  same_filled (Pattern.any_v k) h = hole-at c k ∙ h.0
  same_filled Pattern.f h = h.0
  same_filled (Pattern.const n) h = ap (λ (o : ℕ). node (byte Code.const) o Tree.none Tree.none) (literal c n)
  same_filled (Pattern.reg n) h = ap (λ (o : ℕ). node (byte Code.reg) o Tree.none Tree.none) (num_is n ∙ h.0)
  same_filled (Pattern.word n) h = ap (λ (o : ℕ). node (byte Code.word) o Tree.none Tree.none) (num_is n ∙ h.0)
  same_filled (Pattern.unsync n) h = ap (λ (o : ℕ). node (byte Code.unsync) o Tree.none Tree.none) (num_is n ∙ h.0)
  same_filled (Pattern.cov n) h = ap (λ (o : ℕ). node (byte Code.cov) o Tree.none Tree.none) (num_is n ∙ h.0)
  same_filled (Pattern.one n) h = ap (λ (o : ℕ). node (byte Code.one) o Tree.none Tree.none) (num_is n ∙ h.0)
  same_filled (Pattern.equal p q) h = ap₂ (node (byte Code.equal) 0) (same_filled p (all_left At (holes p) (holes q) h))
      (same_filled q (all_right At (holes p) (holes q) h))
  same_filled (Pattern.and p q) h = ap₂ (node (byte Code.and) 0) (same_filled p (all_left At (holes p) (holes q) h))
      (same_filled q (all_right At (holes p) (holes q) h))
  same_filled (Pattern.chop p q) h = ap₂ (node (byte Code.chop) 0) (same_filled p (all_left At (holes p) (holes q) h))
      (same_filled q (all_right At (holes p) (holes q) h))
  same_filled (Pattern.both p q) h = ap₂ (node (byte Code.both) 0) (same_filled p (all_left At (holes p) (holes q) h))
      (same_filled q (all_right At (holes p) (holes q) h))
  same_filled (Pattern.either p q) h = ap₂ (node (byte Code.either) 0) (same_filled p (all_left At (holes p) (holes q) h))
      (same_filled q (all_right At (holes p) (holes q) h))
  same_filled (Pattern.both_a p q) h = ap₂ (node (byte Code.both_a) 0) (same_filled p (all_left At (holes p) (holes q) h))
      (same_filled q (all_right At (holes p) (holes q) h))
  same_filled (Pattern.either_a p q) h = ap₂ (node (byte Code.either_a) 0) (same_filled p (all_left At (holes p) (holes q) h))
      (same_filled q (all_right At (holes p) (holes q) h))
  same_filled (Pattern.box p) h = ap (λ (u : Tree). node (byte Code.box) 0 u Tree.none) (same_filled p h)
  same_filled (Pattern.holds p) h = ap (λ (u : Tree). node (byte Code.holds) 0 u Tree.none) (same_filled p h)
  same_filled (Pattern.sees n p) h =
      ap₂ (λ (o : ℕ) (u : Tree). node (byte Code.sees) o u Tree.none) (num_is n ∙ h.0) (same_filled p h.1)
  same_filled Pattern.start h = refl

  -- and those that make the same of it agree
  pub agree_at : {s : Sort} (p : Pattern s) → inst_t c (pattern_to_tree p) ≡ to_tree (inst g σ p) → All At (holes p)
  unfolding has_operand
  agree_at (Pattern.any_a k) e = (sym (hole-at c k) ∙ e, tt)
  agree_at (Pattern.any_i k) e = (sym (hole-at c k) ∙ e, tt)
  agree_at (Pattern.any_e k) e = (sym (hole-at c k) ∙ e, tt)
  agree_at (Pattern.any_v k) e = (sym (hole-at c k) ∙ e, tt)
  agree_at Pattern.f e = (e, tt)
  agree_at (Pattern.const n) e = tt
  agree_at (Pattern.reg n) e = (sym (num_is n) ∙ ap operand_of e, tt)
  agree_at (Pattern.word n) e = (sym (num_is n) ∙ ap operand_of e, tt)
  agree_at (Pattern.unsync n) e = (sym (num_is n) ∙ ap operand_of e, tt)
  agree_at (Pattern.cov n) e = (sym (num_is n) ∙ ap operand_of e, tt)
  agree_at (Pattern.one n) e = (sym (num_is n) ∙ ap operand_of e, tt)
  agree_at (Pattern.equal p q) e = all_join At (holes p) (holes q) (agree_at p (ap left_part e)) (agree_at q (ap right_part e))
  agree_at (Pattern.and p q) e = all_join At (holes p) (holes q) (agree_at p (ap left_part e)) (agree_at q (ap right_part e))
  agree_at (Pattern.chop p q) e = all_join At (holes p) (holes q) (agree_at p (ap left_part e)) (agree_at q (ap right_part e))
  agree_at (Pattern.both p q) e = all_join At (holes p) (holes q) (agree_at p (ap left_part e)) (agree_at q (ap right_part e))
  agree_at (Pattern.either p q) e = all_join At (holes p) (holes q) (agree_at p (ap left_part e)) (agree_at q (ap right_part e))
  agree_at (Pattern.both_a p q) e = all_join At (holes p) (holes q) (agree_at p (ap left_part e)) (agree_at q (ap right_part e))
  agree_at (Pattern.either_a p q) e = all_join At (holes p) (holes q) (agree_at p (ap left_part e)) (agree_at q (ap right_part e))
  agree_at (Pattern.box p) e = agree_at p (ap left_part e)
  agree_at (Pattern.holds p) e = agree_at p (ap left_part e)
  agree_at (Pattern.sees n p) e = (sym (num_is n) ∙ ap operand_of e, agree_at p (ap left_part e))
  agree_at Pattern.start e = tt
