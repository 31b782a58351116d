-- What is worked out is what the logic says of the formula, over registers alone.
use Prim.Native.Nat.{ℕ, ◌+◌, ◌<◌}
use mathlib.Core.Path.{◌≡◌, refl, ap, ap₂, ◌∙◌}
use mathlib.Core.List.{List}
use mathlib.Core.Bool.{Bool, true, false, cond, not, ◌&&◌, ◌||◌}
use native.Mathlib.Omega.{arith}
use native.Mathlib.Nat.{mod-lt}
use lib.Dec.{T, eqb, ltb, ltb→lt}
use Rattle.semantics.specs.Eval.{on_regs, value, test, bounded}
use Rattle.semantics.specs.Formula.{Formula, Value, Test, Formula.const, Formula.reg, Formula.word, Formula.sum, Formula.equal, Formula.less, Formula.and, Formula.or, Formula.unsync, Formula.cov}
use Rattle.semantics.proofs.Base.{and_left, and_right}
use Rattle.limits.specs.Numbers.{nth}
use Rattle.formula_trees.specs.ToTree.{to_tree}
use Rattle.tables_columns.specs.Combine.{sum_of, combine}
use Rattle.tables_columns.proofs.CombineBranches.{sum_modulo}
use Rattle.replay_machine.specs.Evaluate.{worked_here, worked_t}

-- a test by its number: 1 for true
bit : (b : Bool) → eqb (cond {A = ℕ} b 1 0) 1 ≡ b
bit true = refl
bit false = refl

bit_not : (b : Bool) → eqb (cond {A = ℕ} b 0 1) 1 ≡ not b
bit_not true = refl
bit_not false = refl

bit-and : (b : Bool) (n : ℕ) → eqb (cond b n 0) 1 ≡ (b && eqb n 1)
bit-and true n = refl
bit-and false n = refl

bit-or : (b : Bool) (n : ℕ) → eqb (cond b 1 n) 1 ≡ (b || eqb n 1)
bit-or true n = refl
bit-or false n = refl

-- the registers g, as the logic has them
abbrev pub registers : List ℕ → ℕ → ℕ
registers g r = nth g r 0

-- registers and constants are values: below the range
module _ (R : ℕ) (g : List ℕ) (small : (r : ℕ) → nth g r 0 < R) where
  abbrev v : Value → ℕ
  v a = worked_t R g (to_tree a)

  abbrev means : Value → ℕ
  means a = value R (on_regs (registers g)) a

  pub worked_below : (a : Value) → T (bounded R a) → means a < R
  worked_below (const n) h = ltb→lt n R h
  worked_below (reg r) h = small r
  worked_below (word x) h = let s = small 0 in omega arith
  worked_below (sum a b) h = mod-lt (means a + means b) (let s = small 0 in omega arith)

  pub worked_value : (a : Value) → T (bounded R a) → worked_t R g (to_tree a) ≡ value R (on_regs (registers g)) a
  unfolding worked_t worked_here combine
  worked_value (const n) h = refl
  worked_value (reg r) h = refl
  worked_value (word x) h = refl
  worked_value (sum a b) h =
      ap₂ (sum_of R) (worked_value a (search and_left)) (worked_value b (search and_right))
      ∙ sum_modulo R (means a) (means b) (worked_below a (search and_left)) (worked_below b (search and_right))

  pub worked_test : (e : Test) → T (bounded R e) → eqb (worked_t R g (to_tree e)) 1 ≡ test R (on_regs (registers g)) e
  unfolding worked_t worked_here combine
  worked_test Formula.false h = refl
  worked_test (equal a b) h = bit (eqb (v a) (v b)) ∙ ap₂ eqb (worked_value a (search and_left)) (worked_value b (search and_right))
  worked_test (less a b) h = bit (ltb (v a) (v b)) ∙ ap₂ ltb (worked_value a (search and_left)) (worked_value b (search and_right))
  worked_test (Formula.not e) h = bit_not (eqb (worked_t R g (to_tree e)) 1) ∙ ap not (worked_test e h)
  worked_test (and e f) h =
      bit-and (eqb (worked_t R g (to_tree e)) 1) (worked_t R g (to_tree f))
      ∙ ap₂ (λ (a b : Bool). a && b) (worked_test e (search and_left)) (worked_test f (search and_right))
  worked_test (or e f) h =
      bit-or (eqb (worked_t R g (to_tree e)) 1) (worked_t R g (to_tree f))
      ∙ ap₂ (λ (a b : Bool). a || b) (worked_test e (search and_left)) (worked_test f (search and_right))
  worked_test (unsync x) h = refl
  worked_test (cov x) h = refl
