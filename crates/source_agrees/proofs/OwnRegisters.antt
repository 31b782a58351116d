-- Registers of a thread: one that the header gives it, and a formula over such registers alone.
use mathlib.Core.Path.{◌≡◌, refl, ap, sym, ◌∙◌, subst}
use mathlib.Core.Bool.{Bool, true, false, ◌&&◌}
use mathlib.Core.List.{List, [], ◌∷◌, map}
use mathlib.Core.Logic.{inl, inr}
use Prim.Native.Nat.{ℕ, zero, suc, ◌-◌, ◌≤◌, ◌<◌}
use native.Mathlib.Omega.{arith}
use lib.Dec.{T, eqb, eqb→eq}
use lib.ListN.{length, get_or, length-map}
use borrow.Author.Tests.{ne_eqb, not-false}
use Rattle.semantics.specs.Base.{Within}
use Rattle.semantics.specs.Formula.{Sort, Formula, Value, Test}
use Rattle.semantics.specs.Names.{Name, names, only, is_reg, regs_in}
use Rattle.semantics.proofs.Base.{is_true, and_right}
use Rattle.limits.specs.Numbers.{nth}
use Rattle.formula.specs.Codes.{member}
use Rattle.formula_compare.specs.Occurs.{owner_of, is_queried, occurs, foreign}
use Rattle.formula_trees.specs.ToTree.{to_tree}
use Rattle.formula_trees.proofs.OccursAgree.{Is, absent}
use Rattle.source.specs.Source.{Source}
use Rattle.source.specs.InRange.{Own, Local, Numbers}
use Rattle.source_agrees.proofs.FormulaNumbers.{only_both, value_numbers, test_numbers}
use Rattle.source_agrees.proofs.HeaderWritten.{owner}

-- a member that is not the default is there
there : (l : List ℕ) (k t : ℕ) → 1 ≤ t → get_or l k 0 ≡ t → k < length l
there [] k t a e = absurd (omega (arith, e))
there (x ∷ l) zero t a e = omega arith
there (x ∷ l) (suc k) t a e = omega (arith, there l k t a e)

nth_there : (l : List ℕ) (r t : ℕ) → 1 ≤ t → nth l r 0 ≡ t → Within (length l) r
unfolding nth
nth_there l zero t a e = absurd (omega (arith, e))
nth_there l (suc k) t a e = (omega arith, omega (arith, there l k t a e))

owner_nth : (os : List ℕ) (r : ℕ) → owner_of os r ≡ nth os r 0
unfolding owner_of nth
owner_nth os zero = refl
owner_nth os (suc k) =
    let q : suc k ≡ 0 → ⊥ = omega arith in
    let p : suc k - 1 ≡ k = omega arith in
    rw (ne_eqb (suc k) 0 q, p)

-- a register of thread t passes
abbrev own_reg : ℕ → List ℕ → ℕ → Bool
own_reg t os r = eqb (owner_of os r) t

foreign_is : (t : ℕ) (os : List ℕ) → Is (foreign t) os (regs_in (own_reg t os))
unfolding is_queried member
foreign_is t os = record {
  const = λ n. refl;
  reg = λ n. refl;
  word = λ n. refl;
  sum = refl;
  falsehood = refl;
  equal = refl;
  less = refl;
  negation = refl;
  and = refl;
  or = refl;
  unsync = λ n. refl;
  cov = λ n. refl;
  box = refl;
  one = λ n. refl;
  chop = refl;
  both = refl;
  either = refl;
  sees = λ n. refl;
  both_a = refl;
  either_a = refl;
  start = refl;
  holds = refl;
}

module _ (s : Source) (os : List ℕ) (same : map owner s.registers ≡ os) (t : ℕ) (thread : 1 ≤ t) where
  pub own_register : (r : ℕ) → nth os r 0 ≡ t → Own s t r
  own_register r e = (
    subst (λ (n : ℕ). Within n r) (ap length (sym same) ∙ length-map s.registers owner) (nth_there os r t thread e),
    ap (λ (l : List ℕ). nth l r 0) same ∙ e,
  )

  -- no register of another thread, and no word
  abbrev own : Name → Bool
  own n = is_reg n && regs_in (own_reg t os) n

  own_names : {r : Sort} (f : Formula r) → T (only is_reg f) → occurs (foreign t) os (to_tree f) ≡ false → T (only own f)
  own_names f h e =
      only_both is_reg (regs_in (own_reg t os)) (names f) h
      (is_true (not-false (only (regs_in (own_reg t os)) f) (sym (absent (foreign t) os (regs_in (own_reg t os)) (foreign_is t os) f) ∙ e)))

  by_register : (r : ℕ) → T (true && own_reg t os r) → Local s t 1 r
  by_register r h = inr (refl, own_register r (sym (owner_nth os r) ∙ eqb→eq (owner_of os r) t (and_right true (own_reg t os r) h)))

  pub value_local : (f : Value) → T (only is_reg f) → occurs (foreign t) os (to_tree f) ≡ false → Numbers (Local s t) f
  value_local f h e = value_numbers own (Local s t) (λ n. inl refl) by_register (λ x g. absurd g) f (own_names f h e)

  pub test_local : (f : Test) → T (only is_reg f) → occurs (foreign t) os (to_tree f) ≡ false → Numbers (Local s t) f
  test_local f h e = test_numbers own (Local s t) (λ n. inl refl) by_register (λ x g. absurd g) (λ x g. absurd g) (λ x g. absurd g) f
      (own_names f h e)
