-- Whether a list of views satisfies an interval is decided; so there is a longest beginning of a list that does.
use mathlib.Core.Path.{◌≡◌, refl, ap, sym, subst}
use mathlib.Core.Bool.{Bool, true, false}
use mathlib.Core.List.{List, [], ◌∷◌, ◌++◌, map, append-nil, append_assoc, map-append}
use mathlib.Core.Logic.{◌⊎◌, inl, inr}
use Prim.Native.Nat.{ℕ, zero, suc, ◌≤◌}
use native.Mathlib.Omega.{arith}
use lib.Dec.{T, eqb}
use borrow.Author.Tests.{eqb-true, eqb-false}
use lib.ListN.{take, drop, length}
use Rattle.semantics.specs.Base.{All}
use Rattle.semantics.specs.Eval.{Env, test}
use Rattle.semantics.specs.Formula.{Interval, Formula.box, Formula.one, Formula.chop, Formula.both, Formula.either}
use Rattle.semantics.specs.Machine.{View}
use Rattle.semantics.specs.Truth.{Sat}
use Rattle.semantics.proofs.Base.{by_word}
use Rattle.logic.proofs.Intervals.{sat_empty}

-- A, or not A
abbrev pub Decided : Type 0 → Type 0
Decided A = A ⊎ (A → ⊥)

both_decided : {A B : Type 0} → Decided A → Decided B → Decided (A × B)
both_decided (inl a) (inl b) = inl (a, b)
both_decided (inl a) (inr b) = inr (λ h. b h.1)
both_decided (inr a) b = inr (λ h. a h.0)

either_decided : {A B : Type 0} → Decided A → Decided B → Decided (A ⊎ B)
either_decided (inl a) b = inl (inl a)
either_decided (inr a) (inl b) = inl (inr b)
either_decided {A} {B} (inr a) (inr b) = inr none
  where
    none : A ⊎ B → ⊥
    none (inl h) = a h
    none (inr h) = b h

true_decided : (b : Bool) → Decided (T b)
true_decided true = inl tt
true_decided false = inr (λ h. h)

pub equal_decided : (m n : ℕ) → Decided (m ≡ n)
equal_decided m n = go (eqb m n) refl
  where
    go : (b : Bool) → eqb m n ≡ b → Decided (m ≡ n)
    go true e = inl (eqb-true m n e)
    go false e = inr (eqb-false m n e)

all_decided : (Q : View → Type 0) → ((v : View) → Decided (Q v)) → (l : List View) → Decided (All Q l)
all_decided Q f [] = inl tt
all_decided Q f (v ∷ l) = both_decided (f v) (all_decided Q f l)

-- a number up to n with a property: there is one, or none
up_to : (Q : ℕ → Type 0) → ((k : ℕ) → Decided (Q k)) → (n : ℕ) → ((k : ℕ) × Q k) ⊎ ((k : ℕ) → k ≤ n → Q k → ⊥)
up_to Q f zero = go (f 0)
  where
    go : Decided (Q 0) → ((k : ℕ) × Q k) ⊎ ((k : ℕ) → k ≤ 0 → Q k → ⊥)
    go (inl h) = inl (0, h)
    go (inr h) = inr (λ k b q. h (subst Q (let e : k ≡ 0 = omega arith in e) q))
up_to Q f (suc n) = go (f (suc n)) (up_to Q f n)
  where
    go : Decided (Q (suc n)) → ((k : ℕ) × Q k) ⊎ ((k : ℕ) → k ≤ n → Q k → ⊥) → ((k : ℕ) × Q k) ⊎ ((k : ℕ) → k ≤ suc n → Q k → ⊥)
    go (inl h) g = inl (suc n, h)
    go (inr h) (inl g) = inl g
    go (inr h) (inr g) = inr (λ k. by_word (suc n) (λ k. k ≤ suc n → Q k → ⊥) (λ b. h) (λ k d b. g k (omega arith)) k)

-- a cut beyond the end is one at the end
pub within_list : (k : ℕ) (l : List View) → (m : ℕ) × (m ≤ length l) × (take k l ≡ take m l) × (drop k l ≡ drop m l)
within_list zero l = (0, omega arith, refl, refl)
within_list (suc k) [] = (0, omega arith, refl, refl)
within_list (suc k) (v ∷ l) =
    let r = within_list k l in (suc r.0, omega (arith, r.1), ap (λ (z : List View). v ∷ z) r.2, r.3)

module _ (R : ℕ) (ρ : View → Env) where
  pub sat_decided : (i : Interval) (l : List View) → Decided (Sat R ρ i l)
  sat_decided (box e) l = all_decided _ (λ v. true_decided (test R (ρ v) e)) l
  sat_decided (one x) [] = inl (0, tt)
  sat_decided (one x) (v ∷ l) = go (all_decided (λ w. w x ≡ v x) (λ w. equal_decided (w x) (v x)) (v ∷ l))
    where
      go : Decided (All (λ w. w x ≡ v x) (v ∷ l)) → Decided (Sat R ρ (one x) (v ∷ l))
      go (inl h) = inl (v x, h)
      go (inr h) = inr (λ g. h (subst (λ (n : ℕ). All (λ w. w x ≡ n) (v ∷ l)) (sym g.1.0) g.1))
  sat_decided (chop i j) l =
      go (up_to (λ k. Sat R ρ i (take k l) × Sat R ρ j (drop k l)) (λ k. both_decided (sat_decided i (take k l)) (sat_decided j (drop k l)))
      (length l))
    where
      go : ((k : ℕ) × (Sat R ρ i (take k l) × Sat R ρ j (drop k l)))
          ⊎ ((k : ℕ) → k ≤ length l → (Sat R ρ i (take k l) × Sat R ρ j (drop k l)) → ⊥) → Decided (Sat R ρ (chop i j) l)
      go (inl h) = inl (h.0, h.1.0, h.1.1)
      go (inr h) = inr (λ g. let r = within_list g.0 l in
          h r.0 r.1 (subst (λ (z : List View). Sat R ρ i z) r.2 g.1, subst (λ (z : List View). Sat R ρ j z) r.3 g.2))
  sat_decided (both i j) l = both_decided (sat_decided i l) (sat_decided j l)
  sat_decided (either i j) l = either_decided (sat_decided i l) (sat_decided j l)

  -- the list, its views taken through g, satisfies the interval, or has a longest beginning that does
  module _ (q : Interval) (g : View → View) where
    abbrev pub Longest : List View → Type 0
    Longest l =
        (b : List View) × (c : View) × (e : List View) × (l ≡ b ++ (c ∷ e)) × Sat R ρ q (map g b)
        × (Sat R ρ q (map g b ++ (g c ∷ [])) → ⊥)

    longest_from : (a l : List View) → Sat R ρ q (map g a) → Sat R ρ q (map g (a ++ l)) ⊎ Longest (a ++ l)
    longest_from a [] h = inl (subst (λ (z : List View). Sat R ρ q (map g z)) (sym (append-nil a)) h)
    longest_from a (v ∷ l) h = go (sat_decided q (map g a ++ (g v ∷ []))) (λ k. longest_from (a ++ (v ∷ [])) l k)
      where
        go : Decided (Sat R ρ q (map g a ++ (g v ∷ [])))
            → (Sat R ρ q (map g (a ++ (v ∷ []))) → Sat R ρ q (map g ((a ++ (v ∷ [])) ++ l)) ⊎ Longest ((a ++ (v ∷ [])) ++ l))
            → Sat R ρ q (map g (a ++ (v ∷ l))) ⊎ Longest (a ++ (v ∷ l))
        go (inl k) f =
            subst (λ (z : List View). Sat R ρ q (map g z) ⊎ Longest z) (append_assoc a (v ∷ []) l)
            (f (subst (λ (z : List View). Sat R ρ q z) (sym (map-append g a (v ∷ []))) k))
        go (inr k) f = inr (a, v, l, refl, h, k)

    pub longest : (l : List View) → Sat R ρ q (map g l) ⊎ Longest l
    longest l = longest_from [] l (sat_empty R ρ q)
