-- A test of every number below n, as a loop finds it.
use mathlib.Core.Path.{◌≡◌, refl, ap, ap₂, sym, ◌∙◌, subst}
use mathlib.Core.Bool.{Bool, true, false, ◌&&◌, true≢false}
use Prim.Native.Nat.{ℕ, zero, suc, ◌+◌, ◌≤◌, ◌<◌}
use native.Mathlib.Omega.{arith}
use native.Mathlib.Numerals.{add-one}
use lib.Dec.{eqb}
use borrow.Author.Tests.{eqb-true, eqb-false}
use Rattle.handover_spec.specs.Table.{each}

and_off : (a : Bool) → a && false ≡ false
and_off true = refl
and_off false = refl

pub each_off : (f : ℕ → Bool) (i n : ℕ) → i < n → f i ≡ false → each n f ≡ false
unfolding each
each_off f i zero b h = absurd (omega arith)
each_off f i (suc n) b h = go (eqb i n) refl (λ c. each_off f i n c h)
  where
    go : (e : Bool) → eqb i n ≡ e → (i < n → each n f ≡ false) → each n f && f n ≡ false
    go true e ih = ap (λ (x : Bool). each n f && x) (subst (λ (j : ℕ). f j ≡ false) (eqb-true i n e) h) ∙ and_off (each n f)
    go false e ih = ap (λ (x : Bool). x && f n) (ih (let q = eqb-false i n e in omega arith))

pub each_at : (f : ℕ → Bool) (i n : ℕ) → i < n → each n f ≡ true → f i ≡ true
each_at f i n b h = go (f i) refl
  where
    go : (x : Bool) → f i ≡ x → f i ≡ true
    go true e = e
    go false e = absurd (true≢false (sym h ∙ each_off f i n b e))

pub each_all : (f : ℕ → Bool) (n : ℕ) → ((i : ℕ) → i < n → f i ≡ true) → each n f ≡ true
unfolding each
each_all f zero h = refl
each_all f (suc n) h = ap₂ ◌&&◌ (each_all f n (λ i b. h i (omega arith))) (h n (omega arith))

pub each_same : (f g : ℕ → Bool) (n : ℕ) → ((i : ℕ) → i < n → f i ≡ g i) → each n f ≡ each n g
unfolding each
each_same f g zero h = refl
each_same f g (suc n) h = ap₂ ◌&&◌ (each_same f g n (λ i b. h i (omega arith))) (h n (omega arith))

-- the ways through a loop
pub each_none : (f : ℕ → Bool) → each 0 f ≡ true
unfolding each
each_none f = refl

pub each_more : (f : ℕ → Bool) (i : ℕ) (u : Bool) → each i f ≡ true → u ≡ f i → u ≡ true → each (i + 1) f ≡ true
unfolding each
each_more f i u h e g = rw (add-one i) (ap₂ ◌&&◌ h (sym e ∙ g))

pub each_stops : (f : ℕ → Bool) (i n : ℕ) (u : Bool) → i < n → u ≡ f i → u ≡ false → false ≡ each n f
each_stops f i n u b e g = sym (each_off f i n b (sym e ∙ g))

pub each_done : (f : ℕ → Bool) (i n : ℕ) → each i f ≡ true → n ≤ i → i ≤ n → true ≡ each n f
each_done f i n h a b = let q : i ≡ n = omega arith in sym (subst (λ (j : ℕ). each j f ≡ true) q h)
