-- Functions changed at one place; tests joined by &&.
use mathlib.Core.Path.{◌≡◌, refl, sym, subst}
use mathlib.Core.Bool.{Bool, true, false, cond, not, ◌&&◌, ◌||◌, true≢false}
use mathlib.Core.Logic.{◌≢◌, ◌⊎◌, inl, inr}
use Prim.Native.Nat.{ℕ, zero, suc, ◌+◌, ◌-◌, min, ◌≤◌, ◌<◌}
use native.Mathlib.Omega.{arith}
use lib.Dec.{T, eqb, ltb, leb}
use borrow.Author.Tests.{eqb-true, eqb-false, eq-eqb, ne_eqb, le-ltb, ltb-false, leb-true, leb-false}
use mathlib.Core.List.{List, [], ◌∷◌, ◌++◌}
use Rattle.semantics.specs.Base.{upd, all, All, Within}
use Rattle.semantics.specs.Machine.{View, later, up, down}

module _ {ℓ} {A : Type ℓ} where
  pub upd_same : (f : ℕ → A) (x : ℕ) (a : A) → upd f x a x ≡ a
  unfolding upd
  upd_same f x a = rw (eq-eqb x x refl)

  pub upd_other : (f : ℕ → A) (x : ℕ) (a : A) (y : ℕ) → y ≢ x → upd f x a y ≡ f y
  unfolding upd
  upd_other f x a y h = rw (ne_eqb y x h)

  -- the same of a function's value, for `simp` sees no equation of functions in it
  pub upd_same₁ : (f : ℕ → ℕ → A) (x : ℕ) (a : ℕ → A) (i : ℕ) → upd f x a x i ≡ a i
  unfolding upd
  upd_same₁ f x a i = rw (eq-eqb x x refl)

  pub upd_other₁ : (f : ℕ → ℕ → A) (x : ℕ) (a : ℕ → A) (y i : ℕ) → y ≢ x → upd f x a y i ≡ f y i
  unfolding upd
  upd_other₁ f x a y i h = rw (ne_eqb y x h)

  -- by cases: at x, and elsewhere
  pub upd-case {κ} : (P : A → Type κ) (f : ℕ → A) (x : ℕ) (a : A) (y : ℕ) → (y ≡ x → P a) → (y ≢ x → P (f y)) → P (upd f x a y)
  unfolding upd
  upd-case P f x a y g h = go (eqb y x) refl
    where
      go : (b : Bool) → eqb y x ≡ b → P (cond b a (f y))
      go true e = g (eqb-true y x e)
      go false e = h (eqb-false y x e)

-- to show a thing of every word, show it of x and of the others
pub by_word {ℓ} : (x : ℕ) (P : ℕ → Type ℓ) → P x → ((y : ℕ) → y ≢ x → P y) → (y : ℕ) → P y
by_word x P h g y = go (eqb y x) refl
  where
    go : (b : Bool) → eqb y x ≡ b → P y
    go true e = subst P (sym (eqb-true y x e)) h
    go false e = g y (eqb-false y x e)

pub ruleset upds = (upd_same, upd_other, upd_same₁, upd_other₁)

pub holds_true : (b : Bool) → T b → b ≡ true
holds_true true h = refl
holds_true false h = absurd h

pub and_left : (a b : Bool) → T (a && b) → T a
and_left true b h = tt
and_left false b h = h

pub and_right : (a b : Bool) → T (a && b) → T b
and_right true b h = h
and_right false b h = absurd h

pub and_both : (a b : Bool) → T a → T b → T (a && b)
and_both true b h g = g
and_both false b h g = h

pub not-true : (b : Bool) → T (not b) → b ≡ false
not-true true h = absurd h
not-true false h = refl

pub not_eqb : (y x : ℕ) → T (not (eqb y x)) → y ≢ x
not_eqb y x h = eqb-false y x (not-true (eqb y x) h)

-- each member passes: each member's test is true; lists joined
module _ {A : Type 0} where
  pub all_All : (f : A → Bool) (l : List A) → T (all f l) → All (λ a. T (f a)) l
  all_All f [] h = tt
  all_All f (x ∷ l) h = (and_left (f x) (all f l) h, all_All f l (and_right (f x) (all f l) h))

  pub All-left : (P : A → Type 0) (l m : List A) → All P (l ++ m) → All P l
  All-left P [] m h = tt
  All-left P (x ∷ l) m h = (h.0, All-left P l m h.1)

  pub All-right : (P : A → Type 0) (l m : List A) → All P (l ++ m) → All P m
  All-right P [] m h = h
  All-right P (x ∷ l) m h = All-right P l m h.1

  pub all_left : (f : A → Bool) (l m : List A) → T (all f (l ++ m)) → T (all f l)
  all_left f [] m h = tt
  all_left f (x ∷ l) m h = and_both (f x) (all f l) (and_left (f x) (all f (l ++ m)) h)
      (all_left f l m (and_right (f x) (all f (l ++ m)) h))

  pub all_right : (f : A → Bool) (l m : List A) → T (all f (l ++ m)) → T (all f m)
  all_right f [] m h = h
  all_right f (x ∷ l) m h = all_right f l m (and_right (f x) (all f (l ++ m)) h)

pub later_not : (W : ℕ) (a b : View) → ((y : ℕ) → a y ≤ b y) → later W a b ≡ false
later_not zero a b h = refl
later_not (suc W) a b h = rw (le-ltb (b (suc W)) (a (suc W)) (h (suc W))) (later_not W a b h)

pub later_none : (W : ℕ) (a b : View) → later W a b ≡ false → (y : ℕ) → 1 ≤ y → y ≤ W → a y ≤ b y
later_none zero a b e y g h = omega arith
later_none (suc W) a b e y g h = go (ltb (b (suc W)) (a (suc W))) refl e (λ d z k. later_none W a b d z k)
  where
    go : (c : Bool) → ltb (b (suc W)) (a (suc W)) ≡ c → (c || later W a b) ≡ false
        → (later W a b ≡ false → (z : ℕ) → 1 ≤ z → z ≤ W → a z ≤ b z) → a y ≤ b y
    go true q d f = absurd (true≢false d)
    go false q d f = by_word (suc W) (λ z. 1 ≤ z → z ≤ suc W → a z ≤ b z) (λ z k. ltb-false (b (suc W)) (a (suc W)) q)
        (λ z n i k. f d z i (omega arith)) y g h

pub is_within : (n k : ℕ) → Within n k ⊎ (Within n k → ⊥)
is_within n k = go (leb 1 k) (leb k n) refl refl
  where
    go : (a b : Bool) → leb 1 k ≡ a → leb k n ≡ b → Within n k ⊎ (Within n k → ⊥)
    go true true p q = inl (leb-true 1 k p, leb-true k n q)
    go true false p q = inr (λ h. omega (arith, leb-false k n q, h.1))
    go false b p q = inr (λ h. omega (arith, leb-false 1 k p, h.0))

-- a Boolean given by its value
pub is_true : {b : Bool} → b ≡ true → T b
is_true e = subst T (sym e) tt

-- two tests that are true of the same are one
pub bool_ext : (a b : Bool) → (T a → T b) → (T b → T a) → a ≡ b
bool_ext true true f g = refl
bool_ext true false f g = absurd (f tt)
bool_ext false true f g = absurd (g tt)
bool_ext false false f g = refl

pub map_or : {A B C D : Type 0} → (A → C) → (B → D) → A ⊎ B → C ⊎ D
map_or f g (inl a) = inl (f a)
map_or f g (inr b) = inr (g b)

-- insertion, in the form that arithmetic decides: min 1 (i - p) is 1 just where i is after p
pub up_is : (p i : ℕ) → up p i ≡ i + min 1 (i - p)
unfolding up
up_is p i = go (leb i p) refl
  where
    go : (b : Bool) → leb i p ≡ b → up p i ≡ i + min 1 (i - p)
    go true e = let h : i ≤ p = leb-true i p e in rw e (omega arith)
    go false e = let h : p < i = leb-false i p e in rw e (omega arith)

pub down_is : (p i : ℕ) → down p i ≡ i - min 1 (i - p)
unfolding down
down_is p i = go (leb i p) refl
  where
    go : (b : Bool) → leb i p ≡ b → down p i ≡ i - min 1 (i - p)
    go true e = let h : i ≤ p = leb-true i p e in rw e (omega arith)
    go false e = let h : p < i = leb-false i p e in rw e (omega arith)
