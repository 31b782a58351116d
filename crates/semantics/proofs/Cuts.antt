-- A list cut in two, by take and drop.
use mathlib.Core.Path.{◌≡◌, refl, ap, sym}
use mathlib.Core.List.{List, [], ◌∷◌}
use Prim.Native.Nat.{ℕ, zero, suc, ◌+◌, ◌-◌, min}
use native.Mathlib.Nat.{zero-sub, sub-zero, suc-sub-suc}
use lib.ListN.{take, drop}
use native.Mathlib.Nat.{zero-min, min-zero, suc-min-suc}
use native.Mathlib.Omega.{arith}
use lib.Seq.{take-nil, drop-nil, drop-drop, take-take}
use Rattle.semantics.specs.Base.{All}

module _ {ℓ} {A : Type ℓ} where
  pub take_take_comm : (k m : ℕ) (l : List A) → take k (take m l) ≡ take m (take k l)
  take_take_comm zero m l = sym (take-nil m)
  take_take_comm (suc k) zero l = refl
  take_take_comm (suc k) (suc m) [] = refl
  take_take_comm (suc k) (suc m) (x ∷ l) = ap (λ (r : List A). x ∷ r) (take_take_comm k m l)

  pub drop_take : (k m : ℕ) (l : List A) → drop k (take m l) ≡ take (m - k) (drop k l)
  drop_take zero m l = rw sub-zero
  drop_take (suc k) zero l = rw zero-sub
  drop_take (suc k) (suc m) [] = rw take-nil
  drop_take (suc k) (suc m) (x ∷ l) = rw suc-sub-suc (drop_take k m l)

  pub drop_drop_sub : (k m : ℕ) (l : List A) → drop (k - m) (drop m l) ≡ drop (m - k) (drop k l)
  drop_drop_sub zero m l = rw (zero-sub, sub-zero)
  drop_drop_sub (suc k) zero l = rw (zero-sub, sub-zero)
  drop_drop_sub (suc k) (suc m) [] = simp drop-nil
  drop_drop_sub (suc k) (suc m) (x ∷ l) = rw (suc-sub-suc k m, suc-sub-suc m k) (drop_drop_sub k m l)

  pub take_min : (j k : ℕ) (l : List A) → take (min j k) l ≡ take j (take k l)
  take_min zero k l = rw zero-min
  take_min (suc j) zero l = rw min-zero
  take_min (suc j) (suc k) [] = simp take-nil
  take_min (suc j) (suc k) (x ∷ l) = rw suc-min-suc (ap (λ (r : List A). x ∷ r) (take_min j k l))

  pub take_drop_min : (j k : ℕ) (l : List A) → take (k - j) (drop (min j k) l) ≡ drop j (take k l)
  take_drop_min zero k l = rw (zero-min, sub-zero)
  take_drop_min (suc j) zero l = rw zero-sub
  take_drop_min (suc j) (suc k) [] = rw (drop-nil, take-nil)
  take_drop_min (suc j) (suc k) (x ∷ l) = rw (suc-min-suc, suc-sub-suc) (take_drop_min j k l)

  pub drop_drop_min : (j k : ℕ) (l : List A) → drop (k - j) (drop (min j k) l) ≡ drop k l
  drop_drop_min j k l =
      let e : min j k + (k - j) ≡ k = omega arith in
      rw (drop-drop, e)

  pub take_take_add : (k j : ℕ) (l : List A) → take k (take (k + j) l) ≡ take k l
  take_take_add k j l = take-take k (k + j) l (omega arith)

  pub drop_take_add : (k j : ℕ) (l : List A) → drop k (take (k + j) l) ≡ take j (drop k l)
  drop_take_add k j l =
      let e : k + j - k ≡ j = omega arith in
      rw (drop_take, e)

  pub All-take : (P : A → Type 0) (k : ℕ) (l : List A) → All P l → All P (take k l)
  All-take P zero l h = tt
  All-take P (suc k) [] h = tt
  All-take P (suc k) (x ∷ l) h = (h.0, All-take P k l h.1)

  pub All-drop : (P : A → Type 0) (k : ℕ) (l : List A) → All P l → All P (drop k l)
  All-drop P zero l h = h
  All-drop P (suc k) [] h = tt
  All-drop P (suc k) (x ∷ l) h = All-drop P k l h.1

  pub All-join : (P : A → Type 0) (k : ℕ) (l : List A) → All P (take k l) → All P (drop k l) → All P l
  All-join P zero l h g = g
  All-join P (suc k) [] h g = tt
  All-join P (suc k) (x ∷ l) h g = (h.0, All-join P k l h.1 g)

  pub All-map : (P Q : A → Type 0) → ((a : A) → P a → Q a) → (l : List A) → All P l → All Q l
  All-map P Q f [] h = tt
  All-map P Q f (x ∷ l) h = (f x h.0, All-map P Q f l h.1)
