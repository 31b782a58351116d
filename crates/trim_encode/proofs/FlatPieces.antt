-- Pieces that follow the members of a list are the list's bytes.
use mathlib.Core.Path.{◌≡◌, refl, ap, sym, ◌∙◌}
use mathlib.Core.Bool.{Bool, true, false, cond}
use mathlib.Core.List.{List, [], ◌∷◌, ◌++◌, map, append-nil}
use Prim.Native.Nat.{ℕ, zero, suc, ◌+◌, ◌≤◌, ◌<◌}
use native.Mathlib.Omega.{arith}
use lib.ListN.{length, get_or, take, drop, length-drop}
use lib.Seq.{take-suc, take_all, get_or-drop}
use Rattle.logic.specs.Obligations.{flat}
use Rattle.image_meaning.proofs.Sums.{flat_append}
use Rattle.trim_spec.specs.Live.{chosen}
use Rattle.trim_encode.specs.Pieces.{joined}

pub flat_map : {A B : Type 0} (f : A → B) (h : B → List ℕ) (l : List A) → flat h (map f l) ≡ flat (λ x. h (f x)) l
flat_map f h [] = refl
flat_map f h (x ∷ l) = ap (λ r. h (f x) ++ r) (flat_map f h l)

module _ {A : Type 0} (h : A → List ℕ) (d : A) (l : List A) (g : ℕ → List ℕ) where
  joined_first : (n : ℕ) → n ≤ length l → ((i : ℕ) → g i ≡ h (get_or l i d)) → joined g n ≡ flat h (take n l)
  unfolding joined
  joined_first zero k e = refl
  joined_first (suc n) k e =
      let a : n < length l = omega arith in
      rw (joined_first n (omega arith) e, e n, take-suc l n d a, flat_append h (take n l) (get_or l n d ∷ []))
      (ap (λ r. flat h (take n l) ++ r) (sym (append-nil (h (get_or l n d)))))

  pub joined_flat : ((i : ℕ) → g i ≡ h (get_or l i d)) → joined g (length l) ≡ flat h l
  joined_flat e = joined_first (length l) (omega arith) e ∙ ap (flat h) (take_all (length l) l (omega arith))

-- the members with a mark, one by one

chosen_nil : {A : Type 0} (m : List Bool) → chosen {A = A} m [] ≡ []
unfolding chosen
chosen_nil [] = refl
chosen_nil (b ∷ m) = refl

pub chosen_map : {A B : Type 0} (f : A → B) (m : List Bool) (l : List A) → chosen m (map f l) ≡ map f (chosen m l)
unfolding chosen
chosen_map f [] l = refl
chosen_map f (b ∷ m) [] = refl
chosen_map f (true ∷ m) (x ∷ l) = ap (λ r. f x ∷ r) (chosen_map f m l)
chosen_map f (false ∷ m) (x ∷ l) = chosen_map f m l

chosen_next : {A : Type 0} (d : A) (m : List Bool) (l : List A) (n : ℕ) → n < length l
    → chosen m (take (suc n) l) ≡ chosen m (take n l) ++ cond (get_or m n false) (get_or l n d ∷ []) []
unfolding chosen
chosen_next d [] l n h = refl
chosen_next d (b ∷ m) [] n h = absurd (omega arith)
chosen_next d (true ∷ m) (x ∷ l) zero h = ap (λ r. x ∷ r) (chosen_nil m)
chosen_next d (false ∷ m) (x ∷ l) zero h = chosen_nil m
chosen_next d (true ∷ m) (x ∷ l) (suc n) h = ap (λ r. x ∷ r) (chosen_next d m l n (omega arith))
chosen_next d (false ∷ m) (x ∷ l) (suc n) h = chosen_next d m l n (omega arith)

module _ {A : Type 0} (h : A → List ℕ) (d : A) (l : List A) (m : List Bool) (g : ℕ → List ℕ) where
  flat_one : (b : Bool) (x : A) → flat h (cond b (x ∷ []) []) ≡ cond b (h x) []
  flat_one true x = append-nil (h x)
  flat_one false x = refl

  joined_chosen : (n : ℕ) → n ≤ length l → ((i : ℕ) → g i ≡ cond (get_or m i false) (h (get_or l i d)) [])
      → joined g n ≡ flat h (chosen m (take n l))
  unfolding joined
  joined_chosen zero k e = sym (ap (flat h) (chosen_nil m))
  joined_chosen (suc n) k e =
      let a : n < length l = omega arith in
      rw (
        joined_chosen n (omega arith) e,
        e n,
        chosen_next d m l n a,
        flat_append h (chosen m (take n l)) (cond (get_or m n false) (get_or l n d ∷ []) []),
        flat_one (get_or m n false) (get_or l n d),
      )

-- n members of a list, from the one at k on: all, and those with a mark, which count from 1
module _ {A : Type 0} (h : A → List ℕ) (d : A) (l : List A) (k n : ℕ) (g : ℕ → List ℕ) (there : k + n ≤ length l) where
  enough : n ≤ length (drop k l)
  enough = rw (length-drop k l) (omega arith)

  pub joined_part : ((i : ℕ) → g i ≡ h (get_or l (k + i) d)) → joined g n ≡ flat h (take n (drop k l))
  joined_part e = joined_first h d (drop k l) g n enough (λ i. e i ∙ ap h (sym (get_or-drop k l i d)))

  pub joined_kept : (m : List Bool) → ((i : ℕ) → g i ≡ cond (get_or m (i + 1) false) (h (get_or l (k + i) d)) [])
      → joined g n ≡ flat h (chosen (drop 1 m) (take n (drop k l)))
  joined_kept m e =
      joined_chosen h d (drop k l) (drop 1 m) g n enough (λ i. let q : 1 + i ≡ i + 1 = omega arith in e i ∙
      (rw (get_or-drop k l i d, get_or-drop 1 m i false, q)))
