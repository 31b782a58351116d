-- A list that has parts one behind the other.
use mathlib.Core.Path.{◌≡◌, refl, sym}
use mathlib.Core.List.{List, [], ◌∷◌, ◌++◌, map}
use Prim.Native.Nat.{ℕ, zero, suc, ◌+◌, ◌≤◌, ◌<◌}
use native.Mathlib.Nat.{add-zero}
use native.Mathlib.Omega.{arith}
use lib.ListN.{length, get_or, take, drop, length-map, length-drop, take-append-drop, get_or-append}
use lib.Seq.{length-take-le, take_all, take_at, drop_at, get_or-drop, drop-drop, drop-cons}
use Rattle.limits.specs.Numbers.{nth}

-- a part p with n members from place i on, and what is behind it
module _ {A : Type 0} (i n : ℕ) (l p q : List A) (e : drop i l ≡ p ++ q) (s : length p ≡ n) where
  pub part_is : take n (drop i l) ≡ p
  part_is = rw e (take_at p q n s)

  pub part_behind : (j : ℕ) → i + n ≡ j → drop j l ≡ q
  part_behind j d = rw (← d, ← drop-drop n i l, e) (drop_at p q n s)

pub member_is : {A : Type 0} (i : ℕ) (l : List A) (x : A) (q : List A) (d : A) → drop i l ≡ x ∷ q → get_or l i d ≡ x
member_is i l x q d e = let h = get_or-drop i l 0 d in rw (add-zero i, e) at (sym h)

-- a part that is made from the members of m
module _ {A B : Type 0} (f : B → A) (m : List B) (b : B) where
  map_at : (k : ℕ) (d : A) → k < length m → get_or (map f m) k d ≡ f (get_or m k b)
  map_at k d h = go m k h
    where
      go : (m : List B) (k : ℕ) → k < length m → get_or (map f m) k d ≡ f (get_or m k b)
      go [] k h = absurd (omega arith)
      go (x ∷ m) zero h = refl
      go (x ∷ m) (suc k) h = go m k (omega arith)

  module _ (i : ℕ) (l q : List A) (d : A) (e : drop i l ≡ map f m ++ q) where
    pub made_at : (k j : ℕ) → k < length m → i + k ≡ j → get_or l j d ≡ f (get_or m k b)
    made_at k j h g =
        let s : k < length (map f m) = rw (length-map m f) h in
        rw (← g, ← get_or-drop i l k d, e, get_or-append (map f m) q d k s, map_at k d h)

    -- counted from 1
    pub made_nth : (k j : ℕ) → 1 ≤ k → k ≤ length m → i + k ≡ j + 1 → get_or l j d ≡ f (nth m k b)
    unfolding nth
    made_nth zero j a h g = absurd (omega arith)
    made_nth (suc k) j a h g = made_at k j (omega arith) (omega arith)

-- a list by its parts
module _ {A : Type 0} (i : ℕ) (l : List A) where
  pub part_more : (n j : ℕ) → i + n ≡ j → take n (drop i l) ++ drop j l ≡ drop i l
  part_more n j e = rw (← e, ← drop-drop n i l) (take-append-drop n (drop i l))

  pub member_more : (d : A) (j : ℕ) → i < length l → i + 1 ≡ j → get_or l i d ∷ drop j l ≡ drop i l
  member_more d j h e = let q : suc i ≡ j = omega arith in rw (← q, ← drop-cons l i d h)

  pub part_length : (n : ℕ) → i + n ≤ length l → length (take n (drop i l)) ≡ n
  part_length n h = length-take-le n (drop i l) (rw (length-drop i l) (omega arith))

  -- the last part
  pub part_last : (n : ℕ) → i + n ≡ length l → take n (drop i l) ≡ drop i l
  part_last n e = take_all n (drop i l) (rw (length-drop i l) (omega arith))
