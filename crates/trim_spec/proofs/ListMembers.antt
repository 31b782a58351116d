-- Numbers that stand in a list: of two lists put together, of the lists of all members.
use mathlib.Core.Path.{◌≡◌, refl}
use mathlib.Core.List.{List, [], ◌∷◌, ◌++◌}
use mathlib.Core.Logic.{◌⊎◌, inl, inr}
use Prim.Native.Nat.{ℕ, zero, suc, ◌<◌}
use native.Mathlib.Omega.{arith}
use lib.ListN.{length, get_or}
use Rattle.logic.specs.Obligations.{flat}
use Rattle.trim_spec.proofs.MarkCounts.{Found}

pub found_at : (l : List ℕ) (i : ℕ) → i < length l → Found l (get_or l i 0)
found_at l i b = record { place = i; there = b; is = refl }

later : (x : ℕ) (l : List ℕ) (n : ℕ) → Found l n → Found (x ∷ l) n
later x l n f = record { place = suc f.place; there = let h = f.there in omega arith; is = f.is }

pub found_left : (l r : List ℕ) (n : ℕ) → Found l n → Found (l ++ r) n
found_left [] r n f = absurd (let h = f.there in omega arith)
found_left (x ∷ l) r n f = go (λ (g : Found l n). found_left l r n g) f.place f.there f.is
  where
    go : (Found l n → Found (l ++ r) n) → (i : ℕ) → i < length (x ∷ l) → get_or (x ∷ l) i 0 ≡ n → Found ((x ∷ l) ++ r) n
    go on zero b e = record { place = 0; there = omega arith; is = e }
    go on (suc i) b e = later x (l ++ r) n (on (record { place = i; there = omega arith; is = e }))

pub found_right : (l r : List ℕ) (n : ℕ) → Found r n → Found (l ++ r) n
found_right [] r n f = f
found_right (x ∷ l) r n f = later x (l ++ r) n (found_right l r n f)

pub found_either : (l r : List ℕ) (n : ℕ) → Found (l ++ r) n → Found l n ⊎ Found r n
found_either [] r n f = inr f
found_either (x ∷ l) r n f = go (λ (g : Found (l ++ r) n). on (found_either l r n g)) f.place f.there f.is
  where
    on : Found l n ⊎ Found r n → Found (x ∷ l) n ⊎ Found r n
    on (inl g) = inl (later x l n g)
    on (inr g) = inr g

    go : (Found (l ++ r) n → Found (x ∷ l) n ⊎ Found r n) → (i : ℕ) → i < length ((x ∷ l) ++ r) → get_or ((x ∷ l) ++ r) i 0 ≡ n
        → Found (x ∷ l) n ⊎ Found r n
    go more zero b e = inl (record { place = 0; there = omega arith; is = e })
    go more (suc i) b e = more (record { place = i; there = omega arith; is = e })

module _ {A : Type 0} (f : A → List ℕ) (d : A) where
  -- a member, by its place, in whose list the number stands
  pub record Within (l : List A) (n : ℕ) : Type 0 where
    pub member : ℕ
    pub there : member < length l
    pub found : Found (f (get_or l member d)) n

  pub found_flat : (l : List A) (i n : ℕ) → i < length l → Found (f (get_or l i d)) n → Found (flat f l) n
  found_flat [] i n b h = absurd (omega arith)
  found_flat (x ∷ l) zero n b h = found_left (f x) (flat f l) n h
  found_flat (x ∷ l) (suc i) n b h = found_right (f x) (flat f l) n (found_flat l i n (omega arith) h)

  pub flat_found : (l : List A) (n : ℕ) → Found (flat f l) n → Within l n
  flat_found [] n h = absurd (let q = h.there in omega arith)
  flat_found (x ∷ l) n h = go (λ (g : Found (flat f l) n). flat_found l n g) (found_either (f x) (flat f l) n h)
    where
      go : (Found (flat f l) n → Within l n) → Found (f x) n ⊎ Found (flat f l) n → Within (x ∷ l) n
      go more (inl g) = record { member = 0; there = omega arith; found = g }
      go more (inr g) = let w = more g in record { member = suc w.member; there = let q = w.there in omega arith; found = w.found }
