-- Numbers of 32 bits compared one by one.
use Rattle.std.proofs.Common.{◌≡◌, ℕ, suc, ◌+◌, ◌<◌, ◌≤◌, true, false, ◌&&◌, eqb, List, length, get_or, drop, refl, add-one, drop_of_length-le, drop-cons, eq-eqb, ne_eqb}
use Rattle.vectors.specs.Number.{long}
use Rattle.vectors.specs.TurnSame.{same_longs_by}

module _ {A : Type 0} (f : A → ℕ) where
  -- from place i of l on, `stored` decides whether l is as in s
  pub record Left (l : List A) (s : List ℕ) (i : ℕ) (stored : List ℕ) : Type 0 where
    pub same : same_longs_by f l s ≡ same_longs_by f (drop i l) stored

  pub longs_start : (l : List A) (s : List ℕ) → Left l s 0 s
  longs_start l s = record { same = refl }

  one : (l : List A) (i : ℕ) (stored : List ℕ) (d : A) → i < length l
      → same_longs_by f (drop i l) stored ≡ (eqb (f (get_or l i d)) (long stored) && same_longs_by f (drop (suc i) l) (drop 4 stored))
  unfolding same_longs_by
  one l i stored d h = rw (drop-cons l i d h)

  pub longs_miss : (l : List A) (s : List ℕ) (i : ℕ) (stored : List ℕ) (x : A) (m n : ℕ) → i < length l → x ≡ get_or l i x → Left l s i stored
      → m ≡ f x → n ≡ long (drop 0 stored) → (m ≡ n → ⊥) → false ≡ same_longs_by f l s
  longs_miss l s i stored x m n h e g p q d = rw (g.same, one l i stored x h, ← e, ← p, ← q, ne_eqb _ _ d)

  pub longs_next : (l : List A) (s : List ℕ) (i : ℕ) (stored r : List ℕ) (x : A) (m n : ℕ) → i < length l → x ≡ get_or l i x → Left l s i stored
      → m ≡ f x → n ≡ long (drop 0 stored) → m ≡ n → r ≡ drop 4 stored → Left l s (i + 1) r
  longs_next l s i stored r x m n h e g p q d z = record { same = rw (add-one i, g.same, one l i stored x h, ← e, ← p, ← q, eq-eqb _ _ d, z) }

  pub longs_all : (l : List A) (s : List ℕ) (i : ℕ) (stored : List ℕ) → length l ≤ i → Left l s i stored → true ≡ same_longs_by f l s
  unfolding same_longs_by
  longs_all l s i stored h g = rw (g.same, drop_of_length-le l h)

pub ruleset longs = (longs_start, longs_miss, longs_next, longs_all)
