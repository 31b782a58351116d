-- Marks: set by numbers, counted, and the members that they choose.
use mathlib.Core.Path.{◌≡◌, refl, ap, sym, ◌∙◌}
use mathlib.Core.Bool.{Bool, true, false, cond}
use mathlib.Core.List.{List, [], ◌∷◌}
use mathlib.Core.Logic.{◌⊎◌, inl, inr}
use Prim.Native.Nat.{ℕ, zero, suc, ◌+◌, ◌≤◌, ◌<◌}
use native.Mathlib.Omega.{arith}
use lib.Dec.{eqb}
use borrow.Author.Tests.{eqb-true, eqb-false}
use lib.ListN.{length, get_or, set, drop, length-set}
use lib.Seq.{get_or-set_same, get_or-set_other, get_or-drop}
use Rattle.limits.specs.Numbers.{nth}
use Rattle.trim_spec.specs.Live.{marked_by, set_below, chosen, selected, renumbered}

pub clash : false ≡ true → ⊥
clash e = let q : ◌≡◌ {A = ℕ} 0 1 = ap (λ (b : Bool). cond b 1 0) e in omega arith

-- what has a mark is there
pub mark_in : (m : List Bool) (n : ℕ) → get_or m n false ≡ true → n < length m
mark_in [] n e = absurd (clash e)
mark_in (b ∷ m) zero e = omega arith
mark_in (b ∷ m) (suc n) e = let h = mark_in m n e in omega arith

-- setting

pub noted_length : (m : List Bool) (l : List ℕ) → length (marked_by m l) ≡ length m
unfolding marked_by
noted_length m [] = refl
noted_length m (n ∷ l) = noted_length (set m n true) l ∙ length-set m n true

set_keeps : (m : List Bool) (i n : ℕ) → get_or m n false ≡ true → get_or (set m i true) n false ≡ true
set_keeps m i n e = go (eqb n i) refl
  where
    go : (b : Bool) → eqb n i ≡ b → get_or (set m i true) n false ≡ true
    go true h = let q : n ≡ i = eqb-true n i h in rw q (get_or-set_same m i true false (let w = mark_in m n e in omega arith))
    go false h = get_or-set_other m i n true false (eqb-false n i h) ∙ e

-- a mark that is set stays
pub noted_keeps : (m : List Bool) (l : List ℕ) (n : ℕ) → get_or m n false ≡ true → get_or (marked_by m l) n false ≡ true
unfolding marked_by
noted_keeps m [] n e = e
noted_keeps m (i ∷ l) n e = noted_keeps (set m i true) l n (set_keeps m i n e)

-- each number of the list gets its mark
pub noted_sets : (m : List Bool) (l : List ℕ) (i : ℕ) → i < length l → get_or l i 0 < length m → get_or (marked_by m l) (get_or l i 0) false ≡ true
unfolding marked_by
noted_sets m [] i b h = absurd (omega arith)
noted_sets m (n ∷ l) zero b h = noted_keeps (set m n true) l n (get_or-set_same m n true false h)
noted_sets m (n ∷ l) (suc i) b h = noted_sets (set m n true) l i (omega arith) (let q = length-set m n true in omega arith)

-- a number and where it stands in a list
pub record Found (l : List ℕ) (n : ℕ) : Type 0 where
  pub place : ℕ
  pub there : place < length l
  pub is : get_or l place 0 ≡ n

-- and no other
pub noted_from : (m : List Bool) (l : List ℕ) (n : ℕ) → get_or (marked_by m l) n false ≡ true → (get_or m n false ≡ true) ⊎ Found l n
unfolding marked_by
noted_from m [] n e = inl e
noted_from m (i ∷ l) n e = go (noted_from (set m i true) l n e)
  where
    here : (b : Bool) → eqb n i ≡ b → get_or (set m i true) n false ≡ true → (get_or m n false ≡ true) ⊎ Found (i ∷ l) n
    here true h d = inr (record { place = 0; there = omega arith; is = sym (eqb-true n i h) })
    here false h d = inl (sym (get_or-set_other m i n true false (eqb-false n i h)) ∙ d)

    go : (get_or (set m i true) n false ≡ true) ⊎ Found l n → (get_or m n false ≡ true) ⊎ Found (i ∷ l) n
    go (inl d) = here (eqb n i) refl d
    go (inr f) = inr (record { place = suc f.place; there = let h = f.there in omega arith; is = f.is })

-- counting

pub below_step : (m : List Bool) (n : ℕ) → get_or m n false ≡ true → set_below (suc n) m ≡ suc (set_below n m)
unfolding set_below
below_step [] n e = absurd (clash e)
below_step (true ∷ m) zero e = refl
below_step (false ∷ m) zero e = absurd (clash e)
below_step (b ∷ m) (suc n) e = let h = below_step m n e in omega arith

pub below_mono : (m : List Bool) (n p : ℕ) → n ≤ p → set_below n m ≤ set_below p m
unfolding set_below
below_mono m zero p h = omega arith
below_mono m (suc n) zero h = absurd (omega arith)
below_mono [] (suc n) (suc p) h = omega arith
below_mono (b ∷ m) (suc n) (suc p) h = let q = below_mono m n p (omega arith) in omega arith

pub below_few : (m : List Bool) (n : ℕ) → set_below n m ≤ n
unfolding set_below
below_few m zero = omega arith
below_few [] (suc n) = omega arith
below_few (true ∷ m) (suc n) = let q = below_few m n in omega arith
below_few (false ∷ m) (suc n) = let q = below_few m n in omega arith

-- choosing

module _ {A : Type 0} where
  pub chosen_length : (m : List Bool) (l : List A) → length (chosen m l) ≡ set_below (length l) m
  unfolding chosen set_below
  chosen_length [] [] = refl
  chosen_length [] (x ∷ l) = refl
  chosen_length (b ∷ m) [] = refl
  chosen_length (true ∷ m) (x ∷ l) = let h = chosen_length m l in omega arith
  chosen_length (false ∷ m) (x ∷ l) = let h = chosen_length m l in omega arith

  pub chosen_at : (m : List Bool) (l : List A) (d : A) (n : ℕ) → n < length l → get_or m n false ≡ true
      → get_or (chosen m l) (set_below n m) d ≡ get_or l n d
  unfolding chosen set_below
  chosen_at [] l d n b e = absurd (clash e)
  chosen_at (b ∷ m) [] d n h e = absurd (omega arith)
  chosen_at (true ∷ m) (x ∷ l) d zero h e = refl
  chosen_at (false ∷ m) (x ∷ l) d zero h e = absurd (clash e)
  chosen_at (true ∷ m) (x ∷ l) d (suc n) h e = let q : 1 + set_below n m ≡ suc (set_below n m) = omega arith in
      rw q (chosen_at m l d n (omega arith) e)
  chosen_at (false ∷ m) (x ∷ l) d (suc n) h e = let q : 0 + set_below n m ≡ set_below n m = omega arith in
      rw q (chosen_at m l d n (omega arith) e)

  -- where the chosen member i stood
  pub record Chosen (m : List Bool) (l : List A) (i : ℕ) : Type 0 where
    pub old : ℕ
    pub there : old < length l
    pub mark : get_or m old false ≡ true
    pub count : set_below old m ≡ i

  pub chosen_from : (m : List Bool) (l : List A) (i : ℕ) → i < length (chosen m l) → Chosen m l i
  unfolding chosen set_below
  chosen_from [] l i b = absurd (omega arith)
  chosen_from (b ∷ m) [] i h = absurd (omega arith)
  chosen_from (true ∷ m) (x ∷ l) zero h = record { old = 0; there = omega arith; mark = refl; count = refl }
  chosen_from (true ∷ m) (x ∷ l) (suc i) h =
      let c = chosen_from m l i (omega arith) in
      record { old = suc c.old; there = let q = c.there in omega arith; mark = c.mark; count = let q = c.count in omega arith }
  chosen_from (false ∷ m) (x ∷ l) i h =
      let c = chosen_from m l i h in
      record { old = suc c.old; there = let q = c.there in omega arith; mark = c.mark; count = let q = c.count in omega arith }

-- numbers from 1

abbrev rest : List Bool → List Bool
rest m = drop 1 m

mark_rest : (m : List Bool) (n : ℕ) → get_or (rest m) n false ≡ get_or m (suc n) false
mark_rest m n = let q : 1 + n ≡ suc n = omega arith in get_or-drop 1 m n false ∙ ap (λ (i : ℕ). get_or m i false) q

pub renumbered_0 : (m : List Bool) → renumbered m 0 ≡ 0
unfolding renumbered set_below
renumbered_0 m = refl

pub renumbered_few : (m : List Bool) (n : ℕ) → renumbered m n ≤ n
unfolding renumbered
renumbered_few m n = below_few (rest m) n

-- one more than the marks before it
pub renumbered_step : (m : List Bool) (n : ℕ) → get_or m (suc n) false ≡ true → renumbered m (suc n) ≡ suc (renumbered m n)
unfolding renumbered
renumbered_step m n e = below_step (rest m) n (mark_rest m n ∙ e)

pub renumbered_low : (m : List Bool) (n : ℕ) → 1 ≤ n → get_or m n false ≡ true → 1 ≤ renumbered m n
renumbered_low m zero h e = absurd (omega arith)
renumbered_low m (suc n) h e = let q = renumbered_step m n e in omega arith

pub renumbered_mono : (m : List Bool) (p n : ℕ) → p < n → get_or m n false ≡ true → renumbered m p < renumbered m n
unfolding renumbered
renumbered_mono m p zero h e = absurd (omega arith)
renumbered_mono m p (suc n) h e = let q = renumbered_step m n e in let w = below_mono (rest m) p n (omega arith) in omega arith

module _ {A : Type 0} (m : List Bool) (l : List A) where
  pub selected_length : length (selected m l) ≡ renumbered m (length l)
  unfolding selected renumbered
  selected_length = chosen_length (rest m) l

  pub selected_few : length (selected m l) ≤ length l
  selected_few = let q = selected_length in let w = renumbered_few m (length l) in omega arith

  pub renumbered_high : (n : ℕ) → n ≤ length l → renumbered m n ≤ length (selected m l)
  unfolding renumbered
  renumbered_high n h = let q = selected_length in let w = below_mono (rest m) n (length l) h in omega arith

  pub selected_nth : (d : A) (n : ℕ) → 1 ≤ n → n ≤ length l → get_or m n false ≡ true → nth (selected m l) (renumbered m n) d ≡ nth l n d
  unfolding nth selected renumbered
  selected_nth d zero a b e = absurd (omega arith)
  selected_nth d (suc n) a b e = rw (below_step (rest m) n (mark_rest m n ∙ e)) (chosen_at (rest m) l d n (omega arith) (mark_rest m n ∙ e))

  -- where the member with the new number j stood
  pub record Selected (j : ℕ) : Type 0 where
    pub old : ℕ
    pub low : 1 ≤ old
    pub high : old ≤ length l
    pub mark : get_or m old false ≡ true
    pub now : renumbered m old ≡ j

  pub selected_from : (j : ℕ) → 1 ≤ j → j ≤ length (selected m l) → Selected j
  unfolding selected renumbered
  selected_from zero a b = absurd (omega arith)
  selected_from (suc i) a b =
      let c = chosen_from (rest m) l i (omega arith) in
      record {
        old = suc c.old;
        low = omega arith;
        high = let q = c.there in omega arith;
        mark = sym (mark_rest m c.old) ∙ c.mark;
        now = below_step (rest m) c.old c.mark ∙ ap suc c.count;
      }
