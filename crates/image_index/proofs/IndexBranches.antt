-- The table, and what the look-ups take from it.
use Prim.Native.Nat.{ℕ, zero, suc, ◌+◌, ◌-◌, ◌*◌, ◌≤◌, ◌<◌, min}
use mathlib.Core.Path.{◌≡◌, refl, ap, sym, ◌∙◌, subst}
use mathlib.Core.List.{List}
use mathlib.Core.Bool.{Bool, true, false, cond}
use native.Mathlib.Numerals.{add-one, sub-one}
use native.Mathlib.Omega.{arith}
use mathlib.Core.Logic.{◌≢◌}
use lib.ListN.{length, get_or, set, drop, take, replicate, length-set, length-replicate, get_or-replicate}
use lib.Seq.{get_or-set_same, get_or-set_other, set-get_or}
use lib.Dec.{leb, ltb, eqb}
use borrow.Author.Tests.{eqb-true, eqb-false, lt-ltb, le-ltb, le-leb, lt-leb}
use Rattle.limits.specs.Limits as Limits
use Rattle.limits.specs.Numbers.{le16}
use Rattle.image_frames.proofs.Branches.Walk.{long}
use Rattle.image_frames.specs.Records.{body, start_of}
use Rattle.image_header.specs.Thread.{last_point, begins}
use Rattle.image_index.specs.IndexTable.{room, table_size, records_to, next_start, is_thread, first_from, first_thread, row_to, row_of, behind, rows_to, index_of}
use Rattle.image_index.specs.declared.starts.FirstThread.{FirstThread}
use Rattle.limits.proofs.BranchTests.{tests}
use Rattle.image_header.proofs.ThreadBranches.{from_start}

-- a record's body

pub body_in : (s l r : List ℕ) (p n : ℕ) → l ≡ drop p s → n ≡ le16 (drop 0 l) → r ≡ take (n - 2) (drop 4 l) → r ≡ body (drop p s)
unfolding body
body_in s l r p n e d h = rw (d, e) at h

-- room

pub room_short : (s : List ℕ) → length s ≤ 1024 → 512 ≡ room s
unfolding room
room_short s h = rw (le-leb (length s) 1024 h)

pub room_long : (s : List ℕ) → 1024 < length s → 4523 ≡ room s
unfolding room
room_long s h = rw (lt-leb (length s) 1024 h)

pub room_few : (s : List ℕ) → room s ≤ Limits.records
unfolding room
room_few s = go (leb (length s) 1024)
  where
    go : (b : Bool) → cond b 512 Limits.records ≤ Limits.records
    go true = omega arith
    go false = omega arith

pub size_is : (s : List ℕ) → table_size s ≡ room s + 65
unfolding table_size
size_is s = refl

pub room_most : (s : List ℕ) (n : ℕ) → n ≡ room s → n ≤ 4523
room_most s n e = omega (arith, room_few s)

pub ruleset room_for_branches = (room_short, room_long)

-- the records

pub records_none : (s l : List ℕ) → l ≡ replicate (table_size s) 0 → l ≡ records_to s 0
unfolding records_to
records_none s l e = e

pub start_none : (s : List ℕ) → 0 ≡ start_of s 0
unfolding start_of
start_none s = refl

pub records_more : (s l : List ℕ) (i p : ℕ) → l ≡ records_to s i → p ≡ start_of s i → set l i (length s - p) ≡ records_to s (i + 1)
unfolding records_to
records_more s l i p e d = rw (add-one i, d, e)

pub start_more : (s : List ℕ) (i p q : ℕ) → p ≡ start_of s i → q ≡ next_start s p → q ≡ start_of s (i + 1)
unfolding start_of next_start
start_more s i p q e d = rw (add-one i, d, e)

pub records_all : (s l : List ℕ) (i n : ℕ) → i ≤ n → n ≤ i → l ≡ records_to s i → l ≡ records_to s n
records_all s l i n a b e = let q : i ≡ n = omega arith in rw q at e

pub zeros_long : (s l : List ℕ) → l ≡ replicate (table_size s) 0 → length l ≡ table_size s
zeros_long s l e = ap length e ∙ length-replicate {A = ℕ} (table_size s) 0

pub place_there : (s l : List ℕ) (i n : ℕ) → length l ≡ table_size s → n ≡ room s → i < n → i < length l
place_there s l i n e d h = omega (arith, size_is s)

pub records_length : (s : List ℕ) (n : ℕ) → length (records_to s n) ≡ table_size s
unfolding records_to
records_length s zero = length-replicate {A = ℕ} (table_size s) 0
records_length s (suc n) = length-set (records_to s n) n (length s - start_of s n) ∙ records_length s n

-- past the last record the table stays as it is

unfilled : (s : List ℕ) (n i : ℕ) → n ≤ i → i < table_size s → get_or (records_to s n) i 0 ≡ 0
unfolding records_to
unfilled s zero i h g = get_or-replicate (table_size s) i 0 0 g
unfilled s (suc n) i h g =
    let q : i ≢ n = λ e. omega arith in
    get_or-set_other (records_to s n) n i (length s - start_of s n) 0 q ∙ unfilled s n i (omega arith) g

stays : (s : List ℕ) (i n : ℕ) → length s ≤ start_of s i → i ≤ n → n ≤ table_size s → (length s ≤ start_of s n) ×
    (records_to s n ≡ records_to s i)
unfolding start_of records_to
stays s i zero h a g = let q : i ≡ 0 = omega arith in subst (λ (m : ℕ). (length s ≤ start_of s m) × (records_to s m ≡ records_to s i)) q
    (h, refl)
stays s i (suc n) h a g = go (eqb i (suc n)) refl (λ b. stays s i n h b (omega arith))
  where
    go : (b : Bool) → eqb i (suc n) ≡ b → (i ≤ n → (length s ≤ start_of s n) × (records_to s n ≡ records_to s i))
        → (length s ≤ start_of s (suc n)) × (records_to s (suc n) ≡ records_to s i)
    go true e f = subst (λ (m : ℕ). (length s ≤ start_of s m) × (records_to s m ≡ records_to s i)) (eqb-true i (suc n) e) (h, refl)
    go false e f =
        let q = eqb-false i (suc n) e in
        let p = f (omega arith) in
        let z : length s - start_of s n ≡ get_or (records_to s n) n 0 = rw (unfilled s n n (omega arith) (omega arith)) (omega (arith, p.0)) in
        (omega (arith, p.0), rw z (set-get_or (records_to s n) n 0) ∙ p.1)

pub records_ended : (s l : List ℕ) (i p n : ℕ) → n ≡ room s → i ≤ n → l ≡ records_to s i → p ≡ start_of s i → length s ≤ p → l ≡ records_to s n
records_ended s l i p n r h e d g = e ∙ sym (stays s i n (rw d at g) h (omega (arith, size_is s))).1

pub ruleset fill_records_branches = (records_none, start_none, records_more, start_more, records_all, records_ended, zeros_long, place_there, long)

-- the first thread

pub thread_is : (s : List ℕ) (p k : ℕ) → k ≡ le16 (drop (p + 2) s) → eqb k 3 ≡ is_thread s p
unfolding is_thread
thread_is s p k e = rw e

pub first_none : (s : List ℕ) (n i p : ℕ) → n ≤ i → first_from s 0 0 n ≡ first_from s i p (n - i) → record { number = i; position = p }
    ≡ first_from s 0 0 n
unfolding first_from
first_none s n i p h e = let z : n - i ≡ 0 = omega arith in e' z
  where
    e' : n - i ≡ 0 → record { number = i; position = p } ≡ first_from s 0 0 n
    e' z = sym (e ∙ ap (first_from s i p) z)

first_step : (s : List ℕ) (i p m : ℕ) → 0 < m
    → first_from s i p m
    ≡ cond (ltb p (length s))
    (cond (is_thread s p) (record { number = i; position = p }) (first_from s (i + 1) (next_start s p) (m - 1)))
    (record { number = i; position = p })
unfolding first_from
first_step s i p zero h = absurd (omega arith)
first_step s i p (suc m) h = rw (sub-one (suc m))

module _ (s : List ℕ) (n i p : ℕ) (h : i < n) (e : first_from s 0 0 n ≡ first_from s i p (n - i)) where
  more : 0 < n - i
  more = omega arith

  pub first_ended : length s ≤ p → record { number = i; position = p } ≡ first_from s 0 0 n
  first_ended g = sym (e ∙ (rw (first_step s i p (n - i) more, le-ltb p (length s) g)))

  module _ (k : Bool) (g : p < length s) (d : k ≡ is_thread s p) where
    pub first_found : k ≡ true → record { number = i; position = p } ≡ first_from s 0 0 n
    first_found f = sym (e ∙ (rw (first_step s i p (n - i) more, lt-ltb p (length s) g, ← d, f)))

    pub first_next : k ≡ false → (q : ℕ) → q ≡ next_start s p → first_from s 0 0 n ≡ first_from s (i + 1) q (n - (i + 1))
    first_next f q c =
        let z : n - i - 1 ≡ n - (i + 1) = omega arith in
        e ∙ (rw (first_step s i p (n - i) more, lt-ltb p (length s) g, ← d, f, c, z))

pub first_start : (s : List ℕ) (n : ℕ) → first_from s 0 0 n ≡ first_from s 0 0 (n - 0)
first_start s n = let z : n - 0 ≡ n = omega arith in rw z

pub ruleset first_thread_branches = (first_none, first_ended, first_found, first_next, first_start)

-- the places of one thread

module _ (l : List ℕ) (from : ℕ) (b : List ℕ) where
  pub row_none : l ≡ row_to l from b 0
  unfolding row_to
  row_none = refl

  pub row_more : (m : List ℕ) (p at : ℕ) → m ≡ row_to l from b p → at ≡ begins (drop 1 b) p → set m (from + p) at ≡ row_to l from b (p + 1)
  unfolding row_to
  row_more m p at e d = rw (add-one p, e, d)

  pub row_all : (m : List ℕ) (p n : ℕ) → n ≡ min 16 (last_point b) → p ≤ n → n ≤ p → m ≡ row_to l from b p → m ≡ row_of l from b
  unfolding row_of
  row_all m p n e h g d = let q : p ≡ n = omega arith in d ∙ ap (row_to l from b) (q ∙ e)

  pub row_length : (p : ℕ) → length (row_to l from b p) ≡ length l
  unfolding row_to
  row_length zero = refl
  row_length (suc p) = length-set (row_to l from b p) (from + p) (begins (drop 1 b) p) ∙ row_length p

  pub row_out : (p i : ℕ) → ((r : ℕ) → r < p → from + r ≡ i → ⊥) → get_or (row_to l from b p) i 0 ≡ get_or l i 0
  unfolding row_to
  row_out zero i h = refl
  row_out (suc p) i h =
      let q : i ≢ from + p = λ e. h p (omega arith) (sym e) in
      get_or-set_other (row_to l from b p) (from + p) i (begins (drop 1 b) p) 0 q ∙ row_out p i (λ r g. h r (omega arith))

  pub row_in : (n p : ℕ) → p < n → from + n ≤ length l → get_or (row_to l from b n) (from + p) 0 ≡ begins (drop 1 b) p
  unfolding row_to
  row_in zero p h g = absurd (omega arith)
  row_in (suc n) p h g = go (eqb p n) refl (λ a. row_in n p a (omega arith))
    where
      go : (c : Bool) → eqb p n ≡ c → (p < n → get_or (row_to l from b n) (from + p) 0 ≡ begins (drop 1 b) p)
          → get_or (set (row_to l from b n) (from + n) (begins (drop 1 b) n)) (from + p) 0 ≡ begins (drop 1 b) p
      go true e f =
          let q = eqb-true p n e in
          let z : from + n < length (row_to l from b n) = rw (row_length n) (omega arith) in
          rw q (get_or-set_same (row_to l from b n) (from + n) (begins (drop 1 b) n) 0 z)
      go false e f =
          let q = eqb-false p n e in
          let d : from + p ≢ from + n = λ x. q (omega arith) in
          get_or-set_other (row_to l from b n) (from + n) (from + p) (begins (drop 1 b) n) 0 d ∙ f (omega arith)

pub row_place : (l m b : List ℕ) (from p q n : ℕ) → m ≡ row_to l from b q → from + 16 ≤ length l → n ≤ 16 → p < n → from + p < length m
row_place l m b from p q n e h k g = omega (arith, ap length e ∙ row_length l from b q)

pub row_same : (l m b : List ℕ) (from q : ℕ) → m ≡ row_to l from b q → length m ≡ length l
row_same l m b from q e = ap length e ∙ row_length l from b q

pub ruleset fill_row_branches = (row_none, row_more, row_all, row_place)

-- the places of four threads

module _ (s l : List ℕ) (from p : ℕ) where
  pub rows_none : l ≡ rows_to s l from p 0
  unfolding rows_to
  rows_none = refl

  pub behind_none : p ≡ behind s p 0
  unfolding behind
  behind_none = refl

  pub rows_more : (m k b : List ℕ) (j q : ℕ) → m ≡ rows_to s l from p j → q ≡ behind s p j → b ≡ body (drop q s) → k ≡ row_of m
      (from + 16 * j) b
      → k ≡ rows_to s l from p (j + 1)
  unfolding rows_to
  rows_more m k b j q e d c f = f ∙ (rw (add-one j, e, c, d))

  pub behind_more : (j q r : ℕ) → q ≡ behind s p j → r ≡ next_start s q → r ≡ behind s p (j + 1)
  unfolding behind
  behind_more j q r e d = d ∙ (rw (add-one j, e))

  pub rows_all : (m : List ℕ) (j : ℕ) → j ≤ 4 → 4 ≤ j → m ≡ rows_to s l from p j → m ≡ rows_to s l from p 4
  rows_all m j h g e = let q : j ≡ 4 = omega arith in rw q at e

  pub rows_length : (j : ℕ) → length (rows_to s l from p j) ≡ length l
  unfolding rows_to row_of
  rows_length zero = refl
  rows_length (suc j) =
      row_length (rows_to s l from p j) (from + 16 * j) (body (drop (behind s p j) s)) (min 16 (last_point (body (drop (behind s p j) s))))
      ∙ rows_length j

  pub rows_out : (j i : ℕ) → i < from → get_or (rows_to s l from p j) i 0 ≡ get_or l i 0
  unfolding rows_to row_of
  rows_out zero i h = refl
  rows_out (suc j) i h =
      row_out (rows_to s l from p j) (from + 16 * j) (body (drop (behind s p j) s)) (min 16 (last_point (body (drop (behind s p j) s)))) i
      (λ r g e. omega arith)
      ∙ rows_out j i h

  pub rows_in : (k j q : ℕ) → j < k → q < 16 → q < last_point (body (drop (behind s p j) s)) → from + 16 * k ≤ length l
      → get_or (rows_to s l from p k) (from + 16 * j + q) 0 ≡ begins (drop 1 (body (drop (behind s p j) s))) q
  unfolding rows_to row_of
  rows_in zero j q h a b g = absurd (omega arith)
  rows_in (suc k) j q h a b g = go (eqb j k) refl (λ x. rows_in k j q x a b (omega arith))
    where
      its : ℕ → List ℕ
      its i = body (drop (behind s p i) s)

      go : (c : Bool) → eqb j k ≡ c
          → (j < k → get_or (rows_to s l from p k) (from + 16 * j + q) 0 ≡ begins (drop 1 (its j)) q)
          → get_or (row_to (rows_to s l from p k) (from + 16 * k) (its k) (min 16 (last_point (its k)))) (from + 16 * j + q) 0 ≡ begins
          (drop 1 (its j)) q
      go true e f =
          let d = eqb-true j k e in
          let w : q < last_point (its k) = subst (λ (i : ℕ). q < last_point (its i)) d b in
          let z = row_in (rows_to s l from p k) (from + 16 * k) (its k) (min 16 (last_point (its k))) q (omega arith)
          (rw (rows_length k) (omega arith)) in
          subst
          (λ (i : ℕ). get_or (row_to (rows_to s l from p k) (from + 16 * k) (its k) (min 16 (last_point (its k)))) (from + 16 * i + q) 0
          ≡ begins (drop 1 (its i)) q)
          (sym d) z
      go false e f =
          let d = eqb-false j k e in
          row_out (rows_to s l from p k) (from + 16 * k) (its k) (min 16 (last_point (its k))) (from + 16 * j + q) (λ r g' e'. omega arith)
          ∙ f (omega arith)

pub rows_room : (s l m : List ℕ) (from p j : ℕ) → m ≡ rows_to s l from p j → from + 64 ≤ length l → j < 4 → from + 16 * j + 16 ≤ length m
rows_room s l m from p j e h g = omega (arith, ap length e ∙ rows_length s l from p j)

pub rows_same : (s l m : List ℕ) (from p j : ℕ) → m ≡ rows_to s l from p j → length m ≡ length l
rows_same s l m from p j e = ap length e ∙ rows_length s l from p j

pub ruleset fill_rows_branches = (rows_same, rows_none, behind_none, rows_more, behind_more, rows_room, rows_all)

-- the whole table

module _ (s l : List ℕ) (n : ℕ) (e : n ≡ room s) (d : l ≡ records_to s n) where
  records_long : length l ≡ n + 65
  records_long = ap length d ∙ records_length s n ∙ size_is s ∙ (rw e)

  pub noted_there : n < length l
  noted_there = omega (arith, records_long)

  module _ (f : FirstThread) (c : f ≡ first_from s 0 0 n) where
    pub rows_fit : n + 1 + 64 ≤ length (set l n f.number)
    rows_fit = omega (arith, length-set l n f.number, records_long)

    pub index_filled : (m : List ℕ) → m ≡ rows_to s (set l n f.number) (n + 1) f.position 4 → m ≡ index_of s
    unfolding index_of first_thread
    index_filled m g = g ∙ (rw (d, c, e))

pub index_long : (s i l m : List ℕ) (n v from p : ℕ) → i ≡ replicate (table_size s) 0 → l ≡ records_to s n → m ≡ rows_to s (set l n v) from p 4
    → length m ≡ length i
index_long s i l m n v from p e d c =
    ap length c ∙ rows_length s (set l n v) from p 4 ∙ length-set l n v ∙ ap length d ∙ records_length s n ∙ sym (zeros_long s i e)

pub ruleset fill_index_branches = (noted_there, rows_fit, index_filled)

-- an array of zeros, as long as the image asks for

pub short_zeros : (s : List ℕ) → length s ≤ 1024 → replicate {A = ℕ} 577 0 ≡ replicate (table_size s) 0
short_zeros s h = let q : 577 ≡ table_size s = omega (arith, size_is s, room_short s h) in ap (λ (n : ℕ). replicate {A = ℕ} n 0) q

pub long_zeros : (s : List ℕ) → 1024 < length s → replicate {A = ℕ} 4588 0 ≡ replicate (table_size s) 0
long_zeros s h = let q : 4588 ≡ table_size s = omega (arith, size_is s, room_long s h) in ap (λ (n : ℕ). replicate {A = ℕ} n 0) q

-- each with the tests of branches, for the function of its name

pub ruleset fill_row_search = (fill_row_branches, row_same, from_start, tests)

pub ruleset fill_records_search = (fill_records_branches, room_most, tests)

pub ruleset fill_index_search = (fill_index_branches, index_long, tests)
