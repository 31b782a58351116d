-- What the look-ups take from the table.
use Prim.Native.Nat.{ℕ, zero, suc, ◌+◌, ◌-◌, ◌*◌, ◌≤◌, ◌<◌, min}
use mathlib.Core.Path.{◌≡◌, refl, ap, sym, ◌∙◌, subst}
use mathlib.Core.List.{List, [], ◌∷◌}
use mathlib.Core.Bool.{Bool, true, false, cond}
use native.Mathlib.Omega.{arith}
use mathlib.Core.Logic.{◌≢◌}
use lib.ListN.{length, get_or, set, drop, drop_of_length-le, length-set}
use lib.Seq.{drop-drop, drop-length, get_or-set_same, get_or-set_other}
use lib.Dec.{leb, ltb, eqb}
use borrow.Author.Tests.{leb-true, leb-false, ltb-true, ltb-false, eqb-true, eqb-false, lt-ltb}
use Rattle.limits.specs.Limits as Limits
use Rattle.limits.specs.Numbers.{le16}
use Rattle.image_frames.specs.Records.{body, cut, bodies, start_of}
use Rattle.image_header.specs.Thread.{last_point, begins, instructions, nothing}
use Rattle.image_header.specs.declared.instruction.Instruction.{Instruction}
use Rattle.image_header.proofs.ThreadBranches.{at_past}
use Rattle.image_index.specs.IndexTable.{room, table_size, records_to, next_start, is_thread, first_from, first_thread, behind, rows_to, index_of, place_of}
use Rattle.image_index.proofs.IndexBranches.{room_few, size_is, records_length, rows_length, rows_out, rows_in}

-- a body is the one that is cut off

skip : ℕ → List ℕ → List ℕ
skip zero l = l
skip (suc i) l = skip i (drop (2 + le16 l) l)

word_nil : le16 [] ≡ 0
unfolding le16
word_nil = refl

skip_nil : (i : ℕ) → skip i [] ≡ []
unfolding skip
skip_nil zero = refl
skip_nil (suc i) = rw word_nil (skip_nil i)

skip_suc : (i : ℕ) (l : List ℕ) → skip (suc i) l ≡ drop (2 + le16 (skip i l)) (skip i l)
unfolding skip
skip_suc zero l = refl
skip_suc (suc i) l = skip_suc i (drop (2 + le16 l) l)

drop_min : (s : List ℕ) (n : ℕ) → drop (min (length s) n) s ≡ drop n s
drop_min s n = go (leb (length s) n) refl
  where
    go : (b : Bool) → leb (length s) n ≡ b → drop (min (length s) n) s ≡ drop n s
    go true e =
        let h = leb-true (length s) n e in
        let q : min (length s) n ≡ length s = omega arith in
        rw (q, drop-length s, drop_of_length-le s h)
    go false e =
        let h = leb-false (length s) n e in
        let q : min (length s) n ≡ n = omega arith in
        rw q

start_skip : (s : List ℕ) (i : ℕ) → drop (start_of s i) s ≡ skip i s
unfolding start_of skip
start_skip s zero = refl
start_skip s (suc i) =
    let q : start_of s i + 2 + le16 (drop (start_of s i) s) ≡ start_of s i + (2 + le16 (drop (start_of s i) s)) = omega arith in
    drop_min s _ ∙ (rw (q, ← drop-drop (2 + le16 (drop (start_of s i) s)) (start_of s i) s, start_skip s i) (sym (skip_suc i s)))

body_nil : body [] ≡ []
unfolding body le16
body_nil = refl

cut_in : (k i : ℕ) (l : List ℕ) → i < k → get_or (cut k l) i [] ≡ body (skip i l)
unfolding cut skip
cut_in zero i l h = absurd (omega arith)
cut_in (suc k) i [] h = sym (ap body (skip_nil i) ∙ body_nil)
cut_in (suc k) zero (x ∷ l) h = refl
cut_in (suc k) (suc i) (x ∷ l) h = cut_in k i (drop (2 + le16 (x ∷ l)) (x ∷ l)) (omega arith)

cut_past : (k i : ℕ) (l : List ℕ) → k ≤ i → get_or (cut k l) i [] ≡ []
unfolding cut
cut_past zero i l h = refl
cut_past (suc k) i [] h = refl
cut_past (suc k) zero (x ∷ l) h = absurd (omega arith)
cut_past (suc k) (suc i) (x ∷ l) h = cut_past k i (drop (2 + le16 (x ∷ l)) (x ∷ l)) (omega arith)

pub body_is : (s : List ℕ) (i : ℕ) → i < Limits.records → get_or (bodies s) i [] ≡ body (drop (start_of s i) s)
unfolding bodies
body_is s i h = rw (cut_in Limits.records i s h, start_skip s i)

pub body_past : (s : List ℕ) (i : ℕ) → Limits.records ≤ i → get_or (bodies s) i [] ≡ []
unfolding bodies
body_past s i h = cut_past Limits.records i s h

-- records: where they start

start_low : (s : List ℕ) (i : ℕ) → start_of s i ≤ length s
unfolding start_of
start_low s zero = omega arith
start_low s (suc i) = omega arith

-- a record has two bytes at least
start_high : (s : List ℕ) (i : ℕ) → min (length s) (2 * i) ≤ start_of s i
unfolding start_of
start_high s zero = omega arith
start_high s (suc i) = let h = start_high s i in omega arith

entry_is : (s : List ℕ) (n i : ℕ) → i < n → n ≤ table_size s → get_or (records_to s n) i 0 ≡ length s - start_of s i
unfolding records_to
entry_is s zero i h g = absurd (omega arith)
entry_is s (suc n) i h g = go (eqb i n) refl (λ a. entry_is s n i a (omega arith))
  where
    go : (b : Bool) → eqb i n ≡ b → (i < n → get_or (records_to s n) i 0 ≡ length s - start_of s i)
        → get_or (set (records_to s n) n (length s - start_of s n)) i 0 ≡ length s - start_of s i
    go true e f =
        let q = eqb-true i n e in
        let z : n < length (records_to s n) = rw (records_length s n) (omega arith) in
        rw q (get_or-set_same (records_to s n) n (length s - start_of s n) 0 z)
    go false e f =
        let q = eqb-false i n e in
        get_or-set_other (records_to s n) n i (length s - start_of s n) 0 q ∙ f (omega arith)

-- a record past the places of the table is not there
far_room : (s : List ℕ) (i : ℕ) → room s ≤ i → i < Limits.records → start_of s i ≡ length s
unfolding room
far_room s i h g = go (leb (length s) 1024) refl h
  where
    go : (b : Bool) → leb (length s) 1024 ≡ b → cond b 512 Limits.records ≤ i → start_of s i ≡ length s
    go true e k = omega (arith, leb-true (length s) 1024 e, start_high s i, start_low s i)
    go false e k = absurd (omega arith)

-- the whole table

module _ (s : List ℕ) where
  noted : List ℕ
  noted = set (records_to s (room s)) (room s) (first_thread s).number

  noted_length : length noted ≡ room s + 65
  unfolding noted
  noted_length = length-set (records_to s (room s)) (room s) (first_thread s).number ∙ records_length s (room s) ∙ size_is s

  index_is : index_of s ≡ rows_to s noted (room s + 1) (first_thread s).position Limits.threads
  unfolding index_of noted
  index_is = refl

  index_length : length (index_of s) ≡ room s + 65
  index_length = ap length index_is ∙ rows_length s noted (room s + 1) (first_thread s).position Limits.threads ∙ noted_length

  index_entry : (i : ℕ) → i < room s → get_or (index_of s) i 0 ≡ length s - start_of s i
  unfolding noted
  index_entry i h =
      let q : i ≢ room s = λ e. omega arith in
      ap (λ (l : List ℕ). get_or l i 0) index_is
      ∙ rows_out s noted (room s + 1) (first_thread s).position Limits.threads i (omega arith)
      ∙ get_or-set_other (records_to s (room s)) (room s) i (first_thread s).number 0 q
      ∙ entry_is s (room s) i h (omega (arith, size_is s))

  index_first : get_or (index_of s) (room s) 0 ≡ (first_thread s).number
  unfolding noted
  index_first =
      let z : room s < length (records_to s (room s)) = rw (records_length s (room s)) (omega (arith, size_is s)) in
      ap (λ (l : List ℕ). get_or l (room s) 0) index_is
      ∙ rows_out s noted (room s + 1) (first_thread s).position Limits.threads (room s) (omega arith)
      ∙ get_or-set_same (records_to s (room s)) (room s) (first_thread s).number 0 z

  -- j records behind the first thread's
  next_is : (i : ℕ) → next_start s (start_of s i) ≡ start_of s (suc i)
  unfolding start_of next_start
  next_is i = refl

  first_starts : (n i : ℕ) → (first_from s i (start_of s i) n).position ≡ start_of s (first_from s i (start_of s i) n).number
  unfolding first_from
  first_starts zero i = refl
  first_starts (suc n) i = go (ltb (start_of s i) (length s)) (is_thread s (start_of s i))
      (later (λ j. first_starts n j) (i + 1) (omega arith))
    where
      later : ((j : ℕ) → (first_from s j (start_of s j) n).position ≡ start_of s (first_from s j (start_of s j) n).number) → (j : ℕ) → j ≡ suc i
          → (first_from s j (next_start s (start_of s i)) n).position ≡ start_of s (first_from s j (next_start s (start_of s i)) n).number
      later f j e = let d : next_start s (start_of s i) ≡ start_of s j = next_is i ∙ ap (start_of s) (sym e) in rw d (f j)

      go : (b c : Bool)
          → (first_from s (i + 1) (next_start s (start_of s i)) n).position ≡ start_of s
          (first_from s (i + 1) (next_start s (start_of s i)) n).number
          → (cond b (cond c (record { number = i; position = start_of s i }) (first_from s (i + 1) (next_start s (start_of s i)) n))
          (record { number = i; position = start_of s i })).position
          ≡ start_of s
          (cond b (cond c (record { number = i; position = start_of s i }) (first_from s (i + 1) (next_start s (start_of s i)) n))
          (record { number = i; position = start_of s i })).number
      go true true h = refl
      go true false h = h
      go false c h = refl

  first_position : (first_thread s).position ≡ start_of s (first_thread s).number
  unfolding first_thread start_of
  first_position = first_starts (room s) 0

  behind_first : (j : ℕ) → behind s (first_thread s).position j ≡ start_of s ((first_thread s).number + j)
  unfolding behind
  behind_first zero = let z : (first_thread s).number + 0 ≡ (first_thread s).number = omega arith in first_position ∙ (rw z)
  behind_first (suc j) =
      let z : (first_thread s).number + suc j ≡ suc ((first_thread s).number + j) = omega arith in
      ap (next_start s) (behind_first j) ∙ next_is ((first_thread s).number + j) ∙ (rw z)

  index_start : (j q : ℕ) → j < Limits.threads → q < Limits.points → q < last_point (body (drop (start_of s ((first_thread s).number + j)) s))
      → get_or (index_of s) (room s + 1 + 16 * j + q) 0 ≡ begins (drop 1 (body (drop (start_of s ((first_thread s).number + j)) s))) q
  index_start j q h g k =
      let e = behind_first j in
      let r = rows_in s noted (room s + 1) (first_thread s).position Limits.threads j q h g (rw e k) (rw noted_length (omega arith)) in
      ap (λ (l : List ℕ). get_or l (room s + 1 + 16 * j + q) 0) index_is ∙ (r ∙ (rw e))

-- the laws of the look-ups

module _ (s ix : List ℕ) (e : ix ≡ index_of s) where
  pub table-size : length ix ≡ room s + 65
  table-size = ap length e ∙ index_length s

  pub starts_there : 65 ≤ length ix
  starts_there = omega (arith, table-size)

  pub first_there : length ix - 65 < length ix
  first_there = omega (arith, table-size)

  pub start_there : (i p : ℕ) → i - get_or ix (length ix - 65) 0 < 4 → p < 16
      → length ix - 65 + 1 + 16 * (i - get_or ix (length ix - 65) 0) + p < length ix
  start_there i p k q = omega (arith, table-size)

  places : length ix - 65 ≡ room s
  places = omega (arith, table-size)

  module _ (i : ℕ) where
    pub entry-fits : i < length ix - 65 → get_or ix i 0 ≤ length s
    entry-fits h = omega (arith, ap (λ (l : List ℕ). get_or l i 0) e ∙ index_entry s i (rw places at h))

    pub place_in : i < length ix - 65 → length s - get_or ix i 0 ≡ place_of s i
    unfolding place_of
    place_in h =
        let z = room_few s in
        let k : i < room s = rw places at h in
        let d = ap (λ (l : List ℕ). get_or l i 0) e ∙ index_entry s i k in
        rw (lt-ltb i Limits.records (omega arith)) (omega (arith, d, start_low s i))

    pub place_past : length ix - 65 ≤ i → length s ≡ place_of s i
    unfolding place_of
    place_past h = go (ltb i Limits.records) refl
      where
        go : (b : Bool) → ltb i Limits.records ≡ b → length s ≡ cond b (start_of s i) (length s)
        go true c = sym (far_room s i (rw places at h) (ltb-true i Limits.records c))
        go false c = refl

pub body_placed : (s : List ℕ) (i p : ℕ) (r : List ℕ) → p ≡ place_of s i → r ≡ body (drop p s) → r ≡ get_or (bodies s) i []
unfolding place_of
body_placed s i p r e d = d ∙ (rw e) ∙ go (ltb i Limits.records) refl
  where
    go : (b : Bool) → ltb i Limits.records ≡ b → body (drop (cond b (start_of s i) (length s)) s) ≡ get_or (bodies s) i []
    go true c = sym (body_is s i (ltb-true i Limits.records c))
    go false c = rw (drop-length s) (body_nil ∙ sym (body_past s i (ltb-false i Limits.records c)))

pub ruleset look_up_branches = (starts_there, entry-fits, place_in, place_past, body_placed)

-- where an instruction begins

empty_last : last_point [] ≡ 0
unfolding last_point
empty_last = refl

-- a record with an instruction is there
numbered_there : (s b : List ℕ) (i p : ℕ) → b ≡ get_or (bodies s) i [] → p < last_point b → i < Limits.records
numbered_there s b i p e h = go (ltb i Limits.records) refl
  where
    go : (c : Bool) → ltb i Limits.records ≡ c → i < Limits.records
    go true d = ltb-true i Limits.records d
    go false d = let z = ap last_point (e ∙ body_past s i (ltb-false i Limits.records d)) ∙ empty_last in absurd (omega arith)

module _ (s ix b : List ℕ) (i p : ℕ) (e : ix ≡ index_of s) (d : b ≡ get_or (bodies s) i []) (h : p < last_point b) where
  module _ (g : get_or ix (length ix - 65) 0 ≤ i) (k : i - get_or ix (length ix - 65) 0 < 4) (q : p < 16) where
    pub start_known : get_or ix (length ix - 65 + 1 + 16 * (i - get_or ix (length ix - 65) 0) + p) 0 ≡ begins (drop 1 b) p
    start_known = go (length ix - 65) (get_or ix (length ix - 65) 0) (omega (arith, table-size s ix e)) refl g k
      where
        go : (n f : ℕ) → n ≡ room s → f ≡ get_or ix n 0 → f ≤ i → i - f < 4 → get_or ix (n + 1 + 16 * (i - f) + p) 0 ≡ begins (drop 1 b) p
        go n f en ef g k =
            let first : f ≡ (first_thread s).number = rw (ef, en, e) (index_first s) in
            let z : (first_thread s).number + (i - f) ≡ i = omega arith in
            let its : b ≡ body (drop (start_of s ((first_thread s).number + (i - f))) s) =
            d ∙ body_is s i (numbered_there s b i p d h) ∙ ap (λ (m : ℕ). body (drop (start_of s m) s)) (sym z) in
            rw (e, en)
            (index_start s (i - f) p k q (subst (λ (l : List ℕ). p < last_point l) its h) ∙ ap (λ (l : List ℕ). begins (drop 1 l) p)
            (sym its))

pub begins_known : (b l : List ℕ) (p r : ℕ) → l ≡ drop 1 b → r ≡ begins l p → r ≡ begins (drop 1 b) p
begins_known b l p r e d = rw (← e) d

pub ruleset begins_in_branches = (starts_there, first_there, start_there, start_known, begins_known)

module _ (s b : List ℕ) (i p : ℕ) (d : b ≡ get_or (bodies s) i []) where
  pub instruction_none : (last : ℕ) → last ≡ last_point b → last ≤ p → nothing ≡ get_or (instructions (get_or (bodies s) i [])) p nothing
  instruction_none last e h = rw (← d) (at_past b last p e h)

  pub instruction_there : (r : Instruction) → r ≡ get_or (instructions b) p nothing → r ≡ get_or (instructions (get_or (bodies s) i [])) p nothing
  instruction_there r e = rw (← d) e

pub ruleset instruction_in_branches = (instruction_none, instruction_there)
