-- The ways through the functions, one law for each.
use mathlib.Core.Path.{◌≡◌, refl, ap, sym, ◌∙◌}
use mathlib.Core.Bool.{Bool, true, false, cond}
use mathlib.Core.List.{List, [], ◌∷◌, ◌++◌, append_assoc}
use Prim.Native.Nat.{ℕ, zero, suc, ◌+◌, ◌-◌, ◌*◌, ◌/◌, ◌%◌, ◌≤◌, ◌<◌, min}
use native.Mathlib.Omega.{arith}
use native.Mathlib.Nat.{mod-eq_of_lt}
use native.Mathlib.Numerals.{add-one}
use lib.Dec.{ltb}
use lib.ListN.{length, get_or, set, take, drop, length-append, length-set, length-take, length-drop, drop_of_length-le, get_or-append, get_or-eq_default}
use lib.Seq.{get_or-append-add, drop-cons, set_at, take-suc, take_all, take_at, drop_at, drop-drop, length-take-le, ext_get_or, get_or-take}
use borrow.Author.Tests.{ltb-true, ltb-false}
use Rattle.limits.proofs.BranchTests.{tests}
use Rattle.verdict_record.proofs.Copies.{copy_none, copy_more, copy_all}
use Rattle.tables_columns.specs.Column.{column}
use Rattle.tables_columns.proofs.ColumnLists.{column_length, column_get_d}
use Rattle.replay_memory.specs.Write.{no_write, start_write}
use Rattle.replay_memory.specs.WriteTable.{bit}
use Rattle.replay_memory.specs.declared.write.Write.{Write}
use Rattle.replay_memory.specs.declared.memory.Memory.{Memory}
use Rattle.replay_machine.specs.Refusal.{total}
use Rattle.replay_machine.specs.ShownTable.{entries, packed_to, packed}
use Rattle.replay_machine.specs.Replayed.{Replayed, room_of}
use Rattle.replay_machine.specs.declared.shown_table.Packed.{Packed}
use Rattle.replay_machine.proofs.ShownTableBranches.{entries_length}
use Rattle.replay_machine.specs.Answer.{size, answer_of, numbers_of}
use Rattle.replay_machine.specs.OutputTable.{shown_in, shown_of, shown_by, write_in, put_to, placed, entry_bytes, table_bytes, laid}
use Rattle.replay_machine.specs.declared.answer.Answer.{Answer}
use Rattle.replay_machine.specs.declared.output.Shown.{Shown}

-- one number more of a list copied to the front of a buffer
pub copied : (size : ℕ) (v o w : List ℕ) (i b : ℕ) → length v ≡ size → w ≡ take i v ++ drop i o → b ≡ get_or v i 0 → i < size
    → size ≤ length o → length w ≡ length o
    → (i + 1 ≤ size) × ((set w i b ≡ take (i + 1) v ++ drop (i + 1) o) × (length (set w i b) ≡ length o))
copied size v o w i b l e q h g k = rw q (copy_more size v o w i l e h g k)

-- THE ANSWER'S NUMBERS

module _ (a : Answer) where
  abbrev points : List ℕ
  points = column (λ t. get_or a.points t 0) 4

  abbrev registers : List ℕ
  registers = column (λ r. get_or a.registers r 0) 16

  four : length points ≡ 4
  four = column_length (λ t. get_or a.points t 0) 4

  pub numbers_length : length (numbers_of a) ≡ size
  unfolding numbers_of
  numbers_length = omega (arith, length-append points registers, four, column_length (λ r. get_or a.registers r 0) 16)

  pub number_point : (i : ℕ) → (i ≡ 0 → ⊥) → i < 5 → get_or a.points (i - 1) 0 ≡ get_or (numbers_of a) i 0
  unfolding numbers_of
  number_point zero n h = absurd (n refl)
  number_point (suc i) n h =
      let e : suc i - 1 ≡ i = omega arith in
      rw e (sym (get_or-append points registers 0 i (omega (arith, four)) ∙ column_get_d (λ t. get_or a.points t 0) 0 4 i (omega arith)))

  pub number_register : (i : ℕ) → 5 ≤ i → i < 21 → get_or a.registers (i - 5) 0 ≡ get_or (numbers_of a) i 0
  unfolding numbers_of
  number_register zero h g = absurd (omega arith)
  number_register (suc i) h g =
      let e : i ≡ length points + (suc i - 5) = omega (arith, four) in
      sym (ap (λ (j : ℕ). get_or (points ++ registers) j 0) e ∙ get_or-append-add points registers (suc i - 5) 0 ∙ column_get_d
      (λ r. get_or a.registers r 0) 0 16 (suc i - 5) (omega arith))

  pub number_past : (i : ℕ) → 21 ≤ i → 0 ≡ get_or (numbers_of a) i 0
  number_past i g = sym (get_or-eq_default (numbers_of a) 0 (omega (arith, numbers_length)))

pub number_steps : (a : Answer) (i : ℕ) → i ≡ 0 → a.steps ≡ get_or (numbers_of a) i 0
unfolding numbers_of
number_steps a i e = rw e

pub ruleset number_at_branches = (number_steps, number_point, number_register, number_past)

-- THE BYTES OF AN ENTRY

module _ (w : Write) where
  pub entry_length : length (entry_bytes w) ≡ 11
  unfolding entry_bytes
  entry_length = omega (arith, column_length (λ k. get_or w.stored.at k 0) 8)

  pub byte_value : (j : ℕ) → j ≡ 0 → w.value ≡ get_or (entry_bytes w) j 0
  unfolding entry_bytes
  byte_value j e = rw e

  pub byte_releasing : (j b : ℕ) → j ≡ 1 → b ≡ bit w.releasing → b ≡ get_or (entry_bytes w) j 0
  unfolding entry_bytes
  byte_releasing j b e q = rw e q

  pub byte_covered : (j b : ℕ) → j ≡ 2 → b ≡ bit w.covered → b ≡ get_or (entry_bytes w) j 0
  unfolding entry_bytes
  byte_covered j b e q = rw e q

  pub byte_position : (j : ℕ) → (j ≡ 0 → ⊥) → (j ≡ 1 → ⊥) → (j ≡ 2 → ⊥) → j < 11 → get_or w.stored.at (j - 3) 0 ≡ get_or (entry_bytes w) j 0
  unfolding entry_bytes
  byte_position zero n o q h = absurd (n refl)
  byte_position (suc zero) n o q h = absurd (o refl)
  byte_position (suc (suc zero)) n o q h = absurd (q refl)
  byte_position (suc (suc (suc k))) n o q h =
      ap (λ (i : ℕ). get_or w.stored.at i 0) (omega arith) ∙ sym (column_get_d (λ k. get_or w.stored.at k 0) 0 8 k (omega arith))

  pub byte_past : (j : ℕ) → 11 ≤ j → 0 ≡ get_or (entry_bytes w) j 0
  byte_past j h = sym (get_or-eq_default (entry_bytes w) 0 (omega (arith, entry_length)))

pub ruleset entry_byte_branches = (byte_value, byte_releasing, byte_covered, byte_position, byte_past)

-- ENTRIES IN FRONT OF A TABLE

pub bytes_length : (l : List Write) → length (table_bytes l) ≡ length l * 11
unfolding table_bytes
bytes_length [] = refl
bytes_length (w ∷ l) = omega (arith, length-append (entry_bytes w) (table_bytes l), entry_length w, bytes_length l)

bytes_append : (l r : List Write) → table_bytes (l ++ r) ≡ table_bytes l ++ table_bytes r
unfolding table_bytes
bytes_append [] r = refl
bytes_append (w ∷ l) r = ap (λ (x : List ℕ). entry_bytes w ++ x) (bytes_append l r) ∙ sym
    (append_assoc (entry_bytes w) (table_bytes l) (table_bytes r))

append_none : (l : List ℕ) → l ++ [] ≡ l
append_none [] = refl
append_none (x ∷ l) = ap (λ (r : List ℕ). x ∷ r) (append_none l)

bytes_one : (w : Write) → table_bytes (w ∷ []) ≡ entry_bytes w
unfolding table_bytes
bytes_one w = append_none (entry_bytes w)

pub laid_none : (t : List ℕ) → t ≡ laid [] t
unfolding laid table_bytes
laid_none t = refl

-- a table with one entry more
module _ (l : List Write) (e : ℕ) (t : List ℕ) (d : Write) (inside : e < length l) where
  abbrev front : List ℕ
  front = table_bytes (take e l)

  front_length : length front ≡ e * 11
  front_length = bytes_length (take e l) ∙ ap (λ (n : ℕ). n * 11) (length-take-le e l (omega arith))

  front_more : table_bytes (take (suc e) l) ≡ front ++ entry_bytes (get_or l e d)
  front_more = ap table_bytes (take-suc l e d inside) ∙ bytes_append (take e l) (get_or l e d ∷ []) ∙ ap (λ (x : List ℕ). front ++ x)
      (bytes_one (get_or l e d))

  laid_more : (q o : List ℕ) → q ≡ laid (take e l) t → o ≡ entry_bytes (get_or l e d) ++ drop 11 (drop (e * 11) q)
      → take (e * 11) q ++ o ≡ laid (take (e + 1) l) t
  unfolding laid
  laid_more q o h g =
      let n : length (take e l) ≡ e = length-take-le e l (omega arith) in
      let m : length (take (suc e) l) ≡ suc e = length-take-le (suc e) l (omega arith) in
      let k : e * 11 + 11 ≡ suc e * 11 = omega arith in
      rw (
        add-one e,
        g,
        h,
        n,
        m,
        take_at front (drop (e * 11) t) (e * 11) front_length,
        drop_at front (drop (e * 11) t)
            (e * 11) front_length,
        drop-drop 11 (e * 11) t,
        k,
        front_more,
      )
      (sym (append_assoc front (entry_bytes (get_or l e d)) (drop (suc e * 11) t)))

laid_length : (l : List Write) (t : List ℕ) → length l * 11 ≤ length t → length (laid l t) ≡ length t
unfolding laid
laid_length l t h = omega (arith, length-append (table_bytes l) (drop (length l * 11) t), bytes_length l, length-drop (length l * 11) t)

-- the invariant after a turn: the entry is written to the part of the table behind those that are there
module _ (l : List Write) (n e : ℕ) (t q : List ℕ) (d : Write) (some : e < n) (few : n ≤ 64) (whole : length l ≡ 64)
    (room : n * 11 ≤ length t) (same : length q ≡ length t) where
  abbrev rest : List ℕ
  rest = drop (e * 11) q

  rest_whole : take (length q - e * 11) rest ≡ rest
  rest_whole = take_all (length q - e * 11) rest (omega (arith, length-drop (e * 11) q))

  behind_none : drop (length q - e * 11) rest ≡ []
  behind_none = drop_of_length-le rest {i = length q - e * 11} (omega (arith, length-drop (e * 11) q))

  pub laid_next : (o : List ℕ) → q ≡ laid (take e l) t → o ≡ entry_bytes (get_or l e d) ++ drop 11 (take (length q - e * 11) rest)
      → (e + 1 ≤ n) × ((take (e * 11) q ++ (o ++ drop (length q - e * 11) rest) ≡ laid (take (e + 1) l) t) ×
      (length (take (e * 11) q ++ (o ++ drop (length q - e * 11) rest)) ≡ length t))
  laid_next o h g =
      let all : take (e * 11) q ++ (o ++ drop (length q - e * 11) rest) ≡ laid (take (e + 1) l) t =
      ap (λ (x : List ℕ). take (e * 11) q ++ (o ++ x)) behind_none ∙ ap (λ (x : List ℕ). take (e * 11) q ++ x) (append_none o)
      ∙ laid_more l e t d (omega arith) q o h (g ∙ ap (λ (x : List ℕ). entry_bytes (get_or l e d) ++ drop 11 x) rest_whole) in
      (omega arith, (all, ap length all ∙ laid_length (take (e + 1) l) t (omega (arith, length-take (e + 1) l))))

pub laid_all : (l : List Write) (e n : ℕ) (t q : List ℕ) → e ≤ n → n ≤ e → q ≡ laid (take e l) t → q ≡ laid (take n l) t
laid_all l e n t q h g d = let i : e ≡ n = omega arith in d ∙ rw i

-- ALL THAT ARE SHOWN

pub room_least : (lent : ℕ) → room_of lent ≡ min lent 64
unfolding room_of
room_least lent = go (ltb lent 64) refl
  where
    go : (b : Bool) → ltb lent 64 ≡ b → cond b lent 64 ≡ min lent 64
    go true e = omega (arith, ltb-true lent 64 e)
    go false e = omega (arith, ltb-false lent 64 e)

module _ (m : Memory) (words lent n : ℕ) (n-is : n ≡ min (total m words) (min lent 64)) where
  abbrev none : Write
  none = start_write 0

  abbrev all : List Write
  all = entries m words

  pub shown_packed : (p : Packed) → p ≡ packed m words → take n p.writes ≡ shown_in m words lent
  unfolding packed packed_to shown_in
  shown_packed p e =
      let a = length-take n (column (λ e. get_or all e none) 64) in
      let b = length-take (room_of lent) all in
      rw e (ext_get_or none (take n (column (λ e. get_or all e none) 64)) (take (room_of lent) all)
      (omega (arith, a, b, column_length (λ e. get_or all e none) 64, entries_length m words, room_least lent))
      (λ i h. get_or-take n (column (λ e. get_or all e none) 64) i none (omega (arith, a))
      ∙ column_get_d (λ e. get_or all e none) none 64 i (omega (arith, a)) ∙ sym
      (get_or-take (room_of lent) all i none (omega (arith, a, room_least lent)))))

  pub shown_room : (t : List ℕ) → lent ≡ length t / 11 → n * 11 ≤ length t
  shown_room t e = omega arith

packed_length : (m : Memory) (words : ℕ) → length (packed m words).writes ≡ 64
unfolding packed packed_to
packed_length m words = column_length (λ e. get_or (entries m words) e (start_write 0)) 64

-- WHAT IS SHOWN

module _ (r : Replayed) (lent : ℕ) where
  held_is : r.held ≡ true → shown_of r lent ≡ shown_in r.machine.memory r.words lent
  unfolding shown_of
  held_is h = rw h

  stays_is : r.held ≡ false → shown_of r lent ≡ []
  unfolding shown_of
  stays_is h = rw h

  pub count_held : (x n : ℕ) → r.held ≡ true → x ≡ total r.machine.memory r.words → n ≡ min x (min lent 64)
      → n ≡ length (shown_of r lent)
  unfolding shown_in
  count_held x n h e d = rw (held_is h) (omega (
    arith,
    length-take (room_of lent) (entries r.machine.memory r.words),
    entries_length r.machine.memory
        r.words,
    room_least lent,
  ))

  pub count_none : r.held ≡ false → 0 ≡ length (shown_of r lent)
  count_none h = rw (stays_is h)

  pub shown_made : (p : Packed) (a : Answer) (n : ℕ) → p ≡ packed r.machine.memory r.words → a ≡ answer_of r
      → n ≡ length (shown_of r lent)
      → record { answer = a; count = n; writes = p.writes } ≡ shown_by r lent
  unfolding shown_by
  shown_made p a n ep ea en = rw (ep, ea, en)

  pub shown_whole : (p : Packed) → p ≡ packed r.machine.memory r.words → length p.writes ≡ 64
  shown_whole p ep = rw ep (packed_length r.machine.memory r.words)

  -- of a replay that is another's equal
  pub shown_same : (q : Replayed) (s : Shown) → q ≡ r → s ≡ shown_by q lent → s ≡ shown_by r lent
  shown_same q s eq es = es ∙ ap (λ (x : Replayed). shown_by x lent) eq

  -- the first writes are those that the table is given
  pub shown_are : take (shown_by r lent).count (shown_by r lent).writes ≡ shown_of r lent
  unfolding shown_by
  shown_are = go r.held refl
    where
      go : (b : Bool) → r.held ≡ b → take (length (shown_of r lent)) (packed r.machine.memory r.words).writes ≡ shown_of r lent
      go true e = shown_packed r.machine.memory r.words lent (length (shown_of r lent))
          (sym (count_held (total r.machine.memory r.words) (min (total r.machine.memory r.words) (min lent 64)) e refl refl))
          (packed r.machine.memory r.words) refl ∙ sym (held_is e)
      go false e = rw (stays_is e)

pub ruleset count_of_branches = (count_held, count_none)

-- A TABLE OF STRUCTS

module _ (s : Shown) (t : List Write) (whole : length s.writes ≡ 64) where
  put_is : (n : ℕ) → n ≤ 64 → n ≤ length t → put_to s n t ≡ take n s.writes ++ drop n t
  unfolding put_to write_in
  put_is zero h g = refl
  put_is (suc n) h g =
      let i : n % 64 ≡ n = mod-eq_of_lt (omega arith) in
      let l : length (take n s.writes) ≡ n = length-take-le n s.writes (omega arith) in
      rw (
        put_is n (omega arith) (omega arith),
        i,
        drop-cons t n no_write (omega arith),
        set_at (take n s.writes) (get_or t n no_write)
            (drop (suc n) t) (get_or s.writes n no_write) n l,
        take-suc s.writes n no_write (omega arith),
        append_assoc,
      )

  pub put_placed : (n : ℕ) → n ≤ 64 → n ≤ length t → put_to s n t ≡ placed (take n s.writes) t
  unfolding placed
  put_placed n h g = put_is n h g ∙ ap (λ (k : ℕ). take n s.writes ++ drop k t) (sym (length-take-le n s.writes (omega arith)))

pub put_length : (s : Shown) (n : ℕ) (t : List Write) → length (put_to s n t) ≡ length t
unfolding put_to
put_length s zero t = refl
put_length s (suc n) t = length-set (put_to s n t) n (write_in s n) ∙ put_length s n t

pub put_next : (s : Shown) (n : ℕ) (t l : List Write) (w : Write) → l ≡ put_to s n t → w ≡ write_in s n → set l n w ≡ put_to s (suc n) t
unfolding put_to
put_next s n t l w e d = rw (e, d)

pub put_none : (s : Shown) (t : List Write) → t ≡ put_to s 0 t
unfolding put_to
put_none s t = refl

-- what each file of the output needs

pub ruleset shown_ways = (count_held, count_none, shown_made, shown_whole, tests)

pub ruleset copies = (copy_none, copy_more, copy_all, copied, numbers_length, entry_length, tests)

pub ruleset laid_ways = (laid_none, laid_next, laid_all, tests)
