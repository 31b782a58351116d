-- The numbers of an answer in the caller's buffer, and the bytes of the writes in the caller's table.
use mathlib.Core.Path.{◌≡◌, refl, ap}
use mathlib.Core.Bool.{Bool, true, false, cond}
use mathlib.Core.List.{List, [], ◌∷◌, ◌++◌}
use Prim.Native.Nat.{ℕ, zero, suc, ◌*◌, ◌≤◌, ◌<◌}
use native.Mathlib.Omega.{arith}
use lib.Dec.{ltb}
use lib.ListN.{length, get_or, take, drop}
use borrow.Author.Tests.{lt-ltb, le-ltb, ltb-false}
use Rattle.tables_columns.specs.Column.{column}
use Rattle.replay_memory.specs.Write.{start_write}
use Rattle.replay_memory.specs.declared.write.Write.{Write}
use Rattle.replay_machine.specs.declared.answer.Answer.{Answer}
use Rattle.replay_machine.specs.Answer.{size, numbers_of, code_for, numbers_for}
use Rattle.replay_machine.specs.OutputTable.{entry_bytes, table_bytes, laid, table_for}
use Rattle.replay_machine.specs.Replayed.{room_of}

-- "The caller lends a table of up to 64 writes"; "entries past the 64th are never used"
pub room_few : (lent : ℕ) → lent ≤ 64 → room_of lent ≡ lent
unfolding room_of
room_few lent h = go (ltb lent 64) refl
  where
    go : (b : Bool) → ltb lent 64 ≡ b → cond b lent 64 ≡ lent
    go true e = refl
    go false e = let q = ltb-false lent 64 e in omega arith

pub room_most : (lent : ℕ) → 64 ≤ lent → room_of lent ≡ 64
unfolding room_of
room_most lent h = rw (le-ltb lent 64 h)

-- a buffer that is too short for the numbers: 1, and all stays
module _ (a : Answer) (l : List Write) (room table : List ℕ) (short : length room < 21) where
  pub short_code : code_for a room ≡ 1
  unfolding code_for
  short_code = rw (lt-ltb (length room) size short)

  pub short_numbers : numbers_for a room ≡ room
  unfolding numbers_for
  short_numbers = rw (lt-ltb (length room) size short)

  pub short_table : table_for l room table ≡ table
  unfolding table_for
  short_table = rw (lt-ltb (length room) size short)

module _ (a : Answer) (l : List Write) (room table : List ℕ) (enough : 21 ≤ length room) where
  pub own_code : code_for a room ≡ a.code
  unfolding code_for
  own_code = rw (le-ltb (length room) size enough)

  own_numbers : numbers_for a room ≡ numbers_of a ++ drop 21 room
  unfolding numbers_for
  own_numbers = rw (le-ltb (length room) size enough)

  -- the steps, the points of threads 1 to 4, registers 1 to 16, and behind them what was there
  pub told_steps : get_or (numbers_for a room) 0 0 ≡ a.steps
  unfolding numbers_of
  told_steps = ap (λ (n : List ℕ). get_or n 0 0) own_numbers

  pub told_points : take 4 (drop 1 (numbers_for a room))
      ≡ get_or a.points 0 0 ∷ get_or a.points 1 0 ∷ get_or a.points 2 0 ∷ get_or a.points 3 0 ∷ []
  unfolding numbers_of column
  told_points = ap (λ (n : List ℕ). take 4 (drop 1 n)) own_numbers

  pub told_registers : take 16 (drop 5 (numbers_for a room)) ≡ column (λ r. get_or a.registers r 0) 16
  unfolding numbers_of column
  told_registers = ap (λ (n : List ℕ). take 16 (drop 5 n)) own_numbers

  pub told_behind : drop 21 (numbers_for a room) ≡ drop 21 room
  unfolding numbers_of column
  told_behind = ap (λ (n : List ℕ). drop 21 n) own_numbers

  pub own_table : table_for l room table ≡ table_bytes l ++ drop (length l * 11) table
  unfolding table_for laid
  own_table = rw (le-ltb (length room) size enough)

-- entry e of the bytes of a list of writes: eleven bytes
pub entry_at : (l : List Write) (r : List ℕ) (e : ℕ) → e < length l
    → take 11 (drop (11 * e) (table_bytes l ++ r)) ≡ entry_bytes (get_or l e (start_write 0))
unfolding table_bytes entry_bytes column
entry_at [] r e h = absurd (omega arith)
entry_at (w ∷ l) r zero h = refl
entry_at (w ∷ l) r (suc e) h =
    let q : 11 * suc e ≡ suc (suc (suc (suc (suc (suc (suc (suc (suc (suc (suc (11 * e))))))))))) = omega arith in
    rw q (entry_at l r e (omega arith))

-- no write: the table stays
pub none_laid : (table : List ℕ) → table_bytes [] ++ drop (length {A = Write} [] * 11) table ≡ table
unfolding table_bytes
none_laid table = refl
