-- A front of the room is lent, and the rest stays.
use Rattle.std.proofs.Common.{◌≡◌, ℕ, ◌≤◌, List, ◌++◌, length, take, drop, arith, length-append, length-drop, length-take-le}
use Rattle.vectors.specs.CallAnswer.{most_bytes, most_numbers, blank_table, blank_numbers, lent_at}

lent_within : (s : List ℕ) (at most n : ℕ) → n ≡ lent_at s at most → n ≤ most
unfolding lent_at
lent_within s at most n e = omega arith

table_length : {r : List ℕ} → r ≡ blank_table → length r ≡ most_bytes
unfolding blank_table
table_length q = rw q

numbers_length : {r : List ℕ} → r ≡ blank_numbers → length r ≡ most_numbers
unfolding blank_numbers
numbers_length q = rw q

module _ (s r : List ℕ) (at most n : ℕ) (e : n ≡ lent_at s at most) (z : length r ≡ most) where
  fits : n ≤ length r
  fits = rw z (lent_within s at most n e)

  front : n ≡ length (take n r)
  front = rw (length-take-le n r fits)

  back : (after : List ℕ) → length after ≡ length (take n r) → most ≡ length (after ++ drop n r)
  back after l = let h = lent_within s at most n e in rw (length-append after (drop n r), l, length-drop n r, z, ← front) (omega arith)

module _ (s r : List ℕ) (at n : ℕ) (e : n ≡ lent_at s at most_bytes) (q : r ≡ blank_table) where
  pub table_fits : n ≤ length r
  table_fits = fits s r at most_bytes n e (table_length q)

  pub table_front : n ≡ length (take n r)
  table_front = front s r at most_bytes n e (table_length q)

  pub table_back : (after : List ℕ) → length after ≡ length (take n r) → most_bytes ≡ length (after ++ drop n r)
  table_back = back s r at most_bytes n e (table_length q)

module _ (s r : List ℕ) (at n : ℕ) (e : n ≡ lent_at s at most_numbers) (q : r ≡ blank_numbers) where
  pub numbers_fit : n ≤ length r
  numbers_fit = fits s r at most_numbers n e (numbers_length q)

  pub numbers_front : n ≡ length (take n r)
  numbers_front = front s r at most_numbers n e (numbers_length q)

  pub numbers_back : (told : List ℕ) → length told ≡ length (take n r) → most_numbers ≡ length (told ++ drop n r)
  numbers_back = back s r at most_numbers n e (numbers_length q)

  pub numbers_room : (told : List ℕ) → length told ≡ length (take n r) → 21 ≤ length (told ++ drop n r)
  numbers_room told l = let h = numbers_back told l in omega arith
