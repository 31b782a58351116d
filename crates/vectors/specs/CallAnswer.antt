-- Stored answers of replays, and answers compared with them.
use Rattle.std.specs.Prelude.{ℕ, ◌+◌, ◌*◌, min, Bool, ◌&&◌, List, drop, replicate, ◌==◌}
use Rattle.limits.specs.Numbers.{le16}
use Rattle.tables_columns.specs.Column.{column}
use Rattle.vectors.specs.Number.{long}
use Rattle.vectors.specs.Room.{holds, written}

-- how many bytes the table has
abbrev pub most_bytes : ℕ
most_bytes = 736

-- how many numbers the buffer has
abbrev pub most_numbers : ℕ
most_numbers = 32

-- every byte of the table before the call
abbrev pub blank : ℕ
blank = 170

-- every number of the buffer before the call
abbrev pub empty : ℕ
empty = 2863311530

-- the table before the call
unfoldable pub blank_table : List ℕ
blank_table = replicate most_bytes blank

-- the buffer before the call
unfoldable pub blank_numbers : List ℕ
blank_numbers = replicate most_numbers empty

-- how many bytes or numbers are passed, by the number stored at a position
unfoldable pub lent_at : List ℕ → ℕ → ℕ → ℕ
lent_at s at most = min (long (drop at s)) most

-- the code, in front of a stored answer s
abbrev pub code_at : List ℕ → ℕ
code_at s = le16 (drop 0 s)

-- steps, points, registers
unfoldable pub numbers_at : List ℕ → List ℕ
numbers_at s = column (λ i. long (drop (2 + 4 * i) s)) 21

-- the numbers written; with code 1 there are none
abbrev pub told_at : ℕ → List ℕ → List ℕ
told_at code s = written code (numbers_at s)

-- the code, the whole table and all of the numbers afterwards are as stored
unfoldable pub same_answer : ℕ → List ℕ → List ℕ → List ℕ → List ℕ → Bool
same_answer code after told s entries = code == code_at s && (holds after entries blank && holds told (told_at code s) empty)
