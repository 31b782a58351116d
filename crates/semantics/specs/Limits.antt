-- The limits of the scope page that the logic knows. Counts of threads, words, registers, points and values are the program's.
use Rattle.std.specs.Prelude.{ℕ}

-- by rows: at most this many rows
abbrev pub rows : ℕ
rows = 4096

-- rule 20: at most this many distinct leaves in line and premises
abbrev pub leaves : ℕ
leaves = 10

-- rule 20: at most this many premises
abbrev pub premises : ℕ
premises = 4
