-- The bounds of an image's counts and sizes. A bound that the logic has too is taken from there.
use Rattle.std.specs.Prelude.{ℕ, ◌+◌}
use Rattle.semantics.specs.Limits as Logic

-- "a byte after the register count gives the range, 2 to 16 values"; values are 0 to one below the range
abbrev pub fewest_values : ℕ
fewest_values = 2

-- the greatest value range
abbrev pub most_values : ℕ
most_values = 16

-- "four threads"
abbrev pub threads : ℕ
threads = 4

-- "words 1 to 8"
abbrev pub words : ℕ
words = 8

-- "registers 0 to 16"
abbrev pub registers : ℕ
registers = 16

-- "up to 16 points each"
abbrev pub points : ℕ
points = 16

-- "Formula, 1 to 500"
abbrev pub formulas : ℕ
formulas = 500

-- "1 to 255 bytes"
abbrev pub formula_bytes : ℕ
formula_bytes = 255

-- "nesting at most 16"
abbrev pub nesting : ℕ
nesting = 16

-- "Lines go to 4,000"
abbrev pub lines : ℕ
lines = 4000

-- "none to 16"
abbrev pub claims : ℕ
claims = 16

-- "premise count 0 to 4"
abbrev pub premises : ℕ
premises = Logic.premises

-- "262,144 bytes for the library"
abbrev pub image_bytes : ℕ
image_bytes = 262144

-- "the program still refuses above 65,535"
abbrev pub program_bytes : ℕ
program_bytes = 65535

-- one header, one outline and one obligations record, and the greatest counts of the kinds that repeat
abbrev pub records : ℕ
records = 3 + formulas + threads + lines + claims
