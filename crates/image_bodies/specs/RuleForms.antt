-- The rule numbers, by the form of their lines.
use Rattle.std.specs.Prelude.{ℕ}

abbrev pub first_triple : ℕ
first_triple = 1

abbrev pub last_triple : ℕ
last_triple = 16

abbrev pub first_implication : ℕ
first_implication = 20

abbrev pub last_implication : ℕ
last_implication = 27

abbrev pub first_inclusion : ℕ
first_inclusion = 30

abbrev pub last_inclusion : ℕ
last_inclusion = 46

-- the triples of exchange and fetch-add, 47 to 49, follow the last inclusion
abbrev pub last_result : ℕ
last_result = 49

-- the rule of a triple for a whole pair
abbrev pub pair : ℕ
pair = 50
