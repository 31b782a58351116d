-- Stored bills, and answers compared with them; s is what is stored.
use Rattle.std.specs.Prelude.{ℕ, min, Bool, ◌&&◌, List, [], ◌∷◌, drop, replicate, ◌==◌}
use Rattle.limits.specs.Numbers.{le16}
use Rattle.bill_spec.specs.Output.{tariff_of}
use Rattle.bill_spec.specs.declared.tariff.Tariff.{Tariff}
use Rattle.vectors.specs.Number.{long}
use Rattle.vectors.specs.Room.{holds, written}

-- five prices of 16 bits
unfoldable pub tariff_at : List ℕ → Tariff
tariff_at s = tariff_of (le16 (drop 0 s)) (le16 (drop 2 s)) (le16 (drop 4 s)) (le16 (drop 6 s)) (le16 (drop 8 s))

-- the number of images billed before
unfoldable pub billed_at : List ℕ → ℕ
billed_at s = long (drop 10 s)

-- how many numbers the buffer has
abbrev pub most : ℕ
most = 24

-- every number of the buffer before the call
abbrev pub blank : ℕ
blank = 2863311530

-- the buffer before the call
unfoldable pub room : List ℕ
room = replicate most blank

-- how many numbers of the buffer are passed
unfoldable pub lent_at : List ℕ → ℕ
lent_at s = min (long (drop 14 s)) most

-- the code
abbrev pub code_at : List ℕ → ℕ
code_at s = le16 (drop 18 s)

-- cents, the number afterwards, the sums of threads
unfoldable pub numbers_at : List ℕ → List ℕ
numbers_at s = long (drop 20 s) ∷ long (drop 24 s) ∷ long (drop 28 s) ∷ long (drop 32 s) ∷ long (drop 36 s) ∷ long (drop 40 s) ∷ []

-- the numbers written; with code 1 there are none
abbrev pub written_at : ℕ → List ℕ → List ℕ
written_at code s = written code (numbers_at s)

-- the code and the whole buffer afterwards are as stored
unfoldable pub same_answer : ℕ → List ℕ → List ℕ → Bool
same_answer code after s = code == code_at s && holds after (written_at code s) blank
