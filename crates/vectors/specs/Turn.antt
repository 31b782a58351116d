-- A stored turn at a service; s is what is stored.
use Rattle.std.specs.Prelude.{ℕ, ◌-◌, min, cond, Result, Ok, Err, List, drop, replicate, ◌==◌, slice_index}
use Rattle.limits.specs.Numbers.{le16}
use Rattle.bill_spec.specs.Output.{tariff_of}
use Rattle.bill_spec.specs.declared.tariff.Tariff.{Tariff}
use Rattle.vectors.specs.Number.{long}
use Rattle.vectors.specs.declared.turn.TurnKind.{TurnKind}
use Rattle.vectors.specs.declared.turn.TurnKind.TheVariants.{Open, Set, Check, Trim, Bill, Handover, Replay, ReplayAcross}
use Rattle.vectors.specs.declared.turn.UnknownTurn.{UnknownTurn}

-- what is done, by its number
abbrev pub turn_kind_by : ℕ → Result TurnKind UnknownTurn
turn_kind_by n =
    cond (n == 0) (Ok Open)
    (cond (n == 1) (Ok Set)
    (cond (n == 2) (Ok Check)
    (cond (n == 3) (Ok Trim)
    (cond (n == 4) (Ok Bill)
    (cond (n == 5) (Ok Handover) (cond (n == 6) (Ok Replay) (cond (n == 7) (Ok ReplayAcross) (Err (record { 0 = n })))))))))

-- the number of what is done
abbrev pub number_of : TurnKind → ℕ
number_of Open = 0
number_of Set = 1
number_of Check = 2
number_of Trim = 3
number_of Bill = 4
number_of Handover = 5
number_of Replay = 6
number_of ReplayAcross = 7

-- what the turn does
unfoldable pub turn_kind_of : List ℕ → Result TurnKind UnknownTurn
turn_kind_of s = turn_kind_by (slice_index s 0)

-- how many numbers of the service are passed: all sixteen but as many as are stored
unfoldable pub service_at : List ℕ → ℕ
service_at s = 16 - slice_index s 1

-- the caller of the turn
unfoldable pub caller_at : List ℕ → ℕ
caller_at s = long (drop 2 s)

-- what is stored from the lengths of the body's parts on
unfoldable pub lengths_at : List ℕ → List ℕ
lengths_at s = drop 6 s

-- the number that the host sets
unfoldable pub set_at : List ℕ → ℕ
set_at s = long (drop 30 s)

-- how many bytes the buffer of bytes has
abbrev pub most_bytes : ℕ
most_bytes = 64

-- how many numbers the buffer of numbers has
abbrev pub most_numbers : ℕ
most_numbers = 24

-- every byte of the buffer before the call
abbrev pub blank : ℕ
blank = 170

-- the buffer of bytes before the call
unfoldable pub bytes : List ℕ
bytes = replicate most_bytes blank

-- the buffer of numbers before the call
unfoldable pub numbers : List ℕ
numbers = replicate most_numbers 2863311530

-- how many bytes are passed
unfoldable pub bytes_at : List ℕ → ℕ
bytes_at s = min (long (drop 26 s)) most_bytes

-- how many numbers are passed
unfoldable pub numbers_at : List ℕ → ℕ
numbers_at s = min (long (drop 30 s)) most_numbers

-- five prices of 16 bits
unfoldable pub tariff_at : List ℕ → Tariff
tariff_at s = tariff_of (le16 (drop 34 s)) (le16 (drop 36 s)) (le16 (drop 38 s)) (le16 (drop 40 s)) (le16 (drop 42 s))
