-- The operations of instructions, by their numbers in the image: 0 to 6 of the scope page, 7 and 8 of Change 1, 9 to 12 of Change 6.
use Rattle.std.specs.Prelude.{ℕ}

-- register a := f
abbrev pub assign : ℕ
assign = 0

-- a relaxed load into a of word b
abbrev pub load : ℕ
load = 1

-- an acquiring load
abbrev pub acquire : ℕ
acquire = 2

-- a relaxed store of f to a
abbrev pub store : ℕ
store = 3

-- a releasing store
abbrev pub release : ℕ
release = 4

-- a swap of f into a
abbrev pub swap : ℕ
swap = 5

-- a branch on f to point a
abbrev pub branch : ℕ
branch = 6

-- a swap of f into a that puts the old value into register b
abbrev pub exchange : ℕ
exchange = 7

-- a swap that stores old value plus f in a and puts the old value into register b
abbrev pub fetch_add : ℕ
fetch_add = 8

-- a pair: a relaxed store and an assignment in one step
abbrev pub pair_store : ℕ
pair_store = 9

-- a pair: a releasing store and an assignment in one step
abbrev pub pair_release : ℕ
pair_release = 10

-- a pair: a swap and an assignment in one step
abbrev pub pair_swap : ℕ
pair_swap = 11

-- assignments to two registers in one step
abbrev pub assign_two : ℕ
assign_two = 12
