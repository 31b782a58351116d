-- What a formula's code alone determines: where it fits, its operand, its parts.
use Rattle.std.specs.Prelude.{ℕ, ◌+◌, ◌-◌, ◌/◌, ◌%◌, ◌^◌, Bool, true, false, cond, List, [], ◌∷◌, ltb, eqb}
use Rattle.semantics.specs.Code.{Code, byte}

-- c is the byte of one of these codes
abbrev pub among : ℕ → List Code → Bool
among c [] = false
among c (k ∷ l) = cond (eqb c (byte k)) true (among c l)

-- places: a formula of a sort, or one over registers alone, as under `holds`
abbrev pub value : ℕ
value = 0

abbrev pub test : ℕ
test = 1

abbrev pub interval : ℕ
interval = 2

abbrev pub assertion : ℕ
assertion = 3

abbrev pub reg_value : ℕ
reg_value = 4

abbrev pub reg_test : ℕ
reg_test = 5

-- the codes that fit at a place
abbrev pub codes_at : ℕ → List Code
codes_at p =
    cond (eqb p value) (Code.const ∷ Code.reg ∷ Code.word ∷ Code.sum ∷ [])
    (cond (eqb p test) (Code.false ∷ Code.equal ∷ Code.less ∷ Code.not ∷ Code.and ∷ Code.or ∷ Code.unsync ∷ Code.cov ∷ [])
    (cond (eqb p interval) (Code.box ∷ Code.one ∷ Code.chop ∷ Code.both ∷ Code.either ∷ [])
    (cond (eqb p assertion) (Code.sees ∷ Code.both_a ∷ Code.either_a ∷ Code.start ∷ Code.holds ∷ [])
    (cond (eqb p reg_value) (Code.const ∷ Code.reg ∷ Code.sum ∷ [])
    (cond (eqb p reg_test) (Code.false ∷ Code.equal ∷ Code.less ∷ Code.not ∷ Code.and ∷ Code.or ∷ []) [])))))

-- the code c fits at the place p
unfoldable pub fits_at : ℕ → ℕ → Bool
fits_at c p = among c (codes_at p)

-- the codes that an operand byte follows
abbrev pub operand_codes : List Code
operand_codes = Code.const ∷ Code.reg ∷ Code.word ∷ Code.unsync ∷ Code.cov ∷ Code.one ∷ Code.sees ∷ []

-- the codes with one part
abbrev pub one_part : List Code
one_part = Code.not ∷ Code.box ∷ Code.sees ∷ Code.holds ∷ []

-- the codes with two parts
abbrev pub two_parts : List Code
two_parts = Code.sum ∷ Code.equal ∷ Code.less ∷ Code.and ∷ Code.or ∷ Code.chop ∷ Code.both ∷ Code.either ∷ Code.both_a ∷ Code.either_a ∷ []

-- the codes whose parts are of the sort below their own
abbrev pub lower_parts : List Code
lower_parts = Code.equal ∷ Code.less ∷ Code.box ∷ Code.sees ∷ []

-- an operand byte follows the code
unfoldable pub has_operand : ℕ → Bool
has_operand c = among c operand_codes

-- the number of parts
unfoldable pub part_count : ℕ → ℕ
part_count c = cond (among c two_parts) 2 (cond (among c one_part) 1 0)

-- the place of a code's parts; below a place over registers alone it is over registers alone
unfoldable pub part_place : ℕ → ℕ → ℕ
part_place c p = cond (eqb c (byte Code.holds)) reg_test (cond (among c lower_parts) (p - 1) p)

-- a set of codes as a number with a bit for each
abbrev pub set_of : List Code → ℕ
set_of [] = 0
set_of (k ∷ l) = 2 ^ byte k + set_of l

-- the set of codes that fit at a place
unfoldable pub set_at : ℕ → ℕ
set_at p = set_of (codes_at p)

-- the code c is in the set n
unfoldable pub member : ℕ → ℕ → Bool
member n c = cond (ltb c 32) (eqb ((n / (2 ^ c)) % 2) 1) false
