-- The first fault of a formula from the left, 0 for none. Its tree and its end are those of `parseTree`.
use Rattle.std.specs.Prelude.{ℕ, zero, suc, ◌+◌, ◌/◌, List, Bool, true, false, cond, length, get_or, ltb, leb, eqb, Result, Ok, Err}
use Rattle.semantics.specs.Code
use Rattle.semantics.specs.Code.{byte}
use Rattle.limits.specs.Limits.{nesting}
use Rattle.formula.specs.Codes.{fits_at, has_operand, part_place}
use Rattle.formula.specs.Tree.{node_at, parse_tree}
use Rattle.formula.specs.declared.reader.Counts.{Counts}
use Rattle.formula.specs.declared.reader.Fault.{Fault}
use Rattle.formula.specs.declared.reader.Fault.TheVariants.{Range, Malformed}

-- code 6, a number outside its range
abbrev pub range : ℕ
range = 6

-- code 7, "code unknown or unfit at its place, nesting, cut short, left over"
abbrev pub malformed : ℕ
malformed = 7

-- the code of a fault
abbrev pub number_of : Fault → ℕ
number_of Range = range
number_of Malformed = malformed

-- the fault of a code
abbrev pub fault_named : ℕ → Fault
fault_named c = cond (eqb c range) Range Malformed

-- a result is a fault, or a position plus 8
abbrev pub limit : ℕ
limit = 8

-- the fault, or the position end plus 8 if there is none
abbrev pub answer : ℕ → ℕ → ℕ
answer fault end = cond (eqb fault 0) (end + limit) fault

-- constants from 0; registers, threads and words from 1
unfoldable pub in_range : Counts → ℕ → ℕ → Bool
in_range n c o =
    cond (eqb c (byte Code.const)) (ltb o n.values)
    (cond (eqb o 0) false
    (cond (eqb c (byte Code.reg)) (leb o n.registers) (cond (eqb c (byte Code.sees)) (leb o n.threads) (leb o n.words))))

-- the fault of the operand at a position, of the code c
unfoldable pub operand_fault : List ℕ → Counts → ℕ → ℕ → ℕ
operand_fault s n c at = cond (ltb at (length s)) (cond (in_range n c (get_or s at 0)) 0 range) malformed

-- the fault of an operand, or the position past it
unfoldable pub operand_answer : List ℕ → Counts → ℕ → ℕ → ℕ
operand_answer s n c at = answer (operand_fault s n c at) (at + 1)

-- the fault of a node's own bytes
unfoldable pub head_fault : List ℕ → Counts → ℕ → ℕ → ℕ
head_fault s n place at =
    cond (ltb at (length s))
    (cond (fits_at (get_or s at 0) place) (cond (has_operand (get_or s at 0)) (operand_fault s n (get_or s at 0) (at + 1)) 0) malformed)
    malformed

-- the fault of a node's own bytes, or the position past them
unfoldable pub head_answer : List ℕ → Counts → ℕ → ℕ → ℕ
head_answer s n place at = answer (head_fault s n place at) (node_at s at).next

-- the first fault of two
abbrev pub first : ℕ → ℕ → ℕ
first a b = cond (eqb a 0) b a

-- the fault of a part, if there is one
abbrev pub part_fault : (ℕ → ℕ) → Bool → ℕ → ℕ
part_fault f true at = f at
part_fault f false at = 0

-- the first fault of the formula at a position, nested at most k deep: its own, then those of its parts
unfoldable pub fault_at : List ℕ → Counts → ℕ → ℕ → ℕ → ℕ
fault_at s n zero place at = malformed
fault_at s n (suc k) place at =
    first (head_fault s n place at)
    (first (part_fault (λ p. fault_at s n k (part_place (node_at s at).code place) p) (ltb 0 (node_at s at).parts) (node_at s at).next)
    (part_fault (λ p. fault_at s n k (part_place (node_at s at).code place) (parse_tree s k p).end) (ltb 1 (node_at s at).parts)
    (node_at s at).next))

-- the first fault of the formula at a position, or the position past it
unfoldable pub read_answer : List ℕ → Counts → ℕ → ℕ → ℕ → ℕ
read_answer s n k place at = answer (fault_at s n k place at) (parse_tree s k at).end

-- a code's sort is the code divided by 8
abbrev pub sort_from : List ℕ → ℕ → ℕ
sort_from s at = get_or s at 0 / 8

-- a body from a position on: the sort of its first code, or its first fault; bytes left over come last
abbrev pub reading_from : List ℕ → Counts → ℕ → Result ℕ Fault
reading_from s n at =
    cond (eqb (fault_at s n nesting (sort_from s at) at) 0)
    (cond (eqb (parse_tree s nesting at).end (length s)) (Ok (sort_from s at)) (Err Malformed))
    (Err (fault_named (fault_at s n nesting (sort_from s at) at)))

-- the sort of the formula that a body is
abbrev pub sort_of : List ℕ → ℕ
sort_of s = sort_from s 0

-- a whole body
unfoldable pub reading_of : List ℕ → Counts → Result ℕ Fault
reading_of s n = reading_from s n 0
