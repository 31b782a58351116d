-- One instruction: operation, a, b, formula; operations 9 to 12 are followed by a second half of the same form.
use Rattle.std.specs.Prelude.{Bool, true, false, not, ◌&&◌, cond, List, ℕ, eqb, ltb, leb, get_or, drop}
use Rattle.logic.specs.Opcode as Opcode
use Rattle.limits.specs.Numbers.{le16, within}
use Rattle.image_header.specs.declared.sizes.Sizes.{Sizes}
use Rattle.image_header.specs.declared.instruction.Half.{Half}
use Rattle.image_header.specs.declared.instruction.Instruction.{Instruction}
use Rattle.image_header.specs.declared.instruction.Range.{Range}
use Rattle.image_header.specs.declared.instruction.Fields.{Fields}

-- the operations with a second half: 9 to 12
unfoldable pub twofold : ℕ → Bool
twofold op = cond (ltb op Opcode.pair_store) false (leb op Opcode.assign_two)

-- a pair: "operation 9, 10 or 11 .. followed by five bytes of an ordinary assignment"
unfoldable pub pair_operation : ℕ → Bool
pair_operation op = cond (ltb op Opcode.pair_store) false (leb op Opcode.pair_swap)

-- the operation of a pair's first half; any other operation is its own
unfoldable pub first_operation : ℕ → ℕ
first_operation op =
    cond (eqb op Opcode.pair_store) Opcode.store (cond (eqb op Opcode.pair_release) Opcode.release
    (cond (eqb op Opcode.pair_swap) Opcode.swap op))

-- "operations 9 to 12 have ten bytes, any other, unknown ones too, five"
unfoldable pub instruction_size : ℕ → ℕ
instruction_size op = cond (twofold op) 10 5

-- the half in the first five bytes
unfoldable pub half : List ℕ → Half
half l = record { operation = get_or l 0 0; a = get_or l 1 0; b = get_or l 2 0; formula = le16 (drop 3 l) }

-- the second half of an instruction that has none
abbrev pub no_half : Half
no_half = record { operation = 0; a = 0; b = 0; formula = 0 }

-- the second half of the instruction at the start of the bytes, by its operation
unfoldable pub second_half : ℕ → List ℕ → Half
second_half op l = cond (twofold op) (half (drop 5 l)) no_half

-- the instruction at the start of the bytes
unfoldable pub instruction : List ℕ → Instruction
instruction l = record {
  operation = get_or l 0 0;
  a = get_or l 1 0;
  b = get_or l 2 0;
  formula = le16 (drop 3 l);
  second = second_half (get_or l 0 0) l;
}

-- the numbers from low to high
abbrev pub range : ℕ → ℕ → Range
range low high = record { low = low; high = high }

-- "unused fields are 0"
abbrev pub unused : Range
unused = range 0 0

-- the ranges of a, b and the formula
abbrev pub fields : Range → Range → Range → Fields
fields a b f = record { a = a; b = b; formula = f }

-- the ranges of an operation's fields in a thread whose last point is given; field a of an unknown operation has the empty range 1 to 0
unfoldable pub fields_of : ℕ → ℕ → Sizes → Fields
fields_of op last z =
    cond (eqb op Opcode.assign) (fields (range 1 z.registers) unused (range 1 z.formulas))
    (cond (leb op Opcode.acquire) (fields (range 1 z.registers) (range 1 z.words) unused)
    (cond (leb op Opcode.swap) (fields (range 1 z.words) unused (range 1 z.formulas))
    (cond (eqb op Opcode.branch) (fields (range 0 last) unused (range 1 z.formulas))
    (cond (leb op Opcode.fetch_add) (fields (range 1 z.words) (range 1 z.registers) (range 1 z.formulas))
    (cond (leb op Opcode.pair_swap) (fields (range 1 z.words) unused (range 1 z.formulas))
    (cond (eqb op Opcode.assign_two) (fields (range 1 z.registers) unused (range 1 z.formulas))
    (fields (range 1 0) unused (range 1 z.formulas))))))))

-- x is in the range
abbrev pub inside : Range → ℕ → Bool
inside r x = within r.low r.high x

-- the three fields are in their ranges
unfoldable pub fields_fit : Instruction → Fields → Bool
fields_fit i f = inside f.a i.a && (inside f.b i.b && inside f.formula i.formula)

-- a second half is an assignment ("another operation there is code 6") with its fields in range
unfoldable pub half_fits : Sizes → Half → Bool
half_fits z h =
    within Opcode.assign Opcode.assign h.operation
    && (within 1 z.registers h.a && (within 0 0 h.b && within 1 z.formulas h.formula))

-- the two assignments of operation 12 are to different registers
abbrev pub differ : Instruction → Bool
differ i = cond (eqb i.operation Opcode.assign_two) (not (eqb i.a i.second.a)) true

-- the second half, if the operation has one, is in range
unfoldable pub second_fits : Sizes → Instruction → Bool
second_fits z i = cond (twofold i.operation) (half_fits z i.second && differ i) true

-- every field of the instruction and of its second half is in its range
unfoldable pub ranged : ℕ → Sizes → Instruction → Bool
ranged last z i = fields_fit i (fields_of i.operation last z) && second_fits z i
