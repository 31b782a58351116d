-- What an image says as the code finds it: a formula by its position in the image, a line and an instruction by their numbers and
-- positions.
use Rattle.std.specs.Prelude.{Bool, true, cond, List, ℕ, ◌+◌, eqb, leb, ltb, length, get_or, drop}
use Rattle.limits.specs.Numbers.{le16}
use Rattle.logic.specs.Opcode as Opcode
use Rattle.image_header.specs.declared.instruction.Instruction.{Instruction}
use Rattle.image_header.specs.Instruction.{first_operation}
use Rattle.image_index.specs.IndexTable.{place_of}
use Rattle.image_meaning.specs.Certificate.{left, right}
use Rattle.image_access.specs.declared.line.Line.{Line}
use Rattle.image_access.specs.declared.acting_instruction.Acting.{Acting}
use Rattle.image_access.specs.declared.claim.Claimed.{Claimed}

-- the position of the body of the record at position p: after its length and its kind. Past the last record there is none
unfoldable pub body_start : List ℕ → ℕ → ℕ
body_start s p = cond (ltb p (length s)) (p + 4) (length s)

-- the position of formula k; where there is none, the end of the image, whose tree is that of the constant 0
unfoldable pub formula_at : List ℕ → ℕ → ℕ
formula_at s k = cond (eqb k 0) (length s) (body_start s (place_of s k))

-- the line in a body
unfoldable pub line_in : List ℕ → List ℕ → Line
line_in s b = record {
  rule = get_or b 0 0;
  thread = get_or b 1 0;
  point = get_or b 2 0;
  left = formula_at s (left b);
  right = formula_at s (right b);
  count = get_or b 7 0;
}

-- the claim in a body
unfoldable pub claimed_in : List ℕ → Claimed
claimed_in b = record { thread = get_or b 0 0; point = get_or b 1 0; other = get_or b 2 0; other_point = get_or b 3 0; line = le16 (drop 4 b) }

-- an instruction by its fields
abbrev pub acts : ℕ → ℕ → ℕ → ℕ → ℕ → ℕ → ℕ → Acting
acts op whole x r f q g = record { operation = op; whole = whole; word = x; register = r; formula = f; noted = q; note = g }

-- field a is the register: so it is for assignments and loads
unfoldable pub register_first : ℕ → Bool
register_first op = cond (leb op Opcode.acquire) true (eqb op Opcode.assign_two)

-- an instruction's operation, word, register and formula, and its second half; a field that it does not use is 0
unfoldable pub acting_of : List ℕ → Instruction → Acting
acting_of s i =
    cond (eqb i.operation Opcode.branch) (acts i.operation i.operation 0 0 (length s) 0 (length s))
    (cond (register_first i.operation)
    (acts i.operation i.operation i.b i.a (formula_at s i.formula) i.second.a (formula_at s i.second.formula))
    (acts (first_operation i.operation) i.operation i.a i.b (formula_at s i.formula) i.second.a
    (formula_at s i.second.formula)))
