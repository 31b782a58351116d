-- A line: "rule, thread, point (bytes), left and right formula (16 bits), premise count 0 to 4 (byte), premises (16 bits, lower line
-- numbers)".
use Rattle.std.specs.Prelude.{Bool, false, not, ◌&&◌, cond, List, ℕ, ◌+◌, ◌*◌, eqb, leb, ltb, length, get_or, drop}
use Rattle.logic.specs.Opcode as Opcode
use Rattle.limits.specs.Limits as Limits
use Rattle.limits.specs.Numbers.{le16, has, numbers, within, every}
use Rattle.image_frames.specs.Fault.{unless, Checked, passed}
use Rattle.image_frames.specs.declared.fault.Fault.TheVariants.{Body, Number}
use Rattle.image_header.specs.declared.sizes.Sizes.{Sizes}
use Rattle.image_bodies.specs.RecordPlaces.{instruction_of}
use Rattle.image_bodies.specs.RuleForms as Rules
use Rattle.image_bodies.specs.declared.line.Form.{Form}
use Rattle.image_bodies.specs.declared.line.Form.TheVariants.{Triple, Implication, Inclusion, Pair, Unlisted}

-- "Rules run 1 to 16, 20 to 27, 30 to 46"; 47 to 49 are triples of exchange and fetch-add, 50 is the triple for a whole pair
unfoldable pub form_of : ℕ → Form
form_of r =
    cond (ltb r Rules.first_triple) Unlisted
    (cond (leb r Rules.last_triple) Triple
    (cond (ltb r Rules.first_implication) Unlisted
    (cond (leb r Rules.last_implication) Implication
    (cond (ltb r Rules.first_inclusion) Unlisted
    (cond (leb r Rules.last_inclusion) Inclusion
    (cond (leb r Rules.last_result) Triple
    (cond (eqb r Rules.pair) Pair
    Unlisted)))))))

-- the premises of a line, by its count as written
unfoldable pub premises : List ℕ → List ℕ
premises b = numbers (get_or b 7 0) (drop 8 b)

-- the length "by the counts as written"
unfoldable pub line_size : List ℕ → ℕ
line_size b = 8 + 2 * get_or b 7 0

-- "triples name an instruction that is no branch"
unfoldable pub triple_at : Sizes → List (List ℕ) → List ℕ → Bool
triple_at z l b = not (eqb (instruction_of z l (get_or b 1 0) (get_or b 2 0)).operation Opcode.branch)

-- "other lines have thread and point 0"
unfoldable pub nowhere : List ℕ → Bool
nowhere b = within 0 0 (get_or b 1 0) && within 0 0 (get_or b 2 0)

-- thread and point fit the line's form; an unlisted rule fits nowhere
unfoldable pub placed : Sizes → List (List ℕ) → Form → List ℕ → Bool
placed z l Triple b = triple_at z l b
placed z l Implication b = nowhere b
placed z l Inclusion b = nowhere b
placed z l Pair b = triple_at z l b
placed z l Unlisted b = false

-- both formulas exist; at most 4 premises, each of them one of the lower lines
unfoldable pub numbered : Sizes → ℕ → List ℕ → Bool
numbered z lower b =
    within 1 z.formulas (le16 (drop 3 b))
    && (within 1 z.formulas (le16 (drop 5 b)) && (within 0 Limits.premises (get_or b 7 0) && every (within 1 lower) (premises b)))

-- code 5, then code 6, for a line with this number of lines before it
unfoldable pub line_numbers : Sizes → List (List ℕ) → ℕ → List ℕ → Checked
line_numbers z l lower b =
    unless (has 8 b) Body
    (unless (eqb (length b) (line_size b)) Body
    (unless (placed z l (form_of (get_or b 0 0)) b) Number
    (unless (numbered z lower b) Number
    passed)))
