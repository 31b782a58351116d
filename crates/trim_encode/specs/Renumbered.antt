-- What a record names, renumbered by tables: formulas by f, lines by g.
use Rattle.std.specs.Prelude.{cond, List, ℕ, ◌-◌, ltb, length, get_or}
use Rattle.image_header.specs.declared.instruction.Half.{Half}
use Rattle.image_header.specs.declared.instruction.Instruction.{Instruction}
use Rattle.trim_spec.specs.Document.{LineRecord, ClaimRecord}
use Rattle.trim_spec.specs.Trim.{half_by, instruction_by, line_by, claim_by}

-- the new number of n in the table t; past its end, the last one that it has
unfoldable pub renewed : List ℕ → ℕ → ℕ
renewed t n = cond (ltb n (length t)) (get_or t n 0) (get_or t (length t - 1) 0)

-- a second half, renumbered; an instruction names no line, so that the table of formulas is enough
unfoldable pub renewed_half : List ℕ → Half → Half
renewed_half f h = half_by (renewed f) (renewed f) h

-- an instruction, renumbered
unfoldable pub renewed_instruction : List ℕ → Instruction → Instruction
renewed_instruction f i = instruction_by (renewed f) (renewed f) i

-- a certificate line, renumbered
unfoldable pub renewed_line : List ℕ → List ℕ → LineRecord → LineRecord
renewed_line f g v = line_by (renewed f) (renewed g) v

-- a claim, renumbered; it names no formula, so that the table of lines is enough
unfoldable pub renewed_claim : List ℕ → ClaimRecord → ClaimRecord
renewed_claim g c = claim_by (renewed g) (renewed g) c
