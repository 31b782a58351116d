-- The trimmed document: live lines and formulas in their old order and renumbered; everything else as it was.
use Rattle.std.specs.Prelude.{Bool, List, map, ℕ}
use Rattle.image_header.specs.declared.instruction.Half.{Half}
use Rattle.image_header.specs.declared.instruction.Instruction.{Instruction}
use Rattle.trim_spec.specs.Document.{Document, LineRecord, ClaimRecord}
use Rattle.trim_spec.specs.Live.{selected, renumbered, kept, used}

-- renumbering, of formulas by f and of lines by g
module _ (f g : ℕ → ℕ) where
  -- a second half, renumbered
  unfoldable pub half_by : Half → Half
  half_by h = record { operation = h.operation; a = h.a; b = h.b; formula = f h.formula }

  -- an instruction, renumbered
  unfoldable pub instruction_by : Instruction → Instruction
  instruction_by i = record { operation = i.operation; a = i.a; b = i.b; formula = f i.formula; second = half_by i.second }

  -- a certificate line, renumbered
  unfoldable pub line_by : LineRecord → LineRecord
  line_by v = record {
    rule = v.rule;
    thread = v.thread;
    point = v.point;
    left = f v.left;
    right = f v.right;
    premises = map g v.premises;
  }

  -- a claim, renumbered
  unfoldable pub claim_by : ClaimRecord → ClaimRecord
  claim_by c = record { thread = c.thread; point = c.point; other = c.other; other_point = c.other_point; line = g c.line }

-- the document with the formulas that u marks and the lines that k marks
abbrev pub trimmed_by : List Bool → List Bool → Document → Document
trimmed_by u k D = record {
  header = D.header;
  formulas = selected u D.formulas;
  threads = map (λ l. map (instruction_by (renumbered u) (renumbered k)) l) D.threads;
  outline = map (renumbered u) D.outline;
  lines = map (line_by (renumbered u) (renumbered k)) (selected k D.lines);
  obligations = map (renumbered k) D.obligations;
  claims = map (claim_by (renumbered u) (renumbered k)) D.claims;
}

-- "only the lines on which some obligation rests, and only the formulas that are still used, in their old order and renumbered"
unfoldable pub trim : Document → Document
trim D = trimmed_by (used D) (kept D) D
