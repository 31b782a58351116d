-- What the lines of a certificate conclude, their formulas by position.
use Rattle.std.specs.Prelude.{cond, List, ℕ}
use Rattle.image_frames.specs.Records.{bodies}
use Rattle.image_header.specs.declared.sizes.Sizes.{Sizes}
use Rattle.image_header.specs.Instruction.{pair_operation}
use Rattle.image_bodies.specs.RecordPlaces.{instruction_of}
use Rattle.image_meaning.specs.Certificate.{line_body}
use Rattle.image_access.specs.AccessPlaces.{line_in}
use Rattle.image_access.specs.declared.line.Line.{Line}
use Rattle.rules_table.specs.RuleTable.{same_form, rule_row}
use Rattle.rules_table.specs.declared.rule.Form.{Form}
use Rattle.rules_table.specs.declared.rule.Form.TheVariants.{Triple, Pair}
use Rattle.rules_line.specs.declared.conclusion.Conclusion.{Conclusion}

-- the form is that of the line's rule; a line of rule 50 at a point that has no pair counts as an ordinary triple
unfoldable pub spoken_form : Form → ℕ → Form
spoken_form f op = cond (same_form f Pair) (cond (pair_operation op) Pair Triple) f

-- what the line concludes, given the operation at its thread and point
unfoldable pub conclusion_by : Line → ℕ → Conclusion
conclusion_by l op = record {
  form = spoken_form (rule_row l.rule).form op;
  thread = l.thread;
  point = l.point;
  left = l.left;
  right = l.right;
}

-- line n of the certificate
unfoldable pub line_at : List ℕ → Sizes → ℕ → Line
line_at s z n = line_in s (line_body z (bodies s) n)

-- the operation at the line's thread and point
abbrev pub operation_at : List ℕ → Sizes → Line → ℕ
operation_at s z l = (instruction_of z (bodies s) l.thread l.point).operation

-- what line n concludes
unfoldable pub conclusion_of : List ℕ → Sizes → ℕ → Conclusion
conclusion_of s z n = conclusion_by (line_at s z n) (operation_at s z (line_at s z n))
