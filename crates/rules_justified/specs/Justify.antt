-- One pass over the lines: the marks of the first lines. s: the image; t: the templates; z: its sizes; m: marks.
use Rattle.std.specs.Prelude.{Bool, true, false, cond, List, ℕ, zero, suc, get_or}
use Rattle.image_frames.specs.Records.{bodies}
use Rattle.image_header.specs.declared.sizes.Sizes.{Sizes}
use Rattle.image_bodies.specs.Line.{premises}
use Rattle.image_meaning.specs.Certificate.{line_body}
use Rattle.rules_table.specs.RuleTable.{templates}
use Rattle.rules_line.specs.LineConclusion.{line_at}
use Rattle.rules_line.specs.RuleInstance.{fits_line}
use Rattle.rules_justified.specs.Marks.{no_marks, is_marked, with_mark}
use Rattle.rules_justified.specs.declared.marks.Marks.{Marks}

-- the first k premises of line n have marks
unfoldable pub premises_marked : List ℕ → Sizes → ℕ → Marks → ℕ → Bool
premises_marked s z n m zero = true
premises_marked s z n m (suc k) = cond (premises_marked s z n m k) (is_marked m (get_or (premises (line_body z (bodies s) n)) k 0)) false

-- line n is an instance of its rule, and all its premises have marks
unfoldable pub is_justified : List ℕ → List ℕ → Sizes → ℕ → Marks → Bool
is_justified s t z n m = cond (premises_marked s z n m (line_at s z n).count) (fits_line s t z n) false

-- the marks after the first n lines are judged
unfoldable pub marks_to : List ℕ → Sizes → ℕ → Marks
marks_to s z zero = no_marks
marks_to s z (suc n) = with_mark (marks_to s z n) (suc n) (is_justified s templates z (suc n) (marks_to s z n))
