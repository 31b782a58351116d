-- The certificate of an image: its lines.
use Rattle.std.specs.Prelude.{List, [], ℕ, ◌+◌, get_or, drop}
use Rattle.semantics.specs.Formula.{Sort}
use Rattle.logic.specs.Statement.{Statement, inside, implies, triple, taking}
use Rattle.limits.specs.Numbers.{le16}
use Rattle.image_header.specs.declared.sizes.Sizes.{Sizes}
use Rattle.image_bodies.specs.declared.line.Form.{Form}
use Rattle.image_bodies.specs.declared.line.Form.TheVariants.{Triple, Implication, Inclusion, Pair, Unlisted}
use Rattle.image_bodies.specs.Line.{form_of, premises}
use Rattle.logic_outline.specs.Lines.{Line, Certificate}
use Rattle.image_meaning.specs.Formulas.{formula}
use Rattle.logic.specs.RuleNumbers.{rule_of}
use Rattle.image_meaning.specs.Program.{program_of}

-- the number of a line's left formula
abbrev pub left : List ℕ → ℕ
left b = le16 (drop 3 b)

-- the number of a line's right formula
abbrev pub right : List ℕ → ℕ
right b = le16 (drop 5 b)

module _ (z : Sizes) (l : List (List ℕ)) where
  -- what a line of a form says. At a pair's point a triple is about the first half, a rule 50 line about the whole pair; where there is
  -- no pair a rule 50 line is an ordinary triple. An unlisted rule counts as an inclusion
  unfoldable pub saying : Form → List ℕ → Statement
  saying Triple b = triple (get_or b 1 0) (get_or b 2 0) (formula l Sort.assertion (left b)) (formula l Sort.assertion (right b))
  saying Implication b = implies (formula l Sort.assertion (left b)) (formula l Sort.assertion (right b))
  saying Pair b =
      taking (get_or b 1 0) (get_or b 2 0) ((program_of z l).code (get_or b 1 0) (get_or b 2 0)) (formula l Sort.assertion (left b))
      (formula l Sort.assertion (right b))
  saying Inclusion b = inside (formula l Sort.interval (left b)) (formula l Sort.interval (right b))
  saying Unlisted b = inside (formula l Sort.interval (left b)) (formula l Sort.interval (right b))

  -- the line in a body
  abbrev pub line_of : List ℕ → Line
  line_of b = record { rule = rule_of (get_or b 0 0); says = saying (form_of (get_or b 0 0)) b; premises = premises b }

  -- the body of line n: lines count from 1 and come after the outline
  unfoldable pub line_body : ℕ → List ℕ
  line_body n = get_or l (z.formulas + z.threads + 1 + n) []

  -- the certificate: all lines by their numbers
  abbrev pub certificate_of : Certificate
  certificate_of = record { count = z.lines; line = λ n. line_of (line_body n) }
