-- WHAT THE LINES OF A SOURCE STATE: its certificate, for the promise about obligations and rules.
use Rattle.std.specs.Prelude.{cond, [], ℕ, leb}
use Rattle.semantics.specs.Formula.{Sort, Formula, Interval}
use Rattle.logic.specs.Statement.{Statement, inside, implies, triple, taking}
use Rattle.logic.specs.RuleNumbers.{rule_of}
use Rattle.logic_outline.specs.Lines as Lines
use Rattle.limits.specs.Numbers.{nth}
use Rattle.source.specs.Source.{Line, Source}
use Rattle.source.specs.Meaning.{listed, assertion, program_of}

-- a formula as an interval; one of another sort, which no line that is read has there, as one 0
unfoldable pub as_interval : (s : Sort) → Formula s → Interval
as_interval Sort.value f = Formula.one 0
as_interval Sort.test f = Formula.one 0
as_interval Sort.interval f = f
as_interval Sort.assertion f = Formula.one 0

-- the line with a number that the source does not have
abbrev pub no_line : Line
no_line = record { rule = 0; thread = 0; point = 0; left = 0; right = 0; premises = [] }

module _ (s : Source) where
  -- formula k as an interval
  unfoldable pub interval : ℕ → Interval
  interval k = as_interval (listed s k).sort (listed s k).formula

  -- the triple of the instruction at the line's point, of a pair its first half alone
  unfoldable pub hoare : Line → Statement
  hoare l = triple l.thread l.point (assertion s l.left) (assertion s l.right)

  -- "Rules run 1 to 16, 20 to 27, 30 to 46": triples, implications, inclusions; 47 to 49 are triples too, and 50 is about a whole pair
  unfoldable pub statement : Line → Statement
  statement l =
      cond (leb l.rule 16) (hoare l)
      (cond (leb l.rule 27) (implies (assertion s l.left) (assertion s l.right))
      (cond (leb l.rule 46) (inside (interval l.left) (interval l.right))
      (cond (leb l.rule 49) (hoare l)
      (taking l.thread l.point ((program_of s).code l.thread l.point) (assertion s l.left) (assertion s l.right)))))

  -- line n: its rule, its statement, its premises
  unfoldable pub line_at : ℕ → Lines.Line
  line_at n = record {
    rule = rule_of (nth s.lines n no_line).rule;
    says = statement (nth s.lines n no_line);
    premises = (nth s.lines n no_line).premises;
  }
