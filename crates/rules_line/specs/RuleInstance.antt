-- Whether a line is an instance of its rule, its formulas by position. s: the image; t: the templates.
use Rattle.std.specs.Prelude.{Bool, true, false, cond, Option, None, Some, List, ℕ}
use Rattle.formula.specs.Codes.{member}
use Rattle.image_frames.specs.Records.{bodies}
use Rattle.image_header.specs.declared.sizes.Sizes.{Sizes}
use Rattle.image_bodies.specs.RecordPlaces.{instruction_of}
use Rattle.formula_match.specs.declared.bind.Bind.{Bind}
use Rattle.formula_match.specs.declared.matching_whole.Whole.{Whole}
use Rattle.image_access.specs.AccessPlaces.{acting_of}
use Rattle.image_access.specs.declared.line.Line.{Line}
use Rattle.image_access.specs.declared.acting_instruction.Acting.{Acting}
use Rattle.rules_table.specs.RuleTable.{same_form, rule_row}
use Rattle.rules_table.specs.declared.rule.Form.TheVariants.{Triple, Pair}
use Rattle.rules_table.specs.declared.rule.Rule.{Rule}
use Rattle.rules_line.specs.Conclusion.{match_conclusion}
use Rattle.rules_line.specs.LineConclusion.{conclusion_by, line_at}
use Rattle.rules_line.specs.Premises.{premises_of, match_premises}
use Rattle.rules_line.specs.Preset.{preset_at}
use Rattle.rules_line.specs.SideConditions.{asked}
use Rattle.rules_line.specs.declared.conclusion.Conclusion.{Conclusion}
use Rattle.rules_line.specs.declared.conclusion.Premises.{Premises}

-- the operation is one that the rule allows: for triples that of the first half, for rule 50 that of the whole pair
unfoldable pub is_allowed : Rule → Acting → Bool
is_allowed w a = cond (same_form w.form Triple) (member w.operations a.operation)
    (cond (same_form w.form Pair) (member w.operations a.whole) true)

-- what remains once the templates are matched: the operation and the side condition
unfoldable pub rest_at : List ℕ → Rule → Acting → Conclusion → Premises → Bind → Bool
rest_at s w a c p b = cond (is_allowed w a) (asked s w.side b a c p) false

-- the match succeeds, and then f holds of it
abbrev pub then_ask : Option Whole → (Whole → Bool) → Bool
then_ask None f = false
then_ask (Some m) f = f m

-- the match of the line's conclusion with its rule's templates, with the holes that its instruction fills
unfoldable pub line_match : List ℕ → List ℕ → Rule → Line → Acting → Conclusion → Option Whole
line_match s t w l a c = match_conclusion s t w.template w.form c.thread c.point c
    (preset_at l.thread a.word a.register a.formula)

-- the line is an instance of its rule: its conclusion matches, then its premises, then operation and side condition are right
unfoldable pub fits_row : List ℕ → List ℕ → Line → Acting → Premises → Bool
fits_row s t l a p =
    then_ask (line_match s t (rule_row l.rule) l a (conclusion_by l a.whole))
    (λ m. then_ask (match_premises s t m.tpl (rule_row l.rule) (conclusion_by l a.whole).thread (conclusion_by l a.whole).point p
    m.bind)
    (λ q. rest_at s (rule_row l.rule) a (conclusion_by l a.whole) p q.bind))

-- the instruction at the line's thread and point
unfoldable pub acting_in : List ℕ → Sizes → Line → Acting
acting_in s z l = acting_of s (instruction_of z (bodies s) l.thread l.point)

-- line n is an instance of its rule
unfoldable pub fits_line : List ℕ → List ℕ → Sizes → ℕ → Bool
fits_line s t z n = fits_row s t (line_at s z n) (acting_in s z (line_at s z n)) (premises_of s z n (line_at s z n).count)
