-- What a line's premises conclude, and whether they are the premises that its rule asks for.
use Rattle.std.specs.Prelude.{Bool, true, false, cond, Option, None, Some, List, [], ◌∷◌, ℕ, eqb, ltb, leb, get_or}
use Rattle.limits.specs.Limits as Limits
use Rattle.image_frames.specs.Records.{bodies}
use Rattle.image_header.specs.declared.sizes.Sizes.{Sizes}
use Rattle.image_bodies.specs.Line as Lines
use Rattle.formula_match.specs.declared.bind.Bind.{Bind}
use Rattle.formula_match.specs.declared.matching_whole.Whole.{Whole}
use Rattle.image_meaning.specs.Certificate.{line_body}
use Rattle.rules_table.specs.RuleTable.{any_implications, same_form}
use Rattle.rules_table.specs.declared.rule.Form.TheVariants.{Implication}
use Rattle.rules_table.specs.declared.rule.Rule.{Rule}
use Rattle.rules_line.specs.Conclusion.{no_conclusion, conclusion_at, match_from}
use Rattle.rules_line.specs.LineConclusion.{conclusion_of}
use Rattle.rules_line.specs.declared.conclusion.Conclusion.{Conclusion}
use Rattle.rules_line.specs.declared.conclusion.Premises.{Premises}

-- what premise j of line n, which has `count` premises, concludes
unfoldable pub premise_conclusion : List ℕ → Sizes → ℕ → ℕ → ℕ → Conclusion
premise_conclusion s z n count j = cond (leb count j) no_conclusion (conclusion_of s z (get_or (Lines.premises (line_body z (bodies s) n)) j 0))

-- what the premises of line n conclude
unfoldable pub premises_of : List ℕ → Sizes → ℕ → ℕ → Premises
premises_of s z n count =
    record {
      count = count;
      conclusions = premise_conclusion s z n count 0 ∷ premise_conclusion s z n count 1
          ∷ premise_conclusion s z n count 2 ∷ premise_conclusion s z n count 3 ∷ [];
    }

-- premise j is an implication, or there is no such premise
unfoldable pub is_implication_at : Premises → ℕ → Bool
is_implication_at p j = cond (leb p.count j) true (same_form (conclusion_at p j).form Implication)

-- rule 20: there are at most four premises, and all are implications
unfoldable pub all_implications : Premises → Bool
all_implications p =
    cond (ltb Limits.premises p.count) false
    (cond (is_implication_at p 0) (cond (is_implication_at p 1) (cond (is_implication_at p 2) (is_implication_at p 3) false) false) false)

-- the match of the premises with the templates from i on: as many as the rule has, each of its form; of rule 20 any implications
unfoldable pub match_premises : List ℕ → List ℕ → ℕ → Rule → ℕ → ℕ → Premises → Bind → Option Whole
match_premises s t i w thread point p b =
    cond (eqb w.premises any_implications) (cond (all_implications p) (Some (record { tpl = i; bind = b })) None)
    (cond (eqb w.premises p.count) (match_from s t thread point p p.count i w.forms 0 b) None)
