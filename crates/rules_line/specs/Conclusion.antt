-- What a line concludes, its formulas by position, against a rule's templates one after another. s: the image; t: the templates.
use Rattle.std.specs.Prelude.{Bool, true, false, cond, Option, None, Some, List, [], ◌∷◌, ℕ, zero, suc, ◌+◌, ◌/◌, ◌%◌, eqb, ltb, get_or}
use Rattle.limits.specs.Limits.{nesting, premises}
use Rattle.formula.specs.Tree.{parse_tree}
use Rattle.formula_match.specs.MatchPlaces.{whole_at, then_whole}
use Rattle.formula_match.specs.declared.bind.Bind.{Bind}
use Rattle.formula_match.specs.declared.matching_whole.Whole.{Whole}
use Rattle.formula_trees.specs.StatementTree.{TreeConclusion, acted}
use Rattle.rules_table.specs.RuleTable.{form_number, form_numbered, same_form}
use Rattle.rules_table.specs.declared.rule.Form.{Form}
use Rattle.rules_table.specs.declared.rule.Form.TheVariants.{Inclusion}
use Rattle.rules_line.specs.declared.conclusion.Conclusion.{Conclusion}
use Rattle.rules_line.specs.declared.conclusion.Premises.{Premises}

-- the conclusion with its formulas as trees
abbrev pub concluded_at : List ℕ → Conclusion → TreeConclusion
concluded_at s c = record {
  form = form_number c.form;
  thread = c.thread;
  point = c.point;
  left = (parse_tree s nesting c.left).tree;
  right = (parse_tree s nesting c.right).tree;
}

-- the conclusion has the wanted form; a Hoare triple, of a pair too, is for the same thread and point
unfoldable pub placed_at : Form → ℕ → ℕ → Conclusion → Bool
placed_at form t k c = cond (same_form c.form form) (cond (acted (form_number form)) (cond (eqb c.thread t) (eqb c.point k) false) true) false

-- the match of the left side with the template at i, then of the right side with the template after that
unfoldable pub match_conclusion : List ℕ → List ℕ → ℕ → Form → ℕ → ℕ → Conclusion → Bind → Option Whole
match_conclusion s t i form thread point c b =
    cond (placed_at form thread point c)
    (then_whole (whole_at s t nesting i c.left b) (λ m. whole_at s t nesting m.tpl c.right m.bind))
    None

-- the conclusion of a premise that is not there
abbrev pub no_conclusion : Conclusion
no_conclusion = record { form = Inclusion; thread = 0; point = 0; left = 0; right = 0 }

-- the conclusion of premise j
unfoldable pub conclusion_at : Premises → ℕ → Conclusion
conclusion_at p j = cond (ltb j premises) (get_or p.conclusions j no_conclusion) no_conclusion

-- the conclusions of n premises from premise j on
abbrev pub conclusions_from : Premises → ℕ → ℕ → List Conclusion
conclusions_from p zero j = []
conclusions_from p (suc n) j = conclusion_at p j ∷ conclusions_from p n (j + 1)

-- the match of n premises from premise j on, each with the templates after those of the one before; forms: two bits each from the lowest
unfoldable pub match_from : List ℕ → List ℕ → ℕ → ℕ → Premises → ℕ → ℕ → ℕ → ℕ → Bind → Option Whole
match_from s t thread point p zero i forms j b = Some (record { tpl = i; bind = b })
match_from s t thread point p (suc n) i forms j b =
    then_whole (match_conclusion s t i (form_numbered (forms % 4)) thread point (conclusion_at p j) b)
    (λ m. match_from s t thread point p n m.tpl (forms / 4) (j + 1) m.bind)
