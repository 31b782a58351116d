-- The lines of the second image worked out by hand: an implication, a triple, and the premises of the third.
use mathlib.Core.Path.{◌≡◌, refl}
use mathlib.Core.List.{[], ◌∷◌}
use Rattle.semantics.specs.Formula.{Formula}
use Rattle.logic.specs.Statement.{implies, triple}
use Rattle.logic.specs.Rule.{r1, r20}
use Rattle.logic.specs.RuleNumbers.{rule_of}
use Rattle.limits.specs.Numbers.{nth}
use Rattle.source.specs.Meaning.{as_assertion, listed, assertion}
use Rattle.source.specs.Certificate.{hoare, statement, line_at}
use Rattle.source.proofs.Worked.{listed_as, true_always, started, line_of, point_of, rich}

rich_implication : line_at rich 1
    ≡ record { rule = r20; says = implies Formula.start (Formula.holds (Formula.not Formula.false)); premises = [] }
unfolding listed_as true_always started line_of point_of rich nth rule_of as_assertion listed assertion hoare statement line_at
rich_implication = refl

rich_triple : line_at rich 2
    ≡ record {
      rule = r1;
      says = triple 1 0 (Formula.holds (Formula.not Formula.false)) (Formula.holds (Formula.not Formula.false));
      premises = [];
    }
unfolding listed_as true_always started line_of point_of rich nth rule_of as_assertion listed assertion hoare statement line_at
rich_triple = refl

rich_premises : (line_at rich 3).premises ≡ 1 ∷ 1 ∷ []
unfolding listed_as true_always started line_of point_of rich nth line_at
rich_premises = refl
