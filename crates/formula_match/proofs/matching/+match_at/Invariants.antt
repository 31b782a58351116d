use Rattle.formula_match.proofs.matching.+match_at.Given as goal

abbrev pub decreases-match_at : goal.decreases-match_at
decreases-match_at l = l.left
