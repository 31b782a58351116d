use Rattle.formula_match.proofs.matching_whole.+match_whole.Given as goal

abbrev pub decreases-match_whole : goal.decreases-match_whole
decreases-match_whole l = l.left
