use Rattle.formula_match.proofs.MatchBranches.{match_two}
use Rattle.formula_match.proofs.matching.+match_at.Goals as goal

pub returns-in_ok-first-in-Two : goal.returns-in_ok-first-in-Two
returns-in_ok-first-in-Two t c =
    match_two _ _ _ _ _ _ _ c.match_root.ensures _ c.in_ok-tpl.was _ _ c.in-Two.is c.match_at-in-Two.ensures _ _ c.in_ok-first-in-Two.was
    c.match_at-in-Two-2.ensures
