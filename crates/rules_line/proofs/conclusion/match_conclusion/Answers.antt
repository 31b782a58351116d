use Rattle.rules_line.proofs.ConclusionBranches.{conclusion_both}
use Rattle.rules_line.proofs.conclusion.match_conclusion.Goals as goal

pub returns : goal.returns
returns c =
    conclusion_both _ _ _ _ _ _ _ _ _ c.is_placed.ensures c.if-not-is_placed.false _ c.match_whole.ensures _ _ c.in_ok-m.was
    c.match_whole-2.ensures
