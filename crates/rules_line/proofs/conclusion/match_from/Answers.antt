use Rattle.std.proofs.Common.{arith}
use Rattle.rules_line.proofs.ConclusionBranches.{from_more}
use Rattle.rules_line.proofs.conclusion.match_from.Goals as goal

pub loop-k-preserved : goal.loop-k-preserved
loop-k-preserved c =
    from_more _ _ _ _ _ _ _ _ _ _ _ c.loop-k.invariant (omega arith) _ c.from_bits.ensures _ c.conclusion_at.ensures _
    c.match_conclusion.ensures _ c.in_ok-m.was
