use Rattle.formula_compare.proofs.OccursBranches.{find_two}
use Rattle.formula_compare.proofs.occurs.+past_without.Goals as goal

pub returns : goal.returns
returns t c =
    find_two _ _ _ _ _ _ _ c.if-left-eq0.false c.node_at-node.ensures c.is_queried.ensures _ c.if-is_queried.false c.if-node-eq0.false
    c.past_without.ensures _ _ c.in_ok-past.was c.if-node-eq1.false c.past_without-2.ensures
