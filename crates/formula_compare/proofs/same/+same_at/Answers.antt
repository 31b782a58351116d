use Rattle.formula_compare.proofs.ByPair.{same_two}
use Rattle.formula_compare.proofs.same.+same_at.Goals as goal

pub returns-in_ok-p2-in-Two : goal.returns-in_ok-p2-in-Two
returns-in_ok-p2-in-Two t c =
    same_two _ _ _ _ _ _ c.pair_at.ensures _ _ _ _ _ c.in-Two.is c.same_at-in-Two.ensures c.in_ok-p2-in-Two.was c.same_at-in-Two-2.ensures
