use Rattle.formula_compare.proofs.ByPair.{replaced_hit_no, replaced_hit, replaced_two}
use Rattle.formula_compare.proofs.replace.+replaced_from.Goals as goal

pub returns-in_err-q : goal.returns-in_err-q
returns-in_err-q t c =
    rw c.from_residual.ensures (replaced_hit_no _ _ _ _ _ _ _ c.hit_at.ensures _ _ c.in-Some.is c.stands_at.ensures c.in_err-q.was)

pub returns-in-Some : goal.returns-in-Some
returns-in-Some t c = replaced_hit _ _ _ _ _ _ _ c.hit_at.ensures _ _ c.in-Some.is c.stands_at.ensures _ c.in_ok-q.was

pub returns-in_ok-p2-in-Two : goal.returns-in_ok-p2-in-Two
returns-in_ok-p2-in-Two t c =
    replaced_two _ _ _ _ _ _ _ c.hit_at.ensures _ c.in_default.is c.pair_at.ensures _ _ _ _ _ c.in-Two.is c.replaced_from-in-Two.ensures
    c.in_ok-p2-in-Two.was c.replaced_from-in-Two-2.ensures
