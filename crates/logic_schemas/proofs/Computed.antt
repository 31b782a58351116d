-- Lines that fit their rules, and some that do not, computed.
use mathlib.Core.Path.{◌≡◌, refl}
use mathlib.Core.Bool.{false}
use mathlib.Core.List.{[], ◌∷◌}
use lib.Dec.{T}
use Rattle.semantics.specs.Base.{upd}
use Rattle.semantics.specs.Formula.{Assertion, Formula.const, Formula.reg, Formula.word, Formula.sum, Formula.equal, Formula.less, Formula.box, Formula.sees, Formula.holds, same}
use Rattle.logic.specs.Statement.{triple, pair}
use Rattle.logic.specs.Rule.{r1, r2, r47, r48, r50}
use Rattle.logic.specs.Inference.{newest, C}
use Rattle.semantics.proofs.Computed.{nothing, at_points, tickets}
use Rattle.logic.proofs.Paired.{note, trader, swapper, paired}
use Rattle.logic_schemas.specs.Fits.{fits}

-- what is said of the new write: the formula by exchange, register + formula by fetch-add, and not the other way round
exchange_fits : T (fits (tickets 8) r48 (triple 2 0 (sees 2 (C 1)) (sees 2 (newest 1 (const 7)))) [])
unfolding nothing at_points tickets upd same
exchange_fits = tt

add_fits : T (fits (tickets 8) r48 (triple 1 0 (sees 1 (C 1)) (sees 1 (newest 1 (sum (reg 1) (const 3))))) [])
unfolding nothing at_points tickets upd same
add_fits = tt

add_as_exchange : fits (tickets 8) r48 (triple 1 0 (sees 1 (C 1)) (sees 1 (newest 1 (const 3)))) [] ≡ false
unfolding nothing at_points tickets upd same
add_as_exchange = refl

-- the old value, in the result register and in no other
old_value : T (fits (tickets 8) r47 (triple 2 2 (sees 2 (box (equal (word 1) (const 2)))) (holds (equal (reg 3) (const 2)))) [])
unfolding nothing at_points tickets upd same
old_value = tt

old_value_elsewhere : fits (tickets 8) r47 (triple 2 2 (sees 2 (box (equal (word 1) (const 2)))) (holds (equal (reg 1) (const 2))))
    [] ≡ false
unfolding nothing at_points tickets upd same
old_value_elsewhere = refl

-- rule 1 keeps what has neither the word nor the result register
kept : T (fits (tickets 8) r1 (triple 2 0 (holds (equal (reg 1) (const 2))) (holds (equal (reg 1) (const 2)))) [])
unfolding nothing at_points tickets upd same
kept = tt

result_not_kept : fits (tickets 8) r1 (triple 2 0 (holds (equal (reg 3) (const 2))) (holds (equal (reg 3) (const 2)))) [] ≡ false
unfolding nothing at_points tickets upd same
result_not_kept = refl

-- TWO ASSIGNMENTS, the trade at point 2 of thread 1: register 1 below register 2 after it, from register 2 below register 1;
-- not from what one register replaced after the other would give
trade_fits : T (fits paired r2 (triple 1 2 (holds (less (reg 2) (reg 1))) (holds (less (reg 1) (reg 2)))) [])
unfolding nothing at_points note trader swapper paired upd same
trade_fits = tt

trade_feeds : fits paired r2 (triple 1 2 (holds (less (reg 1) (reg 1))) (holds (less (reg 1) (reg 2)))) [] ≡ false
unfolding nothing at_points note trader swapper paired upd same
trade_feeds = refl

trade_feeds_back : fits paired r2 (triple 1 2 (holds (less (reg 2) (reg 2))) (holds (less (reg 1) (reg 2)))) [] ≡ false
unfolding nothing at_points note trader swapper paired upd same
trade_feeds_back = refl

-- A PAIR, at point 1 of thread 1, whose note is register 2 := register 2 + register 1: where that sum is 3, register 2 is 3 after it.
-- The first half keeps the sum by rule 1, though the pair changes register 2
sum_is_3 : Assertion
sum_is_3 = holds (equal (sum (reg 2) (reg 1)) (const 3))

noted_3 : Assertion
noted_3 = holds (equal (reg 2) (const 3))

half-fits : T (fits paired r1 (triple 1 1 sum_is_3 sum_is_3) [])
unfolding nothing at_points note trader swapper paired sum_is_3 upd same
half-fits = tt

pair_fits : T (fits paired r50 (pair 1 1 sum_is_3 noted_3) (triple 1 1 sum_is_3 sum_is_3 ∷ []))
unfolding nothing at_points note trader swapper paired sum_is_3 noted_3 upd same
pair_fits = tt

-- not without the replacement; not from another point; no line but one of rule 50 says it of the whole pair
not_replaced : fits paired r50 (pair 1 1 sum_is_3 sum_is_3) (triple 1 1 sum_is_3 sum_is_3 ∷ []) ≡ false
unfolding nothing at_points note trader swapper paired sum_is_3 upd same
not_replaced = refl

of_another_point : fits paired r50 (pair 1 1 sum_is_3 noted_3) (triple 1 0 sum_is_3 sum_is_3 ∷ []) ≡ false
unfolding nothing at_points note trader swapper paired sum_is_3 noted_3 upd same
of_another_point = refl

half_for_whole : fits paired r1 (pair 1 1 sum_is_3 sum_is_3) [] ≡ false
unfolding nothing at_points note trader swapper paired sum_is_3 upd same
half_for_whole = refl

whole_as_premise : fits paired r50 (pair 1 1 sum_is_3 noted_3) (pair 1 1 sum_is_3 sum_is_3 ∷ []) ≡ false
unfolding nothing at_points note trader swapper paired sum_is_3 noted_3 upd same
whole_as_premise = refl

-- no rule 2 at a pair's point, and rule 50 neither at two assignments nor at an exchange
half_not_assigned : fits paired r2 (triple 1 1 sum_is_3 noted_3) [] ≡ false
unfolding nothing at_points note trader swapper paired sum_is_3 noted_3 upd same
half_not_assigned = refl

no_pair_of_two : fits paired r50 (pair 1 2 noted_3 noted_3) (triple 1 2 noted_3 (holds (equal (reg 1) (const 3))) ∷ []) ≡ false
unfolding nothing at_points note trader swapper paired noted_3 upd same
no_pair_of_two = refl

no_pair_here : fits (tickets 8) r50 (pair 2 0 noted_3 noted_3) (triple 2 0 noted_3 noted_3 ∷ []) ≡ false
unfolding nothing at_points tickets noted_3 upd same
no_pair_here = refl
