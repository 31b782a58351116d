use Rattle.std.proofs.Common.{◌∙◌, sym, ap, rules, tests}
use Rattle.std.proofs.lemmas.Iterator.{YieldsList-from_slice}
use Rattle.std.proofs.lemmas.Iterator.Search.{all_from_yields_List}
use Rattle.std.specs.List.{list_all}
use Rattle.vectors.proofs.RoomBranches.{holds_front, holds_apart}
use Rattle.vectors.proofs.room.holds.Goals as goal

pub returns-in_default : goal.returns-in_default
returns-in_default g c = holds_apart g.T.PartialEq.eq c.args.room.now c.args.front.now c.args.rest c.in_default.ensures.cases

pub returns : goal.returns
returns g c =
    let E = g.T.PartialEq.eq in
    let behind = c.in-Some.ensures.cases in
    let one = all_from_yields_List (λ y. E y c.args.rest) _ _ _ c.all.ensures.ran (YieldsList-from_slice c.in-Some.behind.now cc)
    (λ x b q k. search (rules, tests)) in
    one ∙ ap (list_all (λ y. E y c.args.rest)) behind.1 ∙ sym (holds_front E c.args.room.now c.args.front.now c.args.rest behind.0)
