use Rattle.std.proofs.Common.{rules, tests, get_or, arith}
use Rattle.std.proofs.lemmas.Iterator.{YieldsList-from_range}
use Rattle.std.proofs.lemmas.Iterator.Search.{all_from_yields_List}
use Rattle.limits.specs.Numbers.{numbers}
use Rattle.limits.proofs.Numbers.{each_number}
use Rattle.image_frames.specs.Records.{bodies}
use Rattle.image_bodies.specs.ListBody.{outlined_at}
use Rattle.image_bodies.proofs.list_body.all_outlined.Goals as goal

pub returns : goal.returns
returns c =
    let f = outlined_at (bodies c.args.formulas.now.image.now) in
    let n = c.args.n in let b = c.args.body.now in
    each_number f n b (all_from_yields_List (λ i. f (get_or (numbers n b) i 0)) _ _ c.all.result
    c.all.ensures.ran (YieldsList-from_range 0 n n (cc) (omega arith)) (λ x b q k. search (rules, tests)))
