use Rattle.std.proofs.Common.{rules, tests, ◌∙◌, ap}
use Rattle.std.proofs.lemmas.Iterator.Consumers.{YieldsList-from_first}
use Rattle.std.proofs.lemmas.Iterator.Search.{all_from_yields_List}
use Rattle.limits.specs.Numbers.{every}
use Rattle.limits.proofs.Numbers.{every_all}
use Rattle.image_header.specs.Instruction.{ranged}
use Rattle.image_header.specs.Thread.{cut, instructions}
use Rattle.image_header.proofs.thread.instructions_fit.Goals as goal

pub returns : goal.returns
returns c =
    every_all (ranged c.last_point-last.result c.args.sizes) (instructions c.args.body.now)
    (all_from_yields_List (ranged c.last_point-last.result c.args.sizes) c.all.new.self _ c.all.result c.all.ensures.ran
    (YieldsList-from_first (λ x. x) (λ s. cut s.left s.bytes.now) (instructions c.args.body.now) c.new.ensures)
    (λ x b q k. search (rules, tests)))
    ∙ ap (λ n. every (ranged n c.args.sizes) (instructions c.args.body.now)) c.last_point-last.ensures.0
