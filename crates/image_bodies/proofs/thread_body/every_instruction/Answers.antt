use Rattle.std.proofs.lemmas.Iterator.Consumers.{YieldsList-from_first}
use Rattle.std.proofs.lemmas.Iterator.Search.{all_from_yields_List}
use Rattle.limits.proofs.Numbers.{every_all}
use Rattle.image_header.specs.Thread.{cut, instructions}
use Rattle.image_bodies.proofs.thread_body.every_instruction.Goals as goal

pub returns : goal.returns
returns g c passes same =
    every_all passes (instructions c.args.body.now)
    (all_from_yields_List passes c.all.new.self _ c.all.result c.all.ensures.ran
    (YieldsList-from_first (λ x. x) (λ s. cut s.left s.bytes.now) (instructions c.args.body.now) c.new.ensures)
    (λ x b q k. (g.met.F.Fn.1.step_stays _ _ _ _ k, same x b ((g.met.F.FnMut.1.post_iff _ _ _).1 (q, k)))))
