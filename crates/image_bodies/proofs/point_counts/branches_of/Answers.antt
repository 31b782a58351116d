use Rattle.std.proofs.Common.{rules, tests, ◌≡◌, ◌∙◌, ap, length, inl, arith}
use Rattle.std.proofs.lemmas.Iterator.Consumers.{YieldsList-at, YieldsList-from_first, YieldsList-from_filter, count_from_yields_List}
use Rattle.image_header.specs.Thread.{cut, instructions}
use Rattle.image_header.proofs.ThreadBranches.{instructions_length}
use Rattle.image_bodies.specs.PointCounts.{branches}
use Rattle.image_bodies.proofs.Counts.{branch, branches_filter, branches_low, instructions_few}
use Rattle.image_bodies.proofs.point_counts.branches_of.Goals as goal

pub count-requires-clause-fits : goal.count-requires-clause-fits
count-requires-clause-fits c =
    let b = c.args.body.now in let left = c.filter.result.iter in
    let all : cut left.left left.bytes.now ≡ instructions b = rw c.filter.ensures.source c.new.ensures in
    inl (omega (arith, ap length all, instructions_few b (c.type_inv.body 0)))

pub returns : goal.returns
returns c =
    let b = c.args.body.now in
    let count : c.count.result ≡ branches (instructions b) =
    count_from_yields_List c.filter.result c.count.result c.count.ensures.ran
    (YieldsList-from_filter _ branch
    (YieldsList-at c.filter.ensures.source
    (YieldsList-from_first (λ x. x) (λ s. cut s.left s.bytes.now) (instructions b) c.new.ensures))
    c.filter.ensures.closure (λ x b q k. search (rules, tests)))
    ∙ branches_filter (instructions b) in
    (count, omega (arith, count, branches_low (instructions b), instructions_length b))
