use Rattle.std.proofs.Common.{rules, tests}
use Rattle.std.proofs.lemmas.Iterator.{YieldsList-from_slice}
use Rattle.std.proofs.lemmas.Iterator.Search.{all_from_yields_List}
use Rattle.limits.specs.Numbers.{within}
use Rattle.limits.proofs.Numbers.{every_all}
use Rattle.limits.proofs.range.bytes_within.Goals as goal

pub returns : goal.returns
returns c =
    every_all (within c.args.low c.args.high) c.args.bytes.now (all_from_yields_List (within c.args.low c.args.high) _ _ c.all.result
    c.all.ensures.ran (YieldsList-from_slice c.args.bytes.now cc) (λ x b q k. search (rules, tests)))
