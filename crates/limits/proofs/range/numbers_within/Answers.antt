use Rattle.std.proofs.Common.{rules, tests, get_or, arith}
use Rattle.std.proofs.lemmas.Iterator.{YieldsList-from_range}
use Rattle.std.proofs.lemmas.Iterator.Search.{all_from_yields_List}
use Rattle.limits.specs.Numbers.{within, numbers}
use Rattle.limits.proofs.Numbers.{each_number}
use Rattle.limits.proofs.range.numbers_within.Goals as goal

pub returns : goal.returns
returns c =
    each_number (within c.args.low c.args.high) c.args.n c.args.bytes.now (all_from_yields_List (λ i. within c.args.low c.args.high (get_or (numbers c.args.n c.args.bytes.now) i 0)) _ _ c.all.result
    c.all.ensures.ran (YieldsList-from_range 0 c.args.n c.args.n (cc) (omega arith)) (λ x b q k. search (rules, tests)))
