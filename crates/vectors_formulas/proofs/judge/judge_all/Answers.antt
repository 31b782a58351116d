use Rattle.std.proofs.Common.{rules, arith}
use Rattle.vectors.proofs.CounterFacts.{running_over}
use Rattle.vectors_formulas.proofs.FileCounted.{judge_all_branches}
use Rattle.vectors_formulas.proofs.judge.judge_all.Goals as goal

pub loop-init : goal.loop-init
loop-init g c = search (judge_all_branches, rules)

pub loop-preserved : goal.loop-preserved
loop-preserved g c = search (judge_all_branches, rules)

pub returns-in-Ok-None-clause-judged : goal.returns-in-Ok-None-clause-judged
returns-in-Ok-None-clause-judged g c = running_over c.loop.tally c.loop.counter (omega arith) c.loop.invariant.2

pub returns-in-Err-clause-stopped : goal.returns-in-Err-clause-stopped
returns-in-Err-clause-stopped g c = running_over c.loop.tally c.loop.counter (omega arith) c.loop.invariant.2

pub returns-clause-stopped : goal.returns-clause-stopped
returns-clause-stopped g c = running_over c.loop.tally c.loop.counter (omega arith) c.loop.invariant.2
