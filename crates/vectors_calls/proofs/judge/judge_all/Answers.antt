use Rattle.std.proofs.Common.{rules, arith}
use Rattle.vectors.proofs.CounterFacts.{running_over}
use Rattle.vectors_calls.proofs.FileCounted.{judge_all_branches}
use Rattle.vectors_calls.proofs.judge.judge_all.Goals as goal

pub loop-init : goal.loop-init
loop-init g c = search (judge_all_branches, rules)

pub loop-preserved : goal.loop-preserved
loop-preserved g c = search (judge_all_branches, rules)

pub returns-in-Ok-None-clause-judged : goal.returns-in-Ok-None-clause-judged
returns-in-Ok-None-clause-judged g c = running_over c.loop.tally c.loop.counter (omega arith) c.loop.invariant.3

pub returns-in-Err-clause-stopped : goal.returns-in-Err-clause-stopped
returns-in-Err-clause-stopped g c = running_over c.loop.tally c.loop.counter (omega arith) c.loop.invariant.3

pub returns-clause-stopped : goal.returns-clause-stopped
returns-clause-stopped g c = running_over c.loop.tally c.loop.counter (omega arith) c.loop.invariant.3

pub slice_bounds-stored-end : goal.slice_bounds-stored-end
slice_bounds-stored-end g c = search (judge_all_branches, rules)

pub slice_bounds-read_case-end-in-loop : goal.slice_bounds-read_case-end-in-loop
slice_bounds-read_case-end-in-loop g c = search (judge_all_branches, rules)

pub slice_bounds-stored-end-in-Ok-Some : goal.slice_bounds-stored-end-in-Ok-Some
slice_bounds-stored-end-in-Ok-Some g c = search (judge_all_branches, rules)

pub slice_bounds-with_call-end-in-Ok-Some : goal.slice_bounds-with_call-end-in-Ok-Some
slice_bounds-with_call-end-in-Ok-Some g c = search (judge_all_branches, rules)
