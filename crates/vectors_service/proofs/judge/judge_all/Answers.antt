use Rattle.std.proofs.Common.{rules, arith}
use Rattle.vectors.proofs.CounterFacts.{running_over}
use Rattle.vectors_service.proofs.FileCounted.{judge_all_branches, running_turn}
use Rattle.vectors_service.proofs.judge.judge_all.Goals as goal

pub loop-init : goal.loop-init
loop-init g c = search (judge_all_branches, rules)

pub loop-preserved : goal.loop-preserved
loop-preserved g c = (
  search rules,
  search rules,
  search (judge_all_branches, rules),
  running_turn _ _ _ _ _ _ _ c.loop.invariant.3 c.with_turn-tally.ensures,
)

pub returns-in-Ok-None-clause-judged : goal.returns-in-Ok-None-clause-judged
returns-in-Ok-None-clause-judged g c = running_over c.loop.tally c.loop.counter (omega arith) c.loop.invariant.3

pub returns-in-Err-clause-stopped : goal.returns-in-Err-clause-stopped
returns-in-Err-clause-stopped g c = running_over c.loop.tally c.loop.counter (omega arith) c.loop.invariant.3

pub returns-clause-stopped : goal.returns-clause-stopped
returns-clause-stopped g c = running_over c.loop.tally c.loop.counter (omega arith) c.loop.invariant.3

pub slice_bounds-service-end : goal.slice_bounds-service-end
slice_bounds-service-end g c = search (judge_all_branches, rules)

pub slice_bounds-with_turn-end : goal.slice_bounds-with_turn-end
slice_bounds-with_turn-end g c = search (judge_all_branches, rules)
