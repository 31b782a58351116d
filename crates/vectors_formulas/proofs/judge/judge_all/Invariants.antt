use Rattle.std.proofs.Common.{◌≡◌, length}
use Rattle.vectors.proofs.CounterFacts.{Running}
use Rattle.vectors_formulas.proofs.judge.judge_all.Given as goal

abbrev pub invariant-loop : goal.invariant-loop
invariant-loop g l = (4096 ≡ length l.space) × (8 ≡ length l.stored) × Running l.tally l.counter
