use Rattle.std.proofs.Common.{◌≡◌, length}
use Rattle.vectors.specs.Space.{space_bytes}
use Rattle.vectors.proofs.CounterFacts.{Running}
use Rattle.vectors_service.proofs.judge.judge_all.Given as goal

abbrev pub invariant-loop : goal.invariant-loop
invariant-loop g l = (space_bytes ≡ length l.space) × (274 ≡ length l.stored) × (16 ≡ length l.service) × Running l.tally l.counter
