use Rattle.std.proofs.Common.{◌≡◌, length}
use Rattle.vectors.specs.Space.{space_bytes}
use Rattle.vectors.proofs.CounterFacts.{Running}
use Rattle.vectors_calls.specs.Kind.{tail_of}
use Rattle.vectors_calls.proofs.judge.judge_all.Given as goal

abbrev pub invariant-loop : goal.invariant-loop
invariant-loop g l = (space_bytes ≡ length l.space) × (118 ≡ length l.stored) × (l.tail ≡ tail_of l.kind) × Running l.tally l.counter
