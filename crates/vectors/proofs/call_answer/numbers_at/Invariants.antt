use Rattle.std.proofs.Common.{◌≡◌, ℕ, ◌+◌, ◌*◌, ◌<◌, length, get_or, drop}
use Rattle.vectors.specs.Number.{long}
use Rattle.vectors.proofs.call_answer.numbers_at.Given as goal

abbrev pub invariant-loop-i : goal.invariant-loop-i
invariant-loop-i l = (length l.numbers ≡ 21) × ((k : ℕ) → k < l.i → get_or l.numbers k 0 ≡ long (drop (2 + 4 * k) l.bytes))
