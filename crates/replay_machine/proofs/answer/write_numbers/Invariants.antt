use Rattle.std.proofs.Common.{◌≡◌, ◌++◌, take, drop, length}
use Rattle.replay_machine.specs.Answer.{numbers_of}
use Rattle.replay_machine.proofs.answer.write_numbers.Given as goal

abbrev pub invariant-loop-i : goal.invariant-loop-i
invariant-loop-i l = (l.room ≡ take l.i (numbers_of l.answer) ++ drop l.i l.fn.room) × (length l.room ≡ length l.fn.room)
