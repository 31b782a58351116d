use Rattle.trim_encode.specs.Pieces.{joined, instruction_piece}
use Rattle.trim_encode.specs.Writing.{Puts}
use Rattle.trim_encode.proofs.thread_record.put_thread.Given as goal

abbrev pub invariant-loop-point : goal.invariant-loop-point
invariant-loop-point l = Puts l.initial.writer l.writer (joined (instruction_piece l.formulas l.body) l.point)
