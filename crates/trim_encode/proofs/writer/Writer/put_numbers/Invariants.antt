use Rattle.trim_encode.specs.Pieces.{joined, number_piece}
use Rattle.trim_encode.specs.Writing.{Puts}
use Rattle.trim_encode.proofs.writer.Writer.put_numbers.Given as goal

abbrev pub invariant-loop-i : goal.invariant-loop-i
invariant-loop-i l = Puts l.fn.self l.self (joined (number_piece l.table l.body l.n) l.i)
