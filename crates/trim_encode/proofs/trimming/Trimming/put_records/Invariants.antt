use Rattle.trim_encode.specs.Outcome.{records_in}
use Rattle.trim_encode.specs.Writing.{Puts}
use Rattle.trim_encode.proofs.trimming.Trimming.put_records.Given as goal

abbrev pub invariant-loop-i : goal.invariant-loop-i
invariant-loop-i l = Puts l.fn.writer l.writer (records_in l.self l.kind l.first l.i)
