use Rattle.trim_encode.specs.Outcome.{live_in}
use Rattle.trim_encode.specs.Writing.{Puts}
use Rattle.trim_encode.proofs.trimming.Trimming.put_live.Given as goal

abbrev pub invariant-loop-i : goal.invariant-loop-i
invariant-loop-i l = Puts l.fn.writer l.writer (live_in l.self l.marks l.kind l.first l.i)
