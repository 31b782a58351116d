use Rattle.std.proofs.Common.{◌≡◌, true}
use Rattle.rules_justified.specs.Marks.{as_marks}
use Rattle.handover_spec.specs.LinesFound.{threads_serve}
use Rattle.handover_spec.proofs.lines.lines_serve.Given as goal

abbrev pub invariant-loop-t : goal.invariant-loop-t
invariant-loop-t l = threads_serve l.old.image.now l.old.sizes l.new.image.now l.new.sizes (as_marks l.marks) l.table l.t ≡ true
