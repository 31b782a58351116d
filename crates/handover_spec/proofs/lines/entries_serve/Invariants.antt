use Rattle.std.proofs.Common.{◌≡◌, true}
use Rattle.rules_justified.specs.Marks.{as_marks}
use Rattle.handover_spec.specs.LinesFound.{entries_serve}
use Rattle.handover_spec.proofs.lines.entries_serve.Given as goal

abbrev pub invariant-loop-k : goal.invariant-loop-k
invariant-loop-k l = entries_serve l.old.image.now l.old.sizes l.new.image.now l.new.sizes (as_marks l.marks) l.table l.t l.from l.k ≡ true
