use Rattle.std.proofs.Common.{◌≡◌, true}
use Rattle.rules_justified.specs.Marks.{as_marks}
use Rattle.rules_justified.specs.Justify.{premises_marked}
use Rattle.rules_justified.proofs.justify.premises_marked.Given as goal

-- the premises before premise j have marks
abbrev pub invariant-loop-j : goal.invariant-loop-j
invariant-loop-j l = true ≡ premises_marked l.image l.sizes l.number (as_marks l.marks) l.j
