use Rattle.std.proofs.Common.{◌≡◌}
use Rattle.vectors.specs.Parts.{part_on}
use Rattle.vectors.proofs.parts.part_on.Given as goal

abbrev pub invariant-loop-k : goal.invariant-loop-k
invariant-loop-k l = l.left ≡ part_on l.k l.bytes l.body
