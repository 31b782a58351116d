use Rattle.std.proofs.Common.{◌≡◌, drop}
use Rattle.limits.specs.Numbers.{numbers}
use Rattle.trim_spec.specs.Live.{marked_by}
use Rattle.trim_encode.proofs.marks.mark_numbers.Given as goal

abbrev pub invariant-loop-i : goal.invariant-loop-i
invariant-loop-i l = marked_by l.fn.marks (numbers l.n l.body) ≡ marked_by l.marks (drop l.i (numbers l.n l.body))
