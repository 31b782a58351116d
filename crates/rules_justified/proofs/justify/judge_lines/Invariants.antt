use Rattle.std.proofs.Common.{◌≡◌, ◌+◌, ◌-◌, ◌≤◌}
use Rattle.rules_justified.specs.Marks.{as_marks}
use Rattle.rules_justified.specs.Justify.{marks_to}
use Rattle.rules_justified.proofs.justify.judge_lines.Given as goal

-- the lines before line n are judged
abbrev pub invariant-loop-n : goal.invariant-loop-n
invariant-loop-n l = (l.n ≤ l.n-end + 1) × (as_marks l.on ≡ marks_to l.image l.sizes (l.n - 1))
