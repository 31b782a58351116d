use Rattle.std.proofs.Common.{◌≡◌, ◌+◌, ◌-◌, ◌≤◌}
use Rattle.std.specs.Prelude.{Ok}
use Rattle.rules_justified.specs.Marks.{as_marks}
use Rattle.obligations.specs.JudgementOrder.{assertions_to}
use Rattle.obligations.proofs.interference.judge_action.Given as goal

-- the threads before thread u are met
abbrev pub invariant-loop-u : goal.invariant-loop-u
invariant-loop-u l =
    (l.u ≤ l.u-end + 1) × (Ok l.count ≡ assertions_to l.certificate.records.now.image.now l.certificate.records.now.sizes
    (as_marks l.certificate.marks.now) l.t l.acting_point (l.u - 1) (Ok l.fn.before))
