use Rattle.std.proofs.Common.{◌≡◌, ◌+◌, ◌≤◌}
use Rattle.std.specs.Prelude.{Ok}
use Rattle.rules_justified.specs.Marks.{as_marks}
use Rattle.obligations.specs.JudgementOrder.{asserted_to}
use Rattle.obligations.proofs.interference.judge_asserting.Given as goal

-- the assertions before point j are met
abbrev pub invariant-loop-j : goal.invariant-loop-j
invariant-loop-j l =
    (l.j ≤ l.last + 1) × (Ok l.count ≡ asserted_to l.certificate.records.now.image.now l.certificate.records.now.sizes
    (as_marks l.certificate.marks.now) l.t l.acting_point l.u l.j (Ok l.fn.before))
