use Rattle.std.proofs.Common.{◌≡◌, ◌+◌, ◌-◌, ◌≤◌}
use Rattle.std.specs.Prelude.{Ok}
use Rattle.rules_justified.specs.Marks.{as_marks}
use Rattle.obligations.specs.JudgementOrder.{interferences_to}
use Rattle.obligations.proofs.interference.judge_interferences.Given as goal

-- the threads before thread t are met
abbrev pub invariant-loop-t : goal.invariant-loop-t
invariant-loop-t l =
    (l.t ≤ l.t-end + 1) × (Ok l.count ≡ interferences_to l.certificate.records.now.image.now l.certificate.records.now.sizes
    (as_marks l.certificate.marks.now) (l.t - 1) l.fn.judgement)
