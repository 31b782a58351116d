use Rattle.std.proofs.Common.{◌≡◌}
use Rattle.std.specs.Prelude.{Ok}
use Rattle.rules_justified.specs.Marks.{as_marks}
use Rattle.obligations.specs.JudgementOrder.{own_to}
use Rattle.obligations.proofs.own_steps.judge_thread.Given as goal

-- the instructions before point k are met
abbrev pub invariant-loop-k : goal.invariant-loop-k
invariant-loop-k l =
    Ok l.count ≡ own_to l.certificate.records.now.image.now l.certificate.records.now.sizes (as_marks l.certificate.marks.now)
    l.t l.k (Ok l.fn.before)
