-- `permit_by`: what a code promises, by the acceptance of the old image.
use Rattle.limits.proofs.BranchTests.{tests}
use Rattle.handover_spec.specs.Refusal.{code_told}
use Rattle.handover_spec.proofs.PermittedRuns.{old_declined, old_granted}
use Rattle.handover.proofs.entry.permit_by.Goals as goal

pub returns-in-None : goal.returns-in-None
returns-in-None c =
    old_declined c.args.old.now c.args.new.now c.args.table.now c.accept_image.result (search tests) (search tests)

pub returns-in-Some : goal.returns-in-Some
returns-in-Some c =
    old_granted c.args.old.now c.args.new.now c.args.table.now c.accept_image.result (search tests) c.in-Some.sizes
    (code_told c.code_from.result) (search tests) (search tests)
