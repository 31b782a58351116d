use native.Mathlib.Omega.{arith}
use Rattle.trim_encode.proofs.TrimBranches.{accepted_of, granted_answer, granted_buffer}
use Rattle.limits.proofs.BranchTests.{tests}
use Rattle.trim.proofs.trimming.trim_by.Goals as goal

pub trim_accepted-requires : goal.trim_accepted-requires
trim_accepted-requires c =
    rw c.new.ensures
    (accepted_of c.args.image.now c.accept_image.result _ (λ i h. omega (arith, c.type_inv.image i)) (search tests) (search tests))

pub returns-in-Some : goal.returns-in-Some
returns-in-Some c =
    let e = rw c.new.ensures at c.trim_accepted.ensures in (
      granted_answer _ _ _ c.accept_image.ensures.0 _ _ c.in-Some.is e.0,
      granted_buffer _ _ _ c.accept_image.ensures.0 _ _ c.in-Some.is e.1,
    )
