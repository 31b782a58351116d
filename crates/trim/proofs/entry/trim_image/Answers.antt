use native.Mathlib.Omega.{arith}
use Rattle.trim.proofs.TrimPromised.{promised}
use Rattle.limits.proofs.BranchTests.{tests}
use Rattle.trim.proofs.entry.trim_image.Goals as goal

pub returns : goal.returns
returns c =
    promised _ _ (λ i h. omega (arith, c.type_inv.image i)) c.trim_into-answer.result _ _ _
    (search tests) (search tests) (search tests) (search tests)
