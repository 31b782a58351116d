use native.Mathlib.Omega.{arith}
use Rattle.checker_spec.proofs.AcceptedRuns.{promised, promised_short}
use Rattle.limits.proofs.BranchTests.{tests}
use Rattle.checker.proofs.entry.check_image.Goals as goal

pub returns-then-out-lt-SIZE : goal.returns-then-out-lt-SIZE
returns-then-out-lt-SIZE c = promised_short _ (λ i h. omega (arith, c.type_inv.image i)) _ (search tests)

pub returns : goal.returns
returns c = promised _ (λ i h. omega (arith, c.type_inv.image i)) _ c.judge.result _ _ (search tests) (search tests) (search tests)
