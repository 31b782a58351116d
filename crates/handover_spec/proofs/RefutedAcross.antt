-- The claim about every run across a handover is false of a wrong outline, shown by a run.
use mathlib.Core.List.{List, [], ◌∷◌}
use native.Mathlib.Omega.{arith}
use Rattle.semantics.specs.Base.{upd}
use Rattle.semantics.specs.Formula.{Formula, Formula.const, Formula.reg, Formula.equal, Formula.holds}
use Rattle.semantics.specs.Machine.{Step, begin}
use Rattle.semantics.proofs.Starts.{begins}
use Rattle.semantics.proofs.Refuted.{adds, from_five}
use Rattle.handover_spec.specs.Handover.{EveryRunAcross}

-- a step of thread 1
abbrev one_step : List Step
one_step = record { thread = 1; position = 0 } ∷ []

-- "register 1 is not 2" at every new point, each old point going to new point 0: false after a step under the old code and one under the new
not_two_across : EveryRunAcross adds adds (λ t k. holds (Formula.not (equal (reg 1) (const 2)))) (λ t k. 0) → ⊥
unfolding upd
not_two_across h =
    h.holds (begin adds from_five) (begins adds (omega arith) from_five) one_step one_step 1 (omega arith, omega arith)
