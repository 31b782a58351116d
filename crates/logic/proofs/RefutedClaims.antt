-- A claim is false of two threads that can be at its points together, shown by a run.
use mathlib.Core.Path.{refl}
use mathlib.Core.List.{[]}
use native.Mathlib.Omega.{arith}
use Rattle.semantics.specs.Base.{upd}
use Rattle.semantics.specs.Machine.{begin}
use Rattle.semantics.proofs.Starts.{begins}
use Rattle.semantics.proofs.Refuted.{adds, from_five, both_step}
use Rattle.logic.specs.Claims.{NeverBoth}

-- after a step of each, both threads are at point 1
both_done : NeverBoth adds (record { thread = 1; point = 1; other = 2; other_point = 1 }) → ⊥
unfolding upd
both_done h = h.never (begin adds from_five) (begins adds (omega arith) from_five) both_step refl refl

-- at the start both are at point 0
both_begin : NeverBoth adds (record { thread = 1; point = 0; other = 2; other_point = 0 }) → ⊥
both_begin h = h.never (begin adds from_five) (begins adds (omega arith) from_five) [] refl refl
