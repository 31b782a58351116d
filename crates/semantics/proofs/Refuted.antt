-- The claim about every run is false of wrong outlines, shown by a run of a small program for each.
use mathlib.Core.List.{List, [], ◌∷◌}
use Prim.Native.Nat.{ℕ}
use native.Mathlib.Omega.{arith}
use lib.Dec.{eqb}
use Rattle.semantics.specs.Base.{upd}
use Rattle.semantics.specs.Formula.{Formula, Formula.const, Formula.reg, Formula.equal, Formula.holds}
use Rattle.semantics.specs.Machine.{Program, Access.none, Instr.act, Step, begin}
use Rattle.semantics.specs.EveryRun.{EveryRun}
use Rattle.semantics.proofs.Starts.{begins}

-- two threads; each adds 1 to register 1, which starts at 0, and is then at its last point; register 2 starts anywhere
abbrev pub adds : Program
adds = record {
  threads = 2;
  words = 1;
  range = 8;
  init = λ x. 0;
  cleared = λ r. eqb r 1;
  points = λ t. 2;
  code = λ t k. act none (record { to = 1; by = Formula.sum (reg 1) (const 1) } ∷ []);
}

-- the state in which registers that start anywhere hold 5
abbrev pub from_five : ℕ → ℕ
from_five r = 5

-- a step of each thread
abbrev pub both_step : List Step
both_step = record { thread = 1; position = 0 } ∷ record { thread = 2; position = 0 } ∷ []

-- "register 1 is not 2" at every point: true at the start and after one step of either thread, false after both
not_two : EveryRun adds (λ t k. holds (Formula.not (equal (reg 1) (const 2)))) → ⊥
unfolding upd
not_two h = h.holds (begin adds from_five) (begins adds (omega arith) from_five) both_step 2 (omega arith, omega arith)

-- "register 2 is 0" at every point: true from one start and not from another
open_register : EveryRun adds (λ t k. holds (equal (reg 2) (const 0))) → ⊥
unfolding upd
open_register h = h.holds (begin adds from_five) (begins adds (omega arith) from_five) [] 1 (omega arith, omega arith)
