-- New code without a restart (a dynamic software update): when a handover is permitted, and what is promised of every run across it.
use Rattle.std.specs.Prelude.{◌≡◌, List, ℕ, ◌<◌}
use Rattle.semantics.specs.Base.{Within}
use Rattle.semantics.specs.Machine.{State, Program, Start, Step, run}
use Rattle.logic.specs.Statement.{implies}
use Rattle.semantics.specs.EveryRun.{Outline, Holds}
use Rattle.logic.specs.Derivation.{Derived}

-- a new point for each thread and old point
abbrev pub NewPoint : Type 0
NewPoint = ℕ → ℕ → ℕ

-- the two programs have equal threads, words and range. Start values, registers, owners and start marks are compared too (32); what is
-- true across the handover does not depend on them
pub record Alike (P Q : Program) : Type 0 where
  pub threads : P.threads ≡ Q.threads
  pub words : P.words ≡ Q.words
  pub range : P.range ≡ Q.range

-- a permitted handover from program P with outline O to Q with N: each old point has a new point that exists (33), and the new point's
-- assertion is derived from the old one, in the new image (34)
pub record Handover (P Q : Program) (O N : Outline) (to : NewPoint) : Type 0 where
  pub alike : Alike P Q
  pub there : (t k : ℕ) → Within P.threads t → k < P.points t → to t k < Q.points t
  pub follows : (t k : ℕ) → Within P.threads t → k < P.points t → Derived Q (implies (O t k) (N t (to t k)))

-- "the same memory, views, registers and mapped points"
abbrev pub handed : NewPoint → State → State
handed to s = record { size = s.size; row = s.row; view = s.view; reg = s.reg; point = λ t. to t (s.point t) }

-- the state after the steps l under the old code, the handover, and the steps m under the new code
abbrev pub across : Program → Program → NewPoint → State → List Step → List Step → State
across P Q to s l m = run Q (handed to (run P s l)) m

-- "all later states satisfy the new assertions, though the run began under the old code"
pub record EveryRunAcross (P Q : Program) (N : Outline) (to : NewPoint) : Type 0 where
  pub holds : (s : State) → Start P s → (l m : List Step) → Holds Q N (across P Q to s l m)
