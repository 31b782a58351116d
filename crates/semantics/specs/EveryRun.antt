-- DEMAND 3: the claim about every run of a program and its outline.
use Rattle.std.specs.Prelude.{List, ℕ}
use Rattle.semantics.specs.Base.{Within}
use Rattle.semantics.specs.Formula.{Assertion}
use Rattle.semantics.specs.Machine.{State, Program, Start, Step, run}
use Rattle.semantics.specs.Truth.{True}

-- an assertion for each thread and point
abbrev pub Outline : Type 0
Outline = ℕ → ℕ → Assertion

-- each thread's assertion at its point is true in the state
abbrev pub Holds : Program → Outline → State → Type 0
Holds P O s = (t : ℕ) → Within P.threads t → True P s (O t (s.point t))

-- each thread's assertion is true from every start state, after every finite list of steps, refused ones among them
pub record EveryRun (P : Program) (O : Outline) : Type 0 where
  pub holds : (s : State) → Start P s → (l : List Step) → Holds P O (run P s l)
