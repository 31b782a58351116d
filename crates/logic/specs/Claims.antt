-- Claims (Change 5): "two threads are never at named points together"; the field's mutual exclusion.
use Rattle.std.specs.Prelude.{◌≡◌, Bool, true, false, List, ℕ, ltb}
use Rattle.semantics.specs.Base.{Within}
use Rattle.semantics.specs.Formula.{Formula, Assertion, Formula.both_a, Formula.holds}
use Rattle.semantics.specs.Machine.{State, Program, Start, Step, run}
use Rattle.logic.specs.Statement.{Statement, implies}
use Rattle.semantics.specs.EveryRun.{Outline}

-- a claim record's two threads, each with a point
pub record Claim : Type 0 where
  pub thread : ℕ
  pub point : ℕ
  pub other : ℕ
  pub other_point : ℕ

-- "no reachable state has both threads at their points", from any start state
pub record NeverBoth (P : Program) (c : Claim) : Type 0 where
  pub never : (s : State) → Start P s → (l : List Step) → (run P s l).point c.thread ≡ c.point
      → (run P s l).point c.other ≡ c.other_point → ⊥

-- both threads of the claim are there
abbrev pub threads_in : Program → Claim → Type 0
threads_in P c = Within P.threads c.thread × Within P.threads c.other

-- `false` follows from both assertions joined by 25: a first where the Boolean is true, else b first
abbrev pub impossible : Bool → Assertion → Assertion → Statement
impossible true a b = implies (both_a a b) (holds Formula.false)
impossible false a b = implies (both_a b a) (holds Formula.false)

-- what a claim's line must state: "false (28 8) from both assertions joined by 25, lower thread first"
abbrev pub claims : Outline → Claim → Statement
claims O c = impossible (ltb c.thread c.other) (O c.thread c.point) (O c.other c.other_point)
