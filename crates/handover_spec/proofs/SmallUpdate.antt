-- A small update, whole: code that waits is replaced by code that sets register 1 to 1. Nothing that the theorem asks is out of reach.
use mathlib.Core.Path.{◌≡◌, refl, subst}
use mathlib.Core.Bool.{true}
use mathlib.Core.List.{List, [], ◌∷◌}
use Prim.Native.Nat.{ℕ, zero, suc, ◌<◌}
use native.Mathlib.Omega.{arith}
use native.Mathlib.Decide.{ℕ_discrete}
use lib.Dec.{T, eqb→eq}
use lib.ListN.{get_or}
use Rattle.semantics.specs.Base.{upd}
use Rattle.semantics.specs.Formula.{Formula, Assertion, Formula.const, Formula.reg, Formula.equal, Formula.start, Formula.holds, same}
use Rattle.semantics.specs.Names.{startless}
use Rattle.logic.specs.Rows.{choose, is_in, distinct, same_name}
use Rattle.logic.specs.Table.{same_leaf}
use Rattle.semantics.specs.Machine.{State, Program, Access.none, Instr, Instr.act, Step, Start, begin}
use Rattle.semantics.specs.Truth.{True}
use Rattle.logic.specs.Statement.{Statement, implies, triple}
use Rattle.logic.specs.Inference.{i2, i20, i21}
use Rattle.semantics.specs.EveryRun.{Outline}
use Rattle.logic.specs.WellFormed.{WellFormed}
use Rattle.logic.specs.Derivation.{Derived, by_rule, Proved}
use Rattle.handover_spec.specs.Handover.{NewPoint, Handover, across, EveryRunAcross}
use Rattle.handover_spec.proofs.RunsAcross.{every_run_across}

-- register 1 := 1
abbrev sets : Instr
sets = act none (record { to = 1; by = const 1 } ∷ [])

-- one thread of n points
abbrev program : ℕ → Program
program n = record {
  threads = 1;
  words = 1;
  range = 8;
  init = λ x. 0;
  cleared = λ r. true;
  points = λ t. n;
  code = λ t k. sets;
}

abbrev waits : Program
waits = program 1

abbrev sets_one : Program
sets_one = program 2

abbrev always : Assertion
always = holds (Formula.not Formula.false)

abbrev waiting : Outline
waiting t k = always

abbrev setting : Outline
setting t zero = holds (equal (const 1) (const 1))
setting t (suc k) = holds (equal (reg 1) (const 1))

-- always true, in either program; the same under the new code's first assertion
from_start : (P : Program) → Derived P (implies start always)
unfolding same_leaf same choose is_in distinct ℕ_discrete
from_start P = by_rule (i20 {ps = []} (omega arith) tt tt) tt (λ i b. absurd (omega arith))

from_always : Derived sets_one (implies always (setting 1 0))
unfolding choose is_in distinct same_name ℕ_discrete
from_always = by_rule (i21 tt) tt (λ i b. absurd (omega arith))

abbrev both : List Statement
both = implies start always ∷ implies always (setting 1 0) ∷ []

begun : Derived sets_one (implies start (setting 1 0))
unfolding same_leaf same choose is_in distinct ℕ_discrete
begun = by_rule (i20 {ps = both} (omega arith) tt tt) tt premises
  where
    premises : (i : ℕ) → i < 2 → Derived sets_one (get_or both i (implies start (setting 1 0)))
    premises zero b = from_start sets_one
    premises (suc zero) b = from_always
    premises (suc (suc i)) b = absurd (omega arith)

is_set : Derived sets_one (triple 1 0 (setting 1 0) (setting 1 1))
unfolding upd
is_set = by_rule (i2 {q = setting 1 1} refl) tt (λ i b. absurd (omega arith))

old_proved : Proved waits waiting
old_proved = (from_start waits, tt)

new_proved : Proved sets_one setting
new_proved = (begun, (is_set, tt))

old_wf : WellFormed waits waiting
old_wf = record {
  some_value = omega arith;
  start-values = λ x. omega arith;
  some_point = λ t b. omega arith;
  instructions = λ t k b c. tt;
  no_start = λ t k b c. tt;
}

new_wf : WellFormed sets_one setting
new_wf = record {
  some_value = omega arith;
  start-values = λ x. omega arith;
  some_point = λ t b. omega arith;
  instructions = λ t k b c. tt;
  no_start = λ t k b c. go t k;
}
  where
    go : (t k : ℕ) → T (startless (setting t k))
    go t zero = tt
    go t (suc k) = tt

-- the old point becomes the new code's first
first_point : NewPoint
first_point t k = 0

permitted : Handover waits sets_one waiting setting first_point
unfolding first_point
permitted = record {
  alike = record { threads = refl; words = refl; range = refl };
  there = λ t k b c. omega arith;
  follows = λ t k b c. from_always;
}

every_update : EveryRunAcross waits sets_one setting first_point
every_update = every_run_across waits sets_one waiting setting first_point old_wf new_wf permitted old_proved new_proved

-- the thread at its new last point has 1 in register 1, whatever steps were taken before and after; one run that gets there
module _ (s : State) (st : Start waits s) where
  abbrev after : List Step → List Step → State
  after l m = across waits sets_one first_point s l m

  register_is_1 : (l m : List Step) → (after l m).point 1 ≡ 1 → (after l m).reg 1 ≡ 1
  register_is_1 l m e =
      eqb→eq ((after l m).reg 1) 1
      (subst (λ (k : ℕ). True sets_one (after l m) (setting 1 k)) e (every_update.holds s st l m 1 (omega arith, omega arith)))

abbrev goes : List Step
goes = record { thread = 1; position = 0 } ∷ []

gets_there : (given : ℕ → ℕ) → (across waits sets_one first_point (begin waits given) goes goes).point 1 ≡ 1
unfolding first_point upd
gets_there given = refl
