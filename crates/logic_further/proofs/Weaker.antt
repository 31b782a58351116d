-- An outline that says less than one that is true in every run is true in every run; so corr2 is.
use Prim.Native.Nat.{ℕ, zero, suc}
use Rattle.semantics.specs.Machine.{State, Program, run}
use Rattle.semantics.specs.Truth.{True}
use Rattle.semantics.specs.EveryRun.{Outline, EveryRun}
use Rattle.logic_further.specs.Example.{program_of, outline_of}
use Rattle.logic_further.specs.Programs.{corr2, corr2_stronger}
use Rattle.logic_further.proofs.Corr2.{corr2_stronger_run}

pub weaker_run : (P : Program) (O Q : Outline) → ((s : State) (t k : ℕ) → True P s (O t k) → True P s (Q t k)) → EveryRun P O
    → EveryRun P Q
weaker_run P O Q f h = record { holds = λ s st l t w. f (run P s l) t ((run P s l).point t) (h.holds s st l t w) }

-- what is said more is the second conjunct, of the first two points of each reader
less_said : (s : State) (t k : ℕ) → True (program_of corr2) s (outline_of corr2_stronger t k) → True (program_of corr2) s (outline_of corr2 t k)
less_said s zero k h = h
less_said s (suc zero) k h = h
less_said s (suc (suc zero)) k h = h
less_said s (suc (suc (suc zero))) zero h = h.0
less_said s (suc (suc (suc zero))) (suc zero) h = h.0
less_said s (suc (suc (suc zero))) (suc (suc k)) h = h
less_said s (suc (suc (suc (suc zero)))) zero h = h.0
less_said s (suc (suc (suc (suc zero)))) (suc zero) h = h.0
less_said s (suc (suc (suc (suc zero)))) (suc (suc k)) h = h
less_said s (suc (suc (suc (suc (suc t))))) k h = h

-- THE THEOREM
pub corr2_run : EveryRun (program_of corr2) (outline_of corr2)
corr2_run = weaker_run (program_of corr2) (outline_of corr2_stronger) (outline_of corr2) less_said corr2_stronger_run
