-- Truth over what the names stand for: a state's own meaning, or another one with the same prospects.
use mathlib.Core.List.{List}
use mathlib.Core.Logic.{◌⊎◌}
use Prim.Native.Nat.{ℕ}
use lib.Dec.{T}
use Rattle.semantics.specs.Formula.{Interval, Assertion, Formula.sees, Formula.both_a, Formula.either_a, Formula.start, Formula.holds}
use Rattle.semantics.specs.Eval.{Env, test, on_regs}
use Rattle.semantics.specs.Machine.{View, State, at, Program, Start}
use Rattle.semantics.specs.Truth.{Sat, Prospect, True}
use Rattle.semantics.proofs.Base.{map_or}

-- a state, what the names stand for at each view, and what they stand for under `holds`
pub record World : Type 0 where
  pub state : State
  pub at : View → Env
  pub held : Env

abbrev pub world : Program → State → World
world P s = record { state = s; at = at P s; held = on_regs s.reg }

abbrev pub Seen : Program → World → ℕ → Interval → Type 0
Seen P w t i = (l : List View) → Prospect w.state.size (w.state.view t) l → Sat P.range w.at i l

abbrev pub Truth : Program → World → Assertion → Type 0
Truth P w (sees t i) = Seen P w t i
Truth P w (both_a a b) = Truth P w a × Truth P w b
Truth P w (either_a a b) = Truth P w a ⊎ Truth P w b
Truth P w start = Start P w.state
Truth P w (holds e) = T (test P.range w.held e)

-- a state's own meaning
pub true_world : (P : Program) (s : State) (a : Assertion) → True P s a → Truth P (world P s) a
true_world P s (sees t i) h = h
true_world P s (both_a a b) h = (true_world P s a h.0, true_world P s b h.1)
true_world P s (either_a a b) h = map_or (true_world P s a) (true_world P s b) h
true_world P s start h = h
true_world P s (holds e) h = h

pub world_true : (P : Program) (s : State) (a : Assertion) → Truth P (world P s) a → True P s a
world_true P s (sees t i) h = h
world_true P s (both_a a b) h = (world_true P s a h.0, world_true P s b h.1)
world_true P s (either_a a b) h = map_or (world_true P s a) (world_true P s b) h
world_true P s start h = h
world_true P s (holds e) h = h
