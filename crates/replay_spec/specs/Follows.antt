-- A replay on numbers follows the logic's machine. s: an accepted image whose start writes fit; z: its sizes.
use Rattle.std.specs.Prelude.{◌≡◌, true, List, ℕ, take}
use Rattle.semantics.specs.Machine.{State, Program, begin, run}
use Rattle.semantics.specs.EveryRun.{Holds}
use Rattle.limits.specs.Numbers.{nth}
use Rattle.image_frames.specs.Records.{bodies}
use Rattle.image_header.specs.declared.sizes.Sizes.{Sizes}
use Rattle.image_meaning.specs.Program.{program_of, outline_of}
use Rattle.replay_spec.specs.MachineReplay.{ReplayResult, replayed, steps_in}
use Rattle.replay_spec.specs.StateStands.{StandsFor}
use Rattle.replay_machine.specs.Replayed.{Replayed}

module _ (s : List ℕ) (z : Sizes) (trace given : List ℕ) (room : ℕ) where
  -- the image's program
  abbrev pub P : Program
  P = program_of z (bodies s)

  -- the start state with the registers that the caller gives, which count from 1
  abbrev pub first : State
  first = begin P (λ r. nth given r 0)

  -- the replay on the logic's machine
  abbrev pub outcome : ReplayResult
  outcome = replayed P room first 0 trace

  -- the replay r has the outcome's code and steps, and its numbers represent the outcome's state
  pub record Follows (r : Replayed) : Type 0 where
    pub code : r.code ≡ outcome.code
    pub steps : r.steps ≡ outcome.steps
    pub held : r.held ≡ true
    pub stands : StandsFor r.machine outcome.state
    -- the state is that of a run over the steps taken
    pub state : outcome.state ≡ run P first (take r.steps (steps_in trace))
    -- each thread's assertion at its point is true there
    pub holds : Holds P (outline_of z (bodies s)) outcome.state
