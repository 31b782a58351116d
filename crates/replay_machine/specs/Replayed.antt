-- A replay on numbers, of an accepted image: 29 where the start writes do not fit; else the run over the trace.
use Rattle.std.specs.Prelude.{ℕ, Bool, true, false, cond, List, [], ltb, get_or}
use Rattle.image_frames.specs.Records.{bodies}
use Rattle.image_header.specs.declared.sizes.Sizes.{Sizes}
use Rattle.replay_machine.specs.declared.state.Machine.{Machine}
use Rattle.replay_machine.specs.Start.{started}
use Rattle.replay_machine.specs.Refusal.{code_of}
use Rattle.replay_machine.specs.Run.{Run, ran}
use Rattle.replay_machine.specs.declared.replayed.Replayed as Code

-- a replay: its code, the steps taken and the state reached; whether the table is written, and how many words have rows there
pub record Replayed : Type 0 where
  pub code : ℕ
  pub steps : ℕ
  pub held : Bool
  pub words : ℕ
  pub machine : Machine

-- a replay as the code has it
unfoldable pub told : Code.Replayed → Replayed
told r = record { code = code_of r.ended; steps = r.steps; held = r.held; words = r.words; machine = r.machine }

-- how many entries are used at most, of a table that has `lent`: "entries past the 64th are never used"
unfoldable pub room_of : ℕ → ℕ
room_of lent = cond (ltb lent 64) lent 64

-- the replay that ends with this run
abbrev pub of_run : Sizes → Run → Replayed
of_run z r = record { code = r.code; steps = r.steps; held = true; words = z.words; machine = r.machine }

-- the replay of an accepted image: "If the start writes don't fit, 29 comes before any step: no entry is written"
unfoldable pub replay_on : List ℕ → Sizes → List ℕ → List ℕ → ℕ → Replayed
replay_on s z trace given room =
    cond (ltb room z.words)
    (record { code = 29; steps = 0; held = false; words = z.words; machine = started (get_or (bodies s) 0 []) z.range given })
    (of_run z (ran s z room (started (get_or (bodies s) 0 []) z.range given) 0 trace))

-- the state of an image that is not accepted: points and registers are 0
abbrev pub blank : Machine
blank = started [] 0 []
