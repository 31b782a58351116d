-- What the next turn of a run is to do: a start write, a step, or a refusal.
use Rattle.std.specs.Prelude.{cond, List, [], ℕ, ◌+◌, ◌-◌, ◌%◌, eqb, ltb, length, get_or}
use Rattle.limits.specs.Numbers.{nth}
use Rattle.image_frames.specs.Records.{bodies}
use Rattle.image_header.specs.Header.{start_values}
use Rattle.image_header.specs.declared.sizes.Sizes.{Sizes}
use Rattle.replay_memory.specs.Memory.{index_of}
use Rattle.replay_machine.specs.Step.{effect_at, last_of}
use Rattle.replay_machine.specs.declared.effect.Effect.{Effect}
use Rattle.replay_machine.specs.declared.state.Threads.{Threads}
use Rattle.replay_run.specs.Course.{Course}
use Rattle.replay_run.specs.declared.next_turn.StepTurn.{StepTurn}
use Rattle.replay_run.specs.declared.next_turn.NextTurn.{NextTurn}
use Rattle.replay_run.specs.declared.next_turn.NextTurn.TheVariants.{Start, Step, Refused}

-- the entry that a turn reads
abbrev pub entry_of : NextTurn → ℕ
entry_of (Start v) = 0
entry_of (Step x) = x.entry
entry_of Refused = 0

-- the turn of a kind: 0 a start write of the effect's value, 1 the step, every other number a refusal
unfoldable pub numbered : ℕ → StepTurn → NextTurn
numbered kind x = cond (eqb kind 0) (Start x.effect.value) (cond (eqb kind 1) (Step x) Refused)

-- a step of thread t, counted from 0, with effect d at position p: it picks the write of that position
unfoldable pub try_turn : Threads → Effect → ℕ → ℕ → StepTurn
try_turn h d t p = record { t = t; position = p; effect = d; entry = index_of h.shape.sizes d.word p }

-- the point of thread t, counted from 0
abbrev pub point_by : Threads → ℕ → ℕ
point_by h t = get_or h.points (t % 4) 0

-- a step of thread t, counted from 1, at position p
unfoldable pub step_turn : List ℕ → Sizes → Threads → ℕ → ℕ → NextTurn
step_turn s z h t p =
    cond (eqb t 0) Refused
    (cond (ltb z.threads t) Refused
    (cond (ltb (point_by h (t - 1)) (last_of s z t)) (Step (try_turn h (effect_at s z h.registers t (point_by h (t - 1))) (t - 1) p)) Refused))

-- the next turn: the next start write while there is one, then the next step of the trace; half a step is refused
unfoldable pub next_turn : List ℕ → List ℕ → Course → NextTurn
next_turn s trace c =
    cond (ltb c.begun c.sizes.words) (Start (nth (start_values (get_or (bodies s) 0 [])) (c.begun + 1) 0))
    (cond (ltb c.left 2) Refused
    (step_turn s c.sizes c.threads (get_or trace (length trace - c.left) 0) (get_or trace (length trace - (c.left - 1)) 0)))
