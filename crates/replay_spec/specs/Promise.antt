-- THE PROMISE of a replay, whole, for both entry points.
use Rattle.std.specs.Prelude.{◌≡◌, true, List, [], ℕ, suc, ◌≤◌, ◌<◌, T, length, get_or, take, replicate, None, Some}
use Rattle.semantics.specs.Machine.{State, Program, run}
use Rattle.semantics.specs.EveryRun.{Outline, Holds}
use Rattle.limits.specs.Numbers.{nth}
use Rattle.image_frames.specs.Records.{bodies}
use Rattle.image_header.specs.declared.sizes.Sizes.{Sizes}
use Rattle.image_meaning.specs.Program.{program_of, outline_of}
use Rattle.checker_spec.specs.Acceptance.{acceptance}
use Rattle.replay_memory.specs.declared.write.Write.{Write}
use Rattle.replay_spec.specs.MachineReplay.{ReplayResult, steps_in}
use Rattle.replay_spec.specs.Follows as Replay
use Rattle.replay_machine.specs.Replayed.{room_of}
use Rattle.replay_spec.specs.ReplayNumbers.{replay_of}
use Rattle.replay_machine.specs.declared.answer.Answer.{Answer}
use Rattle.replay_machine.specs.Answer.{answer_of, code_for, numbers_for}
use Rattle.replay_machine.specs.OutputTable.{shown_of, placed, entries_in, table_for}
use Rattle.replay_spec.specs.Plain.{of_regs, plain_true}
use Rattle.replay_spec.specs.AnswerStands.{AnswerStands, TableStands}

-- the answer for an image that is not accepted: code 24, the rest 0
abbrev pub declined : Answer
declined = record { code = 24; steps = 0; points = replicate 4 0; registers = replicate 16 0 }

-- s: an accepted image, z: its sizes; room: how many writes there may be; a: the answer; shown: the writes that go to the table
module _ (s : List ℕ) (z : Sizes) (trace given : List ℕ) (room : ℕ) (a : Answer) (shown : List Write) where
  abbrev P : Program
  P = program_of z (bodies s)

  abbrev O : Outline
  O = outline_of z (bodies s)

  -- the start state
  abbrev first : State
  first = Replay.first s z trace given room

  -- the replay on the logic's machine
  abbrev outcome : ReplayResult
  outcome = Replay.outcome s z trace given room

  -- the start writes do not fit: "no entry is written, points and registers are as at the start and the steps are 0"
  pub record Unfit : Type 0 where
    pub code : a.code ≡ 29
    pub steps : a.steps ≡ 0
    pub answer : AnswerStands z.threads z.registers a first
    pub table : shown ≡ []

  -- the start writes fit, and the trace is run
  pub record Replays : Type 0 where
    -- each step of the trace in turn, until one is refused, and why
    pub code : a.code ≡ outcome.code
    pub steps : a.steps ≡ outcome.steps
    -- the state reached is that of a run over the steps taken; answer and table represent it, and all its writes have room
    pub state : outcome.state ≡ run P first (take a.steps (steps_in trace))
    pub answer : AnswerStands z.threads z.registers a outcome.state
    pub table : TableStands z.words shown outcome.state
    pub fits : length shown ≤ room
    -- each thread's assertion at its point is true in each state on the way, and in the one reached
    pub on_the_way : (k : ℕ) → k ≤ a.steps → Holds P O (run P first (take k (steps_in trace)))
    pub holds : Holds P O outcome.state
    -- an assertion at a point of the answer that is made of 25, 26 and 28 alone evaluates to true at the answer's registers
    pub plain : (t : ℕ) → t < z.threads → T (of_regs (O (suc t) (get_or a.points t 0)))
        → plain_true P.range (λ r. nth a.registers r 0) (O (suc t) (get_or a.points t 0)) ≡ true

-- what holds for every byte string, trace, given registers and number of entries in the caller's table
pub record Promise (image trace given : List ℕ) (lent : ℕ) (a : Answer) (shown : List Write) : Type 0 where
  -- the answer and the writes shown are those of the replay on numbers
  pub answer : a ≡ answer_of (replay_of image trace given lent)
  pub table : shown ≡ shown_of (replay_of image trace given lent) lent
  -- an image that is not accepted; one whose start writes do not fit; one whose start writes fit
  pub refused : acceptance image ≡ None → (a ≡ declined) × (shown ≡ [])
  pub unfit : (z : Sizes) → acceptance image ≡ Some z → room_of lent < z.words → Unfit image z trace given (room_of lent) a shown
  pub replays : (z : Sizes) → acceptance image ≡ Some z → z.words ≤ room_of lent → Replays image z trace given (room_of lent) a shown

-- what holds for a table of write structs: its contents afterwards
pub record Into (image trace given : List ℕ) (table : List Write) (a : Answer) (after : List Write) : Type 0 where
  pub shown : List Write
  pub right : Promise image trace given (length table) a shown
  pub writes : after ≡ placed shown table

-- what holds for a table of bytes and `room` for the answer's numbers: the code returned, and the contents of both afterwards
pub record Written (image trace given table room : List ℕ) (code : ℕ) (after told : List ℕ) : Type 0 where
  pub answer : Answer
  pub shown : List Write
  pub right : Promise image trace given (entries_in table) answer shown
  -- 1 where `room` is too short for the numbers: then both stay
  pub returned : code ≡ code_for answer room
  pub numbers : told ≡ numbers_for answer room
  pub bytes : after ≡ table_for shown room table
