-- THE PROMISE of a replay across a handover, whole, and of the entry point `replay_handover`.
use Rattle.std.specs.Prelude.{◌≡◌, true, List, [], ℕ, suc, ◌+◌, ◌≤◌, ◌<◌, T, length, get_or, take, replicate, Some}
use Rattle.semantics.specs.Machine.{State, Program, begin, run}
use Rattle.semantics.specs.EveryRun.{Outline, Holds}
use Rattle.handover_spec.specs.Handover.{NewPoint, handed, across}
use Rattle.limits.specs.Numbers.{nth}
use Rattle.image_frames.specs.Records.{bodies}
use Rattle.image_header.specs.declared.sizes.Sizes.{Sizes}
use Rattle.image_meaning.specs.Program.{program_of, outline_of}
use Rattle.checker_spec.specs.Acceptance.{acceptance}
use Rattle.replay_memory.specs.declared.write.Write.{Write}
use Rattle.handover_spec.specs.Table.{new_point}
use Rattle.handover_spec.specs.Code.{handover_code}
use Rattle.replay_spec.specs.MachineReplay.{ReplayResult, replayed, steps_in}
use Rattle.replay_machine.specs.Replayed.{room_of}
use Rattle.replay_machine.specs.declared.answer.Answer.{Answer}
use Rattle.replay_machine.specs.Answer.{answer_of, code_for, numbers_for}
use Rattle.replay_machine.specs.OutputTable.{shown_of, entries_in, table_for}
use Rattle.replay_spec.specs.Plain.{of_regs, plain_true}
use Rattle.replay_spec.specs.AnswerStands.{AnswerStands, TableStands}
use Rattle.replay_spec.specs.Promise.{Unfit, Replays}
use Rattle.handover_replay.specs.ReplayAcross.{across_of}

-- the answer if the handover is not permitted: "these three take the place of 24, with its effects"
abbrev pub unpermitted : ℕ → Answer
unpermitted code = record { code = code; steps = 0; points = replicate 4 0; registers = replicate 16 0 }

-- both images are accepted, with sizes z and y, and the handover is permitted
module _ (old : List ℕ) (z : Sizes) (new : List ℕ) (y : Sizes) (points first second given : List ℕ) (room : ℕ) where
  -- the old program
  abbrev pub P : Program
  P = program_of z (bodies old)

  -- the new program
  abbrev pub Q : Program
  Q = program_of y (bodies new)

  -- the new outline
  abbrev pub N : Outline
  N = outline_of y (bodies new)

  -- the new points that the handover table gives
  abbrev pub to : NewPoint
  to = new_point P points

  -- the start state with the given registers, which count from 1
  abbrev pub begun : State
  begun = begin P (λ r. nth given r 0)

  -- the replay of the first trace under the old code
  abbrev pub before : ReplayResult
  before = replayed P room begun 0 first

  -- the replay of the second trace under the new code, from the mapped points
  abbrev pub after : ReplayResult
  after = replayed Q room (handed to before.state) 0 second

  -- what holds if no step of the first trace is refused
  pub record Across (a : Answer) (shown : List Write) : Type 0 where
    pub code : a.code ≡ after.code
    pub steps : a.steps ≡ before.steps + after.steps
    -- the state reached is that of a run across the handover, over the steps taken; answer and table stand for it, and all its writes fit
    pub state : after.state ≡ across P Q to begun (take before.steps (steps_in first)) (take after.steps (steps_in second))
    pub answer : AnswerStands y.threads y.registers a after.state
    pub table : TableStands y.words shown after.state
    pub fits : length shown ≤ room
    -- each thread's assertion at its point is true: the old one in each state on the way under the old code, the new one in each state on
    -- the way under the new code and in the one reached
    pub old_way : (k : ℕ) → k ≤ before.steps → Holds P (outline_of z (bodies old)) (run P begun (take k (steps_in first)))
    pub new_way : (k : ℕ) → k ≤ after.steps → Holds Q N (run Q (handed to before.state) (take k (steps_in second)))
    pub holds : Holds Q N after.state
    -- an assertion "made of 25, 26 and 28 alone" at a point of the answer is true of the answer's registers
    pub plain : (t : ℕ) → t < y.threads → T (of_regs (N (suc t) (get_or a.points t 0)))
        → plain_true Q.range (λ r. nth a.registers r 0) (N (suc t) (get_or a.points t 0)) ≡ true

-- what answer a and table `shown` are, for every two images, handover table, traces, given registers and length of the caller's table of
-- writes
pub record Promise (old new points first second given : List ℕ) (lent : ℕ) (a : Answer) (shown : List Write) : Type 0 where
  pub answer : a ≡ answer_of (across_of old new points first second given lent)
  pub table : shown ≡ shown_of (across_of old new points first second given lent) lent
  -- 32, 33 and 34 in the place of 24
  pub refused : (handover_code old new points ≡ 0 → ⊥) → (a ≡ unpermitted (handover_code old new points)) × (shown ≡ [])
  -- "If the start writes don't fit, 29 comes before any step"
  pub unfit : (z y : Sizes) → acceptance old ≡ Some z → acceptance new ≡ Some y → handover_code old new points ≡ 0
      → room_of lent < z.words
      → Unfit old z first given (room_of lent) a shown
  -- "a step refused in the first ends the run under the old code": the answer is that of replaying the first trace alone
  pub stopped : (z y : Sizes) → acceptance old ≡ Some z → acceptance new ≡ Some y → handover_code old new points ≡ 0
      → z.words ≤ room_of lent
      → ((before old z new y points first second given (room_of lent)).code ≡ 0 → ⊥) → Replays old z first given (room_of lent) a shown
  -- no step of the first trace is refused
  pub goes_on : (z y : Sizes) → acceptance old ≡ Some z → acceptance new ≡ Some y → handover_code old new points ≡ 0
      → z.words ≤ room_of lent
      → (before old z new y points first second given (room_of lent)).code ≡ 0
      → Across old z new y points first second given (room_of lent) a shown

-- what is returned and written, for the caller's table of writes and buffer `room`: the code, and both afterwards
pub record Written (old new points first second given table room : List ℕ) (code : ℕ) (after told : List ℕ) : Type 0 where
  pub answer : Answer
  pub shown : List Write
  pub right : Promise old new points first second given (entries_in table) answer shown
  -- 1 if the buffer is too short for the numbers: then both stay
  pub returned : code ≡ code_for answer room
  pub numbers : told ≡ numbers_for answer room
  pub bytes : after ≡ table_for shown room table
