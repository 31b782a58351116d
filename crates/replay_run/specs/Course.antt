-- The state of a run without its writes: at the start, and as an answer.
use Rattle.std.specs.Prelude.{cond, List, [], ℕ, ◌+◌, ltb, get_or, replicate, None, Option, Some}
use Rattle.image_frames.specs.Records.{bodies}
use Rattle.image_header.specs.declared.sizes.Sizes.{Sizes}
use Rattle.checker_spec.specs.Acceptance.{acceptance}
use Rattle.replay_memory.specs.View.{start_view}
use Rattle.replay_table.specs.Sweep.{no_order}
use Rattle.replay_machine.specs.Start.{start_registers}
use Rattle.replay_machine.specs.Replayed.{room_of}
use Rattle.replay_machine.specs.declared.answer.Answer.{Answer}
use Rattle.replay_machine.specs.declared.state.Threads.{Threads}
use Rattle.replay_table.specs.declared.order.Order.{Order}
use Rattle.replay_machine.specs.Refusal.{code_of}
use Rattle.replay_run.specs.declared.course.Course as Code

-- the state of a run without its writes: the image's counts, how many writes there may be, the run's code, the steps taken, what is left of
-- start writes and trace, the start writes inserted, the state of the threads, the write that is to be inserted
pub record Course : Type 0 where
  pub sizes : Sizes
  pub room : ℕ
  pub code : ℕ
  pub steps : ℕ
  pub left : ℕ
  pub begun : ℕ
  pub threads : Threads
  pub order : Order

-- the same as the code has it
abbrev pub told : Code.Course → Course
told c = record {
  sizes = c.sizes;
  room = c.room;
  code = code_of c.ended;
  steps = c.steps;
  left = c.left;
  begun = c.begun;
  threads = c.threads;
  order = c.order;
}

-- the threads at the start; b: the header's body, R: the range, given: a byte for each register
unfoldable pub start_threads : List ℕ → ℕ → List ℕ → Threads
start_threads b R given = record {
  shape = record { sizes = replicate 8 1; views = replicate 4 start_view };
  registers = start_registers b R given;
  points = replicate 4 0;
}

-- a run that has ended with this code before any step
abbrev pub ended_with : Sizes → ℕ → ℕ → Threads → Course
ended_with z room code h =
    record { sizes = z; room = room; code = code; steps = 0; left = 0; begun = 0; threads = h; order = no_order }

-- the start of a run over a trace of n bytes: "If the start writes don't fit, 29 comes before any step"
unfoldable pub opened_on : List ℕ → Sizes → ℕ → List ℕ → ℕ → Course
opened_on s z n given room =
    cond (ltb room z.words) (ended_with z room 29 (start_threads (get_or (bodies s) 0 []) z.range given))
    (record {
      sizes = z;
      room = room;
      code = 0;
      steps = 0;
      left = z.words + n;
      begun = 0;
      threads = start_threads (get_or (bodies s) 0 []) z.range given;
      order = no_order;
    })

-- the counts of an image that is not accepted
abbrev pub no_sizes : Sizes
no_sizes = record { threads = 0; words = 0; registers = 0; range = 0; formulas = 0; lines = 0; claims = 0 }

-- the start by the acceptance of the image: 24 where it is not accepted
abbrev pub by_accepted : List ℕ → ℕ → List ℕ → ℕ → Option Sizes → Course
by_accepted s n given room (Some z) = opened_on s z n given room
by_accepted s n given room None = ended_with no_sizes room 24 (start_threads [] 0 [])

-- the start of a run over a trace of n bytes, for a table of `lent` entries
unfoldable pub opened_by : List ℕ → ℕ → List ℕ → ℕ → Course
opened_by s n given lent = by_accepted s n given (room_of lent) (acceptance s)

-- the answer of a run
unfoldable pub answer_by : Course → Answer
answer_by c = record { code = c.code; steps = c.steps; points = c.threads.points; registers = c.threads.registers.at }
