-- One turn of a run, from the write w that was read.
use Rattle.std.specs.Prelude.{cond, ℕ, ◌+◌, ◌-◌, ◌%◌, eqb, ltb, get_or, set}
use Rattle.replay_memory.specs.View.{next}
use Rattle.replay_memory.specs.declared.write.Write.{Write}
use Rattle.replay_table.specs.Sweep.{no_order, start_order}
use Rattle.replay_table.specs.declared.access.Change.{Change}
use Rattle.replay_machine.specs.Locals.{registers_after, point_after}
use Rattle.replay_machine.specs.declared.state.Threads.{Threads}
use Rattle.replay_machine.specs.Pick.{refusal_by}
use Rattle.replay_run.specs.Shared.{change_of}
use Rattle.replay_run.specs.Course.{Course}
use Rattle.replay_run.specs.declared.next_turn.StepTurn.{StepTurn}
use Rattle.replay_run.specs.declared.next_turn.NextTurn.{NextTurn}
use Rattle.replay_run.specs.declared.next_turn.NextTurn.TheVariants.{Start, Step, Refused}

-- the number after n, as far as 64 bits have one
unfoldable pub counted : ℕ → ℕ
counted n = cond (ltb n 18446744073709551615) (n + 1) n

-- the next start write is to be inserted
unfoldable pub begun_by : Course → ℕ → Course
begun_by c v = record {
  sizes = c.sizes;
  room = c.room;
  code = c.code;
  steps = c.steps;
  left = c.left - 1;
  begun = next c.begun;
  threads = c.threads;
  order = start_order c.begun v;
}

-- the run ends with this code; nothing changes
unfoldable pub stopped : Course → ℕ → Course
stopped c code = record {
  sizes = c.sizes;
  room = c.room;
  code = code;
  steps = c.steps;
  left = 0;
  begun = c.begun;
  threads = c.threads;
  order = no_order;
}

-- the threads after the step
unfoldable pub threads_after : Threads → StepTurn → Write → Change → Threads
threads_after h x w a = record {
  shape = a.shape;
  registers = registers_after h.registers w.value x.effect;
  points = set h.points (x.t % 4) (point_after (get_or h.points (x.t % 4) 0) x.effect);
}

-- what the step does to sizes and views, and the write that it inserts
abbrev pub change_by : Course → StepTurn → Write → Change
change_by c x w = change_of c.threads.shape c.sizes.words c.sizes.range w x.effect x.t x.position

-- the step is taken
unfoldable pub performed_by : Course → StepTurn → Write → Course
performed_by c x w = record {
  sizes = c.sizes;
  room = c.room;
  code = c.code;
  steps = counted c.steps;
  left = c.left - 2;
  begun = c.begun;
  threads = threads_after c.threads x w (change_by c x w);
  order = (change_by c x w).order;
}

-- why the step is refused; 0 if it is taken
abbrev pub code_by : Course → StepTurn → Write → ℕ
code_by c x w = refusal_by c.threads.shape w c.sizes.words c.room x.effect x.t x.position

-- the step is refused, or taken
unfoldable pub attempted_by : Course → StepTurn → Write → Course
attempted_by c x w = cond (eqb (code_by c x w) 0) (performed_by c x w) (stopped c (code_by c x w))

-- one turn
unfoldable pub turn_by : Course → NextTurn → Write → Course
turn_by c (Start v) w = begun_by c v
turn_by c (Step x) w = attempted_by c x w
turn_by c Refused w = stopped c 27
