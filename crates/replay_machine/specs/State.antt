-- A state of the machine as the code has it, and a step on it. Threads count from 0 here.
use Rattle.std.specs.Prelude.{ℕ, ◌%◌, get_or, set, List}
use Rattle.replay_memory.specs.Memory.{write_at, memory_of}
use Rattle.replay_memory.specs.declared.write.Write.{Write}
use Rattle.replay_machine.specs.Shared.{memory_after}
use Rattle.replay_machine.specs.Locals.{registers_after, point_after}
use Rattle.replay_machine.specs.declared.effect.Effect.{Effect}
use Rattle.replay_machine.specs.declared.state.Machine.{Machine}
use Rattle.replay_machine.specs.declared.state.Threads.{Threads}

-- the point of thread t
unfoldable pub point_of : Machine → ℕ → ℕ
point_of n t = get_or n.points (t % 4) 0

-- the state after a step of thread t with effect d at position p
unfoldable pub performed : Machine → ℕ → Effect → ℕ → ℕ → Machine
performed n R d t p = record {
  memory = memory_after n.memory R d t p;
  registers = registers_after n.registers (write_at n.memory d.word p).value d;
  points = set n.points (t % 4) (point_after (point_of n t) d);
}

-- APART FROM THE WRITES

-- the state with the writes l
unfoldable pub machine_of : Threads → List Write → Machine
machine_of h l = record { memory = memory_of h.shape l; registers = h.registers; points = h.points }

-- the state without its writes
unfoldable pub threads_of : Machine → Threads
threads_of n = record { shape = record { sizes = n.memory.sizes; views = n.memory.views }; registers = n.registers; points = n.points }
