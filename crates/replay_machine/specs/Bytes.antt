-- A state whose writes are kept as bytes, and a step on it. Threads count from 0 here.
use Rattle.std.specs.Prelude.{ℕ, List, Result}
use Rattle.replay_memory.specs.Bytes.{writes_in}
use Rattle.replay_machine.specs.State.{machine_of}
use Rattle.replay_machine.specs.Step.{Stepped, taken_of}
use Rattle.replay_machine.specs.declared.state.Machine.{Machine}
use Rattle.replay_machine.specs.declared.state.Threads.{Threads}
use Rattle.replay_machine.specs.declared.pick.Refusal.{Refusal}

-- the state, its writes read from the bytes b
abbrev pub machine_in : Threads → List ℕ → Machine
machine_in h b = machine_of h (writes_in b)

-- what the code has of a step from n on; the writes are read from the bytes b
abbrev pub taken_in : Result Threads Refusal → Threads → List ℕ → Stepped
taken_in r n b = taken_of r n (writes_in b)
