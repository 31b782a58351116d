-- The start state, on numbers. b: the header's body; R: the range; given: a byte for each register.
use Rattle.std.specs.Prelude.{ℕ, ◌+◌, ◌%◌, cond, List, eqb, ltb, get_or, replicate}
use Rattle.limits.specs.Numbers.{nth}
use Rattle.image_header.specs.Header.{start_values, cleared}
use Rattle.tables_columns.specs.Column.{column}
use Rattle.replay_memory.specs.View.{start_view}
use Rattle.replay_memory.specs.Write.{start_write}
use Rattle.replay_memory.specs.declared.write.Write.{Write}
use Rattle.replay_memory.specs.declared.memory.Memory.{Memory}
use Rattle.replay_machine.specs.declared.locals.Registers.{Registers}
use Rattle.replay_machine.specs.declared.state.Machine.{Machine}

-- the writes in the first n places
unfoldable pub start_writes : List ℕ → ℕ → List Write
start_writes b n = column (λ j. start_write (nth (start_values b) (j + 1) 0)) n

-- the memory at the start: one write in each row
unfoldable pub start_memory : List ℕ → Memory
start_memory b = record { sizes = replicate 8 1; writes = start_writes b 72; views = replicate 4 start_view }

-- the register with index i: 0 if it starts there, else "given by the caller", modulo the range
unfoldable pub start_register : List ℕ → ℕ → List ℕ → ℕ → ℕ
start_register b R given i = cond (eqb R 0) 0 (cond (ltb 255 i) 0 (cond (cleared b (i + 1)) 0 (get_or given i 0 % R)))

-- the first n registers
unfoldable pub start_values_to : List ℕ → ℕ → List ℕ → ℕ → List ℕ
start_values_to b R given n = column (start_register b R given) n

-- all registers at the start
unfoldable pub start_registers : List ℕ → ℕ → List ℕ → Registers
start_registers b R given = record { at = start_values_to b R given 16 }

-- the start state
unfoldable pub started : List ℕ → ℕ → List ℕ → Machine
started b R given = record { memory = start_memory b; registers = start_registers b R given; points = replicate 4 0 }
