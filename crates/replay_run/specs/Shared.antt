-- What a step does to shared words and views, from the write w that it picks.
use Rattle.std.specs.Prelude.{true, false, cond, ℕ, eqb}
use Rattle.logic.specs.Opcode as Opcode
use Rattle.tables_columns.specs.Combine.{sum_of}
use Rattle.replay_memory.specs.declared.write.Write.{Write}
use Rattle.replay_memory.specs.declared.memory.MemoryShape.{MemoryShape}
use Rattle.replay_table.specs.Change.{unchanged, loaded_by, stored_by, swapped_by}
use Rattle.replay_table.specs.declared.access.Change.{Change}
use Rattle.replay_machine.specs.declared.effect.Effect.{Effect}

-- a swap that stores the picked value plus the formula's, modulo R
unfoldable pub fetch_added_by : MemoryShape → ℕ → ℕ → Write → Effect → ℕ → ℕ → Change
fetch_added_by g words R w d t p = swapped_by g words w d.word (sum_of R w.value d.value) t p

-- what a step of thread t with effect d at position p does; the first `words` words have entries in the table
unfoldable pub change_of : MemoryShape → ℕ → ℕ → Write → Effect → ℕ → ℕ → Change
change_of g words R w d t p =
    cond (eqb d.operation Opcode.load) (loaded_by g w false t d.word p)
    (cond (eqb d.operation Opcode.acquire) (loaded_by g w true t d.word p)
    (cond (eqb d.operation Opcode.store) (stored_by g words false d.word d.value t p)
    (cond (eqb d.operation Opcode.release) (stored_by g words true d.word d.value t p)
    (cond (eqb d.operation Opcode.swap) (swapped_by g words w d.word d.value t p)
    (cond (eqb d.operation Opcode.exchange) (swapped_by g words w d.word d.value t p)
    (cond (eqb d.operation Opcode.fetch_add) (fetch_added_by g words R w d t p)
    (cond (eqb d.operation Opcode.pair_store) (stored_by g words false d.word d.value t p)
    (cond (eqb d.operation Opcode.pair_release) (stored_by g words true d.word d.value t p)
    (cond (eqb d.operation Opcode.pair_swap) (swapped_by g words w d.word d.value t p) (unchanged g))))))))))
