-- Which positions may be picked, and what a step does to shared words and views. Threads and words count from 0.
use Rattle.std.specs.Prelude.{Bool, true, false, not, cond, ℕ, ◌%◌, eqb, ltb, leb, get_or}
use Rattle.logic.specs.Opcode as Opcode
use Rattle.tables_columns.specs.Combine.{sum_of}
use Rattle.replay_memory.specs.View.{position_in}
use Rattle.replay_memory.specs.Memory.{write_at, seen_by}
use Rattle.replay_memory.specs.Access.{loaded, stored, swapped}
use Rattle.replay_memory.specs.declared.memory.Memory.{Memory}
use Rattle.replay_memory.specs.declared.memory.MemoryShape.{MemoryShape}
use Rattle.replay_machine.specs.declared.effect.Effect.{Effect}

-- position p is in the row of word k, "at or after" the one that the view of thread t names
unfoldable pub reachable_by : MemoryShape → ℕ → ℕ → ℕ → Bool
reachable_by g t k p = cond (ltb p (get_or g.sizes (k % 8) 0)) (leb (position_in (seen_by g t) k) p) false

-- position p of word k is reachable for thread t, in a whole memory
unfoldable pub reachable : Memory → ℕ → ℕ → ℕ → Bool
reachable m t k p = reachable_by (record { sizes = m.sizes; views = m.views }) t k p

-- position p is reachable and its write is not covered
unfoldable pub uncovered : Memory → ℕ → ℕ → ℕ → Bool
uncovered m t k p = cond (reachable m t k p) (not (write_at m k p).covered) false

-- a load reads any reachable write, "covered or not"; a store or swap "picks an uncovered write"; assignment and branch have position 0
unfoldable pub may_pick : Memory → Effect → ℕ → ℕ → Bool
may_pick m d t p =
    cond (eqb d.operation Opcode.assign) (eqb p 0)
    (cond (eqb d.operation Opcode.branch) (eqb p 0)
    (cond (eqb d.operation Opcode.assign_two) (eqb p 0)
    (cond (eqb d.operation Opcode.load) (reachable m t d.word p)
    (cond (eqb d.operation Opcode.acquire) (reachable m t d.word p) (uncovered m t d.word p)))))

-- the memory after a swap that stores the old value plus the formula's, modulo R
unfoldable pub fetch_added : Memory → ℕ → Effect → ℕ → ℕ → Memory
fetch_added m R d t p = swapped m d.word (sum_of R (write_at m d.word p).value d.value) t p

-- the memory after a step of thread t with effect d at position p
unfoldable pub memory_after : Memory → ℕ → Effect → ℕ → ℕ → Memory
memory_after m R d t p =
    cond (eqb d.operation Opcode.load) (loaded m false t d.word p)
    (cond (eqb d.operation Opcode.acquire) (loaded m true t d.word p)
    (cond (eqb d.operation Opcode.store) (stored m false d.word d.value t p)
    (cond (eqb d.operation Opcode.release) (stored m true d.word d.value t p)
    (cond (eqb d.operation Opcode.swap) (swapped m d.word d.value t p)
    (cond (eqb d.operation Opcode.exchange) (swapped m d.word d.value t p)
    (cond (eqb d.operation Opcode.fetch_add) (fetch_added m R d t p)
    (cond (eqb d.operation Opcode.pair_store) (stored m false d.word d.value t p)
    (cond (eqb d.operation Opcode.pair_release) (stored m true d.word d.value t p)
    (cond (eqb d.operation Opcode.pair_swap) (swapped m d.word d.value t p) m)))))))))
