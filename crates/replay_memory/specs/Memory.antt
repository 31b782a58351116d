-- The memory as the code has it: all writes in one list, word by word in modification order; the sizes of eight rows; four views.
use Rattle.std.specs.Prelude.{ℕ, zero, suc, ◌+◌, ◌%◌, List, get_or, set}
use Rattle.replay_memory.specs.Write.{no_view, no_write, covered_write}
use Rattle.replay_memory.specs.declared.view.View.{View}
use Rattle.replay_memory.specs.declared.write.Write.{Write}
use Rattle.replay_memory.specs.declared.memory.Memory.{Memory}
use Rattle.replay_memory.specs.declared.memory.MemoryShape.{MemoryShape}

-- the place where the row of word k begins: the sum of the sizes before
unfoldable pub first : List ℕ → ℕ → ℕ
first sizes zero = 0
first sizes (suc k) = first sizes k + get_or sizes k 0

-- the place, of 72, of position p of word k
unfoldable pub index_of : List ℕ → ℕ → ℕ → ℕ
index_of sizes k p = (first sizes (k % 8) + p) % 72

-- the write at position p of word k
unfoldable pub write_at : Memory → ℕ → ℕ → Write
write_at m k p = get_or m.writes (index_of m.sizes k p) no_write

-- how many writes the row of word k has
unfoldable pub size_at : Memory → ℕ → ℕ
size_at m k = get_or m.sizes (k % 8) 0

-- the view of thread t
unfoldable pub view_of : Memory → ℕ → View
view_of m t = get_or m.views (t % 4) no_view

-- the memory with the view v for thread t
unfoldable pub with_view : Memory → ℕ → View → Memory
with_view m t v = record { sizes = m.sizes; writes = m.writes; views = set m.views (t % 4) v }

-- the memory with the write at position p of word k covered
unfoldable pub covering : Memory → ℕ → ℕ → Memory
covering m k p =
    record { sizes = m.sizes; writes = set m.writes (index_of m.sizes k p) (covered_write (write_at m k p)); views = m.views }

-- SIZES AND VIEWS APART FROM THE WRITES

-- the memory with these sizes and views, and the writes l
unfoldable pub memory_of : MemoryShape → List Write → Memory
memory_of g l = record { sizes = g.sizes; writes = l; views = g.views }

-- the view of thread t
unfoldable pub seen_by : MemoryShape → ℕ → View
seen_by g t = get_or g.views (t % 4) no_view

-- the shape with the view v for thread t
unfoldable pub with_seen : MemoryShape → ℕ → View → MemoryShape
with_seen g t v = record { sizes = g.sizes; views = set g.views (t % 4) v }
