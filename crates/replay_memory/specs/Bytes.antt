-- The table of writes as bytes, 72 places of eleven: value, releasing, covered, a position for each of eight words. A mark is set where its
-- byte is 1.
use Rattle.std.specs.Prelude.{ℕ, zero, suc, ◌+◌, ◌*◌, List, eqb, get_or, set}
use Rattle.tables_columns.specs.Column.{column}
use Rattle.replay_memory.specs.Memory.{memory_of}
use Rattle.replay_memory.specs.declared.view.View.{View}
use Rattle.replay_memory.specs.declared.write.Write.{Write}
use Rattle.replay_memory.specs.declared.memory.Memory.{Memory}
use Rattle.replay_memory.specs.declared.memory.MemoryShape.{MemoryShape}

-- the stored view of the write at place i
unfoldable pub view_at : List ℕ → ℕ → View
view_at b i = record { at = column (λ k. get_or b (i * 11 + 3 + k) 0) 8 }

-- the write at place i
unfoldable pub read_at : List ℕ → ℕ → Write
read_at b i = record {
  value = get_or b (i * 11) 0;
  releasing = eqb (get_or b (i * 11 + 1) 0) 1;
  covered = eqb (get_or b (i * 11 + 2) 0) 1;
  stored = view_at b i;
}

-- the writes at all places
unfoldable pub writes_in : List ℕ → List Write
writes_in b = column (read_at b) 72

-- the table with the first n positions of a view written to place i
unfoldable pub put_view : List ℕ → ℕ → View → ℕ → List ℕ
put_view b i v zero = b
put_view b i v (suc n) = set (put_view b i v n) (i * 11 + 3 + n) (get_or v.at n 0)

-- the memory with these sizes and views, its writes read from the bytes b
abbrev pub memory_in : MemoryShape → List ℕ → Memory
memory_in g b = memory_of g (writes_in b)
