-- Insertion of a write behind position p of word k: the writes after it in the table move up by one, and every view keeps its writes.
use Rattle.std.specs.Prelude.{ℕ, ◌%◌, List, get_or, set}
use Rattle.semantics.specs.Machine.{down}
use Rattle.tables_columns.specs.Column.{column}
use Rattle.replay_memory.specs.View.{next, up_view}
use Rattle.replay_memory.specs.Write.{no_view, no_write, up_write}
use Rattle.replay_memory.specs.Memory.{index_of, size_at}
use Rattle.replay_memory.specs.declared.view.View.{View}
use Rattle.replay_memory.specs.declared.write.Write.{Write}
use Rattle.replay_memory.specs.declared.memory.Memory.{Memory}
use Rattle.replay_memory.specs.declared.memory.MemoryShape.{MemoryShape}

-- the writes in the first n places after the move
unfoldable pub moved_to : Memory → ℕ → ℕ → ℕ → List Write
moved_to m k p n = column (λ j. up_write k p (get_or m.writes (down (index_of m.sizes k p) j) no_write)) n

-- the views of the first n threads after the insertion
unfoldable pub views_to : List View → ℕ → ℕ → ℕ → List View
views_to l k p n = column (λ j. up_view k p (get_or l j no_view)) n

-- the sizes and views after the insertion
unfoldable pub grown : MemoryShape → ℕ → ℕ → MemoryShape
grown g k p = record { sizes = set g.sizes (k % 8) (next (get_or g.sizes (k % 8) 0)); views = views_to g.views k p 4 }

-- the memory after the insertion of w
unfoldable pub inserted : Memory → ℕ → ℕ → Write → Memory
inserted m k p w = record {
  sizes = set m.sizes (k % 8) (next (size_at m k));
  writes = set (moved_to m k p 72) (index_of m.sizes k (next p)) w;
  views = views_to m.views k p 4;
}
