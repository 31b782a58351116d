-- What loads, stores and swaps do to sizes and views, and the write that they insert, from the write w that they pick: thread t, position
-- p of word k, all counted from 0. g: sizes and views before.
use Rattle.std.specs.Prelude.{ℕ, ◌+◌, Bool, true, false}
use Rattle.replay_memory.specs.View.{next, with_position}
use Rattle.replay_memory.specs.Memory.{first, index_of, seen_by, with_seen}
use Rattle.replay_memory.specs.Insert.{grown}
use Rattle.replay_memory.specs.Access.{read_from, swap_from}
use Rattle.replay_memory.specs.declared.view.View.{View}
use Rattle.replay_memory.specs.declared.write.Write.{Write}
use Rattle.replay_memory.specs.declared.memory.MemoryShape.{MemoryShape}
use Rattle.replay_table.specs.Sweep.{no_order}
use Rattle.replay_table.specs.declared.order.Order.{Order}
use Rattle.replay_table.specs.declared.access.Change.{Change}

-- nothing changes
abbrev pub unchanged : MemoryShape → Change
unchanged g = record { shape = g; order = no_order }

-- a load of w: only the thread's view changes
unfoldable pub loaded_by : MemoryShape → Write → Bool → ℕ → ℕ → ℕ → Change
loaded_by g w acquires t k p = unchanged (with_seen g t (read_from w (seen_by g t) acquires k p))

-- the new write of value n from the view v: the view moves to it, and that view is stored with it
unfoldable pub new_write : Bool → ℕ → View → ℕ → ℕ → Write
new_write releasing n v k p = record { value = n; releasing = releasing; covered = false; stored = with_position v k (next p) }

-- its insertion; the first `words` words have entries in the table
unfoldable pub insertion : MemoryShape → ℕ → ℕ → ℕ → Bool → Write → Order
insertion g words k p covers w = record {
  count = first g.sizes words + 1;
  at = index_of g.sizes k (next p);
  word = k;
  behind = p;
  covers = covers;
  write = w;
}

-- sizes and views after it: the thread's view is the one stored with the write
unfoldable pub grown_by : MemoryShape → ℕ → ℕ → ℕ → ℕ → Bool → Write → Change
grown_by g words t k p covers w =
    record { shape = with_seen (grown g k p) t w.stored; order = insertion g words k p covers w }

-- a store of n
unfoldable pub stored_by : MemoryShape → ℕ → Bool → ℕ → ℕ → ℕ → ℕ → Change
stored_by g words releasing k n t p = grown_by g words t k p false (new_write releasing n (seen_by g t) k p)

-- a swap of n: "a releasing store that also covers the picked write"
unfoldable pub swapped_by : MemoryShape → ℕ → Write → ℕ → ℕ → ℕ → ℕ → Change
swapped_by g words w k n t p = grown_by g words t k p true (new_write true n (swap_from w (seen_by g t)) k p)
