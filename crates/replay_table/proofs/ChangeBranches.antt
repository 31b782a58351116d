-- The functions on values: one law for each.
use mathlib.Core.Path.{◌≡◌}
use Prim.Native.Nat.{ℕ, ◌+◌}
use mathlib.Core.Bool.{Bool, true, false}
use Rattle.replay_memory.specs.View.{next, with_position}
use Rattle.replay_memory.specs.Memory.{first, index_of, seen_by, with_seen}
use Rattle.replay_memory.specs.Insert.{grown}
use Rattle.replay_memory.specs.Access.{read_from, swap_from}
use Rattle.replay_memory.specs.declared.view.View.{View}
use Rattle.replay_memory.specs.declared.write.Write.{Write}
use Rattle.replay_memory.specs.declared.memory.MemoryShape.{MemoryShape}
use Rattle.replay_table.specs.Sweep.{no_order}
use Rattle.replay_table.specs.Change.{unchanged, loaded_by, new_write, insertion, grown_by, stored_by, swapped_by}
use Rattle.replay_table.specs.declared.order.Order.{Order}
use Rattle.replay_table.specs.declared.access.Change.{Change}

pub unchanged_made : (g : MemoryShape) (o : Order) → o ≡ no_order → record { shape = g; order = o } ≡ unchanged g
unchanged_made g o e = rw e

module _ (g : MemoryShape) (t k p : ℕ) where
  pub load_made : (w : Write) (a : Bool) (v u : View) (h : MemoryShape) (c : Change) → v ≡ seen_by g t → u ≡ read_from w v a k p
      → h ≡ with_seen g t u → c ≡ unchanged h → c ≡ loaded_by g w a t k p
  unfolding loaded_by
  load_made w a v u h c ev eu eh ec = rw (← ev, ← eu, ← eh) ec

  module _ (words : ℕ) where
    pub order_made : (covers : Bool) (w : Write) (n m q : ℕ) → n ≡ first g.sizes words → q ≡ next p → m ≡ index_of g.sizes k q
        → record { count = n + 1; at = m; word = k; behind = p; covers = covers; write = w } ≡ insertion g words k p covers w
    unfolding insertion
    order_made covers w n m q en eq em = rw (en, em, eq)

    pub grow_made : (covers : Bool) (w : Write) (h r : MemoryShape) (o : Order) → h ≡ grown g k p → r ≡ with_seen h t w.stored
        → o ≡ insertion g words k p covers w → record { shape = r; order = o } ≡ grown_by g words t k p covers w
    unfolding grown_by
    grow_made covers w h r o eh er eo = rw (er, eh, eo)

    pub store_made : (x : Bool) (n : ℕ) (v : View) (w : Write) (c : Change) → v ≡ seen_by g t → w ≡ new_write x n v k p
        → c ≡ grown_by g words t k p false w → c ≡ stored_by g words x k n t p
    unfolding stored_by
    store_made x n v w c ev ew ec = rw (← ev, ← ew) ec

    pub swap_made : (a : Write) (n : ℕ) (v u : View) (w : Write)
        (c : Change) → v ≡ seen_by g t → u ≡ swap_from a v → w ≡ new_write true n u k p
        → c ≡ grown_by g words t k p true w → c ≡ swapped_by g words a k n t p
    unfolding swapped_by
    swap_made a n v u w c ev eu ew ec = rw (← ev, ← eu, ← ew) ec

pub write_made : (x : Bool) (n : ℕ) (v u : View) (k p q : ℕ) → q ≡ next p → u ≡ with_position v k q
    → record { value = n; releasing = x; covered = false; stored = u } ≡ new_write x n v k p
unfolding new_write
write_made x n v u k p q eq eu = rw (eu, eq)
