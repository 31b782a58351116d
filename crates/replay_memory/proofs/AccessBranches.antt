-- Loads, stores and swaps: the ways through the functions, one law for each.
use Prim.Native.Nat.{ℕ}
use mathlib.Core.Path.{◌≡◌, refl, ap, ◌∙◌}
use mathlib.Core.Bool.{Bool, true, false}
use mathlib.Core.List.{List}
use Rattle.limits.proofs.BranchTests.{tests}
use Rattle.replay_memory.specs.View.{next, with_position, joined}
use Rattle.replay_memory.specs.Memory.{write_at, view_of, with_view, covering, memory_of, seen_by, with_seen}
use Rattle.replay_memory.specs.Insert.{inserted}
use Rattle.replay_memory.specs.Access.{read_from, read_view, loaded, put, stored, swap_from, swap_view, swapped}
use Rattle.replay_memory.specs.declared.view.View.{View}
use Rattle.replay_memory.specs.declared.write.Write.{Write}
use Rattle.replay_memory.specs.declared.memory.MemoryShape.{MemoryShape}

module _ (w : Write) (v r : View) where
  module _ (k p : ℕ) (a : Bool) where
    pub read_joined : a ≡ true → w.releasing ≡ true → r ≡ joined v w.stored → r ≡ read_from w v a k p
    unfolding read_from
    read_joined h g q = rw (h, g) q

    pub read_plain : a ≡ true → w.releasing ≡ false → r ≡ with_position v k p → r ≡ read_from w v a k p
    unfolding read_from
    read_plain h g q = rw (h, g) q

    pub read_relaxed : a ≡ false → r ≡ with_position v k p → r ≡ read_from w v a k p
    unfolding read_from
    read_relaxed h q = rw h q

  pub swap_joined : w.releasing ≡ true → r ≡ joined v w.stored → r ≡ swap_from w v
  unfolding swap_from
  swap_joined g q = rw g q

pub swap_plain : (w : Write) (v : View) → w.releasing ≡ false → v ≡ swap_from w v
unfolding swap_from
swap_plain w v g = rw g

-- sizes and views beside a table of writes
module _ (g : MemoryShape) (b : List Write) (t : ℕ) where
  pub seen_is : seen_by g t ≡ view_of (memory_of g b) t
  unfolding seen_by view_of memory_of
  seen_is = refl

  with_is : (v : View) → memory_of (with_seen g t v) b ≡ with_view (memory_of g b) t v
  unfolding with_seen with_view memory_of
  with_is v = refl

module _ (g r : MemoryShape) (b : List Write) (k t p : ℕ) where
  pub load_made : (a : Bool) (w : Write) (v u : View) → w ≡ write_at (memory_of g b) k p → v ≡ seen_by g t → u ≡ read_from w v a k p
      → r ≡ with_seen g t u → memory_of r b ≡ loaded (memory_of g b) a t k p
  unfolding loaded read_view
  load_made a w v u ew ev eu er = rw (er, with_is g b t u, eu, ew, ev, seen_is g b t)

  module _ (c : List Write) where
    pub put_made : (x : Bool) (n q : ℕ) (u v : View) (i : MemoryShape) → q ≡ next p → u ≡ with_position v k q
        → memory_of i c ≡ inserted (memory_of g b) k p (record { value = n; releasing = x; covered = false; stored = u })
        → r ≡ with_seen i t u → memory_of r c ≡ put (memory_of g b) x k n t p v
    unfolding put
    put_made x n q u v i eq eu ei er = rw (er, with_is i c t u, ei, eu, eq)

    pub store_made : (x : Bool) (n : ℕ) (v : View) → v ≡ seen_by g t → memory_of r c ≡ put (memory_of g b) x k n t p v
        → memory_of r c ≡ stored (memory_of g b) x k n t p
    unfolding stored
    store_made x n v e d = d ∙ ap (put (memory_of g b) x k n t p) (e ∙ seen_is g b t)

    pub swap_made : (n : ℕ) (d : List Write) (w : Write) (u v : View) → w ≡ write_at (memory_of g b) k p → u ≡ seen_by g t → v ≡ swap_from w u
        → memory_of g d ≡ covering (memory_of g b) k p → memory_of r c ≡ put (memory_of g d) true k n t p v
        → memory_of r c ≡ swapped (memory_of g b) k n t p
    unfolding swapped swap_view
    swap_made n d w u v ew eu ev ec er = rw (er, ec, ev, ew, eu, seen_is g b t)

pub ruleset accesses = (
  read_joined,
  read_plain,
  read_relaxed,
  swap_joined,
  swap_plain,
  load_made,
  put_made,
  store_made,
  swap_made,
  tests,
)
