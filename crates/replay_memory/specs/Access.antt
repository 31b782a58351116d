-- What loads, stores and swaps do to the memory: thread t, position p of word k, all counted from 0.
use Rattle.std.specs.Prelude.{ℕ, Bool, true, false, cond}
use Rattle.replay_memory.specs.View.{next, with_position, joined}
use Rattle.replay_memory.specs.Memory.{write_at, view_of, with_view, covering}
use Rattle.replay_memory.specs.Insert.{inserted}
use Rattle.replay_memory.specs.declared.view.View.{View}
use Rattle.replay_memory.specs.declared.write.Write.{Write}
use Rattle.replay_memory.specs.declared.memory.Memory.{Memory}

-- the view v after a load of w: if it acquires and w is releasing, the stored view is joined in; otherwise only that word moves
unfoldable pub read_from : Write → View → Bool → ℕ → ℕ → View
read_from w v acquires k p = cond acquires (cond w.releasing (joined v w.stored) (with_position v k p)) (with_position v k p)

-- the view of thread t after a load of position p of word k
unfoldable pub read_view : Memory → Bool → ℕ → ℕ → ℕ → View
read_view m acquires t k p = read_from (write_at m k p) (view_of m t) acquires k p

-- the memory after that load
unfoldable pub loaded : Memory → Bool → ℕ → ℕ → ℕ → Memory
loaded m acquires t k p = with_view m t (read_view m acquires t k p)

-- the memory after a new write of value n by thread t from the view v: the view moves to it, and that view is stored with it
unfoldable pub put : Memory → Bool → ℕ → ℕ → ℕ → ℕ → View → Memory
put m releasing k n t p v =
    with_view (inserted m k p (record { value = n; releasing = releasing; covered = false; stored = with_position v k (next p) })) t
    (with_position v k (next p))

-- the memory after a store of n by thread t behind position p of word k
unfoldable pub stored : Memory → Bool → ℕ → ℕ → ℕ → ℕ → Memory
stored m releasing k n t p = put m releasing k n t p (view_of m t)

-- the view v from which a swap that picks w writes: if w is releasing, its stored view is joined in
unfoldable pub swap_from : Write → View → View
swap_from w v = cond w.releasing (joined v w.stored) v

-- the view from which thread t swaps at position p of word k
unfoldable pub swap_view : Memory → ℕ → ℕ → ℕ → View
swap_view m t k p = swap_from (write_at m k p) (view_of m t)

-- the memory after a swap of n: "a releasing store that also covers the picked write"
unfoldable pub swapped : Memory → ℕ → ℕ → ℕ → ℕ → Memory
swapped m k n t p = put (covering m k p) true k n t p (swap_view m t k p)
