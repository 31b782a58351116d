-- Loads, stores and swaps: what stands for a state of the logic stands for the one after the access.
use Prim.Native.Nat.{ℕ, suc, ◌<◌}
use mathlib.Core.Path.{◌≡◌, refl, ◌∙◌}
use mathlib.Core.Bool.{Bool, true, false, cond}
use native.Mathlib.Omega.{arith}
use native.Mathlib.Numerals.{add-one}
use borrow.Author.Tests.{lt-ltb}
use Rattle.semantics.specs.Base.{upd}
use Rattle.semantics.specs.Machine as Logic
use Rattle.semantics.specs.Machine.{State}
use Rattle.semantics.proofs.Base.{upds, by_word}
use Rattle.replay_memory.specs.View.{next, with_position, joined}
use Rattle.replay_memory.specs.Memory.{first, write_at, view_of, covering}
use Rattle.replay_memory.specs.Access.{read_from, read_view, loaded, put, stored, swap_from, swap_view, swapped}
use Rattle.replay_memory.specs.MemoryStands.{SameView, SameWrite, Stands, Named}
use Rattle.replay_memory.specs.declared.view.View.{View}
use Rattle.replay_memory.specs.declared.memory.Memory.{Memory}
use Rattle.replay_memory.proofs.OrderPlaces.{row_ends}
use Rattle.replay_memory.proofs.SameAsLogic.{set_same, join_same}
use Rattle.replay_memory.proofs.StandsAfterInsert.{size_is, stands_view, stands_cover, stands_insert, behind}

-- a view that moves to the new write
move_same : (v : View) (w : Logic.View) (k p : ℕ) → SameView v w → k < 8 → p < 255
    → SameView (with_position v k (next p)) (Logic.move_to (suc k) p w)
unfolding next
move_same v w k p e h g = rw (lt-ltb p 255 g, add-one p) (record { eight = q.eight; same = λ j i. q.same j i ∙ moved (suc j) })
  where
    q : SameView (with_position v k (suc p)) (upd w (suc k) (suc p))
    q = set_same v w e k (suc p) h

    moved : (y : ℕ) → upd w (suc k) (suc p) y ≡ Logic.move_to (suc k) p w y
    moved = by_word (suc k) _ (simp upds) (λ y n. simp upds)

names_cover : (s : State) (x p : ℕ) → Named s → p < s.size x → Named (Logic.cover x p s)
names_cover s x p n h = record {
  views = n.views;
  stored = by_word x _ (by_word p _ (λ y k. simp upds (n.stored x p y h)) (λ i q y k. simp upds (n.stored x i y k)))
      (λ z q i y k. simp upds (n.stored z i y k));
}

module _ (m : Memory) (s : State) (st : Stands m s) (t k p : ℕ) (ht : t < 4) (hk : k < 8) (hp : p < s.size (suc k)) where
  here : SameWrite (write_at m k p) (s.row (suc k) p)
  here = st.writes k p hk hp

  both_same : SameView (joined (view_of m t) (write_at m k p).stored) (Logic.join (s.view (suc t)) (s.row (suc k) p).stored)
  both_same = join_same (view_of m t) (s.view (suc t)) (st.views t ht) (write_at m k p).stored (s.row (suc k) p).stored here.stored

  read_same : (a : Bool) → SameView (read_view m a t k p) (Logic.read_view s a (suc t) (suc k) p)
  unfolding read_view read_from
  read_same false = set_same (view_of m t) (s.view (suc t)) (st.views t ht) k p hk
  read_same true = rw here.releasing (go (s.row (suc k) p).releasing)
    where
      go : (b : Bool)
          → SameView (cond b (joined (view_of m t) (write_at m k p).stored) (with_position (view_of m t) k p))
          (cond b (Logic.join (s.view (suc t)) (s.row (suc k) p).stored) (upd (s.view (suc t)) (suc k) p))
      go true = both_same
      go false = set_same (view_of m t) (s.view (suc t)) (st.views t ht) k p hk

  swap_same : SameView (swap_view m t k p) (Logic.swap_view s (suc t) (suc k) p)
  unfolding swap_view swap_from
  swap_same = rw here.releasing (go (s.row (suc k) p).releasing)
    where
      go : (b : Bool)
          → SameView (cond b (joined (view_of m t) (write_at m k p).stored) (view_of m t))
          (cond b (Logic.join (s.view (suc t)) (s.row (suc k) p).stored) (s.view (suc t)))
      go true = both_same
      go false = st.views t ht

  pub stands_load : (a : Bool) → Stands (loaded m a t k p) (Logic.with_view s (suc t) (Logic.read_view s a (suc t) (suc k) p))
  unfolding loaded
  stands_load a = stands_view m s st t (read_view m a t k p) (Logic.read_view s a (suc t) (suc k) p) ht (read_same a)

  module _ (names : Named s) (room : first m.sizes 8 < 72) where
    stands_put : (b : Bool) (n : ℕ) (v : View) (w : Logic.View) → SameView v w
        → Stands (put m b k n t p v) (Logic.insert b (suc k) n (suc t) p w s)
    unfolding put
    stands_put b n v w e =
        stands_view _ (behind m s st names k p new)
        (stands_insert m s st names k p _ new hk hp room (record { value = refl; releasing = refl; covered = refl; stored = moved }))
        t (with_position v k (next p)) (Logic.move_to (suc k) p w) ht moved
      where
        moved : SameView (with_position v k (next p)) (Logic.move_to (suc k) p w)
        moved = move_same v w k p e hk (omega (arith, row_ends m.sizes 8 k hk, size_is m s st k hk))

        new : Logic.Write
        new = record { value = n; releasing = b; covered = false; stored = Logic.move_to (suc k) p w }

    pub stands_store : (b : Bool) (n : ℕ) → Stands (stored m b k n t p) (Logic.insert b (suc k) n (suc t) p (s.view (suc t)) s)
    unfolding stored
    stands_store b n = stands_put b n (view_of m t) (s.view (suc t)) (st.views t ht)

pub stands_swap : (m : Memory) (s : State) → Stands m s → (t k p : ℕ) → t < 4 → k < 8 → p < s.size (suc k) → Named s
    → first m.sizes 8 < 72 → (n : ℕ)
    → Stands (swapped m k n t p) (Logic.swapped (suc k) n (suc t) p s)
unfolding swapped covering
stands_swap m s st t k p ht hk hp names room n =
    stands_put (covering m k p) (Logic.cover (suc k) p s) (stands_cover m s st k p hk hp) t k p ht hk hp
    (names_cover s (suc k) p names hp) room true n (swap_view m t k p) (Logic.swap_view s (suc t) (suc k) p)
    (swap_same m s st t k p ht hk hp)
