-- Views and writes that say the same as the logic's: moved up, joined, set.
use Prim.Native.Nat.{ℕ, suc, ◌%◌, ◌<◌, max}
use mathlib.Core.Path.{◌≡◌, refl, ap₂, ◌∙◌}
use mathlib.Core.Bool.{Bool, true, false}
use mathlib.Core.List.{List}
use mathlib.Core.Logic.{◌≢◌}
use native.Mathlib.Omega.{arith}
use native.Mathlib.Nat.{mod-eq_of_lt}
use native.Mathlib.Numerals.{add-one}
use lib.Dec.{eqb}
use lib.ListN.{length, get_or, set, length-set}
use lib.Seq.{get_or-set_same, get_or-set_other}
use borrow.Author.Tests.{lt-ltb, eqb-true, eqb-false}
use Rattle.semantics.specs.Base.{upd}
use Rattle.semantics.specs.Machine as Logic
use Rattle.semantics.proofs.Base.{upd_same, upd_other}
use Rattle.tables_columns.proofs.ColumnLists.{column_length, column_get_d}
use Rattle.replay_memory.specs.View.{next, up, position_in, with_position, up_view, joined_to, joined}
use Rattle.replay_memory.specs.Write.{up_write}
use Rattle.replay_memory.specs.MemoryStands.{SameView, SameWrite}
use Rattle.replay_memory.specs.declared.view.View.{View}
use Rattle.replay_memory.specs.declared.write.Write.{Write}

-- a list set at one place, and a function changed at one: numbers count from 0 there and from 1 here
pub set_upd : {A B : Type 0} (R : A → B → Type 0) (l : List A) (d : A) (f : ℕ → B) (n k : ℕ) (a : A) (b : B) → k < length l → R a b
    → ((j : ℕ) → j < n → R (get_or l j d) (f (suc j))) → (j : ℕ) → j < n → R (get_or (set l k a) j d) (upd f (suc k) b (suc j))
set_upd R l d f n k a b h r g j i = go (eqb j k) refl
  where
    go : (c : Bool) → eqb j k ≡ c → R (get_or (set l k a) j d) (upd f (suc k) b (suc j))
    go true e = rw (eqb-true j k e, get_or-set_same, upd_same) r
    go false e =
        let q : suc j ≢ suc k = λ (z : suc j ≡ suc k). eqb-false j k e (omega arith) in
        rw (get_or-set_other l k j a d (eqb-false j k e), upd_other f (suc k) b (suc j) q) (g j i)

-- where a position goes
pub up_same : (p i : ℕ) → i < 255 → up p i ≡ Logic.up p i
unfolding up next Logic.up
up_same p i h = rw (lt-ltb i 255 h, add-one i)

module _ (v : View) (w : Logic.View) (e : SameView v w) where
  pub position_same : (k : ℕ) → k < 8 → position_in v k ≡ w (suc k)
  unfolding position_in
  position_same k h = rw (mod-eq_of_lt h) (e.same k h)

  pub set_same : (k p : ℕ) → k < 8 → SameView (with_position v k p) (upd w (suc k) p)
  unfolding with_position
  set_same k p h = record {
    eight = length-set v.at (k % 8) p ∙ e.eight;
    same = λ j i. rw (mod-eq_of_lt h) (set_upd (λ (a b : ℕ). a ≡ b) v.at 0 w 8 k p p (omega (arith, e.eight)) refl e.same j i);
  }

  pub up_view_same : (k p : ℕ) → k < 8 → w (suc k) < 255 → SameView (up_view k p v) (Logic.up_view (suc k) p w)
  unfolding up_view
  up_view_same k p h g = rw (position_same k h, up_same p (w (suc k)) g) (set_same k (Logic.up p (w (suc k))) h)

  pub join_same : (v' : View) (w' : Logic.View) → SameView v' w' → SameView (joined v v') (Logic.join w w')
  unfolding joined joined_to
  join_same v' w' e' = record {
    eight = column_length later 8;
    same = λ k h. column_get_d later 0 8 k h ∙ ap₂ max (e.same k h) (e'.same k h);
  }
    where
      later : ℕ → ℕ
      later k = max (get_or v.at k 0) (get_or v'.at k 0)

module _ (a : Write) (b : Logic.Write) (e : SameWrite a b) where
  pub up_write_same : (k p : ℕ) → k < 8 → b.stored (suc k) < 255 → SameWrite (up_write k p a) (Logic.up_write (suc k) p b)
  unfolding up_write
  up_write_same k p h g = record {
    value = e.value;
    releasing = e.releasing;
    covered = e.covered;
    stored = up_view_same a.stored b.stored e.stored k p h g;
  }
