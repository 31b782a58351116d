-- Views set, a write covered, a write inserted: what stands for a state of the logic stands for its next one.
use Prim.Native.Nat.{ℕ, suc, ◌+◌, ◌%◌, ◌≤◌, ◌<◌}
use mathlib.Core.Path.{◌≡◌, refl, ap, sym, ◌∙◌, subst}
use mathlib.Core.Bool.{Bool, true, false}
use mathlib.Core.List.{List}
use mathlib.Core.Logic.{◌≢◌}
use native.Mathlib.Omega.{arith}
use native.Mathlib.Nat.{mod-eq_of_lt}
use native.Mathlib.Numerals.{add-one}
use lib.Dec.{eqb, ltb}
use lib.ListN.{length, get_or, set, length-set}
use lib.Seq.{get_or-set_same, get_or-set_other}
use borrow.Author.Tests.{lt-ltb, eqb-true, eqb-false, ltb-true, ltb-false}
use Rattle.semantics.specs.Base.{upd}
use Rattle.semantics.specs.Machine as Logic
use Rattle.semantics.specs.Machine.{State}
use Rattle.semantics.proofs.Base.{upds, down_is}
use Rattle.tables_columns.proofs.ColumnLists.{column_length, column_get_d}
use Rattle.replay_memory.specs.View.{next, up_view}
use Rattle.replay_memory.specs.Write.{no_view, no_write, up_write, covered_write}
use Rattle.replay_memory.specs.Memory.{first, index_of, write_at, size_at, view_of, with_view, covering}
use Rattle.replay_memory.specs.Insert.{moved_to, views_to, inserted}
use Rattle.replay_memory.specs.MemoryStands.{SameView, SameWrite, Stands, Named}
use Rattle.replay_memory.specs.declared.view.View.{View}
use Rattle.replay_memory.specs.declared.write.Write.{Write}
use Rattle.replay_memory.specs.declared.memory.Memory.{Memory}
use Rattle.replay_memory.proofs.OrderPlaces.{row_ends, apart, place, begins_same, begins_later}
use Rattle.replay_memory.proofs.SameAsLogic.{set_upd, up_view_same, up_write_same}

-- one place set: there the new write, elsewhere what was there
set_place : (l : List Write) (sizes : List ℕ) (rows : ℕ → ℕ → Logic.Write) (k p : ℕ) (a : Write) → length l ≡ 72 → first sizes 8 ≤ 72
    → k < 8 → p < get_or sizes k 0
    → SameWrite a (rows (suc k) p)
    → ((j i : ℕ) → j < 8 → i < get_or sizes j 0 → (j ≡ k → i ≡ p → ⊥) → SameWrite (get_or l (index_of sizes j i) no_write) (rows (suc j) i))
    → (j i : ℕ) → j < 8 → i < get_or sizes j 0 → SameWrite (get_or (set l (index_of sizes k p) a) (index_of sizes j i) no_write) (rows (suc j) i)
set_place l sizes rows k p a n few h g e else j i x y = go (eqb j k) (eqb i p) refl refl
  where
    there : j ≡ k → i ≡ p → SameWrite (get_or (set l (index_of sizes k p) a) (index_of sizes j i) no_write) (rows (suc j) i)
    there u v = rw (u, v, get_or-set_same l (index_of sizes k p) a no_write (omega (arith, place sizes few k p h g, row_ends sizes 8 k h, n))) e

    other : (j ≡ k → i ≡ p → ⊥) → SameWrite (get_or (set l (index_of sizes k p) a) (index_of sizes j i) no_write) (rows (suc j) i)
    other q =
        rw (get_or-set_other l (index_of sizes k p) (index_of sizes j i) a no_write
        (λ z. apart sizes j i k p y g q (sym (place sizes few j i x y) ∙ z ∙ place sizes few k p h g))) (else j i x y q)

    go : (b c : Bool) → eqb j k ≡ b → eqb i p ≡ c
        → SameWrite (get_or (set l (index_of sizes k p) a) (index_of sizes j i) no_write) (rows (suc j) i)
    go true true u v = there (eqb-true j k u) (eqb-true i p v)
    go true false u v = other (λ z w. eqb-false i p v w)
    go false c u v = other (λ z w. eqb-false j k u z)

next_is : (n : ℕ) → n < 255 → next n ≡ suc n
unfolding next
next_is n x = rw (lt-ltb n 255 x, add-one n)

module _ (m : Memory) (s : State) (st : Stands m s) where
  pub size_is : (k : ℕ) → k < 8 → get_or m.sizes k 0 ≡ s.size (suc k)
  unfolding size_at
  size_is k h = rw (mod-eq_of_lt h) at (st.size k h)

  -- a thread's view set
  pub stands_view : (t : ℕ) (v : View) (w : Logic.View) → t < 4 → SameView v w → Stands (with_view m t v) (Logic.with_view s (suc t) w)
  unfolding with_view write_at size_at view_of
  stands_view t v w h e = record {
    rows = st.rows;
    places = st.places;
    threads = length-set m.views (t % 4) v ∙ st.threads;
    size = st.size;
    few = st.few;
    writes = st.writes;
    views = λ u g. rw (mod-eq_of_lt h, mod-eq_of_lt g)
        (set_upd SameView m.views no_view s.view 4 t v w (omega (arith, st.threads)) e
        (λ j i. rw (mod-eq_of_lt i) at (st.views j i)) u g);
  }

  -- a write covered
  pub stands_cover : (k p : ℕ) → k < 8 → p < s.size (suc k) → Stands (covering m k p) (Logic.cover (suc k) p s)
  unfolding covering covered_write write_at size_at view_of
  stands_cover k p h g = record {
    rows = st.rows;
    places = length-set m.writes (index_of m.sizes k p) (covered_write (write_at m k p)) ∙ st.places;
    threads = st.threads;
    size = st.size;
    few = st.few;
    writes = λ j i x y. set_place m.writes m.sizes (Logic.cover (suc k) p s).row k p (covered_write (write_at m k p)) st.places
        st.few h
        (omega (arith, size_is k h)) here other j i x (omega (arith, size_is j x));
    views = st.views;
  }
    where
      here : SameWrite (covered_write (write_at m k p)) ((Logic.cover (suc k) p s).row (suc k) p)
      here =
          let e = st.writes k p h g in
          simp upds (record { value = e.value; releasing = e.releasing; covered = refl; stored = e.stored })

      other : (j i : ℕ) → j < 8 → i < get_or m.sizes j 0 → (j ≡ k → i ≡ p → ⊥)
          → SameWrite (get_or m.writes (index_of m.sizes j i) no_write) ((Logic.cover (suc k) p s).row (suc j) i)
      other j i a b q = go (eqb j k) refl (st.writes j i a (omega (arith, size_is j a)))
        where
          go : (c : Bool) → eqb j k ≡ c → SameWrite (get_or m.writes (index_of m.sizes j i) no_write) (s.row (suc j) i)
              → SameWrite (get_or m.writes (index_of m.sizes j i) no_write) ((Logic.cover (suc k) p s).row (suc j) i)
          go true e w =
              let z : j ≡ k = eqb-true j k e in
              let n : i ≢ p = λ y. q z y in
              rw z (simp upds (rw z at w))
          go false e w = let n : suc j ≢ suc k = λ (y : suc j ≡ suc k). eqb-false j k e (omega arith) in simp upds w

  module _ (names : Named s) where
    -- the state with a write inserted, before the thread moves to it
    abbrev pub behind : ℕ → ℕ → Logic.Write → State
    behind k p w = record {
      size = upd s.size (suc k) (suc (s.size (suc k)));
      row = Logic.inserted s.row (suc k) p w;
      view = λ u. Logic.up_view (suc k) p (s.view u);
      reg = s.reg;
      point = s.point;
    }

    module _ (k p : ℕ) (a : Write) (b : Logic.Write) (h : k < 8) (g : p < s.size (suc k)) (f : first m.sizes 8 < 72)
        (e : SameWrite a b) where
      abbrev comes : ℕ → Write
      comes j = up_write k p (get_or m.writes (Logic.down (index_of m.sizes k p) j) no_write)

      abbrev old : List ℕ
      old = m.sizes

      -- the sizes with one more write in the row
      abbrev grown : List ℕ
      grown = set m.sizes k (suc (s.size (suc k)))

      row_few : first old k + s.size (suc k) < 72
      row_few = omega (arith, row_ends old 8 k h, size_is k h)

      sizes_are : set m.sizes (k % 8) (next (size_at m k)) ≡ grown
      unfolding size_at
      sizes_are = rw (mod-eq_of_lt h, size_is k h, next_is (s.size (suc k)) (omega (arith, row_few)))

      grown_few : first grown 8 ≤ 72
      grown_few = omega (arith, begins_later old k (suc (s.size (suc k))) 8 h (omega (arith, st.rows)), size_is k h)

      grown_row : get_or grown k 0 ≡ suc (s.size (suc k))
      grown_row = get_or-set_same old k (suc (s.size (suc k))) 0 (omega (arith, st.rows))

      grown_else : (j : ℕ) → j ≢ k → get_or grown j 0 ≡ get_or old j 0
      grown_else j n = get_or-set_other old k j (suc (s.size (suc k))) 0 n

      -- the place of the new write
      new_place : index_of old k (next p) ≡ index_of grown k (suc p)
      unfolding index_of
      new_place = rw (mod-eq_of_lt h, begins_same old k (suc (s.size (suc k))) k (omega arith), next_is p (omega (arith, row_few)))

      picked : index_of old k p ≡ first old k + p
      picked = place old (omega arith) k p h (omega (arith, size_is k h))

      -- in the row itself those behind the picked one come from one place before
      from_row : (i : ℕ) → Logic.down (first old k + p) (first grown k + i) ≡ first old k + Logic.down p i
      from_row i =
          omega (
            arith,
            down_is (first old k + p) (first grown k + i),
            down_is p i,
            begins_same old k (suc (s.size (suc k))) k (omega arith),
          )

      -- the rows before it stay, those behind it come from one place before
      from_else : (j i : ℕ) → j ≢ k → i < get_or old j 0 → Logic.down (first old k + p) (first grown j + i) ≡ first old j + i
      from_else j i n y = go (ltb j k) refl
        where
          go : (c : Bool) → ltb j k ≡ c → Logic.down (first old k + p) (first grown j + i) ≡ first old j + i
          go true c =
              let q : j < k = ltb-true j k c in
              omega (
                arith,
                down_is (first old k + p) (first grown j + i),
                begins_same old k (suc (s.size (suc k))) j (omega arith),
                row_ends old k j q,
              )
          go false c =
              let q : k ≤ j = ltb-false j k c in
              let l : k < j = omega arith in
              omega (
                arith,
                down_is (first old k + p) (first grown j + i),
                begins_later old k (suc (s.size (suc k))) j l (omega (arith, st.rows)),
                row_ends old j k l,
                size_is k h,
              )

      -- what is moved up
      lifted : (j i : ℕ) → j < 8 → i < s.size (suc j)
          → SameWrite (up_write k p (write_at m j i)) (Logic.up_write (suc k) p (s.row (suc j) i))
      lifted j i x y =
          up_write_same (write_at m j i) (s.row (suc j) i) (st.writes j i x y) k p h
          (omega (arith, names.stored (suc j) i (suc k) y, row_few))

      moved_long : length (moved_to m k p 72) ≡ 72
      unfolding moved_to
      moved_long = column_length comes 72

      -- a place of the list before the new write is put there
      moved_at : (j i : ℕ) → j < 8 → i < get_or grown j 0
          → get_or (moved_to m k p 72) (index_of grown j i) no_write ≡ up_write k p
          (get_or m.writes (Logic.down (first old k + p) (first grown j + i)) no_write)
      unfolding moved_to
      moved_at j i x y =
          let q = place grown grown_few j i x y in
          column_get_d comes no_write 72 (index_of grown j i) (omega (arith, q, row_ends grown 8 j x, grown_few)) ∙ rw (q, picked)

      moved : (j i : ℕ) → j < 8 → i < get_or grown j 0 → (j ≡ k → i ≡ suc p → ⊥)
          → SameWrite (get_or (moved_to m k p 72) (index_of grown j i) no_write) ((behind k p b).row (suc j) i)
      unfolding write_at
      moved j i x y q = rw (moved_at j i x y) (go (eqb j k) refl)
        where
          row : i ≢ suc p → i < get_or grown k 0
              → SameWrite (up_write k p (get_or m.writes (Logic.down (first old k + p) (first grown k + i)) no_write))
              ((behind k p b).row (suc k) i)
          row n l =
              let d : Logic.down p i < s.size (suc k) = omega (arith, down_is p i, grown_row) in
              rw (from_row i, ← place old (omega arith) k (Logic.down p i) h (omega (arith, size_is k h)))
              (simp upds (lifted k (Logic.down p i) h d))

          go : (c : Bool) → eqb j k ≡ c
              → SameWrite (up_write k p (get_or m.writes (Logic.down (first old k + p) (first grown j + i)) no_write))
              ((behind k p b).row (suc j) i)
          go true c =
              let z : j ≡ k = eqb-true j k c in
              rw z (row (λ w. q z w) (rw z at y))
          go false c =
              let n : j ≢ k = eqb-false j k c in
              let n' : suc j ≢ suc k = λ (w : suc j ≡ suc k). n (omega arith) in
              let y' : i < get_or old j 0 = omega (arith, grown_else j n) in
              rw (from_else j i n y', ← place old (omega arith) j i x y') (simp upds (lifted j i x (omega (arith, size_is j x))))

      grows : (j : ℕ) → j < 8 → get_or grown j 0 ≡ (behind k p b).size (suc j)
      grows = set_upd (λ (c d : ℕ). c ≡ d) old 0 s.size 8 k (suc (s.size (suc k))) (suc (s.size (suc k)))
          (omega (arith, st.rows)) refl size_is

      sized : (j : ℕ) → j < 8 → size_at (inserted m k p a) j ≡ (behind k p b).size (suc j)
      unfolding inserted size_at
      sized j x = rw (mod-eq_of_lt x) (ap (λ (l : List ℕ). get_or l j 0) sizes_are ∙ grows j x)

      pub stands_insert : Stands (inserted m k p a) (behind k p b)
      unfolding inserted write_at view_of views_to
      stands_insert = record {
        rows = length-set m.sizes (k % 8) (next (size_at m k)) ∙ st.rows;
        places = length-set (moved_to m k p 72) (index_of m.sizes k (next p)) a ∙ moved_long;
        threads = column_length seen 4;
        size = sized;
        few = subst (λ (l : List ℕ). first l 8 ≤ 72) (sym sizes_are) grown_few;
        writes = λ j i x y. subst
            (λ (l : List ℕ). SameWrite (get_or (set (moved_to m k p 72) (index_of old k (next p)) a) (index_of l j i) no_write)
            ((behind k p b).row (suc j) i))
            (sym sizes_are) (written j i x y);
        views = λ t x. rw (mod-eq_of_lt x)
            (subst (λ (v : View). SameView v (Logic.up_view (suc k) p (s.view (suc t)))) (sym (column_get_d seen no_view 4 t x))
            (up_view_same (get_or m.views t no_view) (s.view (suc t)) (rw (mod-eq_of_lt x) at (st.views t x)) k p h
            (omega (arith, names.views (suc t) (suc k), row_few))));
      }
        where
          seen : ℕ → View
          seen j = up_view k p (get_or m.views j no_view)

          written : (j i : ℕ) → j < 8 → i < (behind k p b).size (suc j)
              → SameWrite (get_or (set (moved_to m k p 72) (index_of old k (next p)) a) (index_of grown j i) no_write)
              ((behind k p b).row (suc j) i)
          written j i x y =
              rw new_place
              (set_place (moved_to m k p 72) grown (behind k p b).row k (suc p) a moved_long grown_few h (omega (arith, grown_row))
              (simp upds e) moved j i x
              (omega (arith, grows j x)))
