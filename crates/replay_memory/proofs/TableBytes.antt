-- The table as bytes: which writes stand in it after bytes were changed.
use Prim.Native.Nat.{ℕ, zero, suc, ◌+◌, ◌*◌, ◌≤◌, ◌<◌}
use mathlib.Core.Path.{◌≡◌, refl, ap, sym, ◌∙◌, subst}
use mathlib.Core.Bool.{Bool, true, false}
use mathlib.Core.List.{List, [], ◌∷◌}
use mathlib.Core.Logic.{◌≢◌}
use native.Mathlib.Omega.{arith}
use native.Mathlib.Numerals.{add-one}
use lib.Dec.{eqb}
use lib.ListN.{length, get_or, set, length-set}
use lib.Seq.{get_or-set_same, get_or-set_other, ext_get_or}
use borrow.Author.Tests.{eqb-true, eqb-false}
use Rattle.tables_columns.specs.Column.{column}
use Rattle.tables_columns.proofs.ColumnLists.{column_length, column_get_d, column_same}
use Rattle.replay_memory.specs.Write.{no_write}
use Rattle.replay_memory.specs.WriteTable.{bit}
use Rattle.replay_memory.specs.Bytes.{view_at, read_at, writes_in, put_view}
use Rattle.replay_memory.specs.declared.view.View.{View}
use Rattle.replay_memory.specs.declared.write.Write.{Write}

-- BYTES CHANGED ONE AFTER ANOTHER

-- at f 0 the number g 0, and so on, n times
unfoldable changed : List ℕ → (ℕ → ℕ) → (ℕ → ℕ) → ℕ → List ℕ
changed b f g zero = b
changed b f g (suc n) = set (changed b f g n) (f n) (g n)

module _ (b : List ℕ) (f g : ℕ → ℕ) where
  changed_next : (n : ℕ) → changed b f g (suc n) ≡ set (changed b f g n) (f n) (g n)
  unfolding changed
  changed_next n = refl

  changed_none : changed b f g 0 ≡ b
  unfolding changed
  changed_none = refl

  changed_length : (n : ℕ) → length (changed b f g n) ≡ length b
  changed_length zero = ap length changed_none
  changed_length (suc n) = ap length (changed_next n) ∙ length-set (changed b f g n) (f n) (g n) ∙ changed_length n

  changed_else : (n x : ℕ) → ((i : ℕ) → i < n → x ≢ f i) → get_or (changed b f g n) x 0 ≡ get_or b x 0
  changed_else zero x h = ap (λ (l : List ℕ). get_or l x 0) changed_none
  changed_else (suc n) x h =
      ap (λ (l : List ℕ). get_or l x 0) (changed_next n) ∙ get_or-set_other (changed b f g n) (f n) x (g n) 0 (h n (omega arith))
      ∙ changed_else n x (λ i k. h i (omega arith))

  changed_there : (n i : ℕ) → i < n → f i < length b → ((j : ℕ) → j < n → i ≢ j → f i ≢ f j) → get_or (changed b f g n) (f i) 0 ≡ g i
  changed_there zero i h l d = absurd (omega arith)
  changed_there (suc n) i h l d =
      ap (λ (l : List ℕ). get_or l (f i) 0) (changed_next n) ∙ go (eqb i n) refl (λ k. changed_there n i k l (λ j k. d j (omega arith)))
    where
      go : (c : Bool) → eqb i n ≡ c → (i < n → get_or (changed b f g n) (f i) 0 ≡ g i)
          → get_or (set (changed b f g n) (f n) (g n)) (f i) 0 ≡ g i
      go true e ih =
          let q : i ≡ n = eqb-true i n e in
          let m : f i < length (changed b f g n) = omega (arith, changed_length n) in
          rw q (get_or-set_same (changed b f g n) (f n) (g n) 0 (subst (λ (x : ℕ). f x < length (changed b f g n)) q m))
      go false e ih =
          let q : i ≢ n = eqb-false i n e in
          get_or-set_other (changed b f g n) (f n) (f i) (g n) 0 (d n (omega arith) q) ∙ ih (omega arith)

-- WRITES BY THEIR BYTES

-- eight bytes one after another
abbrev eight_at : List ℕ → ℕ → List ℕ
eight_at b x =
    get_or b x 0 ∷ get_or b (x + 1) 0 ∷ get_or b (x + 2) 0 ∷ get_or b (x + 3) 0 ∷ get_or b (x + 4) 0 ∷ get_or b (x + 5) 0
    ∷ get_or b (x + 6) 0 ∷ get_or b (x + 7) 0 ∷ []

module _ (b : List ℕ) (i : ℕ) where
  pub view_read : record { at = eight_at b (i * 11 + 3) } ≡ view_at b i
  unfolding view_at column
  view_read = let e : i * 11 + 3 + 0 ≡ i * 11 + 3 = omega arith in rw e

  pub read_made : (v : View) → v ≡ view_at b i → record {
    value = get_or b (i * 11) 0;
    releasing = eqb (get_or b (i * 11 + 1) 0) 1;
    covered = eqb (get_or b (i * 11 + 2) 0) 1;
    stored = v;
  } ≡ read_at b i
  unfolding read_at
  read_made v e = rw e

-- two places with the same eleven bytes
read_same : (b c : List ℕ) (i j : ℕ) → ((o : ℕ) → o < 11 → get_or b (i * 11 + o) 0 ≡ get_or c (j * 11 + o) 0) → read_at b i ≡ read_at c j
unfolding read_at view_at
read_same b c i j h =
    let first : get_or b (i * 11) 0 ≡ get_or c (j * 11) 0 =
    ap (λ (x : ℕ). get_or b x 0) (omega arith) ∙ h 0 (omega arith) ∙ ap (λ (x : ℕ). get_or c x 0) (omega arith) in
    let rest : column (λ k. get_or b (i * 11 + 3 + k) 0) 8 ≡ column (λ k. get_or c (j * 11 + 3 + k) 0) 8 =
    column_same (λ k. get_or b (i * 11 + 3 + k) 0) (λ k. get_or c (j * 11 + 3 + k) 0) 8
    (λ k l. ap (λ (x : ℕ). get_or b x 0) (omega arith) ∙ h (3 + k) (omega arith) ∙ ap (λ (x : ℕ). get_or c x 0) (omega arith)) in
    rw (first, h 1 (omega arith), h 2 (omega arith), rest)

-- a column with one place set
column_put : {A : Type 0} (f g : ℕ → A) (n i : ℕ) (x d : A) → i < n → f i ≡ x → ((j : ℕ) → j < n → j ≢ i → f j ≡ g j)
    → column f n ≡ set (column g n) i x
column_put f g n i x d h e k =
    ext_get_or d (column f n) (set (column g n) i x) (column_length f n ∙ sym (length-set (column g n) i x ∙ column_length g n)) at_each
  where
    at_each : (j : ℕ) → j < length (column f n) → get_or (column f n) j d ≡ get_or (set (column g n) i x) j d
    at_each j l = column_get_d f d n j (omega (arith, column_length f n)) ∙ go (eqb j i) refl
      where
        go : (c : Bool) → eqb j i ≡ c → f j ≡ get_or (set (column g n) i x) j d
        go true q =
            let r : j ≡ i = eqb-true j i q in
            rw r (e ∙ sym (get_or-set_same (column g n) i x d (omega (arith, column_length g n))))
        go false q =
            let r : j ≢ i = eqb-false j i q in
            k j (omega (arith, column_length f n)) r
            ∙ sym (get_or-set_other (column g n) i j x d r ∙ column_get_d g d n j (omega (arith, column_length f n)))

-- one place changed
writes_set : (b c : List ℕ) (i : ℕ) (w : Write) → i < 72 → read_at c i ≡ w → ((j : ℕ) → j < 72 → j ≢ i → read_at c j ≡ read_at b j)
    → writes_in c ≡ set (writes_in b) i w
unfolding writes_in
writes_set b c i w h e k = column_put (read_at c) (read_at b) 72 i w no_write h e k

-- A WRITE PUT AT A PLACE

module _ (b : List ℕ) (i : ℕ) (v : View) where
  pub put_begin : b ≡ put_view b i v 0
  unfolding put_view
  put_begin = refl

  put_next : (n : ℕ) → put_view b i v (suc n) ≡ set (put_view b i v n) (i * 11 + 3 + n) (get_or v.at n 0)
  unfolding put_view
  put_next n = refl

  pub put_more : (c : List ℕ) (n : ℕ) → c ≡ put_view b i v n → set c (i * 11 + 3 + n) (get_or v.at n 0) ≡ put_view b i v (n + 1)
  put_more c n e = rw (add-one n, put_next n, e)

  pub put_end : (c : List ℕ) (n : ℕ) → c ≡ put_view b i v n → n ≤ 8 → 8 ≤ n → c ≡ put_view b i v 8
  put_end c n e h g = let q : n ≡ 8 = omega arith in e ∙ ap (put_view b i v) q

  abbrev spot : ℕ → ℕ
  spot n = i * 11 + 3 + n

  abbrev position : ℕ → ℕ
  position n = get_or v.at n 0

  put_is : (n : ℕ) → put_view b i v n ≡ changed b spot position n
  unfolding put_view
  put_is zero = sym (changed_none b spot position)
  put_is (suc n) = rw (changed_next b spot position n, put_is n)

pub ruleset put_view_branches = (put_begin, put_more, put_end)

bit_is : (x : Bool) → eqb (bit x) 1 ≡ x
bit_is true = refl
bit_is false = refl

module _ (b : List ℕ) (i : ℕ) (w : Write) (h : i < 72) (l : length b ≡ 792) (eight : length w.stored.at ≡ 8) where
  abbrev one : List ℕ
  one = set b (i * 11) w.value

  abbrev two : List ℕ
  two = set one (i * 11 + 1) (bit w.releasing)

  abbrev marked : List ℕ
  marked = set two (i * 11 + 2) (bit w.covered)

  abbrev put : List ℕ
  put = changed marked (spot b i w.stored) (position b i w.stored) 8

  one_length : length one ≡ 792
  one_length = length-set b (i * 11) w.value ∙ l

  two_length : length two ≡ 792
  two_length = length-set one (i * 11 + 1) (bit w.releasing) ∙ one_length

  marked_length : length marked ≡ 792
  marked_length = length-set two (i * 11 + 2) (bit w.covered) ∙ two_length

  front : (x : ℕ) → x < i * 11 + 3 → get_or put x 0 ≡ get_or marked x 0
  front x g = changed_else marked (spot b i w.stored) (position b i w.stored) 8 x (λ n k e. omega arith)

  front_value : get_or marked (i * 11) 0 ≡ w.value
  front_value =
      get_or-set_other two (i * 11 + 2) (i * 11) (bit w.covered) 0 (λ e. omega arith)
      ∙ get_or-set_other one (i * 11 + 1) (i * 11) (bit w.releasing) 0 (λ e. omega arith)
      ∙ get_or-set_same b (i * 11) w.value 0 (omega arith)

  front_releasing : get_or marked (i * 11 + 1) 0 ≡ bit w.releasing
  front_releasing =
      get_or-set_other two (i * 11 + 2) (i * 11 + 1) (bit w.covered) 0 (λ e. omega arith)
      ∙ get_or-set_same one (i * 11 + 1) (bit w.releasing) 0 (omega (arith, one_length))

  front_covered : get_or marked (i * 11 + 2) 0 ≡ bit w.covered
  front_covered = get_or-set_same two (i * 11 + 2) (bit w.covered) 0 (omega (arith, two_length))

  abbrev positions : List ℕ
  positions = column (λ k. get_or put (i * 11 + 3 + k) 0) 8

  eight_positions : length positions ≡ 8
  eight_positions = column_length (λ k. get_or put (i * 11 + 3 + k) 0) 8

  put_positions : positions ≡ w.stored.at
  put_positions = ext_get_or 0 positions w.stored.at (eight_positions ∙ sym eight) each
    where
      each : (k : ℕ) → k < length positions → get_or positions k 0 ≡ get_or w.stored.at k 0
      each k g =
          let x : k < 8 = omega (arith, eight_positions) in
          column_get_d (λ k. get_or put (i * 11 + 3 + k) 0) 0 8 k x
          ∙ changed_there marked (spot b i w.stored) (position b i w.stored) 8 k x (omega (arith, marked_length))
          (λ j g n e. n (omega arith))

  put_here : read_at put i ≡ w
  unfolding read_at view_at
  put_here =
      rw (
        front (i * 11) (omega arith),
        front (i * 11 + 1) (omega arith),
        front (i * 11 + 2) (omega arith),
        front_value,
        front_releasing,
        front_covered,
        bit_is w.releasing,
        bit_is w.covered,
        put_positions,
      )

  put_else : (j : ℕ) → j < 72 → j ≢ i → read_at put j ≡ read_at b j
  put_else j g n = read_same put b j j (λ o k.
      changed_else marked (spot b i w.stored) (position b i w.stored) 8 (j * 11 + o) (λ m q e. n (omega arith))
      ∙ get_or-set_other two (i * 11 + 2) (j * 11 + o) (bit w.covered) 0 (λ e. n (omega arith))
      ∙ get_or-set_other one (i * 11 + 1) (j * 11 + o) (bit w.releasing) 0 (λ e. n (omega arith))
      ∙ get_or-set_other b (i * 11) (j * 11 + o) w.value 0 (λ e. n (omega arith)))

  pub put_whole : (c : List ℕ) (x y : ℕ) → x ≡ bit w.releasing → y ≡ bit w.covered
      → c ≡ put_view (set (set (set b (i * 11) w.value) (i * 11 + 1) x) (i * 11 + 2) y) i w.stored 8
      → writes_in c ≡ set (writes_in b) i w
  put_whole c x y ex ey e =
      ap writes_in (e ∙ rw (ex, ey) (put_is marked i w.stored 8)) ∙ writes_set b put i w h put_here put_else
