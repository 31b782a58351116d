-- Runs of a value, and rows repeated: the ways through the functions, one law for each.
use Prim.Native.Nat.{ℕ, zero, suc, ◌+◌, ◌-◌, ◌*◌, ◌≤◌, ◌<◌, min}
use mathlib.Core.Path.{◌≡◌, refl, ap, ap₂, sym, ◌∙◌, subst}
use mathlib.Core.List.{List, [], ◌∷◌, ◌++◌, append_assoc, append-nil}
use mathlib.Core.Bool.{Bool, true, false, cond}
use native.Mathlib.Omega.{arith}
use native.Mathlib.Numerals.{add-one}
use native.Mathlib.Nat.{mul-suc, mul-one, mul-zero, mul-le-mul}
use lib.ListN.{length, get_or, take, replicate, length-append}
use lib.Seq.{take-take, take_at, length-take-le, paste}
use Rattle.std.proofs.lemmas.List.{length-replicate}
use Rattle.std.proofs.lemmas.List.Edits.{take-paste}
use lib.Dec.{ltb}
use mir.Val.{Fits}
use mir.Syntax.{w64}
use borrow.Author.Rules.{Fits-under}
use borrow.Author.Tests.{lt-ltb, le-ltb, ltb-true, ltb-false}
use Rattle.tables_columns.specs.Slots.{slots}
use Rattle.tables_columns.specs.Column.{column, constant}
use Rattle.tables_columns.proofs.ColumnBranches.{constant_replicate}
use Rattle.tables_columns.proofs.ColumnLists.{column_none, column_step, column_length, column_same}
use Rattle.tables_digits.specs.SlotColumn.{value_in, row_in, slot_column, longer_run, run_of, span_of, level_in, Cycles, Widened}
use Rattle.tables_digits.proofs.EachRowOnce.{run, digit_run, run_first, run_next}

-- a run of a value behind the first rows
pub run_filled : (v from count m : ℕ) (o l r : List ℕ) → from + count ≤ length o → l ≡ replicate m v → m ≡ count
    → take (from + count) (take from o ++ (l ++ r)) ≡ take from o ++ constant v count
run_filled v from count k o l r h e d =
    let m : l ≡ replicate count v = rw d at e in
    let n : length (take from o ++ l) ≡ from + count =
    omega (arith, length-append (take from o) l, length-take-le from o (omega arith), ap length m ∙ length-replicate count v) in
    ap (take (from + count)) (sym (append_assoc (take from o) l r))
    ∙ take_at (take from o ++ l) r (from + count) n
    ∙ ap (λ (l : List ℕ). take from o ++ l) (m ∙ sym (constant_replicate v count))

-- the first rows once more
pub front_pasted : (from count : ℕ) (o b : List ℕ) → from + count ≤ length o → b ≡ paste o from o (count - 0)
    → take (from + count) b ≡ take from o ++ take count o
front_pasted from count o b h e =
    let k : count - 0 ≡ count = omega arith in
    rw (e, k) (take-paste o from o count (omega arith) (omega arith))

-- how long a run is
module _ (n m r : ℕ) where
  pub longer_more : (l : ℕ) → r < n → l ≡ m → r * (l + 1) ≡ longer_run n m r
  unfolding longer_run
  longer_more l h e = rw (lt-ltb _ _ h, e)

  pub longer_whole : n ≤ r → r ≡ longer_run n m r
  unfolding longer_run
  longer_whole h = rw (le-ltb _ _ h)

  pub longer_fits : (l : ℕ) → r < n → n ≤ 4096 → l < 256 → Fits w64 (r * (l + 1))
  longer_fits l h k s = Fits-under w64 (r * (l + 1)) 2097152
      (let p : r * (l + 1) ≤ 1048576 = mul-le-mul {n₁ = r} {m₁ = l + 1} {n₂ = 4096} {m₂ = 256} (omega arith) (omega arith) in omega arith)
      tt

pub ruleset longer_branches = (longer_more, longer_whole, longer_fits)

module _ (n : ℕ) (ms : List ℕ) where
  pub of_begin : 1 ≡ run_of n ms 0
  unfolding run_of
  of_begin = refl

  pub of_more : (i r x : ℕ) → r ≡ run_of n ms i → x ≡ longer_run n (get_or ms i 0) r → x ≡ run_of n ms (i + 1)
  unfolding run_of
  of_more i r x e d = d ∙ ap (longer_run n (get_or ms i 0)) e ∙ ap (run_of n ms) (sym (add-one i))

pub ruleset run_of_branches = (of_begin, of_more)

-- a run that has fewer than n rows is exact
module _ (n : ℕ) (ms : List ℕ) where
  run_step : (j : ℕ) → run_of n ms (suc j) ≡ longer_run n (get_or ms j 0) (run_of n ms j)
  unfolding run_of
  run_step j = refl

  exact : (j : ℕ) → (run_of n ms j < n → run_of n ms j ≡ run ms j) × (n ≤ run_of n ms j → n ≤ run ms j)
  exact zero = (λ h. sym (of_begin n ms) ∙ sym (run_first ms), λ h. let e = of_begin n ms in let d = run_first ms in omega arith)
  exact (suc j) = go (ltb (run_of n ms j) n) refl (exact j)
    where
      go : (b : Bool) → ltb (run_of n ms j) n ≡ b → (run_of n ms j < n → run_of n ms j ≡ run ms j) × (n ≤ run_of n ms j → n ≤ run ms j)
          → (run_of n ms (suc j) < n → run_of n ms (suc j) ≡ run ms (suc j)) × (n ≤ run_of n ms (suc j) → n ≤ run ms (suc j))
      go true e ih =
          let h : run_of n ms j < n = ltb-true (run_of n ms j) n e in
          let q : run_of n ms (suc j) ≡ run ms (suc j) =
          run_step j ∙ sym (longer_more n (get_or ms j 0) (run_of n ms j) (get_or ms j 0) h refl)
          ∙ ap₂ (λ (a b : ℕ). a * b) (ih.0 h) (add-one (get_or ms j 0)) ∙ sym (run_next ms j) in
          (λ k. q, λ k. omega arith)
      go false e ih =
          let h : n ≤ run_of n ms j = ltb-false (run_of n ms j) n e in
          let q : run_of n ms j ≡ run_of n ms (suc j) = longer_whole n (get_or ms j 0) (run_of n ms j) h ∙ sym (run_step j) in
          let p : run ms j * 1 ≤ run ms j * suc (get_or ms j 0) = mul-le-mul (omega arith) (omega arith) in
          (λ k. absurd (omega arith), λ k. let g = ih.1 h in let f = mul-one (run ms j) in let d = run_next ms j in omega arith)

-- the digit of a slot
module _ (ms : List ℕ) (j n : ℕ) (hj : j < slots) where
  abbrev f : ℕ → ℕ
  f i = value_in (row_in ms i) j

  in_slot : (i : ℕ) → f i ≡ get_or (row_in ms i) j 0
  unfolding value_in
  in_slot i = rw (lt-ltb _ _ hj)

  value_run : (v x r : ℕ) → r ≡ run_of n ms j → v ≤ get_or ms j 0 → x < r → r * v + x < n → f (r * v + x) ≡ v
  unfolding row_in
  value_run v x r e hv hx h = in_slot (r * v + x) ∙ go (ltb r n) refl
    where
      go : (b : Bool) → ltb r n ≡ b → get_or (row_in ms (r * v + x)) j 0 ≡ v
      go true d =
          let q : r ≡ run ms j = e ∙ (exact n ms j).0 (let k = ltb-true r n d in omega arith) in
          ap (λ (k : ℕ). get_or (row_in ms (k * v + x)) j 0) q ∙ digit_run ms slots j v x hj hv (omega arith)
      go false d = first v refl
        where
          long : n ≤ run ms j
          long = (exact n ms j).1 (let k = ltb-false r n d in omega arith)

          first : (u : ℕ) → v ≡ u → get_or (row_in ms (r * v + x)) j 0 ≡ v
          first zero z =
              let p : r * v + x ≡ run ms j * 0 + x = ap (λ (k : ℕ). r * k + x) z
              ∙ ap (λ (k : ℕ). k + x) (mul-zero r ∙ sym (mul-zero (run ms j))) in
              let w : x < run ms j = let l = long in let c = mul-zero r in let y : r * v + x ≡ r * 0 + x = ap (λ (k : ℕ). r * k + x) z in
              omega arith in
              ap (λ (k : ℕ). get_or (row_in ms k) j 0) p ∙ digit_run ms slots j 0 x hj (omega arith) w ∙ sym z
          first (suc u) z =
              let y : r * v ≡ r * u + r = ap (λ (k : ℕ). r * k) z ∙ mul-suc r u in
              absurd (let k = ltb-false r n d in omega arith)

-- a run is not empty
run_some : (n : ℕ) (ms : List ℕ) (j : ℕ) → 0 < run_of n ms j
unfolding run_of longer_run
run_some n ms zero = omega arith
run_some n ms (suc j) = go (ltb (run_of n ms j) n) (run_some n ms j)
  where
    go : (b : Bool) → 0 < run_of n ms j → 0 < cond b (run_of n ms j * (get_or ms j 0 + 1)) (run_of n ms j)
    go true h = let p : 1 * 1 ≤ run_of n ms j * (get_or ms j 0 + 1) = mul-le-mul {n₁ = 1} {m₁ = 1} h (omega arith) in omega arith
    go false h = h

-- columns behind one another
column_join : (f : ℕ → ℕ) (k n : ℕ) → column f (k + n) ≡ column f k ++ column (λ i. f (k + i)) n
column_join f k zero = let e : k + 0 ≡ k = omega arith in
    ap (column f) e ∙ sym (append-nil (column f k)) ∙ ap (λ (l : List ℕ). column f k ++ l) (sym (column_none (λ (i : ℕ). f (k + i))))
column_join f k (suc n) =
    let e : k + suc n ≡ suc (k + n) = omega arith in
    ap (column f) e ∙ column_step f (k + n) ∙ ap (λ (l : List ℕ). l ++ (f (k + n) ∷ [])) (column_join f k n)
    ∙ append_assoc (column f k) (column (λ i. f (k + i)) n) (f (k + n) ∷ [])
    ∙ ap (λ (l : List ℕ). column f k ++ l) (sym (column_step (λ (i : ℕ). f (k + i)) n))

column_front : (f : ℕ → ℕ) (k n : ℕ) → k ≤ n → take k (column f n) ≡ column f k
column_front f k n h =
    let e : n ≡ k + (n - k) = omega arith in
    ap (λ (m : ℕ). take k (column f m)) e ∙ ap (take k) (column_join f k (n - k))
    ∙ front (column f k) (column (λ i. f (k + i)) (n - k)) k (column_length f k)
  where
    front : (p q : List ℕ) (n : ℕ) → length p ≡ n → take n (p ++ q) ≡ p
    front p q n e = take_at p q n e

-- the runs of a slot's digit
module _ (ms : List ℕ) (j r n : ℕ) (a : List ℕ) where
  pub runs_begin : take 0 a ≡ slot_column ms j 0
  unfolding slot_column
  runs_begin = sym (column_none (λ (i : ℕ). value_in (row_in ms i) j))

  pub runs_zero : 0 ≡ min (r * 0) n
  runs_zero = let e = mul-zero r in omega arith

  module _ (to v c : ℕ) (et : to ≡ min (r * v) n) (ec : c ≡ min r (n - to)) where
    pub runs_next : to + c ≡ min (r * (v + 1)) n
    runs_next = let e : r * (v + 1) ≡ r * v + r = ap (λ (k : ℕ). r * k) (add-one v) ∙ mul-suc r v in omega arith

    pub runs_within : n ≤ length a → to + c ≤ length a
    runs_within h = omega arith

    pub runs_more : (l : ℕ) (b : List ℕ) → j < 12 → r ≡ run_of n ms j → v ≤ l → l ≡ get_or ms j 0 → take to a ≡ slot_column ms j to
        → take (to + c) b ≡ take to a ++ constant v c → take (to + c) b ≡ slot_column ms j (to + c)
    unfolding slot_column constant
    runs_more l b hj er hv el ea eb =
        eb ∙ ap₂ (λ (l m : List ℕ). l ++ m) ea (column_same (λ (i : ℕ). v) (λ i. g (to + i)) c (λ i h. sym (here i h)))
        ∙ sym (column_join g to c)
      where
        g : ℕ → ℕ
        g i = value_in (row_in ms i) j

        here : (i : ℕ) → i < c → g (to + i) ≡ v
        here i h =
            let e : to ≡ r * v = omega arith in
            ap (λ (k : ℕ). g (k + i)) e ∙ value_run ms j n hj v i r er (omega arith) (omega arith) (omega arith)

  -- all of them
  pub runs_end : (to v l : ℕ) → to ≡ min (r * v) n → v ≤ l + 1 → l < v → l ≡ get_or ms j 0 → r ≡ run_of n ms j
      → take to a ≡ slot_column ms j to → take (span_of n ms (j + 1)) a ≡ slot_column ms j (span_of n ms (j + 1))
  unfolding span_of
  runs_end to v l et h k el er ea =
      let q : to ≡ min n (run_of n ms (j + 1)) = whole (ltb r n) refl in
      rw q at ea
    where
      times : r * v ≡ r * (get_or ms j 0 + 1)
      times = let e : v ≡ get_or ms j 0 + 1 = omega arith in ap (λ (m : ℕ). r * m) e

      next : run_of n ms (j + 1) ≡ longer_run n (get_or ms j 0) r
      next = ap (run_of n ms) (add-one j) ∙ run_step n ms j ∙ ap (longer_run n (get_or ms j 0)) (sym er)

      whole : (b : Bool) → ltb r n ≡ b → to ≡ min n (run_of n ms (j + 1))
      whole true e = let f : run_of n ms (j + 1) ≡ r * (get_or ms j 0 + 1) = next
          ∙ sym (longer_more n (get_or ms j 0) r (get_or ms j 0) (ltb-true r n e) refl) in let g = times in omega arith
      whole false e =
          let f : run_of n ms (j + 1) ≡ r = next ∙ sym (longer_whole n (get_or ms j 0) r (ltb-false r n e)) in
          let m : r * 1 ≤ r * (get_or ms j 0 + 1) = mul-le-mul (omega arith) (omega arith) in
          let o = mul-one r in
          let g = times in
          let l = ltb-false r n e in
          omega arith

pub ruleset set_runs_branches = (runs_begin, runs_zero, runs_next, runs_within, runs_more, runs_end)

-- the first rows again and again
module _ (p n : ℕ) (a₀ : List ℕ) where
  pub widen_begin : Widened p n a₀ p a₀
  unfolding Widened
  widen_begin f e c = (e, c)

  module _ (to : ℕ) (a : List ℕ) (w : Widened p n a₀ to a) where
    pub widen_more : (c : ℕ) (b : List ℕ) → to < n → c ≡ min to (n - to) → take (to + c) b ≡ take to a ++ take c a
        → Widened p n a₀ (to + c) b
    unfolding Widened Cycles
    widen_more c b less ec eb f e cy = (
      eb ∙ ap₂ (λ (l m : List ℕ). l ++ m) (w f e cy).0
          (sym (take-take c to a front) ∙ ap (take c) (w f e cy).0 ∙ column_front f c to front
          ∙ column_same f (λ i. f (to + i)) c (λ i h. sym (again.1 i)))
          ∙ sym (column_join f to c),
      λ h. (
        omega (arith, again.0),
        λ i. let d : c ≡ to = omega arith in let q : to + c + i ≡ to + (to + i) = omega arith in
            ap f q ∙ again.1 (to + i) ∙ again.1 i,
      ),
    )
      where
        front : c ≤ to
        front = omega arith

        again : (0 < to) × ((i : ℕ) → f (to + i) ≡ f i)
        again = (w f e cy).1 less

    pub widen_end : to ≤ n → n ≤ to → Widened p n a₀ n a
    widen_end h k = let q : to ≡ n = omega arith in subst (λ (m : ℕ). Widened p n a₀ m a) q w

  module _ (to c : ℕ) (less : to < n) (ec : c ≡ min to (n - to)) where
    pub widen_some : min 1 n ≤ p → p ≤ to → n - (to + c) < n - to
    widen_some h k = omega arith

    pub widen_front : c ≤ to
    widen_front = omega arith

    pub widen_within : (a : List ℕ) → n ≤ length a → to + c ≤ length a
    widen_within a h = omega arith

pub ruleset widen_branches = (widen_begin, widen_more, widen_end, widen_some, widen_front, widen_within)

-- past the last slot
pub slot_past : (ms : List ℕ) (j m n : ℕ) (a : List ℕ) → 12 ≤ j → m ≡ span_of n ms 0 → take m a ≡ constant 0 m
    → take (span_of n ms 0) a ≡ slot_column ms j (span_of n ms 0)
unfolding slot_column constant value_in
slot_past ms j m n a h em e = (rw em at e) ∙ column_same (λ (i : ℕ). 0) (λ (i : ℕ). cond (ltb j slots) (get_or (row_in ms i) j 0) 0)
    (span_of n ms 0) (λ i k. sym (rw (le-ltb _ _ h)))

pub level_slot : (j : ℕ) → j < 12 → j + 1 ≡ level_in j
unfolding level_in
level_slot j h = rw (lt-ltb _ _ h)

pub level_past : (j : ℕ) → 12 ≤ j → 0 ≡ level_in j
unfolding level_in
level_past j h = rw (le-ltb _ _ h)

-- spans
pub span_is : (n : ℕ) (ms : List ℕ) (j r m : ℕ) → r ≡ run_of n ms j → m ≡ min n r → m ≡ span_of n ms j
unfolding span_of
span_is n ms j r m e d = d ∙ ap (min n) e

module _ (n : ℕ) (ms : List ℕ) where
  pub span_within : (j : ℕ) → span_of n ms j ≤ n
  unfolding span_of
  span_within j = omega arith

  pub span_some : (j : ℕ) → min 1 n ≤ span_of n ms j
  unfolding span_of
  span_some j = let h = run_some n ms j in omega arith

  -- a span that is not all is that of the digits
  pub span_exact : (j : ℕ) → span_of n ms j < n → span_of n ms j ≡ run ms j
  unfolding span_of
  span_exact j h = let e = (exact n ms j).0 (omega arith) in omega arith

  -- more digits, more rows
  span_step : (k : ℕ) → span_of n ms k ≤ span_of n ms (suc k)
  unfolding span_of
  span_step k = go (ltb (run_of n ms k) n) refl
    where
      go : (b : Bool) → ltb (run_of n ms k) n ≡ b → min n (run_of n ms k) ≤ min n (run_of n ms (suc k))
      go true e =
          let f : run_of n ms (suc k) ≡ run_of n ms k * (get_or ms k 0 + 1) = run_step n ms k
          ∙ sym (longer_more n (get_or ms k 0) (run_of n ms k) (get_or ms k 0) (ltb-true (run_of n ms k) n e) refl) in
          let m : run_of n ms k * 1 ≤ run_of n ms k * (get_or ms k 0 + 1) = mul-le-mul (omega arith) (omega arith) in
          let o = mul-one (run_of n ms k) in
          omega arith
      go false e = let f : run_of n ms (suc k) ≡ run_of n ms k = run_step n ms k
          ∙ sym (longer_whole n (get_or ms k 0) (run_of n ms k) (ltb-false (run_of n ms k) n e)) in omega arith

  span_far : (i d : ℕ) → span_of n ms i ≤ span_of n ms (i + d)
  span_far i zero = let q : i + 0 ≡ i = omega arith in rw q (omega arith)
  span_far i (suc d) = let q : i + suc d ≡ suc (i + d) = omega arith in
      rw q (let e = span_far i d in let f = span_step (i + d) in omega arith)

  pub span_more : (i j : ℕ) → i ≤ j → span_of n ms i ≤ span_of n ms j
  span_more i j h = let q : i + (j - i) ≡ j = omega arith in rw q at (span_far i (j - i))

pub span_fits : (n : ℕ) (ms : List ℕ) (j m : ℕ) (a : List ℕ) → m ≡ span_of n ms j → n ≤ length a → m ≤ length a
span_fits n ms j m a e h = let k = span_within n ms j in omega arith

pub ruleset take_slot_branches = (slot_past, level_slot, level_past, span_fits)
