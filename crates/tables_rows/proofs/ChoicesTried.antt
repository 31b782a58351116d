-- The rows tried and the logic's: every choice for the slots is a row of the logic, and they are all tried.
use Prim.Native.Nat.{ℕ, zero, suc, ◌+◌, ◌-◌, ◌*◌, ◌≤◌, ◌<◌}
use mathlib.Core.Path.{◌≡◌, refl, ap, ap₂, sym, ◌∙◌, subst, fun_ext}
use mathlib.Core.List.{List, [], ◌∷◌}
use mathlib.Core.Bool.{Bool, true, false, cond, not, ◌&&◌, ◌||◌}
use native.Mathlib.Omega.{arith}
use native.Mathlib.Nat.{mul_assoc, mul_comm, one-mul}
use lib.ListN.{length, get_or, set, replicate, length-set, get_or-eq_default}
use lib.Seq.{get_or-set_same, get_or-set_other, ext_get_or}
use lib.Dec.{T, eqb, ltb}
use borrow.Author.Tests.{lt-ltb, le-ltb, eqb-true, eqb-false, ltb-true, ltb-false}
use Rattle.semantics.specs.Base.{all}
use Rattle.logic.specs.Rows.{choose, all_below, all_rows, row_count}
use Rattle.semantics.proofs.Base.{bool_ext, and_left, and_right, and_both}
use Rattle.logic.proofs.Rows.{all_below_at}
use Rattle.formula.specs.Tree.{Tree}
use Rattle.formula_compare.specs.Same.{same_tree}
use Rattle.tables_columns.specs.declared.slot.Slot.{Slot}
use Rattle.tables_columns.specs.Slots.{slots, slot_at, slot_from, slot_of, kept}
use Rattle.tables_columns.specs.Count.{choices_t}
use Rattle.tables_columns.proofs.SlotBranches.{from_least, from_next}
use Rattle.tables_columns.proofs.GatherBranches.{kept_none, kept_step}
use Rattle.tables_columns.proofs.ColumnLists.{below_from}
use Rattle.tables_digits.specs.Advance.{rows_from, rows_of, Choice, EveryOnce}
use Rattle.tables_digits.specs.SlotColumn.{value_in}
use Rattle.tables_digits.proofs.EachRowOnce.{every_once}
use Rattle.tables_digits.specs.ValueColumn.{row_value}
use Rattle.tables_rows.specs.Entailment.{ImpT, imp_t, entails_t, imp_of, premises_from, imp_at, all_at, entails_at}
use Rattle.tables_rows.specs.EveryRow.{lasts_of, tried_rows, rows_hold}
use Rattle.tables_digits.specs.declared.value_column.Reading.{Reading}
use Rattle.tables_rows.specs.declared.entailment.Implication.{Implication}
use Rattle.tables_rows.specs.declared.entailment.Task.{Task}
use Rattle.tables_rows.proofs.DistinctLeaves.{choices_two}

-- the row that the slots from j on hold
abbrev row_at : List ℕ → List Slot → ℕ → List ℕ → Tree → ℕ
row_at s q j values u = value_in values (slot_from s q (slots - j) j u)

-- the entailment at the row in the slots
module _ (s : List ℕ) (w : Reading) (q : List Slot) (values : List ℕ) where
  imp_is : (p : ImpT) → imp_at s w q values p ≡ imp_t w (row_at s q 0 values) p
  unfolding imp_at row_value slot_of
  imp_is p = go (eqb (row_value s w q values p.left) 1)
    where
      go : (a : Bool) → cond a (eqb (row_value s w q values p.right) 1) true ≡ (not a || eqb (row_value s w q values p.right) 1)
      go true = refl
      go false = refl

  all_is : (ps : List ImpT) → all_at s w q values ps ≡ all (imp_t w (row_at s q 0 values)) ps
  unfolding all_at
  all_is [] = refl
  all_is (p ∷ ps) = ap₂ (λ (a b : Bool). cond a b false) (imp_is p) (all_is ps)
      ∙ go (imp_t w (row_at s q 0 values) p) (all (imp_t w (row_at s q 0 values)) ps)
    where
      go : (a b : Bool) → cond a b false ≡ (a && b)
      go true b = refl
      go false b = refl

  entails_is : (pairs : ℕ → Implication) (t : Task) → entails_at s pairs t w q values ≡ entails_t w (premises_from s pairs t 0)
      (imp_of s pairs t 0) (row_at s q 0 values)
  unfolding entails_at
  entails_is pairs t = ap₂ (λ (a b : Bool). cond a true (not b)) (imp_is (imp_of s pairs t 0))
      (all_is (premises_from s pairs t 0)) ∙ go (imp_t w (row_at s q 0 values) (imp_of s pairs t 0))
      (all (imp_t w (row_at s q 0 values)) (premises_from s pairs t 0))
    where
      go : (a b : Bool) → cond a true (not b) ≡ (not b || a)
      go true true = refl
      go true false = refl
      go false true = refl
      go false false = refl

-- every choice of values for the first j slots; the others are as given
abbrev rows_by : List ℕ → (ℕ → Implication) → Task → Reading → List Slot → ℕ → List ℕ → Bool
rows_by s pairs t w q j values =
    all_rows same_tree (choices_t w.range) (kept s q j) (entails_t w (premises_from s pairs t 0) (imp_of s pairs t 0))
    (λ u. value_in values (slot_from s q (slots - j) j u))

-- a value set in a slot is a choice for its leaf
row_chosen : (s : List ℕ) (q : List Slot) (values : List ℕ) (j k : ℕ) → length values ≡ slots → j < slots
    → choose same_tree (row_at s q (j + 1) values) (slot_at s q j) k ≡ row_at s q j (set values j k)
unfolding choose value_in
row_chosen s q values j k l h = fun_ext (λ u. go u (same_tree u (slot_at s q j)) refl)
  where
    go : (u : Tree) (b : Bool) → same_tree u (slot_at s q j) ≡ b
        → cond (same_tree u (slot_at s q j)) k (row_at s q (j + 1) values u) ≡ row_at s q j (set values j k) u
    go u true e = rw (from_next s q j u h, e, lt-ltb _ _ h) (sym (get_or-set_same values j k 0 (omega arith)))
    go u false e = rw (from_next s q j u h, e) (ap (λ (n : ℕ). cond (ltb (slot_from s q (slots - (j + 1)) (j + 1) u) slots) n 0)
        (sym (get_or-set_other values j (slot_from s q (slots - (j + 1)) (j + 1) u) k 0
        (λ d. omega (arith, from_least s q u (slots - (j + 1)) (j + 1))))))

module _ (s : List ℕ) (pairs : ℕ → Implication) (t : Task) (w : Reading) (q : List Slot) where
  rows_step : (j : ℕ) (values : List ℕ) → length values ≡ slots → j < slots
      → rows_by s pairs t w q (j + 1) values ≡ all_below (choices_t w.range (slot_at s q j))
      (λ k. rows_by s pairs t w q j (set values j k))
  rows_step j values l h =
      ap (λ (l : List Tree). all_rows same_tree (choices_t w.range) l f (row_at s q (j + 1) values))
      (ap (kept s q) (omega arith) ∙ kept_step s q j)
      ∙ ap (all_below (choices_t w.range (slot_at s q j)))
      (fun_ext (λ k. ap (all_rows same_tree (choices_t w.range) (kept s q j) f) (row_chosen s q values j k l h)))
    where
      f : (Tree → ℕ) → Bool
      f = entails_t w (premises_from s pairs t 0) (imp_of s pairs t 0)

  rows_zero : (values : List ℕ) → rows_by s pairs t w q 0 values ≡ entails_at s pairs t w q values
  rows_zero values =
      ap (λ (k : List Tree). all_rows same_tree (choices_t w.range) k
      (entails_t w (premises_from s pairs t 0) (imp_of s pairs t 0)) (row_at s q 0 values)) (kept_none s q)
      ∙ sym (entails_is s w q values pairs t)

-- every number below another
pub below_same : (n : ℕ) (f g : ℕ → Bool) → ((i : ℕ) → i < n → f i ≡ g i) → all_below n f ≡ all_below n g
below_same zero f g h = refl
below_same (suc n) f g h = ap₂ (λ (a b : Bool). elim a as (λ x. Bool) [ true ↦ b | false ↦ false ]) (h n (omega arith))
    (below_same n f g (λ i l. h i (omega arith)))

-- every row of a list
module _ {A : Type 0} (f : A → Bool) (d : A) where
  all-at : (l : List A) → T (all f l) → (i : ℕ) → i < length l → T (f (get_or l i d))
  all-at [] h i k = absurd (omega arith)
  all-at (x ∷ l) h zero k = and_left (f x) (all f l) h
  all-at (x ∷ l) h (suc i) k = all-at l (and_right (f x) (all f l) h) i (omega arith)

  all_from : (l : List A) → ((i : ℕ) → i < length l → T (f (get_or l i d))) → T (all f l)
  all_from [] h = tt
  all_from (x ∷ l) h = and_both (f x) (all f l) (h 0 (omega arith)) (all_from l (λ i k. h (suc i) (omega arith)))

  pub all-below : (l : List A) (n : ℕ) (g : ℕ → Bool) → length l ≡ n → ((i : ℕ) → i < n → g i ≡ f (get_or l i d)) → all_below n g ≡ all f l
  all-below l n g e h =
      bool_ext (all_below n g) (all f l)
      (λ k. all_from l (λ i b. let c : i < n = omega arith in subst T (h i c) (all_below_at n g k i c)))
      (λ k. below_from n g (λ i c. subst T (sym (h i c)) (all-at l k i (omega arith))))

-- a choice by its digits
choice_at : (ms r : List ℕ) → Choice ms r → (length r ≡ length ms) × ((i : ℕ) → i < length ms → get_or r i 0 ≤ get_or ms i 0)
choice_at [] [] c = (refl, λ i h. absurd (omega arith))
choice_at [] (d ∷ r) c = absurd c
choice_at (m ∷ ms) [] c = absurd c
choice_at (m ∷ ms) (d ∷ r) c = let g = choice_at ms r c.1 in (ap (λ (n : ℕ). suc n) g.0, at g.1)
  where
    at : ((i : ℕ) → i < length ms → get_or r i 0 ≤ get_or ms i 0) → (i : ℕ) → i < length (m ∷ ms) → get_or (d ∷ r) i 0 ≤ get_or (m ∷ ms) i 0
    at rest zero h = c.0
    at rest (suc i) h = rest i (omega arith)

choice_from : (ms r : List ℕ) → length r ≡ length ms → ((i : ℕ) → i < length ms → get_or r i 0 ≤ get_or ms i 0) → Choice ms r
choice_from [] [] e h = tt
choice_from [] (d ∷ r) e h = absurd (omega arith)
choice_from (m ∷ ms) [] e h = absurd (omega arith)
choice_from (m ∷ ms) (d ∷ r) e h = (h 0 (omega arith), choice_from ms r (omega arith) (λ i k. h (suc i) (omega arith)))

zeros : (n i : ℕ) → get_or (replicate {A = ℕ} n 0) i 0 ≡ 0
zeros zero i = refl
zeros (suc n) zero = refl
zeros (suc n) (suc i) = zeros n i

-- the product with one more digit
rows_set : (ms : List ℕ) (j m : ℕ) → j < length ms → get_or ms j 0 ≡ 0 → rows_of (set ms j m) ≡ suc m * rows_of ms
unfolding rows_of
rows_set [] j m h e = absurd (omega arith)
rows_set (x ∷ ms) zero m h e = ap (λ (n : ℕ). suc m * n) (sym (ap (λ (k : ℕ). suc k * rows_of ms) e ∙ one-mul (rows_of ms)))
rows_set (x ∷ ms) (suc j) m h e =
    ap (λ (n : ℕ). suc x * n) (rows_set ms j m (omega arith) e) ∙ sym (mul_assoc (suc x) (suc m) (rows_of ms))
    ∙ ap (λ (n : ℕ). n * rows_of ms) (mul_comm (suc x) (suc m)) ∙ mul_assoc (suc m) (suc x) (rows_of ms)

rows_none : (n : ℕ) → rows_of (replicate n 0) ≡ 1
unfolding rows_of
rows_none zero = refl
rows_none (suc n) = one-mul (rows_of (replicate n 0)) ∙ rows_none n

-- the last values
module _ (s : List ℕ) (q : List Slot) (R : ℕ) where
  abbrev chosen : ℕ → ℕ
  chosen j = choices_t R (slot_at s q j)

  lasts_none : lasts_of s q R 0 ≡ replicate slots 0
  unfolding lasts_of
  lasts_none = refl

  pub lasts_step : (j : ℕ) → lasts_of s q R (suc j) ≡ set (lasts_of s q R j) j (chosen j - 1)
  unfolding lasts_of
  lasts_step j = refl

  lasts_length : (k : ℕ) → length (lasts_of s q R k) ≡ slots
  lasts_length zero = ap length lasts_none
  lasts_length (suc k) = ap length (lasts_step k) ∙ length-set (lasts_of s q R k) k (chosen k - 1) ∙ lasts_length k

  pub lasts_at : (k i : ℕ) → k ≤ slots → get_or (lasts_of s q R k) i 0 ≡ cond (ltb i k) (chosen i - 1) 0
  lasts_at zero i h = ap (λ (l : List ℕ). get_or l i 0) lasts_none ∙ zeros slots i ∙ sym (ap (λ (b : Bool). cond b (chosen i - 1) 0) (past i))
    where
      past : (i : ℕ) → ltb i 0 ≡ false
      past i = le-ltb i 0 (omega arith)
  lasts_at (suc k) i h = ap (λ (l : List ℕ). get_or l i 0) (lasts_step k) ∙ go (eqb i k) refl (lasts_at k i (omega arith))
    where
      go : (b : Bool) → eqb i k ≡ b → get_or (lasts_of s q R k) i 0 ≡ cond (ltb i k) (chosen i - 1) 0
          → get_or (set (lasts_of s q R k) k (chosen k - 1)) i 0 ≡ cond (ltb i (suc k)) (chosen i - 1) 0
      go true e ih =
          let z : i ≡ k = eqb-true i k e in
          ap (λ (i : ℕ). get_or (set (lasts_of s q R k) k (chosen k - 1)) i 0) z
          ∙ get_or-set_same (lasts_of s q R k) k (chosen k - 1) 0 (let l = lasts_length k in omega arith)
          ∙ sym (ap₂ (λ (b : Bool) (n : ℕ). cond b n 0) (lt-ltb i (suc k) (omega arith)) (ap (λ (i : ℕ). chosen i - 1) z))
      go false e ih =
          let z : i ≡ k → ⊥ = eqb-false i k e in
          get_or-set_other (lasts_of s q R k) k i (chosen k - 1) 0 z ∙ ih
          ∙ ap (λ (b : Bool). cond b (chosen i - 1) 0) (below (ltb i k) (ltb i (suc k)) refl refl)
        where
          below : (a b : Bool) → ltb i k ≡ a → ltb i (suc k) ≡ b → ltb i k ≡ ltb i (suc k)
          below true b ea eb = ea ∙ sym (lt-ltb i (suc k) (omega (arith, ltb-true i k ea)))
          below false true ea eb = absurd (let z = eqb-false i k e in omega (arith, ltb-false i k ea, ltb-true i (suc k) eb))
          below false false ea eb = ea ∙ sym eb

  -- the rows tried are every choice exactly once, and no other
  pub tried_once : (k n : ℕ) → n ≡ rows_of (lasts_of s q R k) → EveryOnce (lasts_of s q R k) (tried_rows s q R k n)
  unfolding tried_rows
  tried_once k n e =
      subst (λ (m : ℕ). EveryOnce (lasts_of s q R k) (rows_from (lasts_of s q R k) m (replicate slots 0))) (sym e)
      (subst (λ (m : ℕ). EveryOnce (lasts_of s q R k) (rows_from (lasts_of s q R k) (rows_of (lasts_of s q R k)) (replicate m 0)))
      (lasts_length k) (every_once (lasts_of s q R k)))

  module _ (two : 2 ≤ R) where
    pub rows_count : (k : ℕ) → k ≤ slots → rows_of (lasts_of s q R k) ≡ row_count same_tree (choices_t R) (kept s q k)
    rows_count zero h = ap rows_of lasts_none ∙ rows_none slots ∙ sym (ap (row_count same_tree (choices_t R)) (kept_none s q))
    rows_count (suc k) h =
        let z : get_or (lasts_of s q R k) k 0 ≡ 0 = lasts_at k k (omega arith) ∙ ap (λ (b : Bool). cond b (chosen k - 1) 0) (self k) in
        let c : suc (chosen k - 1) ≡ chosen k = let e = choices_two R two (slot_at s q k) in omega arith in
        ap rows_of (lasts_step k) ∙ rows_set (lasts_of s q R k) k (chosen k - 1) (let l = lasts_length k in omega arith) z
        ∙ ap₂ (λ (a b : ℕ). a * b) c (rows_count k (omega arith))
        ∙ sym (ap (row_count same_tree (choices_t R)) (kept_step s q k))
      where
        self : (k : ℕ) → ltb k k ≡ false
        self k = le-ltb k k (omega arith)

module _ (s : List ℕ) (pairs : ℕ → Implication) (t : Task) (w : Reading) (q : List Slot) (two : 2 ≤ w.range) where
  abbrev E : List ℕ → Bool
  E = entails_at s pairs t w q

  abbrev c : ℕ → ℕ
  c j = choices_t w.range (slot_at s q j)

  -- a row with a choice in each of the first j slots, and the given values behind them
  record Of (j : ℕ) (values r : List ℕ) : Type 0 where
    long : length r ≡ slots
    front : (i : ℕ) → i < j → get_or r i 0 < c i
    behind : (i : ℕ) → j ≤ i → get_or r i 0 ≡ get_or values i 0

  each_row : (j : ℕ) (values : List ℕ) → length values ≡ slots → j ≤ slots → T (rows_by s pairs t w q j values) → (r : List ℕ)
      → Of j values r → T (E r)
  each_row zero values l h p r o = subst T (rows_zero s pairs t w q values
      ∙ ap E (ext_get_or 0 values r (l ∙ sym o.long) (λ i k. sym (o.behind i (omega arith))))) p
  each_row (suc j) values l h p r o =
      each_row j (set values j v) (length-set values j v ∙ l) (omega arith)
      (all_below_at (c j) (λ k. rows_by s pairs t w q j (set values j k)) (subst T stepped p) v (o.front j (omega arith))) r
      (record { long = o.long; front = λ i k. o.front i (omega arith); behind = λ i k. go i k (eqb i j) refl })
    where
      v : ℕ
      v = get_or r j 0

      stepped : rows_by s pairs t w q (suc j) values ≡ all_below (c j) (λ k. rows_by s pairs t w q j (set values j k))
      stepped = let e : suc j ≡ j + 1 = omega arith in
          ap (λ (n : ℕ). rows_by s pairs t w q n values) e ∙ rows_step s pairs t w q j values l (omega arith)

      go : (i : ℕ) → j ≤ i → (b : Bool) → eqb i j ≡ b → get_or r i 0 ≡ get_or (set values j v) i 0
      go i k true e = let z : i ≡ j = eqb-true i j e in
          ap (λ (i : ℕ). get_or r i 0) z ∙ sym (ap (λ (i : ℕ). get_or (set values j v) i 0) z ∙ get_or-set_same values j v 0 (omega arith))
      go i k false e = let z : i ≡ j → ⊥ = eqb-false i j e in o.behind i (omega arith) ∙ sym (get_or-set_other values j i v 0 z)

  all-rows : (j : ℕ) (values : List ℕ) → length values ≡ slots → j ≤ slots → ((r : List ℕ) → Of j values r → T (E r))
      → T (rows_by s pairs t w q j values)
  all-rows zero values l h f = subst T (sym (rows_zero s pairs t w q values))
      (f values (record { long = l; front = λ i k. absurd (omega arith); behind = λ i k. refl }))
  all-rows (suc j) values l h f =
      subst T (sym stepped)
      (below_from (c j) (λ k. rows_by s pairs t w q j (set values j k)) (λ v hv.
      all-rows j (set values j v) (length-set values j v ∙ l) (omega arith)
      (λ r o. f r
      (record {
        long = o.long;
        front = λ i k. front v hv r o i k (eqb i j) refl;
        behind = λ i k. o.behind i (omega arith)
            ∙ get_or-set_other values j i v 0 (λ e. omega arith);
      }))))
    where
      stepped : rows_by s pairs t w q (suc j) values ≡ all_below (c j) (λ k. rows_by s pairs t w q j (set values j k))
      stepped = let e : suc j ≡ j + 1 = omega arith in
          ap (λ (n : ℕ). rows_by s pairs t w q n values) e ∙ rows_step s pairs t w q j values l (omega arith)

      front : (v : ℕ) → v < c j → (r : List ℕ) → Of j (set values j v) r → (i : ℕ) → i < suc j → (b : Bool) → eqb i j ≡ b → get_or r i 0 < c i
      front v hv r o i k true e =
          let z : i ≡ j = eqb-true i j e in
          let y : get_or r j 0 ≡ v = o.behind j (omega arith) ∙ get_or-set_same values j v 0 (omega arith) in
          subst (λ (i : ℕ). get_or r i 0 < c i) (sym z) (omega arith)
      front v hv r o i k false e = o.front i (let z = eqb-false i j e in omega arith)

  module _ (k : ℕ) (h : k ≤ slots) where
    abbrev ms : List ℕ
    ms = lasts_of s q w.range k

    abbrev none : List ℕ
    none = replicate slots 0

    below_of : (i : ℕ) → get_or ms i 0 ≡ cond (ltb i k) (c i - 1) 0
    below_of i = lasts_at s q w.range k i h

    of_choice : (r : List ℕ) → Choice ms r → Of k none r
    of_choice r ch = record { long = at.0 ∙ lasts_length s q w.range k; front = front; behind = λ i b. behind i b (ltb i slots) refl }
      where
        at : (length r ≡ length ms) × ((i : ℕ) → i < length ms → get_or r i 0 ≤ get_or ms i 0)
        at = choice_at ms r ch

        low : (i : ℕ) → i < slots → get_or r i 0 ≤ get_or ms i 0
        low i b = at.1 i (let l = lasts_length s q w.range k in omega arith)

        front : (i : ℕ) → i < k → get_or r i 0 < c i
        front i b =
            let e : get_or ms i 0 ≡ c i - 1 = below_of i ∙ ap (λ (b : Bool). cond b (c i - 1) 0) (lt-ltb i k b) in
            let z = choices_two w.range two (slot_at s q i) in
            let y = low i (omega arith) in
            omega arith

        behind : (i : ℕ) → k ≤ i → (b : Bool) → ltb i slots ≡ b → get_or r i 0 ≡ get_or none i 0
        behind i b true e =
            let d : get_or ms i 0 ≡ 0 = below_of i ∙ ap (λ (b : Bool). cond b (c i - 1) 0) (le-ltb i k b) in
            let y = low i (ltb-true i slots e) in
            let z = zeros slots i in
            omega arith
        behind i b false e = get_or-eq_default r 0 (let l = at.0 ∙ lasts_length s q w.range k in
            omega (arith, ltb-false i slots e)) ∙ sym (zeros slots i)

    choice_of : (r : List ℕ) → Of k none r → Choice ms r
    choice_of r o = choice_from ms r (o.long ∙ sym (lasts_length s q w.range k)) (λ i b. go i (ltb i k) refl)
      where
        go : (i : ℕ) (b : Bool) → ltb i k ≡ b → get_or r i 0 ≤ get_or ms i 0
        go i true e =
            let f : get_or ms i 0 ≡ c i - 1 = below_of i ∙ ap (λ (b : Bool). cond b (c i - 1) 0) e in
            let y = o.front i (ltb-true i k e) in
            omega arith
        go i false e =
            let y = o.behind i (ltb-false i k e) in
            let z = zeros slots i in
            omega arith

    module _ (n : ℕ) (en : n ≡ rows_of ms) where
      -- so what holds at each holds at every row of the logic
      pub rows_tried : rows_hold s pairs t w q k n ≡ rows_by s pairs t w q k none
      unfolding rows_hold
      rows_tried =
          bool_ext (all E rows) (rows_by s pairs t w q k none)
          (λ p. all-rows k none refl h (λ r o. let i = once.tried r (choice_of r o) in
          subst (λ (r : List ℕ). T (E r)) i.2 (all-at E [] rows p i.0 i.1)))
          (λ p. all_from E [] rows (λ i b. each_row k none refl h p (get_or rows i []) (of_choice (get_or rows i []) (once.choices i b))))
        where
          once : EveryOnce ms (tried_rows s q w.range k n)
          once = tried_once s q w.range k n en

          rows : List (List ℕ)
          rows = tried_rows s q w.range k n
