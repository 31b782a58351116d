-- Every row tried: the ways through the functions, one law for each.
use Prim.Native.Nat.{ℕ, zero, suc, ◌+◌, ◌-◌, ◌*◌, ◌≤◌, ◌<◌}
use mathlib.Core.Path.{◌≡◌, refl, ap, ap₂, sym, ◌∙◌, fun_ext}
use mathlib.Core.List.{List, []}
use mathlib.Core.Bool.{Bool, true, false, cond, not}
use native.Mathlib.Omega.{arith}
use native.Mathlib.Numerals.{add-one}
use native.Mathlib.Nat.{one-mul}
use lib.ListN.{get_or, set, take, replicate}
use lib.Dec.{eqb, ltb}
use borrow.Author.Tests.{le-leb, lt-leb, ltb-true, ltb-false}
use Rattle.semantics.specs.Base.{all}
use Rattle.logic.specs.Rows.{all_rows, row_count}
use Rattle.formula_compare.specs.Same.{same_tree}
use Rattle.tables_columns.specs.Slots.{slots, slot_tree, nth, slot_at, slot_from, kept}
use Rattle.tables_columns.specs.Gather.{view}
use Rattle.tables_columns.specs.Count.{choices_t, capped, rows_up_to}
use Rattle.tables_columns.specs.declared.slot.Slot.{Slot}
use Rattle.tables_columns.proofs.GatherBranches.{view_keys, view_many}
use Rattle.tables_columns.specs.Column.{none_below}
use Rattle.tables_columns.proofs.ColumnLists.{column_at}
use Rattle.tables_digits.specs.Advance.{rows_from, rows_of, EveryOnce}
use Rattle.tables_digits.specs.SlotColumn.{value_in, row_in}
use Rattle.tables_digits.proofs.EachRowOnce.{from_at, from_long}
use Rattle.tables_rows.specs.Entailment.{ImpT, entails_t, imp_of, premises_from, imp_at, all_at, entails_at, imp_fails, gather_all}
use Rattle.tables_rows.specs.EveryRow.{lasts_of, tried_rows, hold_from, rows_hold, every_of}
use Rattle.tables_digits.specs.declared.value_column.Reading.{Reading}
use Rattle.tables_rows.specs.declared.entailment.Implication.{Implication}
use Rattle.tables_rows.specs.declared.entailment.Task.{Task}
use Rattle.tables_rows.proofs.EntailmentBranches.{prems_end}
use Rattle.tables_rows.proofs.ChoicesTried.{all-below, lasts_step, rows_count, tried_once, rows_tried}

-- the last values, slot by slot
module _ (s : List ℕ) (q : List Slot) (R : ℕ) (a : List ℕ) where
  pub lasts_begin : a ≡ replicate 12 0 → a ≡ lasts_of s q R 0
  unfolding lasts_of
  lasts_begin e = e

  pub lasts_more : (j k c x : ℕ) (p : Slot) → a ≡ lasts_of s q R j → p ≡ nth q j → c ≡ choices_t R (slot_tree s p) → x ≡ c - 1
      → set a j x ≡ lasts_of s q R (j + 1)
  unfolding slot_at
  lasts_more j k c x p e ep ec ex =
      ap₂ (λ (l : List ℕ) (y : ℕ). set l j y) e (ex ∙ ap (λ (n : ℕ). n - 1) (ec ∙ ap (λ (p : Slot). choices_t R (slot_tree s p)) ep))
      ∙ sym (ap (lasts_of s q R) (add-one j) ∙ lasts_step s q R j)

pub ruleset fill_lasts_branches = (lasts_begin, lasts_more)

-- where all values are 0 the row is 0 everywhere
zeros : (n i : ℕ) → get_or (replicate {A = ℕ} n 0) i 0 ≡ 0
zeros zero i = refl
zeros (suc n) zero = refl
zeros (suc n) (suc i) = zeros n i

zero_in : (i : ℕ) → value_in (replicate 12 0) i ≡ 0
unfolding value_in
zero_in i = go (ltb i slots)
  where
    go : (b : Bool) → cond b (get_or (replicate {A = ℕ} 12 0) i 0) 0 ≡ 0
    go true = zeros 12 i
    go false = refl

-- the rows at which nothing fails
pub none_fail : (s : List ℕ) (pairs : ℕ → Implication) (t : Task) (w : Reading) (q : List Slot) (ms : List ℕ) (n : ℕ) (fails : List ℕ) (r : Bool) → t.premises ≡ 0
    → take n fails ≡ imp_fails s w q ms n (imp_of s pairs t 0) → r ≡ none_below fails n
    → r ≡ hold_from s pairs t w q ms n
unfolding imp_fails none_below hold_from entails_at all_at row_in
none_fail s pairs t w q ms n fails r z ef er =
    er ∙ all-below (entails_at s pairs t w q) [] (rows_from ms n (replicate slots 0)) n (λ i. not (eqb (get_or fails i 0) 1))
    (from_long ms n (replicate slots 0)) (λ i h.
    ap (λ (m : ℕ). not (eqb m 1)) (column_at failing 0 fails n i ef h)
    ∙ go (imp_at s w q (row_in ms i) (imp_of s pairs t 0))
    ∙ ap (λ (l : List ImpT). cond (imp_at s w q (row_in ms i) (imp_of s pairs t 0)) true (not (all_at s w q (row_in ms i) l)))
    (sym (prems_end s pairs t 0 (omega arith)))
    ∙ ap (entails_at s pairs t w q) (sym (from_at ms n i (replicate slots 0) h)))
  where
    failing : ℕ → ℕ
    failing i = cond (imp_at s w q (row_in ms i) (imp_of s pairs t 0)) 0 1

    go : (x : Bool) → not (eqb (cond {A = ℕ} x 0 1) 1) ≡ cond x true (not true)
    go true = refl
    go false = refl

-- by the last values of the slots
pub rows-hold : (s : List ℕ) (pairs : ℕ → Implication) (t : Task) (w : Reading) (q : List Slot) (k n : ℕ) (ms : List ℕ) (r : Bool)
    → ms ≡ lasts_of s q w.range k → r ≡ hold_from s pairs t w q ms n → r ≡ rows_hold s pairs t w q k n
unfolding hold_from rows_hold tried_rows
rows-hold s pairs t w q k n ms r em e = e ∙ ap
    (λ (ms : List ℕ). all (entails_at s pairs t w q) (rows_from ms n (replicate slots 0))) em

-- what is tried is every choice exactly once
pub rows_once : (s : List ℕ) (q : List Slot) (w : Reading) (k n : ℕ) → n ≡ rows_of (lasts_of s q w.range k)
    → EveryOnce (lasts_of s q w.range k) (tried_rows s q w.range k n)
rows_once s q w k n e = tried_once s q w.range k n e

pub ruleset every_row_holding = (none_fail, rows-hold, rows_once)

module _ (s : List ℕ) (pairs : ℕ → Implication) (t : Task) (w : Reading) (limit n : ℕ) (q : List Slot)
    (eg : view s n q ≡ gather_all s pairs t w.leaves) where
  pub every_many : slots < n → false ≡ every_of s pairs t w limit
  unfolding every_of
  every_many h = rw (← eg, view_many s n q h)

  module _ (r : ℕ) (h : n ≤ slots) (er : r ≡ rows_up_to s q w.range limit n) where
    abbrev count : ℕ
    count = row_count same_tree (choices_t w.range) (kept s q n)

    -- the count is above the limit if what is told is
    told : (b : Bool) → ltb limit (1 * count) ≡ b → r ≡ cond b (limit + 1) (1 * count)
        → (limit < r → limit < count) × (r ≤ limit → count ≤ limit)
    told true e d = (λ l. omega (arith, one-mul count, ltb-true limit (1 * count) e), λ l. absurd (omega arith))
    told false e d = (
      λ l. omega (arith, one-mul count, ltb-false limit (1 * count) e),
      λ l. omega (arith, one-mul count, ltb-false limit (1 * count) e),
    )

    counted : (limit < r → limit < count) × (r ≤ limit → count ≤ limit)
    unfolding rows_up_to capped
    counted = told (ltb limit (1 * count)) refl er

    -- the count itself if it is not above
    exact : r ≤ limit → r ≡ count
    unfolding rows_up_to capped
    exact l = go (ltb limit (1 * count)) refl er
      where
        go : (b : Bool) → ltb limit (1 * count) ≡ b → r ≡ cond b (limit + 1) (1 * count) → r ≡ count
        go true e d = absurd (omega arith)
        go false e d = d ∙ one-mul count

    pub every_over : limit < r → false ≡ every_of s pairs t w limit
    unfolding every_of
    every_over l = rw (← eg, view_keys s n q h, lt-leb count limit (counted.0 l))

    pub every_rows : 2 ≤ w.range → r ≤ limit → r ≡ rows_of (lasts_of s q w.range n)
    every_rows two l = exact l ∙ sym (rows_count s q w.range two n h)

    pub every_try : (b : Bool) → 2 ≤ w.range → r ≤ limit → b ≡ rows_hold s pairs t w q n r → b ≡ every_of s pairs t w limit
    unfolding every_of
    every_try b two l e =
        e ∙ rows_tried s pairs t w q two n h r (every_rows two l)
        ∙ rw (← eg, view_keys s n q h, le-leb count limit (counted.1 l))
        (ap (all_rows same_tree (choices_t w.range) (kept s q n)
        (entails_t w (premises_from s pairs t 0) (imp_of s pairs t 0)))
        (fun_ext (λ u. zero_in (slot_from s q (slots - n) n u))))

pub ruleset every_row_everys = (every_many, every_over, every_rows, every_try)
