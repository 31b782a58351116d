-- Entailment at every row, and the rows that are tried.
use Rattle.std.specs.Prelude.{ℕ, zero, suc, ◌-◌, List, ◌∷◌, Bool, false, ◌&&◌, set, replicate, leb}
use Rattle.semantics.specs.Base.{all}
use Rattle.logic.specs.Rows.{all_rows, every_row, row_count, distinct}
use Rattle.formula_compare.specs.Same.{same_tree}
use Rattle.tables_columns.specs.Slots.{slots, slot_at}
use Rattle.tables_columns.specs.Gather.{Gathered, many, keys}
use Rattle.tables_columns.specs.Count.{choices_t}
use Rattle.tables_columns.specs.declared.slot.Slot.{Slot}
use Rattle.tables_digits.specs.Advance.{rows_from}
use Rattle.tables_rows.specs.Entailment.{ImpT, entails_t, leaves_all, imp_of, premises_from, entails_at, gather_all}
use Rattle.tables_digits.specs.declared.value_column.Reading.{Reading}
use Rattle.tables_rows.specs.declared.entailment.Implication.{Implication}
use Rattle.tables_rows.specs.declared.entailment.Task.{Task}

-- there are at most limit rows, and the entailment holds at each: each leaf once, every choice for each
abbrev pub every_t : Reading → ℕ → List ImpT → ImpT → Bool
every_t w limit ps c =
    leb (row_count same_tree (choices_t w.range) (distinct same_tree (leaves_all w.leaves (c ∷ ps)))) limit
    && every_row same_tree (choices_t w.range) (leaves_all w.leaves (c ∷ ps)) (entails_t w ps c)

-- the last values of the slots: one less than the choices of the first k, 0 for the others
unfoldable pub lasts_of : List ℕ → List Slot → ℕ → ℕ → List ℕ
lasts_of s q R zero = replicate slots 0
lasts_of s q R (suc j) = set (lasts_of s q R j) j (choices_t R (slot_at s q j) - 1)

-- the rows that are tried for k slots: n of them, from the row of zeros on
unfoldable pub tried_rows : List ℕ → List Slot → ℕ → ℕ → ℕ → List (List ℕ)
tried_rows s q R k n = rows_from (lasts_of s q R k) n (replicate slots 0)

-- the entailment holds at each of n rows from the row of zeros on, by the last values ms
unfoldable pub hold_from : List ℕ → (ℕ → Implication) → Task → Reading → List Slot → List ℕ → ℕ → Bool
hold_from s pairs t w q ms n = all (entails_at s pairs t w q) (rows_from ms n (replicate slots 0))

-- the entailment holds at each row that is tried
unfoldable pub rows_hold : List ℕ → (ℕ → Implication) → Task → Reading → List Slot → ℕ → ℕ → Bool
rows_hold s pairs t w q k n = all (entails_at s pairs t w q) (tried_rows s q w.range k n)

-- there are at most limit rows by the leaves gathered, and the entailment holds at each
abbrev pub every_by : Gathered → Reading → ℕ → List ImpT → ImpT → Bool
every_by many w limit ps c = false
every_by (keys l) w limit ps c = leb (row_count same_tree (choices_t w.range) l) limit
    && all_rows same_tree (choices_t w.range) l (entails_t w ps c) (λ u. 0)

-- there are at most limit rows for the line and its premises, and the entailment holds at each
unfoldable pub every_of : List ℕ → (ℕ → Implication) → Task → Reading → ℕ → Bool
every_of s pairs t w limit = every_by (gather_all s pairs t w.leaves) w limit (premises_from s pairs t 0)
    (imp_of s pairs t 0)
