-- The truth table of a tree, as bits.
use Rattle.std.specs.Prelude.{ℕ, ◌+◌, ◌*◌, ◌^◌, ◌≤◌, ◌<◌, ◌≡◌, List, [], ◌∷◌, Bool, cond, length, get_or, eqb}
use Rattle.semantics.specs.Code.{Code}
use Rattle.formula.specs.Codes.{set_of}
use Rattle.formula.specs.Tree.{Tree}
use Rattle.tables_columns.specs.Slots.{nth, slot_of}
use Rattle.tables_columns.specs.declared.slot.Slot.{Slot}
use Rattle.tables_digits.specs.SlotColumn.{value_in, row_in}
use Rattle.tables_digits.specs.ValueColumn.{row_value}
use Rattle.tables_digits.specs.declared.value_column.Reading.{Reading}
use Rattle.tables_bits.specs.Bits.{bit}

-- the leaves of a truth table: sees, start and comparisons, "(24, 9, 10, 27)", each true or false. Flags and sums are listed so that
-- every tree has a table: in an assertion, flags occur under sees alone and sums in comparisons
abbrev pub by_leaves : Reading
by_leaves = record { leaves = set_of (Code.sees ∷ Code.start ∷ Code.equal ∷ Code.less ∷ Code.unsync ∷ Code.cov ∷ Code.sum ∷ []); range = 2 }

-- slots whose first n are those of q, ten at most, with two values each
pub record Later (n : ℕ) (q : List Slot) : Type 0 where
  pub count : ℕ
  pub slots : List Slot
  pub lasts : List ℕ
  pub few : count ≤ 10
  pub more : n ≤ count
  pub same : (j : ℕ) → j < n → nth slots j ≡ nth q j
  pub two : (j : ℕ) → j < count → get_or lasts j 0 ≡ 1

-- bit i of word w is 1 exactly if f holds at row 64 * w + i, whatever slots follow the first n
unfoldable pub Shows : ℕ → List Slot → (List Slot → List ℕ → Bool) → List ℕ → Type 0
Shows n q f a =
    (x : Later n q) (w i : ℕ) → w < 16 → i < 64 → 64 * w + i < 2 ^ x.count
    → bit (get_or a w 0) i ≡ cond (f x.slots (row_in x.lasts (64 * w + i))) 1 0

-- the table a is that of a leaf, by the value of its slot
unfoldable pub LeafBits : List ℕ → ℕ → List Slot → Tree → List ℕ → Type 0
LeafBits s n q t a = Shows n q (λ p v. eqb (value_in v (slot_of s p t)) 1) a

-- the table a is that of a tree
unfoldable pub TreeBits : List ℕ → ℕ → List Slot → Tree → List ℕ → Type 0
TreeBits s n q t a = Shows n q (λ p v. eqb (row_value s by_leaves p v t) 1) a

-- the first n slots are as they were, and there are r now; the counts of slots and of words are unchanged
pub record Grown (n : ℕ) (q : List Slot) (r : ℕ) (q₂ : List Slot) (a : List ℕ) : Type 0 where
  pub more : n ≤ r
  pub same : (j : ℕ) → j < n → nth q₂ j ≡ nth q j
  pub long : length q₂ ≡ 12
  pub wide : length a ≡ 16
