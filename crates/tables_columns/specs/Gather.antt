-- The leaves of trees, gathered, each once.
use Rattle.std.specs.Prelude.{ℕ, ◌+◌, List, [], ◌∷◌, ◌++◌, cond, length, set, ltb}
use Rattle.logic.specs.Rows.{is_in}
use Rattle.formula.specs.Codes.{member}
use Rattle.formula.specs.Tree.{Tree, none, node}
use Rattle.formula_compare.specs.Same.{same_tree}
use Rattle.tables_columns.specs.Slots.{slots, kept}
use Rattle.tables_columns.specs.declared.slot.Slot.{Slot}

-- the leaves of a tree: its nodes whose code is in the set w, whole, from left to right
unfoldable pub leaves_t : ℕ → Tree → List Tree
leaves_t w none = []
leaves_t w (node c o l r) = cond (member w c) (node c o l r ∷ []) (leaves_t w l ++ leaves_t w r)

-- the leaves, each once, the newest first; or too many for the slots
pub data Gathered : Type 0 where
  many : Gathered
  keys : List Tree → Gathered

-- one more leaf, unless it is there
unfoldable pub put_t : Tree → Gathered → Gathered
put_t none m = m
put_t (node c o l r) many = many
put_t (node c o l r) (keys k) = cond (is_in same_tree (node c o l r) k) (keys k) (cond (ltb (length k) slots) (keys (node c o l r ∷ k)) many)

-- the leaves of a tree added, from right to left
unfoldable pub gather_t : ℕ → Tree → Gathered → Gathered
gather_t w none m = m
gather_t w (node c o l r) m = cond (member w c) (put_t (node c o l r) m) (gather_t w l (gather_t w r m))

-- the leaves in the first n slots
unfoldable pub view : List ℕ → ℕ → List Slot → Gathered
view s n q = cond (ltb slots n) many (keys (kept s q n))

-- the number of leaves with one more in the slot n
unfoldable pub count_put : ℕ → ℕ
count_put n = cond (ltb n slots) (n + 1) (slots + 1)

-- the slots with one more leaf in the slot n, if there is such a slot
unfoldable pub slot_put : ℕ → Slot → List Slot → List Slot
slot_put n p q = cond (ltb n slots) (set q n p) q
