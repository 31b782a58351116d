-- Slots: the distinct leaves of some formulas, which are the variables of their rows.
use Rattle.std.specs.Prelude.{ℕ, zero, suc, max, min, List, [], ◌∷◌, Bool, cond, ◌&&◌, ◌||◌, get_or, eqb}
use Rattle.formula.specs.Tree.{Tree, none, node, node_at, parse_tree}
use Rattle.formula.specs.declared.node.Node.{Node}
use Rattle.formula_compare.specs.Same.{same_tree}
use Rattle.tables_columns.specs.declared.slot.Slot.{Slot}
use Rattle.tables_columns.specs.declared.slot.Slot.TheVariants.{Plain, Whole}

-- the number of slots: 13 leaves with two choices each have more than 4,096 rows
abbrev pub slots : ℕ
slots = 12

-- the leaf in a slot: one without parts by its code and operand, any other by its position
unfoldable pub slot_tree : List ℕ → Slot → Tree
slot_tree s (Plain c o) = node c o none none
slot_tree s (Whole p k) = (parse_tree s (max k 1) p).tree

-- the slot for the leaf at a position
unfoldable pub leaf_slot : List ℕ → ℕ → ℕ → Slot
leaf_slot s at left =
    cond (eqb (node_at s at).parts 0)
    (Plain (node_at s at).code (node_at s at).operand)
    (Whole at left)

-- the leaf without parts with the code c and the operand o is the one in the slot
unfoldable pub same_plain : List ℕ → ℕ → ℕ → Slot → Bool
same_plain s c o (Plain d i) = eqb c d && eqb o i
same_plain s c o (Whole p k) = eqb c (node_at s p).code && eqb o (node_at s p).operand

-- the formula at a position, whose root is x, is the leaf in the slot
unfoldable pub same_slot : List ℕ → ℕ → ℕ → Node → Slot → Bool
same_slot s at left x (Plain c o) = eqb x.code c && (eqb x.operand o && (eqb x.parts 0 || eqb left 1))
same_slot s at left x (Whole p k) = same_tree (parse_tree s left at).tree (parse_tree s (max k 1) p).tree

-- slot j
abbrev pub nth : List Slot → ℕ → Slot
nth q j = get_or q j (Plain 0 0)

-- the leaf in slot j
unfoldable pub slot_at : List ℕ → List Slot → ℕ → Tree
slot_at s q j = slot_tree s (nth q j)

-- the first of d slots from j on that has the tree, or the one after them
unfoldable pub slot_from : List ℕ → List Slot → ℕ → ℕ → Tree → ℕ
slot_from s q zero j t = j
slot_from s q (suc d) j t = cond (same_tree t (slot_at s q j)) j (slot_from s q d (suc j) t)

-- the first slot that has the tree, or the number of slots
unfoldable pub slot_of : List ℕ → List Slot → Tree → ℕ
slot_of s q t = slot_from s q slots 0 t

-- the first of n slots that has the tree, or n
unfoldable pub slot_within : List ℕ → List Slot → ℕ → Tree → ℕ
slot_within s q n t = min n (slot_of s q t)

-- the leaves in the first j slots, the last one first
unfoldable pub kept : List ℕ → List Slot → ℕ → List Tree
kept s q zero = []
kept s q (suc j) = slot_at s q j ∷ kept s q j
