use Rattle.std.proofs.Common.{◌≡◌, ◌-◌}
use Rattle.formula.specs.Tree.{parse_tree}
use Rattle.tables_columns.specs.Slots.{slot_of, slot_from}
use Rattle.tables_columns.proofs.slot.slot_within.Given as goal

abbrev pub invariant-loop-j : goal.invariant-loop-j
invariant-loop-j l =
    slot_of l.image l.slots (parse_tree l.image l.left l.at).tree ≡ slot_from l.image l.slots (12 - l.j) l.j (parse_tree l.image l.left l.at).tree
