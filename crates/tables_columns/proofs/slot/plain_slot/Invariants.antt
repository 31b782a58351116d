use Rattle.std.proofs.Common.{◌≡◌, ◌-◌}
use Rattle.formula.specs.Tree.{none, node}
use Rattle.tables_columns.specs.Slots.{slot_of, slot_from}
use Rattle.tables_columns.proofs.slot.plain_slot.Given as goal

abbrev pub invariant-loop-j : goal.invariant-loop-j
invariant-loop-j l =
    slot_of l.image l.slots (node l.code l.operand none none) ≡ slot_from l.image l.slots (12 - l.j) l.j (node l.code l.operand none none)
