use Rattle.tables_digits.proofs.RunBranches.{slot_past}
use Rattle.tables_digits.proofs.slot_column.take_slot.Goals as goal

pub returns-clause-out_after : goal.returns-clause-out_after
returns-clause-out_after c = slot_past _ _ _ _ _ c.if-j-lt-COUNT.false c.span_of.ensures c.fill.ensures
