use Rattle.limits.proofs.BranchTests.{tests}
use Rattle.tables_columns.proofs.SlotBranches.{plain_slot_branches}
use Rattle.tables_columns.proofs.slot.plain_slot.Goals as goal

pub loop-j-init : goal.loop-j-init
loop-j-init c = search (plain_slot_branches, tests)

pub returns-then-same_plain : goal.returns-then-same_plain
returns-then-same_plain c = search (plain_slot_branches, tests)

pub loop-j-preserved : goal.loop-j-preserved
loop-j-preserved c = search (plain_slot_branches, tests)

pub returns : goal.returns
returns c = search (plain_slot_branches, tests)
