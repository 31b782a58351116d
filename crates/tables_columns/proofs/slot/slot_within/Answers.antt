use Rattle.limits.proofs.BranchTests.{tests}
use Rattle.tables_columns.proofs.SlotBranches.{slot_within_branches}
use Rattle.tables_columns.proofs.slot.slot_within.Goals as goal

pub loop-j-init : goal.loop-j-init
loop-j-init c = search (slot_within_branches, tests)

pub returns-then-same_slot : goal.returns-then-same_slot
returns-then-same_slot c = search (slot_within_branches, tests)

pub loop-j-preserved : goal.loop-j-preserved
loop-j-preserved c = search (slot_within_branches, tests)

pub returns : goal.returns
returns c = search (slot_within_branches, tests)
