use Rattle.tables_rows.proofs.EntailmentBranches.{gather-imp}
use Rattle.limits.proofs.BranchTests.{tests}
use Rattle.tables_rows.proofs.entailment.gather_imp.Goals as goal

pub returns-clause-slots_after : goal.returns-clause-slots_after
returns-clause-slots_after c = search (gather-imp, tests)
