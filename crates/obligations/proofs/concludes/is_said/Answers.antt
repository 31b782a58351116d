use Rattle.obligations.proofs.ConcludesBranches.{said_is}
use Rattle.obligations.proofs.concludes.is_said.Goals as goal

pub returns : goal.returns
returns c = said_is _ _ _ _ _ _ _ _ c.bytes.ensures c.conclusion_of-c.ensures c.match_conclusion.ensures c.is_some.ensures
