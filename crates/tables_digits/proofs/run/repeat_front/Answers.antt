use Rattle.tables_digits.proofs.RunBranches.{front_pasted}
use Rattle.tables_digits.proofs.run.repeat_front.Goals as goal

pub returns : goal.returns
returns c = front_pasted _ _ _ _ c.requires.1 c.copy_within.ensures.after
