use Rattle.replay_machine.proofs.evaluate.+work_at.Given as goal

abbrev pub decreases-work_at : goal.decreases-work_at
decreases-work_at l = l.left
