-- `replay_handover`: a buffer that is too short, and what is written otherwise.
use Rattle.limits.proofs.BranchTests.{tests}
use Rattle.handover_replay.proofs.AcrossPromised.{written_short, written_whole}
use Rattle.handover_replay.proofs.entry.replay_handover.Goals as goal

pub returns-then-answer-lt-SIZE : goal.returns-then-answer-lt-SIZE
returns-then-answer-lt-SIZE c = written_short _ _ _ _ _ _ _ _ (search tests)

pub returns : goal.returns
returns c =
    written_whole _ _ _ _ _ _ _ _ c.shown_across-shown.result c.write_shown.new.table c.write_numbers.new.room (search tests)
    (search tests) (search tests) (search tests)
