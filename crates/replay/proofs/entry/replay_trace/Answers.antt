-- `replay_trace`: a buffer that is too short, and what is written otherwise.
use Rattle.limits.proofs.BranchTests.{tests}
use Rattle.replay_spec.proofs.ReplayPromised.{written_short, written_whole}
use Rattle.replay.proofs.entry.replay_trace.Goals as goal

pub returns-then-answer-lt-SIZE : goal.returns-then-answer-lt-SIZE
returns-then-answer-lt-SIZE c = written_short _ _ _ _ _ (search tests)

pub returns : goal.returns
returns c =
    written_whole _ _ _ _ _ c.shown_of-shown.result c.write_shown.new.table c.write_numbers.new.room (search tests) (search tests)
    (search tests) (search tests)
