-- `replay_into`: the index that is lent has as many zeros as a table of the image's size asks for.
use Rattle.limits.proofs.BranchTests.{tests}
use Rattle.image_index.proofs.IndexBranches.{short_zeros, long_zeros}
use Rattle.replay.proofs.into.replay_into.Goals as goal

pub replay_in-requires : goal.replay_in-requires
replay_in-requires c = short_zeros _ (search tests)

pub replay_in-requires-2 : goal.replay_in-requires-2
replay_in-requires-2 c = long_zeros _ (search tests)
