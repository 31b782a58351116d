use Rattle.limits.proofs.BranchTests.{tests}
use Rattle.replay_memory.proofs.TablePlaces.{raise_end}
use Rattle.replay_memory.proofs.write_table.raise_all.Goals as goal

pub returns : goal.returns
returns c = raise_end _ _ _ _ c.loop-j.j c.loop-j.invariant.0 c.loop-j.invariant.1.1 (search tests) (search tests)
