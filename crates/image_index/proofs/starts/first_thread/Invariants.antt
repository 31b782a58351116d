use Rattle.std.proofs.Common.{◌≡◌, ◌-◌}
use Rattle.image_index.specs.IndexTable.{first_from}
use Rattle.image_index.proofs.starts.first_thread.Given as goal

abbrev pub invariant-loop-number : goal.invariant-loop-number
invariant-loop-number l = first_from l.image 0 0 l.n ≡ first_from l.image l.number l.position (l.n - l.number)
