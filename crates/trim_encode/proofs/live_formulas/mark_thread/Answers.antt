use Rattle.image_header.proofs.ThreadBranches.{from_start}
use Rattle.limits.proofs.BranchTests.{tests}
use Rattle.trim_encode.proofs.live_formulas.mark_thread.Goals as goal

pub loop-point-init : goal.loop-point-init
loop-point-init c = search (from_start, tests)
