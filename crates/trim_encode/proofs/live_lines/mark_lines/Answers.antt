use native.Mathlib.Omega.{arith}
use Rattle.image_frames.specs.Records.{bodies}
use Rattle.trim_encode.proofs.LiveLineBranches.{down_more, down_all}
use Rattle.limits.proofs.BranchTests.{tests}
use Rattle.trim_encode.proofs.live_lines.mark_lines.Goals as goal

pub loop-n-preserved : goal.loop-n-preserved
loop-n-preserved c =
    let e = c.from-n.ensures in
    down_more c.args.image.now.sizes (bodies c.args.image.now.indexed.now) c.loop-n.n _ c.loop-n.marks _ (omega arith) (omega arith) c.loop-n.invariant
    c.mark_line.ensures

pub returns : goal.returns
returns c = search (down_all, tests)
