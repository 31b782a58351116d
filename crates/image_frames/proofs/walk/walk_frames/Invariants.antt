use Rattle.std.proofs.Common.{◌≡◌, ◌≤◌, ◌-◌, ◌+◌, length, drop}
use Rattle.image_frames.specs.Frames.{frames, walk}
use Rattle.image_frames.proofs.walk.walk_frames.Given as goal

abbrev pub invariant-loop-at : goal.invariant-loop-at
invariant-loop-at l = (1 ≤ l.i) × (l.i ≤ l.at + 1) × (l.at ≤ length l.image)
    × (frames l.image ≡ walk (length l.image + 1 - l.i) l.i l.seen (drop l.at l.image)) × (length l.seen.count ≡ 8)

abbrev pub decreases-loop-at : goal.decreases-loop-at
decreases-loop-at l = length l.image - l.at
