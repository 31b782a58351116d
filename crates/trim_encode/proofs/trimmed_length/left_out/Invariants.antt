use Rattle.std.proofs.Common.{◌≡◌, ◌≤◌, ◌+◌, ◌*◌}
use Rattle.limits.specs.Limits.{image_bytes}
use Rattle.image_frames.specs.Records.{bodies}
use Rattle.trim_encode.specs.LeftOutBytes.{left_behind}
use Rattle.trim_encode.proofs.trimmed_length.left_out.Given as goal

abbrev pub invariant-loop-i : goal.invariant-loop-i
invariant-loop-i l =
    (left_behind (bodies l.image.indexed.now) l.from l.count l.marks 0
    ≡ l.bytes + left_behind (bodies l.image.indexed.now) l.from l.count l.marks l.i)
    × (l.bytes ≤ (image_bytes + 4) * l.i)
