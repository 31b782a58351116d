use Rattle.std.proofs.Common.{◌≡◌, drop}
use Rattle.image_frames.specs.Records.{bodies}
use Rattle.trim_spec.specs.Live.{marked_by}
use Rattle.trim_encode.specs.NamedNumbers.{claim_lines}
use Rattle.trim_encode.proofs.live_lines.mark_claims.Given as goal

abbrev pub invariant-loop-i : goal.invariant-loop-i
invariant-loop-i l =
    marked_by l.fn.marks (claim_lines l.image.sizes (bodies l.image.indexed.now))
    ≡ marked_by l.marks (drop l.i (claim_lines l.image.sizes (bodies l.image.indexed.now)))
