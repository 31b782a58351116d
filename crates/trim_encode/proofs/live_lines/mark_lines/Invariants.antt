use Rattle.std.proofs.Common.{◌≡◌}
use Rattle.image_frames.specs.Records.{bodies}
use Rattle.trim_spec.specs.Parse.{document_of}
use Rattle.trim_spec.specs.Live.{kept_to}
use Rattle.trim_encode.proofs.live_lines.mark_lines.Given as goal

abbrev pub invariant-loop-n : goal.invariant-loop-n
invariant-loop-n l =
    kept_to (document_of l.image.sizes (bodies l.image.indexed.now)).lines l.image.sizes.lines l.fn.marks
    ≡ kept_to (document_of l.image.sizes (bodies l.image.indexed.now)).lines l.n l.marks
