use Rattle.std.proofs.Common.{◌≡◌}
use Rattle.image_frames.specs.Records.{bodies}
use Rattle.trim_spec.specs.Live.{marked_by}
use Rattle.trim_encode.specs.NamedNumbers.{marked_formulas}
use Rattle.trim_encode.proofs.live_formulas.mark_lines.Given as goal

abbrev pub invariant-loop-n : goal.invariant-loop-n
invariant-loop-n l =
    marked_by l.fn.marks (marked_formulas l.image.sizes (bodies l.image.indexed.now) l.live_lines 0)
    ≡ marked_by l.marks (marked_formulas l.image.sizes (bodies l.image.indexed.now) l.live_lines l.n)
