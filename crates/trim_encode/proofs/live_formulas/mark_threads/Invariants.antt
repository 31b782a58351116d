use Rattle.std.proofs.Common.{◌≡◌}
use Rattle.image_frames.specs.Records.{bodies}
use Rattle.trim_spec.specs.Live.{marked_by}
use Rattle.trim_encode.specs.NamedNumbers.{thread_formulas}
use Rattle.trim_encode.proofs.live_formulas.mark_threads.Given as goal

abbrev pub invariant-loop-t : goal.invariant-loop-t
invariant-loop-t l =
    marked_by l.fn.marks (thread_formulas l.image.sizes (bodies l.image.indexed.now) 0)
    ≡ marked_by l.marks (thread_formulas l.image.sizes (bodies l.image.indexed.now) l.t)
