use Rattle.std.proofs.Common.{◌≡◌, drop}
use Rattle.image_header.specs.Thread.{begins}
use Rattle.trim_spec.specs.Live.{marked_by}
use Rattle.trim_encode.specs.NamedNumbers.{body_formulas}
use Rattle.trim_encode.proofs.live_formulas.mark_thread.Given as goal

abbrev pub invariant-loop-point : goal.invariant-loop-point
invariant-loop-point l =
    (l.at ≡ begins (drop 1 l.body) l.point)
    × (marked_by l.fn.marks (body_formulas l.body 0) ≡ marked_by l.marks (body_formulas l.body l.point))
