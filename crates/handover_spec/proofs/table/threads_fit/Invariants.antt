use Rattle.std.proofs.Common.{◌≡◌, true}
use Rattle.image_frames.specs.Records.{bodies}
use Rattle.image_meaning.specs.Image.{image_of}
use Rattle.handover_spec.specs.Fits.{threads_fit}
use Rattle.handover_spec.proofs.table.threads_fit.Given as goal

abbrev pub invariant-loop-t : goal.invariant-loop-t
invariant-loop-t l = threads_fit (image_of l.old.sizes (bodies l.old.image.now)) (image_of l.new_sizes (bodies l.new)) l.table l.t ≡ true
