-- An accepted image by its source, for the calls that need an accepted image: the program, outline, certificate and claims that their
-- promises speak of are what its source means, and its source is true in every run.
use mathlib.Core.Path.{◌≡◌}
use mathlib.Core.List.{List}
use Prim.Native.Nat.{ℕ}
use Rattle.image_frames.specs.Records.{bodies}
use Rattle.image_header.specs.declared.sizes.Sizes.{Sizes}
use Rattle.image_meaning.specs.Image.{image_of}
use Rattle.trim_spec.specs.Canonical.{Bytes}
use Rattle.source.specs.TrueFor.{TrueFor}
use Rattle.source_agrees.proofs.Theorem.{SourceFor, sound_means}
use Rattle.checker_spec.specs.Acceptance.{acceptance}
use Rattle.std.specs.Prelude.{Some}
use Rattle.checker_spec.proofs.AcceptedHolds.{granted_holds}
use Rattle.checker_spec.proofs.AcceptedRuns.{run_true, accepted_runs}

module _ (s : List ℕ) (z : Sizes) (bytes : Bytes s) (granted : acceptance s ≡ Some z) where
  pub granted_means : SourceFor s (image_of z (bodies s))
  granted_means = sound_means s z bytes (granted_holds s z granted).sound

  pub granted_true : TrueFor s
  granted_true = let h = granted_holds s z granted in run_true s bytes (accepted_runs s h.count h.verdict)
