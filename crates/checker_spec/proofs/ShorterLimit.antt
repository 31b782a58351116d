-- The verdict for a caller that takes shorter images.
use mathlib.Core.Path.{◌≡◌}
use mathlib.Core.List.{List}
use Prim.Native.Nat.{ℕ, ◌≤◌, ◌<◌}
use lib.ListN.{length}
use borrow.Author.Tests.{lt-ltb, le-ltb}
use Rattle.image_frames.specs.declared.fault.Fault.TheVariants.{Size}
use Rattle.verdict_record.specs.declared.verdict.Verdict.{Verdict}
use Rattle.verdict_record.specs.declared.verdict.Verdict.TheVariants.{Refused}
use Rattle.checker_spec.specs.ImageVerdict.{verdict, verdict_within}

module _ (most : ℕ) (s : List ℕ) where
  pub within_long : most < length s → Refused Size 0 ≡ verdict_within most s
  unfolding verdict_within
  within_long h = rw (lt-ltb most (length s) h)

  pub within_short : (v : Verdict) → length s ≤ most → v ≡ verdict s → v ≡ verdict_within most s
  unfolding verdict_within
  within_short v h e = rw (le-ltb most (length s) h) e

pub ruleset judge_within_branches = (within_long, within_short)
