-- WHAT A CALLER OF `trim_image` MAY CONCLUDE, from its promise alone, in the order and the words of Change 2. What holds of the trimmed
-- image is in `trim_encode/proofs/TrimmedConsequences.antt`.
use mathlib.Core.Path.{◌≡◌, ◌∙◌}
use mathlib.Core.List.{List, ◌++◌}
use Prim.Native.Nat.{ℕ, ◌≤◌, ◌<◌}
use lib.ListN.{length, take, drop}
use lib.Seq.{take-append_seam, drop-append_seam}
use borrow.Author.Tests.{lt-ltb, le-ltb}
use Rattle.image_header.specs.declared.sizes.Sizes.{Sizes}
use Rattle.std.specs.Prelude.{Some, None}
use Rattle.checker_spec.specs.Acceptance.{acceptance}
use Rattle.trim_encode.specs.Answer.{answered_by, buffer_by, answer_for, buffer_for}
use Rattle.trim_encode.specs.Trimmed.{trimmed_bytes, Trimmed}
use Rattle.trim_encode.proofs.TrimmedConsequences.{again_same}
use Rattle.trim.specs.Promise.{Promise}

module _ (image buffer : List ℕ) (code written : ℕ) (after : List ℕ) (p : Promise image buffer code written after) where
  -- "24 image not accepted, first": "0 with an error", and the buffer stays
  module _ (declined : acceptance image ≡ None) where
    pub not-accepted : code ≡ 24
    unfolding answer_for
    not-accepted = p.returned ∙ rw declined

    pub nothing_told : written ≡ 0
    unfolding answer_for
    nothing_told = p.told ∙ rw declined

    pub buffer_kept : after ≡ buffer
    unfolding buffer_for
    buffer_kept = p.bytes ∙ rw declined

  module _ (z : Sizes) (granted : acceptance image ≡ Some z) where
    -- "25 output too short"; "The output buffer is written only on success"
    module _ (short : length buffer < length (trimmed_bytes z image)) where
      pub too_short : code ≡ 25
      unfolding answer_for answered_by
      too_short = p.returned ∙ rw (granted, lt-ltb _ _ short)

      pub too_short_told : written ≡ 0
      unfolding answer_for answered_by
      too_short_told = p.told ∙ rw (granted, lt-ltb _ _ short)

      pub too_short_kept : after ≡ buffer
      unfolding buffer_for buffer_by
      too_short_kept = p.bytes ∙ rw (granted, lt-ltb _ _ short)

    module _ (room : length (trimmed_bytes z image) ≤ length buffer) where
      pub success : code ≡ 0
      unfolding answer_for answered_by
      success = p.returned ∙ rw (granted, le-ltb _ _ room)

      -- "The answer gives the length written"
      pub length_told : written ≡ length (trimmed_bytes z image)
      unfolding answer_for answered_by
      length_told = p.told ∙ rw (granted, le-ltb _ _ room)

      whole : after ≡ trimmed_bytes z image ++ drop (length (trimmed_bytes z image)) buffer
      unfolding buffer_for buffer_by
      whole = p.bytes ∙ rw (granted, le-ltb _ _ room)

      -- the bytes written are the trimmed image
      pub image_written : take written after ≡ trimmed_bytes z image
      image_written = rw (length_told, whole) (take-append_seam (trimmed_bytes z image) (drop (length (trimmed_bytes z image)) buffer))

      -- "bytes behind the image stay"
      pub behind_kept : drop written after ≡ drop written buffer
      behind_kept = rw (length_told, whole) (drop-append_seam (trimmed_bytes z image) (drop (length (trimmed_bytes z image)) buffer))

  -- on success the bytes written are what `Trimmed` says
  pub trimmed_written : code ≡ 0 → Trimmed image (take written after)
  trimmed_written = p.trimmed

-- "trimming it again gives the same bytes": two calls, the second on what the first has written
pub twice : (image buffer : List ℕ) (code written : ℕ) (after : List ℕ) → Promise image buffer code written after → code ≡ 0
    → (buffer₂ : List ℕ) (code₂ written₂ : ℕ) (after₂ : List ℕ) → Promise (take written after) buffer₂ code₂ written₂ after₂
    → (z : Sizes) → acceptance (take written after) ≡ Some z → length (take written after) ≤ length buffer₂
    → take written₂ after₂ ≡ take written after
twice image buffer code written after p ok buffer₂ code₂ written₂ after₂ q z granted room =
    let e = again_same image (take written after) (p.trimmed ok) z granted in
    image_written (take written after) buffer₂ code₂ written₂ after₂ q z granted (rw e room) ∙ e
