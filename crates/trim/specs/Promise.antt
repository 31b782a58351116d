-- THE PROMISE of trimming, whole.
use Rattle.std.specs.Prelude.{◌≡◌, List, ℕ, take}
use Rattle.trim_encode.specs.Trimmed.{Trimmed}
use Rattle.trim_encode.specs.Answer.{code_of, length_of, answer_for, buffer_for}

-- what is returned and written, for an image and a buffer: the code, the length in `written`, and the buffer afterwards
pub record Promise (image buffer : List ℕ) (code written : ℕ) (after : List ℕ) : Type 0 where
  pub returned : code ≡ code_of (answer_for image buffer)
  pub told : written ≡ length_of (answer_for image buffer)
  pub bytes : after ≡ buffer_for image buffer
  -- the bytes written on success are the trimmed image
  pub trimmed : code ≡ 0 → Trimmed image (take written after)
