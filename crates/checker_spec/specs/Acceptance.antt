-- Whether an image is accepted, for the calls that need an accepted image.
use Rattle.std.specs.Prelude.{List, ℕ, Option, Some, None, Ok, Err}
use Rattle.image_header.specs.declared.sizes.Sizes.{Sizes}
use Rattle.image.specs.Decode.{decoded, Decoded}
use Rattle.verdict_record.specs.declared.verdict.Verdict.{Verdict}
use Rattle.verdict_record.specs.declared.verdict.Verdict.TheVariants.{Accepted, Refused, Failed, Denied}
use Rattle.checker_spec.specs.ImageVerdict.{verdict}

-- the sizes z of an image that its verdict accepts, or none
abbrev pub granted_by : Sizes → Verdict → Option Sizes
granted_by z (Accepted n) = Some z
granted_by z (Refused f i) = None
granted_by z (Failed o c l n) = None
granted_by z (Denied i p l n) = None

-- acceptance by what decoding gave and by the verdict
abbrev pub accepted_as : Decoded → Verdict → Option Sizes
accepted_as (Err r) v = None
accepted_as (Ok z) v = granted_by z v

-- the sizes of an image whose verdict is "accepted"; none if the verdict is another
unfoldable pub acceptance : List ℕ → Option Sizes
acceptance s = accepted_as (decoded s) (verdict s)
