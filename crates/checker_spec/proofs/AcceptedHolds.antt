-- What is known of an image that is accepted.
use mathlib.Core.Path.{◌≡◌, refl, ap, ◌∙◌}
use mathlib.Core.List.{List}
use Prim.Native.Nat.{ℕ}
use native.Mathlib.Omega.{arith}
use Rattle.image_frames.specs.Records.{bodies}
use Rattle.image_header.specs.declared.sizes.Sizes.{Sizes}
use Rattle.image.specs.Decode.{decoded, Decoded}
use Rattle.image_meaning.specs.Image.{read, decode, image_of, result_of}
use Rattle.verdict_record.specs.declared.verdict.Verdict.{Verdict}
use Rattle.verdict_record.specs.declared.verdict.Verdict.TheVariants.{Accepted, Refused, Failed, Denied}
use Rattle.checker_spec.specs.ImageVerdict.{verdict}
use Rattle.checker_spec.specs.Acceptance.{accepted_as, acceptance}
use Rattle.std.specs.Prelude.{Ok, Err, Some}

-- its bytes are sound, it says this, and the verdict is "accepted"
pub record Holds (s : List ℕ) (z : Sizes) : Type 0 where
  pub sound : decoded s ≡ Ok z
  pub says : decode s ≡ read (image_of z (bodies s))
  pub count : ℕ
  pub verdict : verdict s ≡ Accepted count

pub granted_holds : (s : List ℕ) (z : Sizes) → acceptance s ≡ Some z → Holds s z
unfolding acceptance decode
granted_holds s z e = go (decoded s) (verdict s) refl refl e
  where
    go : (d : Decoded) (v : Verdict) → decoded s ≡ d → verdict s ≡ v → accepted_as d v ≡ Some z → Holds s z
    go (Err r) v hd hv q = let x : ◌≡◌ {A = ℕ} 0 1 = cc in absurd (omega arith)
    go (Ok y) (Accepted n) hd hv q =
        let h : decoded s ≡ Ok z = hd ∙ ap Ok cc in
        record { sound = h; says = ap (result_of (bodies s)) h; count = n; verdict = hv }
    go (Ok y) (Refused f i) hd hv q = let x : ◌≡◌ {A = ℕ} 0 1 = cc in absurd (omega arith)
    go (Ok y) (Failed o c l n) hd hv q = let x : ◌≡◌ {A = ℕ} 0 1 = cc in absurd (omega arith)
    go (Ok y) (Denied i p l n) hd hv q = let x : ◌≡◌ {A = ℕ} 0 1 = cc in absurd (omega arith)
