-- A sound image has the lengths that are asked of it, once its records are counted and its document has its length.
use mathlib.Core.Path.{◌≡◌, refl}
use mathlib.Core.Bool.{Bool, true, false, cond}
use mathlib.Core.List.{List}
use Prim.Native.Nat.{ℕ, ◌-◌, ◌≤◌}
use native.Mathlib.Omega.{arith}
use lib.Dec.{eqb, ltb}
use lib.ListN.{length}
use borrow.Author.Tests.{eqb-true, ltb-false}
use Rattle.limits.specs.Limits as Limits
use Rattle.limits.specs.Numbers.{has}
use Rattle.std.specs.Prelude.{Ok}
use Rattle.image_frames.specs.Fault.{passed}
use Rattle.image_frames.specs.Frames.{refused, frames, whole_image}
use Rattle.image_frames.specs.Records.{bodies}
use Rattle.image_frames.specs.declared.fault.Fault.TheVariants.{Body, Size}
use Rattle.image_header.specs.declared.sizes.Sizes.{Sizes}
use Rattle.image_bodies.specs.Line.{line_size, line_numbers}
use Rattle.image_bodies.specs.LineBody.{line}
use Rattle.image.specs.Decode.{record_count, behind_frames, decoded}
use Rattle.image_meaning.specs.Certificate.{line_body}
use Rattle.image_meaning.proofs.PassedChecks.{unless_passed, also_passed}
use Rattle.image_meaning.proofs.RecordsChecked.{sound_checks, line_passed}
use Rattle.trim_spec.specs.Encode.{encode}
use Rattle.trim_spec.specs.Parse.{document_of}
use Rattle.trim_encode.specs.LeftOutBytes.{Lengths}

line_sized : (z : Sizes) (l : List (List ℕ)) (k : ℕ) (b : List ℕ) → line z l k b ≡ passed → length b ≡ line_size b
unfolding line line_numbers
line_sized z l k b e =
    let h = (also_passed (line_numbers z l k b) _ e).0 in
    let g = (unless_passed (has 8 b) Body _ h).1 in
    eqb-true (length b) (line_size b) (unless_passed (eqb (length b) (line_size b)) Body _ g).0

image_short : (s : List ℕ) (z : Sizes) → decoded s ≡ Ok z → length s ≤ Limits.image_bytes
unfolding decoded whole_image
image_short s z e = go (eqb (length s) 0) (ltb Limits.image_bytes (length s)) refl e
  where
    go : (p q : Bool) → ltb Limits.image_bytes (length s) ≡ q
        → behind_frames (bodies s) (cond p (refused Size 0) (cond q (refused Size 0) (frames s))) ≡ Ok z
        → length s ≤ Limits.image_bytes
    go true q d h = let n : ◌≡◌ {A = ℕ} 0 1 = cc in absurd (omega arith)
    go false true d h = let n : ◌≡◌ {A = ℕ} 0 1 = cc in absurd (omega arith)
    go false false d h = ltb-false Limits.image_bytes (length s) d

pub sound_lengths : (s : List ℕ) (z : Sizes) → decoded s ≡ Ok z → length (bodies s) ≡ record_count z
    → length (encode (document_of z (bodies s))) ≡ length s → Lengths z s
sound_lengths s z e count same = record {
  short = image_short s z e;
  records = count;
  lines = λ n a b. line_sized z (bodies s) (n - 1) (line_body z (bodies s) n) (line_passed z (bodies s) (sound_checks s z e) n a b);
  document = same;
}
