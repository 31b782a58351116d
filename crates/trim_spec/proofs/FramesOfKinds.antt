-- An image with sound frames is made of its records' kinds and bodies.
use mathlib.Core.Path.{◌≡◌, ap, sym, ◌∙◌}
use mathlib.Core.List.{List, [], map}
use Prim.Native.Nat.{ℕ, ◌+◌, ◌≤◌}
use native.Mathlib.Omega.{arith}
use lib.ListN.{length, length-append, length-map, length-replicate}
use Rattle.limits.specs.Limits as Limits
use Rattle.logic.specs.Obligations.{flat}
use Rattle.image_frames.specs.Frames.{none, whole_image, sound}
use Rattle.image_frames.specs.Records.{bodies}
use Rattle.image_frames.proofs.KindCounts.{image_walked}
use Rattle.trim_spec.specs.Canonical.{Each, Bytes}
use Rattle.trim_spec.specs.Encode.{framed}
use Rattle.trim_spec.specs.Framed.{kinds_of, Numbered, entered, Framable, kind_of, body_of}
use Rattle.trim_spec.proofs.FramedBodies.{bodies_framed}
use Rattle.trim_spec.proofs.RecordKinds.{entered_own}
use Rattle.trim_spec.proofs.RecordsTaken.{taken}
use Rattle.trim_spec.proofs.KindOrder.{kinds_ordered}

pub kinds_length : (a b n m : ℕ) → length (kinds_of a b n m) ≡ 3 + a + b + n + m
unfolding kinds_of
kinds_length a b n m = simp (length-append, length-replicate) (omega arith)

pub record FramedImage (s : List ℕ) (a b n m : ℕ) : Type 0 where
  pub count : length (bodies s) ≡ 3 + a + b + n + m
  pub numbered : Numbered a b n m
  pub whole : flat framed (entered (kinds_of a b n m) (bodies s)) ≡ s
  pub short : Each Framable [] (bodies s)
  pub bytes : Each Bytes [] (bodies s)
  pub few : length s ≤ Limits.image_bytes

pub framed_image : (s : List ℕ) (a b n m : ℕ) → Bytes s → whole_image s ≡ sound a b n m → FramedImage s a b n m
framed_image s a b n m h e =
    let w = image_walked s a b n m e in
    let t = taken (length s) 1 none s a b n m (omega arith) h w.walks in
    let o = kinds_ordered (map kind_of t.records) a b n m t.kinds in
    let q = o.numbered in
    let l : length t.records ≡ 3 + a + b + n + m = sym (length-map t.records kind_of) ∙ ap length o.kinds ∙ kinds_length a b n m in
    let z : bodies s ≡ map body_of t.records = rw t.whole at (bodies_framed t.records (omega arith) t.short) in
    record {
      count = rw z (length-map t.records body_of ∙ l);
      numbered = q;
      whole = rw (z, ← o.kinds, entered_own) t.whole;
      short = rw z t.short;
      bytes = rw z t.bytes;
      few = w.few;
    }
