-- Bytes and documents are each other's inverse: a sound image is the bytes of its document, and the bytes of a document whose records
-- pass their checks are a sound image with that document.
use mathlib.Core.Path.{◌≡◌, refl, ap, sym, ◌∙◌}
use mathlib.Core.List.{List, []}
use Prim.Native.Nat.{ℕ, ◌+◌, ◌≤◌, ◌<◌}
use native.Mathlib.Omega.{arith}
use lib.ListN.{length, get_or, length-map}
use Rattle.limits.specs.Limits as Limits
use Rattle.image_frames.specs.Frames.{whole_image, Framing, sound}
use Rattle.image_frames.specs.Records.{bodies}
use Rattle.image_header.specs.Header.{thread_count, headed, header}
use Rattle.image_header.specs.declared.sizes.Sizes.{Sizes}
use Rattle.image.specs.Decode.{record_count, sizes_of, first_fault, behind_frames, decoded}
use Rattle.image.specs.Body.{place_of, check}
use Rattle.limits.specs.Numbers.{within}
use Rattle.limits.proofs.PassedTests.{and_true, within_true}
use Rattle.image_header.specs.Header as Header
use Rattle.image_meaning.proofs.PassedChecks.{unless_passed}
use Rattle.image_meaning.proofs.RecordsChecked.{Checks, refused_sound, fault_sizes, fault_passed, sound_checks}
use Rattle.trim_spec.specs.Document.{Document}
use Rattle.trim_spec.specs.Encode.{entries_of, bodies_of, encode}
use Rattle.trim_spec.specs.Parse.{document_of, sizes}
use Rattle.trim_spec.specs.Framed.{kinds_of, Framable, body_of, Numbered, kinds_in}
use Rattle.trim_spec.specs.Canonical.{Bytes, Each}
use Rattle.trim_spec.proofs.FramedBodies.{bodies_framed}
use Rattle.trim_spec.proofs.FramedWalk.{frames_framed}
use Rattle.trim_spec.proofs.FramesOfKinds.{framed_image}
use Rattle.trim_spec.proofs.RecordKinds.{entries_kinds, encode_entered}
use Rattle.trim_spec.proofs.EncodedBodies.{Describes, encoded}
use Rattle.trim_spec.proofs.BodyPlaces.{header_at, bodies_length}
use Rattle.image_frames.specs.Fault.{passed}
use Rattle.std.specs.Prelude.{Ok, Err}

bodies_entries : (D : Document) → length (bodies_of D) ≡ length (entries_of D)
unfolding bodies_of
bodies_entries D = length-map (entries_of D) body_of

some_records : (z : Sizes) → 0 < record_count z
unfolding record_count
some_records z = omega arith

-- the first record is the header
head_first : (t : ℕ) (z : Sizes) (l : List (List ℕ)) → check t z l (place_of z (1 + 0)) (get_or l 0 []) ≡ passed
    → header t (get_or l 0 []) ≡ passed
unfolding check place_of
head_first t z l e = e

-- the header says how many threads there are
pub header_counts : (t : ℕ) (b : List ℕ) → header t b ≡ passed → t ≡ thread_count b
unfolding header headed Header.counted
header_counts t b e =
    let h = (unless_passed _ _ _ (unless_passed _ _ _ (unless_passed _ _ _ e).1).1).0 in
    let w = within_true t t (thread_count b) (and_true (within t t (thread_count b)) _ (and_true (Header.counted t b) _ h).0).0 in
    omega (arith, w.0, w.1)

-- the frames of a sound image
sound_frames : (s : List ℕ) (z : Sizes) → decoded s ≡ Ok z
    → whole_image s ≡ sound z.formulas z.threads z.lines z.claims
unfolding decoded sizes_of
sound_frames s z e = go (whole_image s) refl e
  where
    go : (g : Framing) → whole_image s ≡ g → behind_frames (bodies s) g ≡ Ok z
        → whole_image s ≡ sound z.formulas z.threads z.lines z.claims
    go (Err r) w d = absurd (refused_sound r z d)
    go (Ok n) w d =
        let t : ℕ = n.threads in
        let h : List ℕ = get_or (bodies s) 0 [] in
        let y : Sizes = sizes_of h n.formulas n.lines n.claims in
        let q : y ≡ z = fault_sizes t y (bodies s) z 1 (record_count y) (bodies s) d in
        let p : header t h ≡ passed = head_first t y (bodies s)
        (fault_passed t y (bodies s) z 1 (record_count y) 0 (bodies s) (some_records y) d) in
        let r : t ≡ thread_count h = header_counts t h p in
        w ∙ ap (λ (x : ℕ). sound n.formulas x n.lines n.claims) r ∙ ap (λ (x : Sizes). sound x.formulas x.threads x.lines x.claims) q

-- a sound image and its document
pub record Documented (s : List ℕ) (z : Sizes) : Type 0 where
  pub describes : Describes (document_of z (bodies s)) z (bodies s)
  pub encodes : encode (document_of z (bodies s)) ≡ s
  pub checks : Checks z (bodies s)
  pub framable : Each Framable [] (bodies s)
  pub few : length s ≤ Limits.image_bytes
  pub numbered : Numbered z.formulas z.threads z.lines z.claims

pub documented : (s : List ℕ) (z : Sizes) → Bytes s → decoded s ≡ Ok z → Documented s z
unfolding sizes sizes_of record_count
documented s z b e =
    let f = framed_image s z.formulas z.threads z.lines z.claims b (sound_frames s z e) in
    let D : Document = document_of z (bodies s) in
    let d = encoded s z (record { count = f.count; bytes = f.bytes }) e in
    let k : kinds_in D ≡ kinds_of z.formulas z.threads z.lines z.claims =
    rw (← d.threads) (ap (λ (x : Sizes). kinds_of x.formulas x.threads x.lines x.claims) d.size) in
    record {
      describes = d;
      encodes = sym (encode_entered D) ∙ rw (k, d.body) f.whole;
      checks = sound_checks s z e;
      framable = f.short;
      few = f.few;
      numbered = f.numbered;
    }

-- a document whose records pass their checks, and its bytes
module _ (D : Document) (same : thread_count D.header ≡ length D.threads) where
  pub record Encodable : Type 0 where
    pub numbered : Numbered (length D.formulas) (length D.threads) (length D.lines) (length D.claims)
    pub framable : Each Framable [] (bodies_of D)
    pub few : length (encode D) ≤ Limits.image_bytes
    pub sound : first_fault (length D.threads) (sizes D) (bodies_of D) 1 (record_count (sizes D)) (bodies_of D) ≡ Ok (sizes D)

  module _ (K : Encodable) where
    entries_few : length (entries_of D) ≤ Limits.records
    unfolding record_count sizes sizes_of
    entries_few =
        let n = K.numbered in
        let e : length (bodies_of D) ≡ record_count (sizes D) = bodies_length D same in
        let q : length (bodies_of D) ≡ length (entries_of D) = bodies_entries D in
        omega (arith, n.formulas, n.threads, n.lines, n.claims)

    pub bodies_encode : bodies (encode D) ≡ bodies_of D
    unfolding encode bodies_of
    bodies_encode = bodies_framed (entries_of D) entries_few K.framable

    whole_encode : whole_image (encode D) ≡ sound (length D.formulas) (length D.threads) (length D.lines)
        (length D.claims)
    unfolding encode bodies_of
    whole_encode =
        let n = K.numbered in
        frames_framed (entries_of D) (length D.formulas) (length D.threads) (length D.lines) (length D.claims) (entries_kinds D)
        n.formula n.formulas n.thread n.threads n.line n.lines n.claims K.framable K.few

    pub decoded_encode : decoded (encode D) ≡ Ok (sizes D)
    unfolding decoded sizes
    decoded_encode = rw (whole_encode, bodies_encode, header_at D same) K.sound
