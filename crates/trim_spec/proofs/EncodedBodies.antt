-- The document of a sound image has the image's bodies, and its numbers fit.
use mathlib.Core.Path.{◌≡◌, refl, ap, sym, ◌∙◌}
use mathlib.Core.List.{List, [], map}
use Prim.Native.Nat.{ℕ, ◌+◌, ◌*◌, ◌≤◌, ◌<◌}
use native.Mathlib.Omega.{arith}
use lib.ListN.{length, get_or, length-map}
use borrow.Author.Tests.{eqb-true}
use Rattle.limits.specs.Limits as Limits
use Rattle.limits.specs.Numbers.{numbers}
use Rattle.limits.proofs.Numbers.{numbers_length}
use Rattle.limits.proofs.PassedTests.{and_true, within_true}
use Rattle.image_frames.specs.Records.{bodies}
use Rattle.image_header.specs.declared.sizes.Sizes.{Sizes}
use Rattle.image_header.specs.Header.{thread_count}
use Rattle.image_header.specs.Thread.{instructions, thread_size, numbered, thread_numbers}
use Rattle.image_bodies.specs.RecordPlaces.{thread_body}
use Rattle.image_bodies.specs.PointCounts.{point_counts, obligation_count}
use Rattle.image_bodies.specs.NumberList.{exactly}
use Rattle.image_bodies.specs.Line.{line_size, line_numbers}
use Rattle.image_bodies.specs.Claim.{claim}
use Rattle.image_bodies.specs.ThreadBody.{thread}
use Rattle.image_bodies.specs.ListBody.{outline, obligations}
use Rattle.image_bodies.specs.LineBody.{line}
use Rattle.image.specs.Decode.{record_count, sizes_of, decoded}
use Rattle.image_meaning.specs.Program.{outline_body}
use Rattle.image_meaning.specs.Certificate.{line_body}
use Rattle.image_meaning.specs.Image.{obligations_body, claim_body}
use Rattle.image_meaning.proofs.PassedChecks.{unless_passed, also_passed}
use Rattle.image_meaning.proofs.RecordsChecked.{Checks, sound_checks, thread_passed, outline_passed, line_passed, obligations_passed, claim_passed}
use Rattle.trim_spec.specs.Document.{Document}
use Rattle.trim_spec.specs.Canonical.{Canonical, Each, Byte, Bytes, ThreadFits, LineFits, ClaimFits, no_line, no_claim}
use Rattle.trim_spec.specs.Encode.{thread_bytes, number_bytes, line_bytes, claim_bytes, bodies_of}
use Rattle.trim_spec.specs.Parse.{line_record, claim_record, part, document_of, sizes}
use Rattle.trim_spec.proofs.EachMember.{each_nil, each_any, each_map, map_back, part_each}
use Rattle.trim_spec.proofs.U16Bytes.{numbers_short, number-bytes}
use Rattle.trim_spec.proofs.ThreadBytes.{thread-fits, thread_again}
use Rattle.trim_spec.proofs.LineBytes.{line-fits, line_again}
use Rattle.trim_spec.proofs.ClaimBytes.{claim_fits, claim_again}
use Rattle.trim_spec.proofs.ListParts.{part_more, member_more, part_length, part_last}
use Rattle.trim_spec.proofs.BodyPlaces.{threads_start, outline_start, lines_start, obligations_start, claims_start, bodies_are}
use Rattle.image_frames.specs.Fault.{passed}
use Rattle.std.specs.Prelude.{Ok}

-- a record that passes its check has the bytes of what it says

pub thread_read : (z : Sizes) (b : List ℕ) → Bytes b → thread_numbers z b ≡ passed → thread_bytes (instructions b) ≡ b
unfolding thread_numbers numbered
thread_read z b h e =
    let p = unless_passed _ _ _ e in
    let q = unless_passed _ _ _ p.1 in
    let r = (and_true _ _ (unless_passed _ _ _ q.1).0).0 in
    thread_again b h (within_true 1 Limits.points (get_or b 0 0) r).0 p.0 (eqb-true (length b) (thread_size b) q.0)

pub line_read : (z : Sizes) (l : List (List ℕ)) (lower : ℕ) (b : List ℕ) → Bytes b → line_numbers z l lower b ≡ passed
    → line_bytes (line_record b) ≡ b
unfolding line_numbers
line_read z l lower b h e =
    let p = unless_passed _ _ _ e in
    line_again b h p.0 (eqb-true (length b) (line_size b) (unless_passed _ _ _ p.1).0)

pub claim_read : (z : Sizes) (l : List (List ℕ)) (b : List ℕ) → Bytes b → claim z l b ≡ passed → claim_bytes (claim_record b) ≡ b
unfolding claim
claim_read z l b h e = claim_again b h (eqb-true (length b) 6 (unless_passed _ _ _ e).0)

pub list_read : (n lo hi : ℕ) (b : List ℕ) → Bytes b → exactly n lo hi b ≡ passed → number_bytes (numbers n b) ≡ b
unfolding exactly
list_read n lo hi b h e = number-bytes n b (eqb-true (length b) (2 * n) (unless_passed _ _ _ e).0) h

module _ (z : Sizes) (l : List (List ℕ)) (c : Checks z l) (count : length l ≡ record_count z) (bytes : Each Bytes [] l) where
  abbrev D : Document
  D = document_of z l

  all : length l ≡ claims_start z + z.claims
  unfolding record_count
  all = rw count (omega arith)

  body_bytes : (i : ℕ) → Bytes (get_or l i [])
  body_bytes = each_any Bytes [] l (each_nil Byte 0) bytes

  -- what is read from the bodies of a part
  part_bytes : (i n : ℕ) → Each Bytes [] (part i n l)
  part_bytes i n = part_each Bytes [] i n l (λ k b. body_bytes (i + k))

  part_fits : {A : Type 0} (F : A → Type 0) (d : A) (f : List ℕ → A) → ((b : List ℕ) → Bytes b → F (f b))
      → (i n : ℕ) → Each F d (map f (part i n l))
  part_fits F d f h i n = each_map F d Bytes [] f h (part i n l) (part_bytes i n)

  part_count : {A : Type 0} (f : List ℕ → A) (i n : ℕ) → i + n ≤ length l → length (map f (part i n l)) ≡ n
  part_count f i n h = length-map (part i n l) f ∙ part_length i l n h

  -- what each body of a part gives back, the part gives back
  part_read : {A : Type 0} (f : List ℕ → A) (g : A → List ℕ) (i n : ℕ) → ((k : ℕ) → k < n → g (f (get_or l (i + k) [])) ≡ get_or l (i + k) [])
      → map g (map f (part i n l)) ≡ part i n l
  part_read f g i n h = map_back (λ b. g (f b) ≡ b) [] f g (λ b e. e) (part i n l) (part_each (λ b. g (f b) ≡ b) [] i n l h)

  threads_read : map thread_bytes (map instructions (part (threads_start z) z.threads l)) ≡ part (threads_start z) z.threads l
  unfolding thread thread_body
  threads_read = part_read instructions thread_bytes (threads_start z) z.threads (λ k b.
      let q : threads_start z + k ≡ z.formulas + (k + 1) = omega arith in
      let p = (also_passed _ _ (thread_passed z l c (k + 1) (omega arith) (omega arith))).0 in
      rw q (thread_read z (thread_body z l (k + 1)) (body_bytes (z.formulas + (k + 1))) p))

  outline_read : number_bytes (numbers (point_counts z l).points (outline_body z l)) ≡ outline_body z l
  unfolding outline
  outline_read =
      list_read (point_counts z l).points 1 z.formulas (outline_body z l) (body_bytes (outline_start z))
      (also_passed _ _ (outline_passed z l c)).0

  lines_read : map line_bytes (map line_record (part (lines_start z) z.lines l)) ≡ part (lines_start z) z.lines l
  unfolding line line_body
  lines_read = part_read line_record line_bytes (lines_start z) z.lines (λ k b.
      let q : lines_start z + k ≡ outline_start z + (k + 1) = omega arith in
      let p = (also_passed _ _ (line_passed z l c (k + 1) (omega arith) (omega arith))).0 in
      rw q (line_read z l _ (line_body z l (k + 1)) (body_bytes (outline_start z + (k + 1))) p))

  obligations_read : number_bytes (numbers (obligation_count z l) (obligations_body z l)) ≡ obligations_body z l
  unfolding obligations
  obligations_read =
      list_read (obligation_count z l) 0 z.lines (obligations_body z l) (body_bytes (obligations_start z)) (obligations_passed z l c)

  claims_read : map claim_bytes (map claim_record (part (claims_start z) z.claims l)) ≡ part (claims_start z) z.claims l
  unfolding claim_body
  claims_read = part_read claim_record claim_bytes (claims_start z) z.claims (λ k b.
      claim_read z l (claim_body z l k) (body_bytes (claims_start z + k)) (claim_passed z l c k b))

  pub bodies_read : bodies_of D ≡ l
  unfolding document_of
  bodies_read =
      let a = part_last (claims_start z) l z.claims (sym all) in
      let b = member_more (obligations_start z) l [] (claims_start z) (omega (arith, all)) (omega arith) in
      let d = part_more (lines_start z) l z.lines (obligations_start z) (omega arith) in
      let e = member_more (outline_start z) l [] (lines_start z) (omega (arith, all)) (omega arith) in
      let f = part_more (threads_start z) l z.threads (outline_start z) (omega arith) in
      let g = part_more 1 l z.formulas (threads_start z) (omega arith) in
      let h = member_more 0 l [] 1 (omega (arith, all)) refl in
      bodies_are D ∙ (rw (threads_read, outline_read, lines_read, obligations_read, claims_read, a, b, d, e, f, g) h)

  pub canonical_read : Canonical D
  unfolding document_of
  canonical_read = record {
    header = body_bytes 0;
    formulas = part_bytes 1 z.formulas;
    threads = part_fits ThreadFits [] instructions thread-fits (threads_start z) z.threads;
    outline = numbers_short (point_counts z l).points (outline_body z l) (body_bytes (outline_start z));
    lines = part_fits LineFits no_line line_record line-fits (lines_start z) z.lines;
    obligations = numbers_short (obligation_count z l) (obligations_body z l) (body_bytes (obligations_start z));
    claims = part_fits ClaimFits no_claim claim_record claim_fits (claims_start z) z.claims;
  }

  pub sizes_read : sizes D ≡ z
  unfolding document_of sizes
  sizes_read =
      let f = part_length 1 l z.formulas (omega (arith, all)) in
      let n = part_count line_record (lines_start z) z.lines (omega (arith, all)) in
      let m = part_count claim_record (claims_start z) z.claims (omega (arith, all)) in
      rw (f, n, m) (sym c.sizes)

  pub threads_same : thread_count D.header ≡ length D.threads
  unfolding document_of sizes_of
  threads_same =
      let t = part_count instructions (threads_start z) z.threads (omega (arith, all)) in
      sym (t ∙ ap (λ (y : Sizes). y.threads) c.sizes)

-- a document that has these sizes and bodies, whose numbers fit and whose lists are as long as the program asks
pub record Describes (D : Document) (z : Sizes) (l : List (List ℕ)) : Type 0 where
  pub canonical : Canonical D
  pub size : sizes D ≡ z
  pub body : bodies_of D ≡ l
  pub threads : thread_count D.header ≡ length D.threads
  pub outline : length D.outline ≡ (point_counts z l).points
  pub obligations : length D.obligations ≡ obligation_count z l

pub checks_describe : (z : Sizes) (l : List (List ℕ)) → Checks z l → length l ≡ record_count z → Each Bytes [] l
    → Describes (document_of z l) z l
unfolding document_of
checks_describe z l c count bytes = record {
  canonical = canonical_read z l c count bytes;
  size = sizes_read z l c count bytes;
  body = bodies_read z l c count bytes;
  threads = threads_same z l c count bytes;
  outline = numbers_length (point_counts z l).points (outline_body z l);
  obligations = numbers_length (obligation_count z l) (obligations_body z l);
}

-- what the frames of an image leave
pub record Frames (s : List ℕ) (z : Sizes) : Type 0 where
  pub count : length (bodies s) ≡ record_count z
  pub bytes : Each Bytes [] (bodies s)

pub encoded : (s : List ℕ) (z : Sizes) → Frames s z → decoded s ≡ Ok z → Describes (document_of z (bodies s)) z (bodies s)
encoded s z f e = checks_describe z (bodies s) (sound_checks s z e) f.count f.bytes
