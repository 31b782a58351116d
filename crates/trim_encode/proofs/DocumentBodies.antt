-- The records of a document, by the bodies of the image.
use mathlib.Core.Path.{◌≡◌, ap, ◌∙◌}
use mathlib.Core.List.{List, []}
use Prim.Native.Nat.{ℕ, suc, ◌+◌, ◌≤◌, ◌<◌}
use native.Mathlib.Omega.{arith}
use lib.ListN.{length, get_or, drop, take, length-drop, length-map, get_or-map}
use lib.Seq.{get_or-take, get_or-drop, length-take-le}
use Rattle.limits.specs.Numbers.{le16, numbers}
use Rattle.image_header.specs.declared.sizes.Sizes.{Sizes}
use Rattle.image_header.specs.Thread.{last_point, cut, instructions}
use Rattle.image_bodies.specs.Line.{premises}
use Rattle.image_bodies.specs.RecordPlaces.{thread_body}
use Rattle.image.specs.Decode.{record_count}
use Rattle.image_meaning.specs.Certificate.{line_body}
use Rattle.image_meaning.specs.Image.{claim_body}
use Rattle.trim_spec.specs.Canonical.{no_line, no_claim}
use Rattle.trim_spec.specs.Parse.{line_record, claim_record, part, document_of}

module _ {A : Type 0} (from n : ℕ) (l : List A) where
  pub part_at : (i : ℕ) (d : A) → i < n → get_or (take n (drop from l)) i d ≡ get_or l (from + i) d
  part_at i d h = get_or-take n (drop from l) i d h ∙ get_or-drop from l i d

  pub part_length : from + n ≤ length l → length (take n (drop from l)) ≡ n
  part_length h = length-take-le n (drop from l) (let q = length-drop from l in omega arith)

module _ (z : Sizes) (l : List (List ℕ)) where
  pub line_at : (i : ℕ) → i < z.lines → get_or (document_of z l).lines i no_line ≡ line_record (line_body z l (suc i))
  unfolding document_of line_record line_body premises numbers le16
  line_at i h =
      let q : z.formulas + z.threads + 2 + i ≡ z.formulas + z.threads + 1 + suc i = omega arith in
      get_or-map line_record (part (z.formulas + z.threads + 2) z.lines l) i []
      ∙ ap line_record (part_at (z.formulas + z.threads + 2) z.lines l i [] h ∙ ap (λ (k : ℕ). get_or l k []) q)

  pub thread-at : (t : ℕ) → t < z.threads → get_or (document_of z l).threads t [] ≡ instructions (thread_body z l (suc t))
  unfolding document_of instructions cut last_point thread_body
  thread-at t h =
      let q : z.formulas + 1 + t ≡ z.formulas + suc t = omega arith in
      get_or-map instructions (part (z.formulas + 1) z.threads l) t []
      ∙ ap instructions (part_at (z.formulas + 1) z.threads l t [] h ∙ ap (λ (k : ℕ). get_or l k []) q)

  pub claim-at : (i : ℕ) → i < z.claims → get_or (document_of z l).claims i no_claim ≡ claim_record (claim_body z l i)
  unfolding document_of claim_record claim_body le16
  claim-at i h =
      get_or-map claim_record (part (z.formulas + z.threads + 1 + z.lines + 2) z.claims l) i []
      ∙ ap claim_record (part_at (z.formulas + z.threads + 1 + z.lines + 2) z.claims l i [] h)

  module _ (whole : length l ≡ record_count z) where
    pub threads_length : length (document_of z l).threads ≡ z.threads
    unfolding document_of record_count
    threads_length =
        length-map (part (z.formulas + 1) z.threads l) instructions ∙ part_length (z.formulas + 1) z.threads l (omega arith)

    pub lines_length : length (document_of z l).lines ≡ z.lines
    unfolding document_of record_count
    lines_length =
        length-map (part (z.formulas + z.threads + 2) z.lines l) line_record
        ∙ part_length (z.formulas + z.threads + 2) z.lines l (omega arith)

    pub claims_length : length (document_of z l).claims ≡ z.claims
    unfolding document_of record_count
    claims_length =
        length-map (part (z.formulas + z.threads + 1 + z.lines + 2) z.claims l) claim_record
        ∙ part_length (z.formulas + z.threads + 1 + z.lines + 2) z.claims l (omega arith)
