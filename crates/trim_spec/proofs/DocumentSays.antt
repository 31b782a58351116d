-- What a document's bytes say: the numbers of its outline, its obligations, its lines and its claims.
use mathlib.Core.Path.{◌≡◌, sym}
use mathlib.Core.List.{List}
use Prim.Native.Nat.{ℕ, ◌≤◌, ◌<◌}
use lib.ListN.{length, get_or, drop}
use Rattle.limits.specs.Numbers.{nth, le16, numbers}
use Rattle.image_header.specs.Header.{thread_count}
use Rattle.image_header.specs.declared.sizes.Sizes.{Sizes}
use Rattle.image_bodies.specs.PointCounts.{point_counts, obligation_count}
use Rattle.image_bodies.specs.Line.{premises}
use Rattle.image_meaning.specs.Program.{outline_body}
use Rattle.image_meaning.specs.Certificate.{left, right, line_body}
use Rattle.image_meaning.specs.Image.{obligations_body, named_line, claim_body}
use Rattle.trim_spec.specs.Document.{Document}
use Rattle.trim_spec.specs.Canonical.{Canonical, no_line, no_claim, LineFits}
use Rattle.trim_spec.specs.Encode.{bodies_of}
use Rattle.trim_spec.specs.Parse.{sizes}
use Rattle.trim_spec.proofs.U16Bytes.{numbers_alone}
use Rattle.trim_spec.proofs.LineBytes.{line_left, line_right, line_premises}
use Rattle.trim_spec.proofs.ClaimBytes.{claim_line}
use Rattle.trim_spec.proofs.BodyPlaces.{outline-at, line_at, obligations_at, claim-at}
use Rattle.trim_spec.proofs.ThreadKept.{each_nth}

module _ (D : Document) (C : Canonical D) (same : thread_count D.header ≡ length D.threads) where
  abbrev z : Sizes
  z = sizes D

  abbrev l : List (List ℕ)
  l = bodies_of D

  pub outline_said : length D.outline ≡ (point_counts z l).points → numbers (point_counts z l).points (outline_body z l) ≡ D.outline
  outline_said e = rw (sym e, outline-at D same) (numbers_alone D.outline C.outline)

  pub obligations_said : length D.obligations ≡ obligation_count z l
      → numbers (obligation_count z l) (obligations_body z l) ≡ D.obligations
  obligations_said e = rw (sym e, obligations_at D same) (numbers_alone D.obligations C.obligations)

  pub named_said : length D.obligations ≡ obligation_count z l → (i : ℕ) → named_line z l i ≡ get_or D.obligations i 0
  unfolding named_line
  named_said e i = rw (obligations_said e)

  module _ (n : ℕ) (low : 1 ≤ n) (high : n ≤ length D.lines) where
    pub line_fit : LineFits (nth D.lines n no_line)
    line_fit = each_nth LineFits no_line D.lines n low high C.lines

    pub left_said : left (line_body z l n) ≡ (nth D.lines n no_line).left
    left_said = rw (line_at D same n low high) (line_left (nth D.lines n no_line) line_fit)

    pub right_said : right (line_body z l n) ≡ (nth D.lines n no_line).right
    right_said = rw (line_at D same n low high) (line_right (nth D.lines n no_line) line_fit)

    pub premises_said : premises (line_body z l n) ≡ (nth D.lines n no_line).premises
    premises_said = rw (line_at D same n low high) (line_premises (nth D.lines n no_line) line_fit)

  pub claim_said : (i : ℕ) → i < length D.claims → le16 (drop 4 (claim_body z l i)) ≡ (get_or D.claims i no_claim).line
  claim_said i h = rw (claim-at D same i h) (claim_line (get_or D.claims i no_claim) (C.claims i h))
