-- The document of a well-formed image, from the bodies of its records.
use Rattle.std.specs.Prelude.{List, [], map, ℕ, ◌+◌, length, get_or, take, drop}
use Rattle.limits.specs.Numbers.{le16, numbers}
use Rattle.image_header.specs.Thread.{instructions}
use Rattle.image_header.specs.declared.sizes.Sizes.{Sizes}
use Rattle.image_bodies.specs.Line.{premises}
use Rattle.image_bodies.specs.PointCounts.{point_counts, obligation_count}
use Rattle.image.specs.Decode.{sizes_of}
use Rattle.image_meaning.specs.Certificate.{left, right}
use Rattle.image_meaning.specs.Program.{outline_body}
use Rattle.image_meaning.specs.Image.{obligations_body}
use Rattle.trim_spec.specs.Document.{Document, LineRecord, ClaimRecord}

-- the certificate line with this body
unfoldable pub line_record : List ℕ → LineRecord
line_record b = record { rule = get_or b 0 0; thread = get_or b 1 0; point = get_or b 2 0; left = left b; right = right b; premises = premises b }

-- the claim with this body
unfoldable pub claim_record : List ℕ → ClaimRecord
claim_record b = record { thread = get_or b 0 0; point = get_or b 1 0; other = get_or b 2 0; other_point = get_or b 3 0; line = le16 (drop 4 b) }

-- n members of a list, from index i on
abbrev pub part : ℕ → ℕ → List (List ℕ) → List (List ℕ)
part i n l = take n (drop i l)

module _ (z : Sizes) (l : List (List ℕ)) where
  -- the document of an image with sizes z and record bodies l
  unfoldable pub document_of : Document
  document_of = record {
    header = get_or l 0 [];
    formulas = part 1 z.formulas l;
    threads = map instructions (part (z.formulas + 1) z.threads l);
    outline = numbers (point_counts z l).points (outline_body z l);
    lines = map line_record (part (z.formulas + z.threads + 2) z.lines l);
    obligations = numbers (obligation_count z l) (obligations_body z l);
    claims = map claim_record (part (z.formulas + z.threads + 1 + z.lines + 2) z.claims l);
  }

-- the sizes of a document's image, by its header and its numbers of formulas, lines and claims
unfoldable pub sizes : Document → Sizes
sizes D = sizes_of D.header (length D.formulas) (length D.lines) (length D.claims)
