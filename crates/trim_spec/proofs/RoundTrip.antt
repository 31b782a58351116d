-- A document whose numbers fit is the document of its bodies.
use mathlib.Core.Path.{◌≡◌}
use mathlib.Core.List.{[]}
use lib.ListN.{length}
use Rattle.image_header.specs.Header.{thread_count}
use Rattle.image_header.specs.Thread.{instructions}
use Rattle.image_bodies.specs.PointCounts.{point_counts, obligation_count}
use Rattle.trim_spec.specs.Document.{Document}
use Rattle.trim_spec.specs.Canonical.{Canonical, ThreadFits, LineFits, ClaimFits, no_line, no_claim}
use Rattle.trim_spec.specs.Encode.{thread_bytes, line_bytes, claim_bytes, bodies_of}
use Rattle.trim_spec.specs.Parse.{line_record, claim_record, document_of, sizes}
use Rattle.trim_spec.proofs.EachMember.{map_back}
use Rattle.trim_spec.proofs.U16Bytes.{numbers_alone}
use Rattle.trim_spec.proofs.ThreadBytes.{thread_instructions}
use Rattle.trim_spec.proofs.LineBytes.{line_back}
use Rattle.trim_spec.proofs.ClaimBytes.{claim_back}
use Rattle.trim_spec.proofs.BodyPlaces.{header_at, formulas_part, threads_part, outline-at, lines_part, obligations_at, claims_part}

pub parsed : (D : Document) → Canonical D → thread_count D.header ≡ length D.threads
    → length D.outline ≡ (point_counts (sizes D) (bodies_of D)).points
    → length D.obligations ≡ obligation_count (sizes D) (bodies_of D) → document_of (sizes D) (bodies_of D) ≡ D
unfolding document_of
parsed D c same points count =
    let outline = numbers_alone D.outline c.outline in
    let obligations = numbers_alone D.obligations c.obligations in
    let threads = map_back ThreadFits [] thread_bytes instructions thread_instructions D.threads c.threads in
    let lines = map_back LineFits no_line line_bytes line_record line_back D.lines c.lines in
    let claims = map_back ClaimFits no_claim claim_bytes claim_record claim_back D.claims c.claims in
    let e = formulas_part D same in
    let f = threads_part D same in
    let g = lines_part D same in
    let h = claims_part D same in
    let i = outline-at D same in
    let j = obligations_at D same in
    rw (header_at D same, e, f, g, h, i, j, ← points, ← count, outline, obligations, threads, lines, claims)
