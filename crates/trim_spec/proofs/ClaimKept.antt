-- A claim of the trimmed image passes its check.
use mathlib.Core.Path.{◌≡◌, refl, ap, ◌∙◌}
use mathlib.Core.Bool.{Bool, true, ◌&&◌}
use mathlib.Core.List.{List}
use Prim.Native.Nat.{ℕ, ◌+◌, ◌<◌}
use native.Mathlib.Omega.{arith}
use lib.ListN.{length, get_or, drop}
use borrow.Author.Tests.{eq-eqb}
use Rattle.limits.specs.Numbers.{le16, within}
use Rattle.limits.proofs.PassedTests.{and_true, within_true}
use Rattle.image_header.specs.Thread.{last_point}
use Rattle.image_bodies.specs.RecordPlaces.{thread_body}
use Rattle.image_bodies.specs.Claim.{point_there, different, claimed, claim}
use Rattle.image.specs.Decode.{sizes_of}
use Rattle.image_meaning.specs.Image.{claim_body}
use Rattle.image_meaning.proofs.PassedChecks.{unless_passed}
use Rattle.image_meaning.proofs.RecordsChecked.{claim_passed}
use Rattle.trim_spec.specs.Document.{Document, ClaimRecord}
use Rattle.trim_spec.specs.Canonical.{ClaimFits, no_claim}
use Rattle.trim_spec.specs.Encode.{claim_bytes, bodies_of}
use Rattle.trim_spec.specs.Parse.{sizes}
use Rattle.trim_spec.proofs.ClaimBytes.{claim_size, claim_line}
use Rattle.trim_spec.proofs.BodyPlaces as Places
use Rattle.trim_spec.specs.Live.{renumbered}
use Rattle.trim_spec.specs.Trim.{claim_by, trimmed_by}
use Rattle.trim_spec.proofs.Renumbered.{claims_length, claim-at, line_there}
use Rattle.trim_spec.proofs.CanonicalKept.{claim_fits}
use Rattle.trim_spec.proofs.ChecksPassed.{and_in, within_in, unless_in}
use Rattle.trim_spec.proofs.TrimPremises.{Trimming, threads_kept}
use Rattle.trim_spec.proofs.ThreadKept.{last_kept}
use Rattle.image_frames.specs.Fault.{passed}

module _ {u k : List Bool} {D : Document} (T : Trimming u k D) where
  abbrev E : Document
  E = trimmed_by u k D

  abbrev g : ℕ → ℕ
  g = renumbered k

  -- a point that is there stays there
  point_kept : (b : List ℕ) (i : ℕ) → point_there (sizes D) (bodies_of D) b i ≡ true → point_there (sizes E) (bodies_of E) b i ≡ true
  unfolding point_there sizes sizes_of
  point_kept b i e =
      let t : ℕ = get_or b i 0 in
      let h = and_true (within 1 (sizes D).threads t) (within 0 (last_point (thread_body (sizes D) (bodies_of D) t)) (get_or b (i + 1) 0)) e in
      let w = within_true 1 (sizes D).threads t h.0 in
      let q = T.threads in
      rw (last_kept T t w.0 (omega (arith, w.1))) e

  module _ (i : ℕ) (there : i < length D.claims) where
    abbrev c : ClaimRecord
    c = get_or D.claims i no_claim

    abbrev c' : ClaimRecord
    c' = claim_by (renumbered u) g c

    old_fits : ClaimFits c
    old_fits = T.canonical.claims i there

    found : claimed (sizes D) (bodies_of D) (claim_bytes c) ≡ true
    unfolding claim sizes sizes_of
    found =
        let e = rw (Places.claim-at D T.threads i there) at (claim_passed (sizes D) (bodies_of D) T.checks i there) in
        (unless_passed _ _ _ (unless_passed _ _ _ e).1).0

    -- its threads and points have the same bytes

    first_kept : point_there (sizes D) (bodies_of D) (claim_bytes c) 0 ≡ true → point_there (sizes E) (bodies_of E) (claim_bytes c') 0 ≡ true
    unfolding point_there claim_bytes claim_by
    first_kept e = point_kept (claim_bytes c) 0 e

    other_kept : point_there (sizes D) (bodies_of D) (claim_bytes c) 2 ≡ true → point_there (sizes E) (bodies_of E) (claim_bytes c') 2 ≡ true
    unfolding point_there claim_bytes claim_by
    other_kept e = point_kept (claim_bytes c) 2 e

    different_same : different (claim_bytes c') ≡ different (claim_bytes c)
    unfolding different claim_bytes claim_by
    different_same = refl

    line_kept : within 0 (sizes D).lines (le16 (drop 4 (claim_bytes c))) ≡ true
        → within 0 (sizes E).lines (le16 (drop 4 (claim_bytes c'))) ≡ true
    unfolding claim_by sizes sizes_of
    line_kept e =
        let h = within_true 0 (sizes D).lines c.line (rw (claim_line c old_fits) at e) in
        rw (claim_line c' (claim_fits u k c old_fits))
        (within_in 0 (sizes E).lines (g c.line) (omega arith) (line_there u k D c.line h.1))

    found_kept : claimed (sizes E) (bodies_of E) (claim_bytes c') ≡ true
    unfolding claimed
    found_kept =
        let b : List ℕ = claim_bytes c in
        let line : Bool = within 0 (sizes D).lines (le16 (drop 4 b)) in
        let h = and_true (point_there (sizes D) (bodies_of D) b 0) (point_there (sizes D) (bodies_of D) b 2 && (different b && line)) found in
        let m = and_true (point_there (sizes D) (bodies_of D) b 2) (different b && line) h.1 in
        let n = and_true (different b) line m.1 in
        and_in _ _ (first_kept h.0) (and_in _ _ (other_kept m.0) (and_in _ _ (different_same ∙ n.0) (line_kept n.1)))

    new_body : claim_body (sizes E) (bodies_of E) i ≡ claim_bytes c'
    new_body = Places.claim-at E (threads_kept T) i (omega (arith, claims_length u k D)) ∙ ap claim_bytes (claim-at u k D i)

    pub claim_kept : claim (sizes E) (bodies_of E) (claim_body (sizes E) (bodies_of E) i) ≡ passed
    unfolding claim
    claim_kept = rw new_body (unless_in _ _ _ (eq-eqb _ _ (claim_size c')) (unless_in _ _ _ found_kept refl))
