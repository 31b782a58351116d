-- What the promise says of an image, of its source: true in every run, and the claims.
use mathlib.Core.Path.{◌≡◌, sym, ◌∙◌, subst}
use mathlib.Core.List.{List, [], ◌∷◌, map}
use Prim.Native.Nat.{ℕ, suc, ◌+◌, ◌<◌}
use native.Mathlib.Omega.{arith}
use Rattle.semantics.specs.Base.{All}
use Rattle.semantics.specs.EveryRun.{EveryRun}
use Rattle.logic.specs.Claims.{Claim, NeverBoth}
use Rattle.image_frames.specs.Records.{bodies}
use Rattle.image_header.specs.declared.sizes.Sizes.{Sizes}
use Rattle.image.specs.Decode.{decoded}
use Rattle.image_meaning.specs.Program as Content
use Rattle.image_meaning.specs.Image.{claim_in, claim_body}
use Rattle.image_meaning.proofs.WellFormedProgram.{well-formed}
use Rattle.trim_spec.specs.Canonical.{Bytes, Each}
use Rattle.trim_spec.specs.Parse.{document_of, part, claim_record}
use Rattle.trim_spec.proofs.EachMember.{part_each}
use Rattle.source.specs.Source.{Source, Claimed}
use Rattle.source.specs.Written.{written}
use Rattle.source.specs.Meaning.{program_of, outline_of, claims_of}
use Rattle.source.proofs.WrittenOnce.{written_once}
use Rattle.source_agrees.specs.SourceOf.{claim_of, source_of}
use Rattle.source_agrees.proofs.PointsThere.{points_there}
use Rattle.source_agrees.proofs.ImageWritten.{c, written_document}
use Rattle.source_agrees.proofs.MeaningAgrees.{every_run, never_both}
use Rattle.std.specs.Prelude.{Ok}

-- of each member, by its place
pub all_of : (F : Claim → Type 0) (bs : List (List ℕ)) → Each (λ (b : List ℕ). F (claim_in b)) [] bs
    → All F (map (λ (x : Claimed). x.claim) (map claim_of (map claim_record bs)))
unfolding claim_record
all_of F [] h = tt
all_of F (b ∷ bs) h = (h 0 (omega arith), all_of F bs (λ i a. h (suc i) (omega arith)))

module _ (s : List ℕ) (z : Sizes) (bs : Bytes s) (ok : decoded s ≡ Ok z) where
  abbrev t : Source
  t = source_of (document_of z (bodies s))

  pub true_for_source : EveryRun (Content.program_of z (bodies s)) (Content.outline_of z (bodies s)) → EveryRun (program_of t) (outline_of t)
  true_for_source h =
      every_run s z bs ok
      (points_there (Content.program_of z (bodies s)) (Content.outline_of z (bodies s)) (well-formed z (bodies s) (c s z bs ok))) h

  pub claims_for_source :
      ((i : ℕ) → i < z.claims → NeverBoth (Content.program_of z (bodies s)) (claim_in (claim_body z (bodies s) i)))
      → All (NeverBoth (program_of t)) (claims_of t)
  unfolding claims_of source_of document_of claim_body
  claims_for_source h =
      all_of (NeverBoth (program_of t)) (part (z.formulas + z.threads + 1 + z.lines + 2) z.claims (bodies s))
      (part_each (λ (b : List ℕ). NeverBoth (program_of t) (claim_in b)) [] (z.formulas + z.threads + 1 + z.lines + 2) z.claims (bodies s)
      (λ i a. never_both s z bs ok (claim_in (claim_body z (bodies s) i)) (h i a)))

  -- whichever source is written as the image
  pub true_for_any : EveryRun (Content.program_of z (bodies s)) (Content.outline_of z (bodies s))
      → (q : Source) → written q ≡ s → EveryRun (program_of q) (outline_of q)
  true_for_any h q e =
      subst (λ (x : Source). EveryRun (program_of x) (outline_of x)) (written_once t q (written_document s z bs ok ∙ sym e)) (true_for_source h)
