-- An image whose content is true in every run has exactly one source, which is in range and true in every run.
use mathlib.Core.Path.{◌≡◌, refl, sym, ◌∙◌, subst}
use mathlib.Core.List.{List}
use Prim.Native.Nat.{ℕ, ◌<◌}
use native.Mathlib.Omega.{arith}
use Rattle.semantics.specs.EveryRun.{EveryRun}
use Rattle.logic.specs.Claims.{NeverBoth}
use Rattle.logic_outline.specs.Verdict.{Image}
use Rattle.image_frames.specs.Records.{bodies}
use Rattle.image_frames.specs.declared.fault.Fault.{Fault}
use Rattle.image_header.specs.declared.sizes.Sizes.{Sizes}
use Rattle.image.specs.Decode.{decoded, Decoded}
use Rattle.image_meaning.specs.Image.{refused, read, image_of, result_of, decode}
use Rattle.trim_spec.specs.Canonical.{Bytes}
use Rattle.trim_spec.specs.Parse.{document_of}
use Rattle.source.specs.Source.{Source}
use Rattle.source.specs.Written.{written}
use Rattle.source.specs.Means.{Means}
use Rattle.source.specs.TrueFor.{Kept, TrueFor}
use Rattle.source.proofs.WrittenOnce.{written_once}
use Rattle.source_agrees.specs.SourceOf.{source_of}
use Rattle.source_agrees.proofs.ImageWritten.{written_document}
use Rattle.source_agrees.proofs.PromiseOfSource.{true_for_source, claims_for_source}
use Rattle.source_agrees.proofs.SourceInRange.{in_range}
use Rattle.source_agrees.proofs.CertificateAgrees.{means}
use Rattle.std.specs.Prelude.{Ok, Err}

refused_read : (f : Fault) (i : ℕ) (D : Image) → refused f i ≡ read D → ⊥
refused_read f i D e = let q : ◌≡◌ {A = ℕ} 0 1 = cc in omega arith

-- what a content promises of its runs
abbrev pub TrueContent : Image → Type 0
TrueContent D = EveryRun D.program D.outline × ((i : ℕ) → i < D.claims.count → NeverBoth D.program (D.claims.claim i))

-- the one source of a sound image
pub sound_true : (s : List ℕ) (z : Sizes) → Bytes s → decoded s ≡ Ok z → TrueContent (image_of z (bodies s)) → TrueFor s
sound_true s z b e h =
    let t : Source = source_of (document_of z (bodies s)) in
    let r : Kept t = record {
      in_range = in_range s z b e;
      holds = true_for_source s z b e h.0;
      never = claims_for_source s z b e h.1;
    } in
    record {
      source = t;
      bytes = written_document s z b e;
      kept = λ y p. subst Kept (written_once t y (written_document s z b e ∙ sym p)) r;
    }

pub true_for : (s : List ℕ) → Bytes s → (D : Image) → decode s ≡ read D → TrueContent D → TrueFor s
unfolding decode
true_for s b D e h = go (decoded s) refl e
  where
    go : (d : Decoded) → decoded s ≡ d → result_of (bodies s) d ≡ read D → TrueFor s
    go (Err r) c q = absurd (refused_read r.fault r.«record» D q)
    go (Ok z) c q = let x : D ≡ image_of z (bodies s) = cc in sound_true s z b c (subst TrueContent x h)

-- the source of a content: one is written as the image, and the content is what any such source means
pub record SourceFor (image : List ℕ) (D : Image) : Type 0 where
  pub source : Source
  pub bytes : written source ≡ image
  pub means : (s : Source) → written s ≡ image → Means s D

pub sound_means : (s : List ℕ) (z : Sizes) → Bytes s → decoded s ≡ Ok z → SourceFor s (image_of z (bodies s))
sound_means s z b e =
    let t : Source = source_of (document_of z (bodies s)) in
    record {
      source = t;
      bytes = written_document s z b e;
      means = λ y p. subst (λ (x : Source). Means x (image_of z (bodies s))) (written_once t y (written_document s z b e ∙ sym p))
          (means s z b e);
    }

pub source_for : (s : List ℕ) → Bytes s → (D : Image) → decode s ≡ read D → SourceFor s D
unfolding decode
source_for s b D e = go (decoded s) refl e
  where
    go : (d : Decoded) → decoded s ≡ d → result_of (bodies s) d ≡ read D → SourceFor s D
    go (Err r) c q = absurd (refused_read r.fault r.«record» D q)
    go (Ok z) c q = let x : image_of z (bodies s) ≡ D = cc in subst (SourceFor s) x (sound_means s z b c)
