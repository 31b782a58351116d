-- An accepted image and the image that it is trimmed to: what trimming promises.
use mathlib.Core.Path.{◌≡◌, refl, ap, ap₂, sym, ◌∙◌, subst}
use mathlib.Core.List.{List}
use Prim.Native.Nat.{ℕ}
use native.Mathlib.Omega.{arith}
use lib.ListN.{length}
use Rattle.image_frames.specs.Records.{bodies}
use Rattle.image_header.specs.declared.sizes.Sizes.{Sizes}
use Rattle.image.specs.Decode.{sizes_of, decoded}
use Rattle.logic_outline.specs.Verdict.{Image, Finding, accepted, unmet, denied, finding, Admitted}
use Rattle.logic_outline.specs.Judged as Outline
use Rattle.logic_outline.specs.Judged.{EachMet, EachSustained, total, each_met, first_unmet, first-denied}
use Rattle.logic_outline.proofs.Judged.{finding_judged, each_accepted}
use Rattle.image_meaning.specs.Image.{image_of, read, decode}
use Rattle.image_meaning.specs.Program.{point_count}
use Rattle.image_meaning.proofs.Admitted.{checks_admitted}
use Rattle.verdict_record.specs.declared.verdict.Verdict.TheVariants.{Accepted}
use Rattle.checker_spec.specs.ImageVerdict.{judged, answered, verdict}
use Rattle.std.specs.Prelude.{Some, Ok}
use Rattle.checker_spec.specs.Acceptance.{acceptance}
use Rattle.checker_spec.proofs.AcceptedHolds.{Holds}
use Rattle.trim_spec.specs.Document.{Document}
use Rattle.trim_spec.specs.Canonical.{Bytes}
use Rattle.trim_spec.specs.Encode.{bodies_of, encode}
use Rattle.trim_spec.specs.Parse.{document_of, sizes}
use Rattle.trim_spec.proofs.DocumentInverse.{Documented, documented, bodies_encode, decoded_encode}
use Rattle.trim_spec.proofs.RoundTrip.{parsed}
use Rattle.trim_spec.specs.Live.{kept, used}
use Rattle.trim_spec.specs.Trim.{trimmed_by, trim}
use Rattle.trim_spec.proofs.TrimAgain.{again, each_rests, each_used}
use Rattle.trim_spec.proofs.CanonicalKept.{canonical_kept}
use Rattle.trim_spec.proofs.TrimPremises.{threads_kept}
use Rattle.trim_spec.proofs.ChecksKept.{checks_kept}
use Rattle.trim_spec.proofs.ListKept.{points_length, obligations_many}
use Rattle.trim_spec.proofs.ContentKept as Content
use Rattle.trim_spec.proofs.AcceptedKept.{total_kept, met_kept, sustained_kept}
use Rattle.trim_spec.proofs.Renumbered.{claims_length}
use Rattle.trim_spec.proofs.AbsentPoints.{with_points}
use Rattle.semantics.specs.Machine.{Program}
use Rattle.trim_encode.specs.Trimmed.{trimmed_bytes, SameContent, Trimmed}
use Rattle.trim_encode.proofs.LengthTrimmed.{trimmed_and_left}
use Rattle.trim.proofs.TrimmedSound.{Whole, named, written, trimming, encodable}

-- accepted: each obligation is met and each claim borne out
accepted_met : (D : Image) (n : ℕ) → Admitted D → judged D (finding D) ≡ Accepted n → EachMet D × EachSustained D
accepted_met D n A e = go (finding D) (finding_judged D A) e
  where
    go : (o : Finding) → Outline.Judged D o → judged D o ≡ Accepted n → EachMet D × EachSustained D
    go (accepted m) (each_met h g) q = (h, g)
    go (unmet c o l m) (first_unmet k b f w) q = let x : ◌≡◌ {A = ℕ} 0 1 = cc in absurd (omega arith)
    go (denied i m) (first-denied k h b f g) q = let x : ◌≡◌ {A = ℕ} 0 1 = cc in absurd (omega arith)

granted_same : (y z : Sizes) → Some y ≡ Some z → y ≡ z
granted_same y z e = cc

module _ (s : List ℕ) (z : Sizes) (b : Bytes s) (H : Holds s z) where
  abbrev D : Document
  D = document_of z (bodies s)

  abbrev E : Document
  E = trimmed_by (used D) (kept D) D

  d : Documented s z
  d = documented s z b H.sound

  whole : Whole D
  unfolding sizes sizes_of
  whole = record {
    canonical = d.describes.canonical;
    threads = d.describes.threads;
    checks = rw (d.describes.size, d.describes.body) d.checks;
    outline = rw (d.describes.size, d.describes.body) d.describes.outline;
    obligations = rw (d.describes.size, d.describes.body) d.describes.obligations;
    framable = rw d.describes.body d.framable;
    few = rw d.encodes d.few;
    numbered =
        let f : length D.formulas ≡ z.formulas = ap (λ (x : Sizes). x.formulas) d.describes.size in
        let t : length D.threads ≡ z.threads = sym d.describes.threads ∙ ap (λ (x : Sizes). x.threads) d.describes.size in
        let l : length D.lines ≡ z.lines = ap (λ (x : Sizes). x.lines) d.describes.size in
        let c : length D.claims ≡ z.claims = ap (λ (x : Sizes). x.claims) d.describes.size in
        rw (f, t, l, c) d.numbered;
  }

  abbrev old : Image
  old = image_of (sizes D) (bodies_of D)

  abbrev new : Image
  new = image_of (sizes E) (bodies_of E)

  old_is : old ≡ image_of z (bodies s)
  old_is = ap₂ image_of d.describes.size d.describes.body

  says : decode s ≡ read old
  says = H.says ∙ ap read (sym old_is)

  admitted : Admitted old
  admitted = checks_admitted (sizes D) (bodies_of D) whole.checks

  both : EachMet old × EachSustained old
  unfolding verdict
  both = accepted_met old H.count admitted (sym (ap answered says) ∙ H.verdict)

  counted : verdict s ≡ Accepted (total old)
  unfolding verdict
  counted = ap answered says ∙ ap (judged old) (each_accepted old admitted both.0 both.1)

  -- the trimmed image

  abbrev trimmed : List ℕ
  trimmed = encode E

  sound : decoded trimmed ≡ Ok (sizes E)
  sound = decoded_encode E (threads_kept (trimming D whole)) (encodable D whole both.0)

  cut : bodies trimmed ≡ bodies_of E
  cut = bodies_encode E (threads_kept (trimming D whole)) (encodable D whole both.0)

  trimmed_says : decode trimmed ≡ read new
  unfolding decode
  trimmed_says = rw (sound, cut)

  trimmed_counted : verdict trimmed ≡ Accepted (total new)
  unfolding verdict
  trimmed_counted =
      ap answered trimmed_says
      ∙ ap (judged new)
      (each_accepted new (checks_admitted (sizes E) (bodies_of E) (checks_kept (trimming D whole)))
      (met_kept D (named D whole) (written D whole) (trimming D whole) whole.outline whole.obligations both.0)
      (sustained_kept D (named D whole) (written D whole) (trimming D whole) whole.outline whole.obligations both.1))

  accepted_again : verdict trimmed ≡ verdict s
  accepted_again =
      trimmed_counted
      ∙ ap Accepted (total_kept D (named D whole) (written D whole) (trimming D whole) whole.outline whole.obligations) ∙ sym counted

  -- its document is what was written
  trimmed_document : document_of (sizes E) (bodies trimmed) ≡ E
  trimmed_document =
      rw cut
      (parsed E (canonical_kept (used D) (kept D) D whole.canonical) (threads_kept (trimming D whole))
      (points_length (trimming D whole)) (obligations_many (trimming D whole)))

  pub trimmed_is : trimmed_bytes z s ≡ trimmed
  unfolding trimmed_bytes trim
  trimmed_is = refl

  -- trimming it again gives the same bytes
  pub trimmed_again : (acceptance (trimmed_bytes z s) ≡ Some (sizes E)) × (trimmed_bytes (sizes E) (trimmed_bytes z s) ≡ trimmed_bytes z s)
  unfolding trimmed_bytes acceptance trim
  trimmed_again = (rw (sound, trimmed_counted), rw trimmed_document (ap encode (again D (named D whole) (written D whole))))

  same : SameContent old new
  unfolding sizes sizes_of
  same = record {
    program = record {
      threads = refl;
      words = refl;
      range = sym (ap (λ (P : Program). P.range) program);
      init = sym (ap (λ (P : Program). P.init) program);
      cleared = sym (ap (λ (P : Program). P.cleared) program);
      points = λ t w. sym (Content.points_kept D (named D whole) (written D whole) (trimming D whole) t w);
      code = sym (ap (λ (P : Program). P.code) program);
    };
    outline = Content.outline_kept D (named D whole) (written D whole) (trimming D whole) whole.outline whole.obligations;
    claims = claims_length (used D) (kept D) D;
    claim = λ i h. Content.claim_kept D (named D whole) (written D whole) (trimming D whole) whole.outline whole.obligations i h;
  }
    where
      program : new.program ≡ with_points old.program (point_count (sizes E) (bodies_of E))
      program = Content.program_kept D (named D whole) (written D whole) (trimming D whole)

  -- WHAT TRIMMING PROMISES
  pub is_trimmed : Trimmed s (trimmed_bytes z s)
  unfolding trimmed_bytes trim
  is_trimmed = record {
    before = old;
    says = says;
    after = new;
    trimmed_says = trimmed_says;
    same = same;
    accepted = accepted_again;
    document = E;
    parsed = λ y e.
        let q : sizes E ≡ y = granted_same (sizes E) y (sym trimmed_again.0 ∙ e) in
        sym (subst (λ (x : Sizes). document_of x (bodies trimmed) ≡ E) q trimmed_document);
    bytes = refl;
    rests = each_rests D (named D whole) (written D whole);
    uses = each_used D (named D whole) (written D whole);
    again = λ y e.
        let q : sizes E ≡ y = granted_same (sizes E) y (sym trimmed_again.0 ∙ e) in
        subst (λ (x : Sizes). trimmed_bytes x (trimmed_bytes z s) ≡ trimmed_bytes z s) q trimmed_again.1;
    no_longer = let q = trimmed_and_left (used D) (kept D) D in let e = ap length d.encodes in omega arith;
  }
