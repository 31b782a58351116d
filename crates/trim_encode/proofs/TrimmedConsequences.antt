-- What follows for an accepted image and its trimmed image, from `Trimmed` alone, in the order and the words of Change 2.
use mathlib.Core.Path.{◌≡◌, ap, sym, ◌∙◌, subst}
use mathlib.Core.Bool.{Bool}
use mathlib.Core.List.{List}
use Prim.Native.Nat.{ℕ, ◌≤◌, ◌<◌}
use lib.ListN.{length}
use Rattle.semantics.specs.Base.{Within}
use Rattle.semantics.specs.Machine.{Instr}
use Rattle.logic_outline.specs.Verdict.{Image}
use Rattle.image_frames.specs.Records.{bodies}
use Rattle.image_header.specs.declared.sizes.Sizes.{Sizes}
use Rattle.image_meaning.specs.Image.{read, decode}
use Rattle.checker_spec.specs.ImageVerdict.{verdict}
use Rattle.std.specs.Prelude.{Some}
use Rattle.checker_spec.specs.Acceptance.{acceptance}
use Rattle.trim_spec.specs.Document.{Document}
use Rattle.trim_spec.specs.Encode.{encode}
use Rattle.trim_spec.specs.Parse.{document_of}
use Rattle.trim_spec.specs.Rests.{Rests, Uses}
use Rattle.trim_encode.specs.Trimmed.{trimmed_bytes, SameContent, Trimmed}

read_same : (D E : Image) → read D ≡ read E → D ≡ E
read_same D E e = cc

module _ (image trimmed : List ℕ) (p : Trimmed image trimmed) where
  -- both can be read
  pub image_reads : (D : Image) × (decode image ≡ read D)
  image_reads = (p.before, p.says)

  pub trimmed_reads : (E : Image) × (decode trimmed ≡ read E)
  trimmed_reads = (p.after, p.trimmed_says)

  -- "write one with the same program and outline": the image says D, the trimmed one E
  module _ (D E : Image) (says : decode image ≡ read D) (trimmed_says : decode trimmed ≡ read E) where
    same : SameContent D E
    same = subst (λ (X : Image). SameContent X E) (read_same p.before D (sym p.says ∙ says))
        (subst (λ (X : Image). SameContent p.before X) (read_same p.after E (sym p.trimmed_says ∙ trimmed_says)) p.same)

    pub same_threads : D.program.threads ≡ E.program.threads
    same_threads = same.program.threads

    pub same_words : D.program.words ≡ E.program.words
    same_words = same.program.words

    pub same_range : D.program.range ≡ E.program.range
    same_range = same.program.range

    pub same_start_values : (x : ℕ) → D.program.init x ≡ E.program.init x
    same_start_values x = ap (λ (f : ℕ → ℕ). f x) same.program.init

    pub same_start_marks : (r : ℕ) → D.program.cleared r ≡ E.program.cleared r
    same_start_marks r = ap (λ (f : ℕ → Bool). f r) same.program.cleared

    pub same_points : (t : ℕ) → Within D.program.threads t → D.program.points t ≡ E.program.points t
    same_points = same.program.points

    pub same_instructions : (t k : ℕ) → D.program.code t k ≡ E.program.code t k
    same_instructions t k = ap (λ (f : ℕ → ℕ → Instr). f t k) same.program.code

    pub same_outline : (t k : ℕ) → E.outline t k ≡ D.outline t k
    same_outline = same.outline

    -- "Trimming keeps the claims" (Change 5)
    pub same_claims : E.claims.count ≡ D.claims.count
    same_claims = same.claims

    pub same_claim : (i : ℕ) → i < D.claims.count → E.claims.claim i ≡ D.claims.claim i
    same_claim = same.claim

  -- "It is accepted with the same count"
  pub accepted_alike : verdict trimmed ≡ verdict image
  accepted_alike = p.accepted

  -- nothing is added
  pub no_longer : length trimmed ≤ length image
  no_longer = p.no_longer

  module _ (z : Sizes) (granted : acceptance trimmed ≡ Some z) where
    -- "trimming it again gives the same bytes"
    pub again_same : trimmed_bytes z trimmed ≡ trimmed
    again_same = p.again z granted

    -- the document that the records of the trimmed image say
    abbrev pub document : Document
    document = document_of z (bodies trimmed)

    is_document : p.document ≡ document
    is_document = p.parsed z granted

    -- its records are the whole image
    pub whole-image : encode document ≡ trimmed
    whole-image = ap encode (sym is_document) ∙ p.bytes

    -- "only the lines on which some obligation rests", or a claim
    pub only_rests : (n : ℕ) → 1 ≤ n → n ≤ length document.lines → Rests document n
    only_rests = subst (λ (X : Document). (n : ℕ) → 1 ≤ n → n ≤ length X.lines → Rests X n) is_document p.rests

    -- "only the formulas that are still used"
    pub only_used : (n : ℕ) → 1 ≤ n → n ≤ length document.formulas → Uses document n
    only_used = subst (λ (X : Document). (n : ℕ) → 1 ≤ n → n ≤ length X.formulas → Uses X n) is_document p.uses
