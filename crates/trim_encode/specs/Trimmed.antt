-- What trimming promises of an accepted image and its trimmed image.
use Rattle.std.specs.Prelude.{◌≡◌, List, ℕ, ◌≤◌, ◌<◌, length, Some}
use Rattle.semantics.specs.Base.{Within}
use Rattle.semantics.specs.Machine.{Program}
use Rattle.image_frames.specs.Records.{bodies}
use Rattle.image_header.specs.declared.sizes.Sizes.{Sizes}
use Rattle.logic_outline.specs.Verdict.{Image}
use Rattle.image_meaning.specs.Image.{read, decode}
use Rattle.checker_spec.specs.ImageVerdict.{verdict}
use Rattle.checker_spec.specs.Acceptance.{acceptance}
use Rattle.trim_spec.specs.Document.{Document}
use Rattle.trim_spec.specs.Encode.{encode}
use Rattle.trim_spec.specs.Parse.{document_of}
use Rattle.trim_spec.specs.Trim.{trim}
use Rattle.trim_spec.specs.Rests.{Rests, Uses}

-- the trimmed image of an image s with sizes z
unfoldable pub trimmed_bytes : Sizes → List ℕ → List ℕ
trimmed_bytes z s = encode (trim (document_of z (bodies s)))

-- equal threads, words, range, start values, start marks and instructions; equal points for each thread that exists
pub record SameProgram (P Q : Program) : Type 0 where
  pub threads : P.threads ≡ Q.threads
  pub words : P.words ≡ Q.words
  pub range : P.range ≡ Q.range
  pub init : P.init ≡ Q.init
  pub cleared : P.cleared ≡ Q.cleared
  pub points : (t : ℕ) → Within P.threads t → P.points t ≡ Q.points t
  pub code : P.code ≡ Q.code

-- "the same program and outline" (Change 2), and the same claims (Change 5)
pub record SameContent (before after : Image) : Type 0 where
  pub program : SameProgram before.program after.program
  pub outline : (t k : ℕ) → after.outline t k ≡ before.outline t k
  pub claims : after.claims.count ≡ before.claims.count
  pub claim : (i : ℕ) → i < before.claims.count → after.claims.claim i ≡ before.claims.claim i

-- how an accepted image and its trimmed image are related
pub record Trimmed (image trimmed : List ℕ) : Type 0 where
  pub before : Image
  pub says : decode image ≡ read before
  pub after : Image
  pub trimmed_says : decode trimmed ≡ read after
  pub same : SameContent before after
  -- "It is accepted with the same count"
  pub accepted : verdict trimmed ≡ verdict image
  -- "trimming it again gives the same bytes"
  pub again : (z : Sizes) → acceptance trimmed ≡ Some z → trimmed_bytes z trimmed ≡ trimmed
  -- "only the lines on which some obligation rests, and only the formulas that are still used"; claims count as obligations do (Change 5)
  pub document : Document
  -- the document is what the records of the trimmed image say, and its records are the trimmed image
  pub parsed : (z : Sizes) → acceptance trimmed ≡ Some z → document ≡ document_of z (bodies trimmed)
  pub bytes : encode document ≡ trimmed
  pub rests : (n : ℕ) → 1 ≤ n → n ≤ length document.lines → Rests document n
  pub uses : (n : ℕ) → 1 ≤ n → n ≤ length document.formulas → Uses document n
  -- nothing is added
  pub no_longer : length trimmed ≤ length image
