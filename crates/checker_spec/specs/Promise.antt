-- THE PROMISE of the entry point `check_image`, whole.
use Rattle.std.specs.Prelude.{◌≡◌, List, ◌⊎◌, ℕ, ◌≤◌, ◌<◌, length}
use Rattle.semantics.specs.EveryRun.{EveryRun}
use Rattle.logic.specs.Claims.{NeverBoth}
use Rattle.logic_outline.specs.Verdict.{Image, Finding}
use Rattle.logic_outline.specs.Judged as Outline
use Rattle.logic_outline.specs.Judged.{EachMet, EachSustained}
use Rattle.image_frames.specs.declared.fault.Fault.{Fault}
use Rattle.image_meaning.specs.Image.{read, decode}
use Rattle.verdict_record.specs.Fields.{fields_of}
use Rattle.verdict_record.specs.Output.{code_for, bytes_for}
use Rattle.verdict_record.specs.Record.{size}
use Rattle.verdict_record.specs.declared.verdict.Verdict.{Verdict}
use Rattle.verdict_record.specs.declared.verdict.Verdict.TheVariants.{Refused}
use Rattle.source.specs.Source.{Source}
use Rattle.source.specs.Written as Written
use Rattle.source.specs.Means.{Means}
use Rattle.source.specs.TrueFor.{TrueFor}
use Rattle.checker_spec.specs.ImageVerdict.{judged, verdict}
use Rattle.verdict_record.specs.Uncut.{Uncut}

-- demand 3 for an image that says `content`: after every finite list of steps of its program, refused ones among them, each thread's
-- assertion at its point is true, and no claim's threads are at its points together
pub record TrueInEveryRun (image : List ℕ) : Type 0 where
  pub content : Image
  pub says : decode image ≡ read content
  pub holds : EveryRun content.program content.outline
  pub never : (i : ℕ) → i < content.claims.count → NeverBoth content.program (content.claims.claim i)

-- demand 2 for an image that says `content`, its verdict v, the caller's buffer and the code returned
pub record Judged (content : Image) (v : Verdict) (buffer : List ℕ) (code : ℕ) : Type 0 where
  -- code 0 exactly if every obligation and every claim names a line that states what is wanted and that is justified, to its last premise
  pub only_if : code ≡ 0 → EachMet content × EachSustained content
  pub if_met : size ≤ length buffer → EachMet content → EachSustained content → code ≡ 0
  -- the verdict is that of a finding, and the finding is right: all are met; or the first obligation that is not is named, with 20 for
  -- no line, 21 for a line that states something else, 22 for a line that states it and is not justified; or, where every obligation
  -- is met, the first claim that its line does not prove
  pub finding : Finding
  pub right : Outline.Judged content finding
  pub answer : v ≡ judged content finding

-- demand 2 by the source: one is written as the image, and what is judged is what any such source means
pub record SourceJudged (image : List ℕ) (v : Verdict) (buffer : List ℕ) (code : ℕ) : Type 0 where
  pub source : Source
  pub bytes : Written.written source ≡ image
  pub content : Image
  pub means : (s : Source) → Written.written s ≡ image → Means s content
  pub right : Judged content v buffer code

-- what holds for an image and a buffer: the code returned, and the buffer afterwards
pub record Promise (image buffer : List ℕ) (code : ℕ) (after : List ℕ) : Type 0 where
  -- the code of the verdict; 1 for a buffer that is too short
  pub returned : code ≡ code_for (verdict image) buffer
  -- the verdict's record, and after it the bytes that were there; a buffer that is too short stays
  pub written : after ≡ bytes_for (verdict image) buffer
  -- demand 2, for an image that is well formed
  pub judged : (content : Image) → decode image ≡ read content → Judged content (verdict image) buffer code
  -- demand 3, for an accepted image
  pub accepted : code ≡ 0 → TrueInEveryRun image
  -- demands 2 and 3 by the source, for a reader who knows an image by what writes it: the image is refused for its form, or judged by
  -- what its source means; and for code 0 whichever source is written as the image is in range and true in every run
  pub by_source : ((f : Fault) × (i : ℕ) × (verdict image ≡ Refused f i)) ⊎ SourceJudged image (verdict image) buffer code
  pub true_for : code ≡ 0 → TrueFor image
  -- the record and the line of text have each number of the verdict whole
  pub uncut : Uncut (fields_of (verdict image))
