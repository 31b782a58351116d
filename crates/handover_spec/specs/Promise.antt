-- THE PROMISE of `check_handover`, whole.
use Rattle.std.specs.Prelude.{◌≡◌, List, ℕ, ◌*◌, ◌<◌, length}
use Rattle.semantics.specs.Base.{Within}
use Rattle.logic_outline.specs.Verdict.{Image, Bears}
use Rattle.image_meaning.specs.Image.{read, decode}
use Rattle.handover_spec.specs.Handover.{EveryRunAcross}
use Rattle.checker_spec.specs.ImageVerdict.{verdict}
use Rattle.verdict_record.specs.declared.verdict.Verdict.TheVariants.{Accepted}
use Rattle.handover_spec.specs.Table.{entry_size, points_to, new_point, new_line}
use Rattle.handover_spec.specs.Code.{asked, header_of, handover_code}

-- both images are accepted, say what D and E have, and have equal headers
pub record BothAccepted (old new : List ℕ) (D E : Image) : Type 0 where
  pub old_says : decode old ≡ read D
  pub new_says : decode new ≡ read E
  pub old_count : ℕ
  pub new_count : ℕ
  pub old_accepted : verdict old ≡ Accepted old_count
  pub new_accepted : verdict new ≡ Accepted new_count
  pub headers : header_of old ≡ header_of new

module _ (D E : Image) (table : List ℕ) where
  -- an entry for each old point and nothing else; each new point is one of the same thread, and each line exists
  pub record Fits : Type 0 where
    pub size : length table ≡ entry_size * points_to D.program D.program.threads
    pub points : (t k : ℕ) → Within D.program.threads t → k < D.program.points t
        → new_point D.program table t k < E.program.points t
    pub lines : (t k : ℕ) → Within D.program.threads t → k < D.program.points t
        → Within E.certificate.count (new_line D.program table t k)

  -- each line concludes the new point's assertion from the old one and is justified: by a rule, from justified premises, down to the last
  abbrev pub Serve : Type 0
  Serve = (t k : ℕ) → Within D.program.threads t → k < D.program.points t
      → Bears E (asked D E table t k) (new_line D.program table t k)

  -- what a code says of the table
  pub data Decided : ℕ → Type 0 where
    permitted : Fits → Serve → Decided 0
    out_of_range : (Fits → ⊥) → Decided 33
    unserved : Fits → (Serve → ⊥) → Decided 34

-- after every list of steps of the old program, the handover and every list of steps of the new one, refused ones among them, each
-- thread's new assertion at its point is true
pub record TrueAcross (old new table : List ℕ) : Type 0 where
  pub content : Image
  pub following : Image
  pub says : decode old ≡ read content
  pub follows : decode new ≡ read following
  pub holds : EveryRunAcross content.program following.program following.outline (new_point content.program table)

-- what the code returned says of two images and a table
pub record Promise (old new table : List ℕ) (code : ℕ) : Type 0 where
  pub returned : code ≡ handover_code old new table
  -- the code is 0, 33 or 34 for two accepted images with equal headers, and this is what each means; else it is 32
  pub decided : (D E : Image) → BothAccepted old new D E → Decided D E table code
  pub otherwise : ((D E : Image) → BothAccepted old new D E → ⊥) → code ≡ 32
  -- what a permitted handover means for every run
  pub across : code ≡ 0 → TrueAcross old new table
