-- The codes of a handover: "32 an image not accepted or the two unlike, first; 33 table too short, too long or anywhere out of range (line
-- 0 too), before any 34; 34 a named line doesn't serve"; 0 permitted.
use Rattle.std.specs.Prelude.{Bool, cond, List, [], ℕ, suc, eqb, get_or, None, Option, Some}
use Rattle.semantics.specs.Formula.{same_bytes}
use Rattle.logic.specs.Statement.{Statement, implies}
use Rattle.image_frames.specs.Records.{bodies}
use Rattle.image_header.specs.declared.sizes.Sizes.{Sizes}
use Rattle.logic_outline.specs.Verdict.{Image, line_code}
use Rattle.image_meaning.specs.Image.{image_of}
use Rattle.checker_spec.specs.Acceptance.{acceptance}
use Rattle.handover_spec.specs.Table.{new_point, new_line, each}
use Rattle.handover_spec.specs.Fits.{table_fits}

-- D and E are what the old and the new image say
module _ (D E : Image) (table : List ℕ) where
  -- what the line for point k of thread t must conclude: the new point's assertion from the old one
  abbrev pub asked : ℕ → ℕ → Statement
  asked t k = implies (D.outline t k) (E.outline t (new_point D.program table t k))

  -- "that line is a justified implication that concludes the new point's assertion from the old one"
  abbrev pub serves : ℕ → ℕ → Bool
  serves t k = eqb (line_code E (asked t k) (new_line D.program table t k)) 0

  -- the line for each old point serves
  unfoldable pub lines_serve : Bool
  lines_serve = each D.program.threads (λ t. each (D.program.points (suc t)) (λ k. serves (suc t) k))

  -- 33 "before any 34"
  unfoldable pub code_between : ℕ
  code_between = cond (table_fits D E table) (cond lines_serve 0 34) 33

-- the header's body: threads, words, registers, range, start values, owners, start marks, and nothing else
abbrev pub header_of : List ℕ → List ℕ
header_of s = get_or (bodies s) 0 []

-- the code for accepted images with sizes z and y: 32 if the two are unlike
unfoldable pub code_of : List ℕ → Sizes → List ℕ → Sizes → List ℕ → ℕ
code_of old z new y table = cond (same_bytes (header_of old) (header_of new))
    (code_between (image_of z (bodies old)) (image_of y (bodies new)) table) 32

-- the code by the acceptance of the old and of the new image
abbrev pub by_acceptance : List ℕ → List ℕ → List ℕ → Option Sizes → Option Sizes → ℕ
by_acceptance old new table None b = 32
by_acceptance old new table (Some z) None = 32
by_acceptance old new table (Some z) (Some y) = code_of old z new y table

-- the code for every two byte strings and every table
unfoldable pub handover_code : List ℕ → List ℕ → List ℕ → ℕ
handover_code old new table = by_acceptance old new table (acceptance old) (acceptance new)
