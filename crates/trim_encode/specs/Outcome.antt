-- What is written of an image that is trimmed: bodies, records, and the whole.
use Rattle.std.specs.Prelude.{Bool, List, ℕ}
use Rattle.image_frames.specs.Records.{bodies}
use Rattle.trim_spec.specs.Document.{Document}
use Rattle.trim_spec.specs.Trim.{trimmed_by}
use Rattle.trim_encode.specs.Said.{said}
use Rattle.trim_encode.specs.Pieces.{joined}
use Rattle.trim_encode.specs.Records.{renewed_body, record_bytes, record_piece, live_piece, list_bytes}
use Rattle.trim_encode.specs.WholeImage.{whole_bytes}
use Rattle.trim_encode.specs.declared.numbering.Renumbering.{Renumbering}
use Rattle.trim_encode.specs.declared.trimming.Trimming.{Trimming}

module _ (t : Trimming) where
  -- a body of kind k
  abbrev pub body_in : ℕ → List ℕ → List ℕ
  body_in k b = renewed_body t.formulas.numbers.now t.lines.numbers.now k b

  -- the record with index n, as one of kind k
  abbrev pub record_in : ℕ → ℕ → List ℕ
  record_in k n = record_bytes t.formulas.numbers.now t.lines.numbers.now (bodies t.image.indexed.now) k n

  -- the c records from index n on
  abbrev pub records_in : ℕ → ℕ → ℕ → List ℕ
  records_in k n c = joined (record_piece t.formulas.numbers.now t.lines.numbers.now (bodies t.image.indexed.now) k n) c

  -- those of the c records from index n on that m marks
  abbrev pub live_in : List Bool → ℕ → ℕ → ℕ → List ℕ
  live_in m k n c = joined (live_piece t.formulas.numbers.now t.lines.numbers.now (bodies t.image.indexed.now) m k n) c

  -- the record with index n as a list of c numbers, renumbered by r
  abbrev pub list_in : Renumbering → ℕ → ℕ → ℕ → List ℕ
  list_in r k n c = list_bytes r.numbers.now (bodies t.image.indexed.now) k n c

  -- the whole image
  abbrev pub whole_in : List ℕ
  whole_in = whole_bytes t.image.sizes t.formulas.numbers.now t.lines.numbers.now (bodies t.image.indexed.now) t.formulas.live.now t.lines.live.now

  -- what the trimmed image says
  abbrev pub trimmed_in : Document
  trimmed_in = trimmed_by t.formulas.live.now t.lines.live.now (said t.image)
