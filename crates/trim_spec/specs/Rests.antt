-- Liveness in the papers' words (Changes 2 and 5): on which lines an obligation or a claim rests, and which formulas are used.
use Rattle.std.specs.Prelude.{[], ℕ, ◌≤◌, ◌<◌, length, get_or}
use Rattle.limits.specs.Numbers.{nth}
use Rattle.image_header.specs.Thread.{nothing}
use Rattle.trim_spec.specs.Document.{Document, LineRecord}
use Rattle.trim_spec.specs.Canonical.{no_line, no_claim}

module _ (D : Document) where
  -- line n, counted from 1
  abbrev pub line : ℕ → LineRecord
  line n = nth D.lines n no_line

  -- the line that an obligation or a claim names, and every premise of such a line: reachability through premises
  pub data Rests : ℕ → Type 0 where
    obligation : (i : ℕ) → i < length D.obligations → Rests (get_or D.obligations i 0)
    claim : (i : ℕ) → i < length D.claims → Rests (get_or D.claims i no_claim).line
    premise : (n i : ℕ) → 1 ≤ n → n ≤ length D.lines → Rests n → i < length (line n).premises → Rests (get_or (line n).premises i 0)

  -- the formulas of instructions (0 for none), of the outline, and of the lines on which an obligation or a claim rests
  pub data Uses : ℕ → Type 0 where
    instruction : (t p : ℕ) → t < length D.threads → p < length (get_or D.threads t [])
        → Uses (get_or (get_or D.threads t []) p nothing).formula
    second : (t p : ℕ) → t < length D.threads → p < length (get_or D.threads t [])
        → Uses (get_or (get_or D.threads t []) p nothing).second.formula
    outline : (i : ℕ) → i < length D.outline → Uses (get_or D.outline i 0)
    left : (n : ℕ) → 1 ≤ n → n ≤ length D.lines → Rests n → Uses (line n).left
    right : (n : ℕ) → 1 ≤ n → n ≤ length D.lines → Rests n → Uses (line n).right
