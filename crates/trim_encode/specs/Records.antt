-- The records of a trimmed image, by kind and by index among all records, counted from 0.
use Rattle.std.specs.Prelude.{Bool, false, cond, List, [], map, ℕ, ◌+◌, eqb, get_or}
use Rattle.limits.specs.Numbers.{numbers}
use Rattle.image_frames.specs.Kinds as Kinds
use Rattle.image_header.specs.Thread.{instructions}
use Rattle.trim_spec.specs.Encode.{framed, entry, thread_bytes, number_bytes, line_bytes, claim_bytes}
use Rattle.trim_spec.specs.Parse.{line_record, claim_record}
use Rattle.trim_encode.specs.Renumbered.{renewed, renewed_instruction, renewed_line, renewed_claim}

-- f is the table of new formula numbers, g that of new line numbers
module _ (f g : List ℕ) where
  -- a body of kind k, renumbered; a header or a formula names nothing and stays
  unfoldable pub renewed_body : ℕ → List ℕ → List ℕ
  renewed_body k b =
      cond (eqb k Kinds.thread) (thread_bytes (map (renewed_instruction f) (instructions b)))
      (cond (eqb k Kinds.line) (line_bytes (renewed_line f g (line_record b)))
      (cond (eqb k Kinds.claim) (claim_bytes (renewed_claim g (claim_record b)))
      b))

  -- l has the bodies of all records
  module _ (l : List (List ℕ)) where
    -- the record with index n, as one of kind k
    unfoldable pub record_bytes : ℕ → ℕ → List ℕ
    record_bytes k n = framed (entry k (renewed_body k (get_or l n [])))

    -- the record with index n + i
    unfoldable pub record_piece : ℕ → ℕ → ℕ → List ℕ
    record_piece k n i = record_bytes k (n + i)

    -- the record with index n + i, if number i + 1 is marked: formulas and lines count from 1
    unfoldable pub live_piece : List Bool → ℕ → ℕ → ℕ → List ℕ
    live_piece m k n i = cond (get_or m (i + 1) false) (record_bytes k (n + i)) []

-- the record with index n as a list of c numbers, renumbered by the table t
unfoldable pub list_bytes : List ℕ → List (List ℕ) → ℕ → ℕ → ℕ → List ℕ
list_bytes t l k n c = framed (entry k (number_bytes (map (renewed t) (numbers c (get_or l n [])))))
