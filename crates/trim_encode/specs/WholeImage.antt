-- The bytes of a trimmed image in the order in which they are written: f and g are the tables of new formula and line numbers, u and k the
-- marks of live formulas and lines.
use Rattle.std.specs.Prelude.{Bool, List, ◌++◌, ℕ, ◌+◌}
use Rattle.image_frames.specs.Kinds as Kinds
use Rattle.image_header.specs.declared.sizes.Sizes.{Sizes}
use Rattle.image_bodies.specs.PointCounts.{point_counts, obligation_count}
use Rattle.trim_encode.specs.Pieces.{joined}
use Rattle.trim_encode.specs.Records.{record_bytes, record_piece, live_piece, list_bytes}

-- the outline, which is a list of formulas
unfoldable pub outline_bytes : Sizes → List ℕ → List (List ℕ) → List ℕ
outline_bytes z f l = list_bytes f l Kinds.outline (z.formulas + z.threads + 1) (point_counts z l).points

-- the obligations, which are a list of lines
unfoldable pub obligations_bytes : Sizes → List ℕ → List (List ℕ) → List ℕ
obligations_bytes z g l = list_bytes g l Kinds.obligations (z.formulas + z.threads + 1 + z.lines + 1) (obligation_count z l)

module _ (z : Sizes) (f g : List ℕ) (l : List (List ℕ)) where
  -- the formulas that u marks
  unfoldable pub formulas_bytes : List Bool → List ℕ
  formulas_bytes u = joined (live_piece f g l u Kinds.formula 1) z.formulas

  -- the threads
  unfoldable pub threads_bytes : List ℕ
  threads_bytes = joined (record_piece f g l Kinds.thread (z.formulas + 1)) z.threads

  -- the lines that k marks
  unfoldable pub lines_bytes : List Bool → List ℕ
  lines_bytes k = joined (live_piece f g l k Kinds.line (z.formulas + z.threads + 2)) z.lines

  -- the claims
  unfoldable pub claims_bytes : List ℕ
  claims_bytes = joined (record_piece f g l Kinds.claim (z.formulas + z.threads + 1 + z.lines + 2)) z.claims

  -- the whole image
  unfoldable pub whole_bytes : List Bool → List Bool → List ℕ
  whole_bytes u k =
      record_bytes f g l Kinds.header 0
      ++ (formulas_bytes u ++ (threads_bytes ++ (outline_bytes z f l ++ (lines_bytes k ++ (obligations_bytes z g l ++ claims_bytes)))))
