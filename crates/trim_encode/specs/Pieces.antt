-- Bytes put together from pieces, for a loop that writes one after the other.
use Rattle.std.specs.Prelude.{List, [], ◌++◌, ℕ, zero, suc, get_or}
use Rattle.limits.specs.Numbers.{numbers}
use Rattle.verdict_record.specs.Record.{two}
use Rattle.image_header.specs.Thread.{instructions, nothing}
use Rattle.trim_spec.specs.Encode.{instruction_bytes}
use Rattle.trim_encode.specs.Renumbered.{renewed, renewed_instruction}

-- the first i pieces
unfoldable pub joined : (ℕ → List ℕ) → ℕ → List ℕ
joined g zero = []
joined g (suc i) = joined g i ++ g i

-- the number at index i of the n numbers in body b, renumbered by the table t
unfoldable pub number_piece : List ℕ → List ℕ → ℕ → ℕ → List ℕ
number_piece t b n i = two (renewed t (get_or (numbers n b) i 0))

-- the instruction at point p of a thread's body, its formulas renumbered by the table f
unfoldable pub instruction_piece : List ℕ → List ℕ → ℕ → List ℕ
instruction_piece f b p = instruction_bytes (renewed_instruction f (get_or (instructions b) p nothing))
