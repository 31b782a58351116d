-- Answers that compare as the same have the stored code, the stored entries in front of the table and the stored numbers in front of the
-- others,
-- and the rest of both as it was.
use Rattle.std.proofs.Common.{◌≡◌, ℕ, T, List, ◌++◌, replicate, eqb→eq}
use Rattle.semantics.proofs.Base.{and_left, and_right}
use Rattle.vectors.proofs.RoomBranches.{holds_equal}
use Rattle.vectors.specs.CallAnswer.{blank, empty, code_at, told_at, same_answer}

module _ (code : ℕ) (after told s entries : List ℕ) (h : T (same_answer code after told s entries)) where
  pub same_code : code ≡ code_at s
  unfolding same_answer
  same_code = eqb→eq code (code_at s) (search and_left)

  pub same_table : (k : ℕ) × (after ≡ entries ++ replicate k blank)
  unfolding same_answer
  same_table = holds_equal after entries blank (search (and_left, and_right))

  pub same_told : (k : ℕ) × (told ≡ told_at code s ++ replicate k empty)
  unfolding same_answer
  same_told = holds_equal told (told_at code s) empty (search (and_left, and_right))
