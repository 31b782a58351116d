-- Answers that compare as the same have the stored code and length, the stored bytes in front of the room, and the rest of it as it was.
use Rattle.std.proofs.Common.{◌≡◌, ℕ, T, List, ◌++◌, length, replicate, eqb→eq}
use Rattle.semantics.proofs.Base.{and_left, and_right}
use Rattle.vectors.proofs.RoomBranches.{holds_equal}
use Rattle.vectors.specs.TrimAnswer.{blank, code_at, same_answer}

module _ (code written : ℕ) (after s trimmed : List ℕ) (h : T (same_answer code written after s trimmed)) where
  pub same_code : code ≡ code_at s
  unfolding same_answer
  same_code = eqb→eq code (code_at s) (search and_left)

  pub same_length : written ≡ length trimmed
  unfolding same_answer
  same_length = eqb→eq written (length trimmed) (search (and_left, and_right))

  pub same_room : (k : ℕ) × (after ≡ trimmed ++ replicate k blank)
  unfolding same_answer
  same_room = holds_equal after trimmed blank (search (and_left, and_right))
