-- Answers that compare as the same have the stored code and the stored numbers in front of the room, and the rest of it as it was.
use Rattle.std.proofs.Common.{◌≡◌, ℕ, T, eqb, List, ◌++◌, replicate, eqb→eq}
use Rattle.semantics.proofs.Base.{and_left, and_right}
use Rattle.vectors.specs.Room.{holds}
use Rattle.vectors.proofs.RoomBranches.{holds_equal}
use Rattle.vectors.specs.BillAnswer.{blank, code_at, written_at, same_answer}

module _ (code : ℕ) (after s : List ℕ) (h : T (same_answer code after s)) where
  pub same_code : code ≡ code_at s
  unfolding same_answer
  same_code = eqb→eq code (code_at s) (and_left (eqb code (code_at s)) (holds after (written_at code s) blank) h)

  pub same_room : (k : ℕ) × (after ≡ written_at code s ++ replicate k blank)
  unfolding same_answer
  same_room = holds_equal after (written_at code s) blank (and_right (eqb code (code_at s)) (holds after (written_at code s) blank) h)
