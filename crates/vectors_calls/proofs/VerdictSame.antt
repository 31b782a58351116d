-- A verdict that compares as the same has the stored code, and its buffer holds the frame of a verdict, the stored numbers byte by byte,
-- and behind them what stood there before.
use mathlib.Core.Path.{◌≡◌}
use mathlib.Core.Bool.{◌&&◌}
use mathlib.Core.List.{List, ◌++◌}
use Prim.Native.Nat.{ℕ}
use lib.Dec.{T, eqb, eqb→eq}
use lib.ListN.{take, drop, replicate}
use Rattle.semantics.proofs.Base.{and_left, and_right}
use Rattle.limits.specs.Numbers.{le16}
use Rattle.vectors.specs.Room.{holds}
use Rattle.vectors.proofs.RoomBranches.{holds_equal}
use Rattle.vectors_calls.specs.VerdictAnswer.{blank, frame, is_framed, same_record}

module _ (code : ℕ) (after s : List ℕ) (h : T (same_record code after s)) where
  pub same_code : code ≡ le16 s
  unfolding same_record
  same_code = eqb→eq code (le16 s) (and_left (eqb code (le16 s)) (is_framed after && holds (drop 4 after) s blank) h)

  compared : T (is_framed after && holds (drop 4 after) s blank)
  unfolding same_record
  compared = and_right (eqb code (le16 s)) (is_framed after && holds (drop 4 after) s blank) h

  pub same_frame : (k : ℕ) × (take 4 after ≡ frame ++ replicate k 0)
  unfolding is_framed
  same_frame = holds_equal (take 4 after) frame 0 (and_left (is_framed after) (holds (drop 4 after) s blank) compared)

  pub same_numbers : (k : ℕ) × (drop 4 after ≡ s ++ replicate k blank)
  same_numbers = holds_equal (drop 4 after) s blank (and_right (is_framed after) (holds (drop 4 after) s blank) compared)
