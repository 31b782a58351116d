-- The frame of one record, as the code tests it.
use Prim.Native.Nat.{ℕ, zero, suc, ◌+◌, ◌-◌, ◌≤◌, ◌<◌}
use mathlib.Core.Path.{◌≡◌}
use mathlib.Core.List.{List}
use mathlib.Core.Bool.{true}
use native.Mathlib.Omega.{arith}
use lib.ListN.{length, get_or, drop, length-drop, drop_of_length-le}
use lib.Seq.{drop-drop}
use borrow.Author.Tests.{lt-ltb, le-ltb}
use Rattle.limits.specs.Numbers.{le16, has}
use Rattle.limits.proofs.Numbers.{has_all, has-not}
use Rattle.image_frames.specs.Kinds.{order, most}
use Rattle.image_frames.specs.Frames.{admit, frame}
use Rattle.image_frames.specs.declared.fault.Fault.TheVariants.{Length}
use Rattle.image_frames.specs.declared.frame.Seen.{Seen}
use Rattle.image_frames.specs.Fault.{Checked}
use Rattle.std.specs.Prelude.{Err}

-- one record more is a number that fits
pub most_small : (k : ℕ) → most k ≤ 65535
unfolding most
most_small zero = omega arith
most_small (suc zero) = omega arith
most_small (suc (suc zero)) = omega arith
most_small (suc (suc (suc zero))) = omega arith
most_small (suc (suc (suc (suc zero)))) = omega arith
most_small (suc (suc (suc (suc (suc zero))))) = omega arith
most_small (suc (suc (suc (suc (suc (suc zero)))))) = omega arith
most_small (suc (suc (suc (suc (suc (suc (suc zero))))))) = omega arith
most_small (suc (suc (suc (suc (suc (suc (suc (suc k)))))))) = omega arith

pub room : (c : List ℕ) (k : ℕ) → get_or c k 0 < most k → get_or c k 0 + 1 < 65536
room c k h = omega (arith, most_small k)

module _ (s : List ℕ) (at : ℕ) (c : Seen) where
  pub frame_none : length s ≤ at → Err Length ≡ frame c (drop at s)
  unfolding frame has
  frame_none h = rw (drop_of_length-le s h)

  pub frame_short : length s - at < 2 → Err Length ≡ frame c (drop at s)
  unfolding frame
  frame_short h = let q : length (drop at s) < 2 = rw (length-drop at s) h in rw (has-not 2 (drop at s) q)

  module _ (n : ℕ) (h : 2 ≤ length s - at) (e : n ≡ le16 (drop at s)) where
    two : has 2 (drop at s) ≡ true
    two = has_all 2 (drop at s) (rw (length-drop at s) h)

    pub frame_under : n < 2 → Err Length ≡ frame c (drop at s)
    unfolding frame
    frame_under g = rw (two, ← e, lt-ltb _ _ g)

    pub frame_past : 2 ≤ n → length s - at - 2 < n → Err Length ≡ frame c (drop at s)
    unfolding frame
    frame_past g p =
        let q : length (drop at s) < 2 + n = rw (length-drop at s) (omega arith) in
        rw (two, ← e, le-ltb _ _ g, has-not (2 + n) (drop at s) q)

    pub frame_kind : (k o : ℕ) (f : Checked) → 2 ≤ n → n ≤ length s - at - 2 → k ≡ le16 (drop (at + 2) s) → o ≡ order k → f ≡ admit c o
        → f ≡ frame c (drop at s)
    unfolding frame
    frame_kind k o f g p ek eo ef =
        let q : 2 + n ≤ length (drop at s) = rw (length-drop at s) (omega arith) in
        rw (two, ← e, le-ltb _ _ g, has_all (2 + n) (drop at s) q, drop-drop 2 at s, ← ek, ← eo) ef

pub ruleset frame_at_branches = (frame_none, frame_short, frame_under, frame_past, frame_kind)
