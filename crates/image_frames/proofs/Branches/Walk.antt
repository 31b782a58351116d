-- The walk over all frames.
use Prim.Native.Nat.{ℕ, zero, suc, ◌+◌, ◌-◌, ◌≤◌, ◌<◌}
use mathlib.Core.Path.{◌≡◌, refl, ap, sym, ◌∙◌, subst}
use mathlib.Core.List.{List, [], ◌∷◌}
use native.Mathlib.Numerals.{sub-one}
use native.Mathlib.Omega.{arith}
use lib.ListN.{length, get_or, drop, set, drop_of_length-le, length-drop, length-set}
use lib.Seq.{drop-drop}
use Rattle.limits.specs.Numbers.{le16}
use Rattle.image_frames.proofs.PassedFrame.{Admitted, framed}
use Rattle.image_frames.proofs.Branches.Frame.{room}
use Rattle.image_frames.specs.Kinds.{order}
use Rattle.image_frames.specs.Frames.{Framing, refused, counted, frame, ended, unless_faulty, walk, none, frames}
use Rattle.image_frames.specs.declared.fault.Fault.{Fault}
use Rattle.image_frames.specs.Fault.{Checked, passed}
use Rattle.std.specs.Prelude.{Err}
use Rattle.image_frames.specs.declared.frame.Seen.{Seen}

walk_end : (k i : ℕ) (c : Seen) → walk k i c [] ≡ ended i c
unfolding walk
walk_end zero i c = refl
walk_end (suc k) i c = refl

walk_cons : (k i : ℕ) (c : Seen) (l : List ℕ) → 0 < k → 0 < length l
    → walk k i c l ≡ unless_faulty (frame c l) i (walk (k - 1) (i + 1) (counted c (order (le16 (drop 2 l)))) (drop (2 + le16 l) l))
unfolding walk
walk_cons zero i c l h g = absurd (omega arith)
walk_cons (suc k) i c [] h g = absurd (omega arith)
walk_cons (suc k) i c (x ∷ l) h g = rw (sub-one (suc k))

-- the frame passed: the record ends inside, its kind has a place among the counts, and one more is a number that fits
module _ (s : List ℕ) (at : ℕ) (c : Seen) (f : Checked) (e : f ≡ frame c (drop at s)) (z : f ≡ passed) where
  pub frame_fits : (n : ℕ) → at < length s → n ≡ le16 (drop at s) → at + (2 + n) ≤ length s
  frame_fits n lt d = omega (arith, (framed c (drop at s) (sym e ∙ z)).inside, length-drop at s)

  module _ (w k : ℕ) (d : w ≡ le16 (drop (at + 2) s)) (o : k ≡ order w) where
    admits_it : Admitted c k
    admits_it = subst (Admitted c) (ap (λ (l : List ℕ). order (le16 l)) (drop-drop 2 at s) ∙ ap order (sym d) ∙ sym o)
        (framed c (drop at s) (sym e ∙ z)).admits

    pub kind_known : k < 8
    kind_known = omega (arith, admits_it.known)

    pub kind_room : get_or c.count k 0 + 1 < 65536
    kind_room = room c.count k admits_it.few

module _ (s : List ℕ) (at i : ℕ) (c : Seen) (f : Checked) (lt : at < length s) (low : 1 ≤ i) (le : i ≤ at + 1)
    (e : f ≡ frame c (drop at s)) where
  step : walk (length s + 1 - i) i c (drop at s) ≡ unless_faulty f i
      (walk (length s + 1 - i - 1) (i + 1) (counted c (order (le16 (drop 2 (drop at s))))) (drop (2 + le16 (drop at s)) (drop at s)))
  step =
      let q : 0 < length (drop at s) = rw (length-drop at s) (omega arith) in
      let p : 0 < length s + 1 - i = omega arith in
      rw e (walk_cons (length s + 1 - i) i c (drop at s) p q)

  pub walk_stop : (b : Fault) → frames s ≡ walk (length s + 1 - i) i c (drop at s) → f ≡ Err b → refused b i ≡ frames s
  walk_stop b h z = sym (h ∙ step ∙ (rw z))

  pub walk_more : (w k n : ℕ) → frames s ≡ walk (length s + 1 - i) i c (drop at s) → f ≡ passed → w ≡ le16 (drop (at + 2) s) → k ≡ order w
      → n ≡ le16 (drop at s)
      → frames s ≡ walk (length s + 1 - (i + 1)) (i + 1) (counted c k) (drop (at + (2 + n)) s)
  walk_more w k n h z ew ek en =
      let p : length s + 1 - i - 1 ≡ length s + 1 - (i + 1) = omega arith in
      h ∙ step ∙ (rw (z, p, drop-drop 2 at s, ← ew, ← ek, ← en, drop-drop (2 + n) at s))

pub walk_start : (s : List ℕ) → frames s ≡ walk (length s + 1 - 1) 1 none (drop 0 s)
unfolding frames
walk_start s = let p : length s + 1 - 1 ≡ length s = omega arith in rw p

pub walk_last : (s : List ℕ) (at i : ℕ) (c : Seen) (r : Framing) → length s ≤ at → frames s ≡ walk (length s + 1 - i) i c (drop at s)
    → r ≡ ended i c → r ≡ frames s
walk_last s at i c r h e d = rw (e, drop_of_length-le s h, walk_end) d

pub ruleset walk_frames_branches = (frame_fits, kind_known, kind_room, walk_start, walk_stop, walk_more, walk_last)

pub long : (l : List ℕ) (i v n : ℕ) → length l ≡ n → length (set l i v) ≡ n
long l i v n e = length-set l i v ∙ e
