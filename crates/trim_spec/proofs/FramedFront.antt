-- A framed record in front of other bytes.
use mathlib.Core.Path.{◌≡◌, ap, ap₂, ◌∙◌}
use mathlib.Core.List.{List, ◌∷◌, ◌++◌}
use Prim.Native.Nat.{ℕ, suc, ◌+◌, ◌-◌, ◌≤◌}
use native.Mathlib.Omega.{arith}
use lib.ListN.{length, drop, length-append}
use lib.Seq.{take_at, drop_at}
use borrow.Author.Tests.{le-ltb}
use Rattle.limits.specs.Numbers.{le16}
use Rattle.limits.proofs.Numbers.{has_all}
use Rattle.image_frames.specs.Kinds.{order}
use Rattle.image_frames.specs.Frames.{counted, admit, frame, unless_faulty, walk}
use Rattle.image_frames.specs.Records.{body, cut}
use Rattle.image_frames.specs.declared.frame.Seen.{Seen}
use Rattle.trim_spec.specs.Canonical.{Short}
use Rattle.trim_spec.specs.Encode.{Entry, framed}
use Rattle.trim_spec.specs.Framed.{Framable}
use Rattle.trim_spec.proofs.U16Bytes.{word_two}

pub framed_length : (e : Entry) → length (framed e) ≡ 4 + length e.body
unfolding framed
framed_length e = omega arith

module _ (e : Entry) (r : List ℕ) (short : Framable e.body) where
  pub front_length : le16 (framed e ++ r) ≡ 2 + length e.body
  unfolding framed
  front_length = word_two (2 + length e.body) _ (omega arith)

  pub front_rest : drop (2 + le16 (framed e ++ r)) (framed e ++ r) ≡ r
  front_rest = drop_at (framed e) r (2 + le16 (framed e ++ r)) (framed_length e ∙ (let h = front_length in omega arith))

  pub front_body : body (framed e ++ r) ≡ e.body
  unfolding body framed
  front_body = take_at e.body r (le16 (framed e ++ r) - 2) (let h = front_length in omega arith)

  pub front_kind : Short e.kind → le16 (drop 2 (framed e ++ r)) ≡ e.kind
  unfolding framed
  front_kind h = word_two e.kind (e.body ++ r) h

  -- it ends inside of the bytes, so its kind decides
  pub front_frame : (c : Seen) → Short e.kind → frame c (framed e ++ r) ≡ admit c (order e.kind)
  unfolding frame
  front_frame c h =
      let p = length-append (framed e) r in
      let q = framed_length e in
      let w = front_length in
      let t : 2 ≤ length (framed e ++ r) = omega arith in
      let l : 2 + le16 (framed e ++ r) ≤ length (framed e ++ r) = omega arith in
      rw (has_all 2 _ t, le-ltb (le16 (framed e ++ r)) 2 (omega arith), has_all (2 + le16 (framed e ++ r)) (framed e ++ r) l, front_kind h)

  pub cut_front : (k : ℕ) → cut (suc k) (framed e ++ r) ≡ e.body ∷ cut k r
  unfolding cut framed
  cut_front k = ap₂ ◌∷◌ front_body (ap (cut k) front_rest)

  pub walk_front : (k i : ℕ) (c : Seen) → Short e.kind
      → walk (suc k) i c (framed e ++ r) ≡ unless_faulty (admit c (order e.kind)) i (walk k (i + 1) (counted c (order e.kind)) r)
  unfolding walk framed
  walk_front k i c h = rw (front_frame c h, front_kind h, front_rest)
