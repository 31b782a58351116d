-- The records that a sound walk has passed, taken from the bytes.
use mathlib.Core.Path.{◌≡◌, refl, ap, ◌∙◌}
use mathlib.Core.List.{List, [], ◌∷◌, ◌++◌, map}
use Prim.Native.Nat.{ℕ, zero, suc, ◌+◌, ◌-◌, ◌≤◌}
use native.Mathlib.Omega.{arith}
use lib.ListN.{length, drop, length-take, length-drop, take-append-drop}
use lib.Seq.{drop-drop}
use Rattle.limits.specs.Numbers.{le16}
use Rattle.logic.specs.Obligations.{flat}
use Rattle.image_frames.specs.Kinds.{order}
use Rattle.image_frames.specs.Frames.{counted, frame, ended, walk, sound}
use Rattle.image_frames.specs.Records.{body}
use Rattle.image_frames.specs.declared.frame.Seen.{Seen}
use Rattle.image_frames.proofs.PassedFrame as Passed
use Rattle.image_frames.proofs.KindCounts.{passed_sound}
use Rattle.verdict_record.specs.Record.{two}
use Rattle.trim_spec.specs.Canonical.{Each, Bytes, Byte}
use Rattle.trim_spec.specs.Encode.{Entry, entry, framed}
use Rattle.trim_spec.specs.Framed.{Framable, kind_of, body_of}
use Rattle.trim_spec.proofs.EachMember.{each_nil, each_cons, each_take, each_drop}
use Rattle.trim_spec.proofs.U16Bytes.{two_word, word_front}
use Rattle.trim_spec.proofs.WalkByKind.{walk_kinds}
use Rattle.trim_spec.proofs.KindRuns.{admit_passes}

-- the record in front
abbrev front : List ℕ → Entry
front l = entry (le16 (drop 2 l)) (body l)

module _ (l : List ℕ) (kinded : 2 ≤ le16 l) (inside : 2 + le16 l ≤ length l) (bytes : Bytes l) where
  front_length : length (body l) ≡ le16 l - 2
  unfolding body
  front_length = omega (arith, length-take (le16 l - 2) (drop 4 l), length-drop 4 l)

  front_short : Framable (body l)
  front_short = let p = front_length in let q = word_front l bytes in omega arith

  front_bytes : Bytes (body l)
  unfolding body
  front_bytes = each_take Byte 0 (le16 l - 2) (drop 4 l) (each_drop Byte 0 4 l bytes)

  front_whole : framed (front l) ++ drop (2 + le16 l) l ≡ l
  unfolding framed body
  front_whole =
      let p = front_length in
      let w : 2 + length (body l) ≡ le16 l = omega arith in
      let t : 4 + (le16 l - 2) ≡ 2 + le16 l = omega arith in
      let d : drop (le16 l - 2) (drop 4 l) ≡ drop (2 + le16 l) l = drop-drop (le16 l - 2) 4 l ∙ ap (λ (n : ℕ). drop n l) t in
      let r : body l ++ drop (2 + le16 l) l ≡ drop 2 (drop 2 l) = rw (← d, take-append-drop, drop-drop 2 2 l) in
      let q : 2 ≤ length (drop 2 l) = rw (length-drop 2 l) (omega arith) in
      ap (λ (n : ℕ). two n ++ (two (le16 (drop 2 l)) ++ (body l ++ drop (2 + le16 l) l))) w
      ∙ ap (λ (z : List ℕ). two (le16 l) ++ (two (le16 (drop 2 l)) ++ z)) r
      ∙ ap (λ (z : List ℕ). two (le16 l) ++ z) (two_word (drop 2 l) q (each_drop Byte 0 2 l bytes))
      ∙ two_word l (omega arith) bytes

-- records whose bytes these are, and whose kinds have the same sound walk
pub record Taken (i : ℕ) (c : Seen) (l : List ℕ) (a b n m : ℕ) : Type 0 where
  pub records : List Entry
  pub whole : flat framed records ≡ l
  pub kinds : walk_kinds i c (map kind_of records) ≡ sound a b n m
  pub short : Each Framable [] (map body_of records)
  pub bytes : Each Bytes [] (map body_of records)

-- one record more in front
taken_front : (i : ℕ) (c : Seen) (l : List ℕ) (a b n m : ℕ) → Bytes l → Passed.Framed c l
    → Taken (i + 1) (counted c (order (le16 (drop 2 l)))) (drop (2 + le16 l) l) a b n m → Taken i c l a b n m
unfolding walk_kinds
taken_front i c l a b n m h f t =
    let o = f.admits in
    let p = admit_passes c (order (le16 (drop 2 l))) o.known o.same o.next o.few in
    record {
      records = front l ∷ t.records;
      whole = ap (λ (z : List ℕ). framed (front l) ++ z) t.whole ∙ front_whole l f.kinded f.inside h;
      kinds = rw p t.kinds;
      short = each_cons Framable [] (body l) (map body_of t.records) (front_short l f.kinded f.inside h) t.short;
      bytes = each_cons Bytes [] (body l) (map body_of t.records) (front_bytes l f.kinded f.inside h) t.bytes;
    }

taken_none : (i : ℕ) (c : Seen) (a b n m : ℕ) → ended i c ≡ sound a b n m → Taken i c [] a b n m
unfolding walk_kinds
taken_none i c a b n m e = record { records = []; whole = refl; kinds = e; short = each_nil Framable []; bytes = each_nil Bytes [] }

pub taken : (k i : ℕ) (c : Seen) (l : List ℕ) (a b n m : ℕ) → length l ≤ k → Bytes l → walk k i c l ≡ sound a b n m → Taken i c l a b n m
unfolding walk
taken zero i c [] a b n m g h e = taken_none i c a b n m e
taken zero i c (x ∷ l) a b n m g h e = absurd (omega arith)
taken (suc k) i c [] a b n m g h e = taken_none i c a b n m e
taken (suc k) i c (x ∷ l) a b n m g h e =
    let d = drop (2 + le16 (x ∷ l)) (x ∷ l) in
    let p = passed_sound (frame c (x ∷ l)) (walk k (i + 1) (counted c (order (le16 (drop 2 (x ∷ l))))) d) i a b n m e in
    let q : length d ≤ k = rw (length-drop (2 + le16 (x ∷ l)) (x ∷ l)) (omega arith) in
    taken_front i c (x ∷ l) a b n m h (Passed.framed c (x ∷ l) p.0)
    (taken k (i + 1) (counted c (order (le16 (drop 2 (x ∷ l))))) d a b n m q (each_drop Byte 0 (2 + le16 (x ∷ l)) (x ∷ l) h) p.1)
