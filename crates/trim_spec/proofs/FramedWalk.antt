-- Framed records in the order of their kinds are sound frames.
use mathlib.Core.Path.{◌≡◌, refl, ap, ◌∙◌}
use mathlib.Core.List.{List, [], ◌∷◌, map}
use Prim.Native.Nat.{ℕ, zero, suc, ◌+◌, ◌≤◌}
use native.Mathlib.Omega.{arith}
use lib.ListN.{length, length-append, length-map}
use borrow.Author.Tests.{le-ltb, ne_eqb}
use Rattle.limits.specs.Limits as Limits
use Rattle.logic.specs.Obligations.{flat}
use Rattle.image_frames.specs.Kinds.{order}
use Rattle.image_frames.specs.Frames.{counted, admit, ended, unless_faulty, walk, none, frames, whole_image, sound}
use Rattle.image_frames.specs.declared.frame.Seen.{Seen}
use Rattle.trim_spec.specs.Canonical.{Each}
use Rattle.trim_spec.specs.Encode.{Entry, framed}
use Rattle.trim_spec.specs.Framed.{Framable, kinds_of, kind_of, body_of}
use Rattle.trim_spec.proofs.FramedFront.{framed_length, walk_front}
use Rattle.trim_spec.proofs.WalkByKind.{walk_kinds, next_kind, kind_small}
use Rattle.trim_spec.proofs.KindRuns.{kinds_sound}

walk_end : (k i : ℕ) (c : Seen) → walk k i c [] ≡ ended i c
unfolding walk
walk_end zero i c = refl
walk_end (suc k) i c = refl

-- where the kinds pass, so do the frames
walk_framed : (k i : ℕ) (c : Seen) (es : List Entry) (a b n m : ℕ) → length es ≤ k → Each Framable [] (map body_of es)
    → walk_kinds i c (map kind_of es) ≡ sound a b n m → walk k i c (flat framed es) ≡ walk_kinds i c (map kind_of es)
unfolding walk_kinds
walk_framed k i c [] a b n m h f e = walk_end k i c
walk_framed zero i c (x ∷ es) a b n m h f e = absurd (omega arith)
walk_framed (suc k) i c (x ∷ es) a b n m h f e =
    let q = next_kind i c x.kind (map kind_of es) a b n m e in
    let s = kind_small x.kind q.admits.known in
    walk_front x (flat framed es) (f 0 (omega arith)) k i c (omega arith)
    ∙ ap (unless_faulty (admit c (order x.kind)) i)
    (walk_framed k (i + 1) (counted c (order x.kind)) es a b n m (omega arith) (λ j l. f (suc j) (omega arith)) q.rest)

-- no more records than bytes
framed_long : (es : List Entry) → length es ≤ length (flat framed es)
framed_long [] = omega arith
framed_long (e ∷ es) = let h = framed_long es in let q = framed_length e in rw (length-append (framed e) (flat framed es)) (omega arith)

kinds_some : (es : List Entry) (a b n m : ℕ) → map kind_of es ≡ kinds_of a b n m → 1 ≤ length es
unfolding kinds_of
kinds_some es a b n m k = let q = length-map es kind_of in let h : length (map kind_of es) ≡ suc _ = ap length k in omega arith

pub frames_framed : (es : List Entry) (a b n m : ℕ) → map kind_of es ≡ kinds_of a b n m
    → 1 ≤ a → a ≤ Limits.formulas → 1 ≤ b → b ≤ Limits.threads → 1 ≤ n → n ≤ Limits.lines → m ≤ Limits.claims
    → Each Framable [] (map body_of es) → length (flat framed es) ≤ Limits.image_bytes
    → whole_image (flat framed es) ≡ sound a b n m
unfolding whole_image frames
frames_framed es a b n m k la ha lb hb ln hn hm f h =
    let q = framed_long es in
    let r = kinds_some es a b n m k in
    let z : length (flat framed es) ≡ 0 → ⊥ = omega arith in
    let e : walk_kinds 1 none (map kind_of es) ≡ sound a b n m = ap (walk_kinds 1 none) k ∙ kinds_sound a b n m la ha lb hb ln hn hm in
    rw (ne_eqb (length (flat framed es)) 0 z, le-ltb Limits.image_bytes (length (flat framed es)) h)
    (walk_framed (length (flat framed es)) 1 none es a b n m q f e ∙ e)
