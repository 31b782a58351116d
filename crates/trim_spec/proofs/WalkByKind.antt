-- The walk over an image's frames by the kinds of its records alone.
use mathlib.Core.Path.{◌≡◌, refl}
use mathlib.Core.Bool.{Bool, true, false, cond}
use mathlib.Core.List.{List, [], ◌∷◌}
use Prim.Native.Nat.{ℕ, ◌+◌, ◌≤◌}
use native.Mathlib.Omega.{arith}
use lib.Dec.{eqb, ltb}
use borrow.Author.Tests.{eqb-true, ltb-false, ne_eqb}
use Rattle.image_frames.specs.Kinds as Kinds
use Rattle.image_frames.specs.Kinds.{order}
use Rattle.image_frames.specs.Frames.{counted, admit, ended, unless_faulty, Framing, sound}
use Rattle.image_frames.specs.declared.frame.Seen.{Seen}
use Rattle.image_frames.proofs.PassedFrame.{Admitted, admitted}
use Rattle.image_frames.proofs.KindCounts.{passed_sound}

unfoldable pub walk_kinds : ℕ → Seen → List ℕ → Framing
walk_kinds i c [] = ended i c
walk_kinds i c (k ∷ ks) = unless_faulty (admit c (order k)) i (walk_kinds (i + 1) (counted c (order k)) ks)

-- the first kind of a sound walk, and the walk behind it
pub record Next (i : ℕ) (c : Seen) (k : ℕ) (ks : List ℕ) (a b n m : ℕ) : Type 0 where
  pub admits : Admitted c (order k)
  pub rest : walk_kinds (i + 1) (counted c (order k)) ks ≡ sound a b n m

pub next_kind : (i : ℕ) (c : Seen) (k : ℕ) (ks : List ℕ) (a b n m : ℕ) → walk_kinds i c (k ∷ ks) ≡ sound a b n m → Next i c k ks a b n m
unfolding walk_kinds
next_kind i c k ks a b n m h =
    let p = passed_sound (admit c (order k)) (walk_kinds (i + 1) (counted c (order k)) ks) i a b n m h in
    record { admits = admitted c (order k) p.0; rest = p.1 }

-- the kind at a place of the order
unfoldable pub kind_at : ℕ → ℕ
kind_at p = cond (eqb p Kinds.last) Kinds.claim p

pub kind-at : (k : ℕ) → order k ≤ Kinds.last → k ≡ kind_at (order k)
unfolding order kind_at
kind-at k = go (eqb k Kinds.claim) (ltb Kinds.obligations k) refl refl
  where
    go : (p q : Bool) → eqb k Kinds.claim ≡ p → ltb Kinds.obligations k ≡ q
        → cond p Kinds.last (cond q (Kinds.last + 1) k) ≤ Kinds.last → k ≡ kind_at (cond p Kinds.last (cond q (Kinds.last + 1) k))
    go true q d e h = eqb-true k Kinds.claim d
    go false true d e h = absurd (omega arith)
    go false false d e h =
        let g = ltb-false Kinds.obligations k e in
        let z : k ≡ Kinds.last → ⊥ = omega arith in
        rw (ne_eqb k Kinds.last z)

pub kind_small : (k : ℕ) → order k ≤ Kinds.last → k ≤ Kinds.claim
unfolding kind_at
kind_small k h = rw (kind-at k h) (go (eqb (order k) Kinds.last))
  where
    go : (p : Bool) → cond p Kinds.claim (order k) ≤ Kinds.claim
    go true = omega arith
    go false = omega arith
