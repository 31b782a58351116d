-- What is known of a record whose frame passed.
use mathlib.Core.Path.{◌≡◌, refl}
use mathlib.Core.Bool.{Bool, true, false, cond}
use mathlib.Core.List.{List}
use Prim.Native.Nat.{ℕ, ◌+◌, ◌-◌, ◌≤◌, ◌<◌}
use native.Mathlib.Omega.{arith}
use lib.Dec.{ltb}
use lib.ListN.{length, get_or, drop}
use borrow.Author.Tests.{ltb-true, ltb-false}
use Rattle.limits.specs.Numbers.{le16, has}
use Rattle.limits.proofs.Numbers.{has_true}
use Rattle.image_frames.specs.Kinds as Kinds
use Rattle.image_frames.specs.Kinds.{order, most}
use Rattle.image_frames.specs.Frames.{admit, frame}
use Rattle.image_frames.specs.declared.fault.Fault.{Fault}
use Rattle.image_frames.specs.declared.fault.Fault.TheVariants.{Length, Kind}
use Rattle.image_frames.specs.Fault.{Checked, passed}
use Rattle.std.specs.Prelude.{Err}
use Rattle.image_frames.specs.declared.frame.Seen.{Seen}

never : {Z : Type 0} (f : Fault) → ◌≡◌ {A = Checked} (Err f) passed → Z
never f h = let q : ◌≡◌ {A = ℕ} 0 1 = cc in absurd (omega arith)

-- its place is one of the order, that of the last record or the next, and there are fewer there than there may be
pub record Admitted (c : Seen) (k : ℕ) : Type 0 where
  pub known : k ≤ Kinds.last
  pub same : c.last ≤ k
  pub next : k ≤ c.last + 1
  pub few : get_or c.count k 0 < most k

pub admitted : (c : Seen) (k : ℕ) → admit c k ≡ passed → Admitted c k
unfolding admit
admitted c k = go (ltb Kinds.last k) (ltb k c.last) (ltb 1 (k - c.last)) (ltb (get_or c.count k 0) (most k)) refl refl refl refl
  where
    go : (p q r t : Bool) → ltb Kinds.last k ≡ p → ltb k c.last ≡ q → ltb 1 (k - c.last) ≡ r → ltb (get_or c.count k 0) (most k) ≡ t
        → cond p (Err Kind) (cond q (Err Kind) (cond r (Err Kind) (cond t passed (Err Kind)))) ≡ passed → Admitted c k
    go true q r t d l n e h = never Kind h
    go false true r t d l n e h = never Kind h
    go false false true t d l n e h = never Kind h
    go false false false true d l n e h =
        let g = ltb-false 1 (k - c.last) n in
        let f = ltb-true (get_or c.count k 0) (most k) e in
        record { known = ltb-false Kinds.last k d; same = ltb-false k c.last l; next = omega arith; few = f }
    go false false false false d l n e h = never Kind h

-- and its length counts its kind and ends inside of the bytes
pub record Framed (c : Seen) (l : List ℕ) : Type 0 where
  pub kinded : 2 ≤ le16 l
  pub inside : 2 + le16 l ≤ length l
  pub admits : Admitted c (order (le16 (drop 2 l)))

pub framed : (c : Seen) (l : List ℕ) → frame c l ≡ passed → Framed c l
unfolding frame
framed c l = go (has 2 l) (ltb (le16 l) 2) (has (2 + le16 l) l) refl refl
  where
    go : (i j m : Bool) → ltb (le16 l) 2 ≡ j → has (2 + le16 l) l ≡ m
        → cond i (cond j (Err Length) (cond m (admit c (order (le16 (drop 2 l)))) (Err Length))) (Err Length) ≡ passed
        → Framed c l
    go true true m e d h = never Length h
    go true false true e d h =
        let a = admitted c (order (le16 (drop 2 l))) h in
        record { kinded = ltb-false (le16 l) 2 e; inside = has_true (2 + le16 l) l d; admits = a }
    go true false false e d h = never Length h
    go false j m e d h = never Length h
