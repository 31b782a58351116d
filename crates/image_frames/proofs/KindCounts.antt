-- Of each kind there are no more records than there may be.
use mathlib.Core.Path.{◌≡◌, refl, ap, sym, subst}
use mathlib.Core.Bool.{Bool, true, false, cond}
use mathlib.Core.List.{List, [], ◌∷◌}
use Prim.Native.Nat.{ℕ, zero, suc, ◌+◌, ◌≤◌, ◌<◌}
use native.Mathlib.Omega.{arith}
use lib.Dec.{eqb, ltb}
use lib.ListN.{length, get_or, drop, set}
use lib.Seq.{get_or-set_other}
use borrow.Author.Tests.{eqb-true, eqb-false, ltb-false}
use Rattle.limits.specs.Limits as Limits
use Rattle.limits.specs.Numbers.{le16}
use Rattle.image_frames.specs.Kinds as Kinds
use Rattle.image_frames.specs.Kinds.{order, most}
use Rattle.image_frames.specs.declared.fault.Fault.{Fault}
use Rattle.image_frames.specs.declared.fault.Fault.TheVariants.{Size, Kind}
use Rattle.image_frames.specs.Fault.{Checked, passed}
use Rattle.std.specs.Prelude.{Ok, Err}
use Rattle.image_frames.specs.declared.frame.Seen.{Seen}
use Rattle.image_frames.specs.declared.walk.RecordCounts.{RecordCounts}
use Rattle.image_frames.proofs.PassedFrame.{framed}
use Rattle.image_frames.specs.Frames.{Framing, refused, sound, counted, frame, ended, unless_faulty, walk, none, frames, whole_image}

-- what was written is read, or nothing
read_set : (l : List ℕ) (k v : ℕ) → get_or (set l k v) k 0 ≤ v
read_set [] k v = omega arith
read_set (x ∷ l) zero v = omega arith
read_set (x ∷ l) (suc k) v = read_set l k v

abbrev Few : Seen → Type 0
Few c = (k : ℕ) → get_or c.count k 0 ≤ most k

-- a record that passes keeps it so

one_more : (c : Seen) (k : ℕ) → Few c → get_or c.count k 0 < most k → Few (counted c k)
one_more c k h b j = at (eqb j k) refl
  where
    at : (e : Bool) → eqb j k ≡ e → get_or (counted c k).count j 0 ≤ most j
    at true e =
        let q = eqb-true j k e in
        let m : get_or (counted c k).count k 0 ≤ most k = omega (arith, read_set c.count k (get_or c.count k 0 + 1)) in
        subst (λ (i : ℕ). get_or (counted c k).count i 0 ≤ most i) (sym q) m
    at false e = subst (λ (n : ℕ). n ≤ most j) (sym (get_or-set_other c.count k j (get_or c.count k 0 + 1) 0 (eqb-false j k e))) (h j)

frame_keeps : (c : Seen) (l : List ℕ) → Few c → frame c l ≡ passed → Few (counted c (order (le16 (drop 2 l))))
frame_keeps c l h e = one_more c (order (le16 (drop 2 l))) h (framed c l e).admits.few

pub refused_sound : {Z : Type 0} (f : Fault) (i a b n m : ℕ) → refused f i ≡ sound a b n m → Z
refused_sound f i a b n m e = let q : ◌≡◌ {A = ℕ} 0 1 = cc in absurd (omega arith)

-- no more formulas, lines and claims than an image may have
pub record Counts (a n m : ℕ) : Type 0 where
  pub formulas : a ≤ Limits.formulas
  pub lines : n ≤ Limits.lines
  pub claims : m ≤ Limits.claims

-- the counts of sound frames
unfoldable pub counts_of : Framing → RecordCounts
counts_of (Ok c) = c
counts_of (Err _) = record { formulas = 0; threads = 0; lines = 0; claims = 0 }

ended_few : (i : ℕ) (c : Seen) → Few c → (a b n m : ℕ) → ended i c ≡ sound a b n m → Counts a n m
unfolding ended most counts_of
ended_few i c h a b n m = go (ltb c.last Kinds.obligations)
  where
    go : (p : Bool) → cond p (refused Kind i) (sound (get_or c.count Kinds.formula 0) (get_or c.count Kinds.thread 0)
        (get_or c.count Kinds.line 0) (get_or c.count Kinds.last 0)) ≡ sound a b n m
        → Counts a n m
    go false e =
        let f : get_or c.count Kinds.formula 0 ≡ a = ap (λ r. (counts_of r).formulas) e in
        let q : get_or c.count Kinds.line 0 ≡ n = ap (λ r. (counts_of r).lines) e in
        let r : get_or c.count Kinds.last 0 ≡ m = ap (λ r. (counts_of r).claims) e in
        record { formulas = omega (arith, h Kinds.formula); lines = omega (arith, h Kinds.line); claims = omega (arith, h Kinds.last) }
    go true e = refused_sound Kind i a b n m e

pub passed_sound : (f : Checked) (g : Framing) (i a b n m : ℕ) → unless_faulty f i g ≡ sound a b n m → (f ≡ passed) × (g ≡ sound a b n m)
passed_sound (Ok _) g i a b n m e = (refl, e)
passed_sound (Err f) g i a b n m e = refused_sound f i a b n m e

walk_few : (k i : ℕ) (c : Seen) (l : List ℕ) → Few c → (a b n m : ℕ) → walk k i c l ≡ sound a b n m → Counts a n m
unfolding walk
walk_few zero i c l h a b n m e = ended_few i c h a b n m e
walk_few (suc k) i c [] h a b n m e = ended_few i c h a b n m e
walk_few (suc k) i c (x ∷ l) h a b n m e =
    let p = passed_sound (frame c (x ∷ l)) (walk k (i + 1) (counted c (order (le16 (drop 2 (x ∷ l))))) (drop (2 + le16 (x ∷ l)) (x ∷ l)))
    i a b n m e in
    walk_few k (i + 1) (counted c (order (le16 (drop 2 (x ∷ l))))) (drop (2 + le16 (x ∷ l)) (x ∷ l)) (frame_keeps c (x ∷ l) h p.0) a b
    n m p.1

none_few : Few none
unfolding most
none_few zero = omega arith
none_few (suc zero) = omega arith
none_few (suc (suc zero)) = omega arith
none_few (suc (suc (suc zero))) = omega arith
none_few (suc (suc (suc (suc zero)))) = omega arith
none_few (suc (suc (suc (suc (suc zero))))) = omega arith
none_few (suc (suc (suc (suc (suc (suc zero)))))) = omega arith
none_few (suc (suc (suc (suc (suc (suc (suc zero))))))) = omega arith
none_few (suc (suc (suc (suc (suc (suc (suc (suc k)))))))) = omega arith

-- a sound image is not too long, and its walk is sound
pub record Walked (s : List ℕ) (a b n m : ℕ) : Type 0 where
  pub few : length s ≤ Limits.image_bytes
  pub walks : walk (length s) 1 none s ≡ sound a b n m

pub image_walked : (s : List ℕ) (a b n m : ℕ) → whole_image s ≡ sound a b n m → Walked s a b n m
unfolding whole_image frames
image_walked s a b n m = go (eqb (length s) 0) (ltb Limits.image_bytes (length s)) refl
  where
    go : (p q : Bool) → ltb Limits.image_bytes (length s) ≡ q
        → cond p (refused Size 0) (cond q (refused Size 0) (walk (length s) 1 none s)) ≡ sound a b n m → Walked s a b n m
    go true q d e = refused_sound Size 0 a b n m e
    go false true d e = refused_sound Size 0 a b n m e
    go false false d e = record { few = ltb-false Limits.image_bytes (length s) d; walks = e }

pub counts_few : (s : List ℕ) (a b n m : ℕ) → whole_image s ≡ sound a b n m → Counts a n m
counts_few s a b n m e = walk_few (length s) 1 none s none_few a b n m (image_walked s a b n m e).walks
