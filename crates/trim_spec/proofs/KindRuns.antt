-- Kinds in the order of an image pass.
use mathlib.Core.Path.{◌≡◌, refl, ap, sym, ◌∙◌}
use mathlib.Core.List.{List, [], ◌∷◌, ◌++◌, append-nil}
use Prim.Native.Nat.{ℕ, zero, suc, ◌+◌, ◌-◌, ◌≤◌, ◌<◌}
use native.Mathlib.Nat.{zero-add}
use native.Mathlib.Omega.{arith}
use lib.ListN.{length, get_or, set, replicate, length-set}
use lib.Seq.{get_or-set_same, set-set}
use borrow.Author.Tests.{le-ltb, lt-ltb}
use Rattle.limits.specs.Limits as Limits
use Rattle.image_frames.specs.Kinds as Kinds
use Rattle.image_frames.specs.Kinds.{order, most}
use Rattle.image_frames.specs.Frames.{counted, admit, ended, none, sound}
use Rattle.image_frames.specs.declared.frame.Seen.{Seen}
use Rattle.trim_spec.specs.Framed.{kinds_of}
use Rattle.trim_spec.proofs.WalkByKind.{walk_kinds}
use Rattle.image_frames.specs.Fault.{passed}

pub admit_passes : (c : Seen) (p : ℕ) → p ≤ Kinds.last → c.last ≤ p → p ≤ c.last + 1 → get_or c.count p 0 < most p → admit c p ≡ passed
unfolding admit
admit_passes c p a b d h =
    let g : p - c.last ≤ 1 = omega arith in
    rw (le-ltb Kinds.last p a, le-ltb p c.last b, le-ltb 1 (p - c.last) g, lt-ltb (get_or c.count p 0) (most p) h)

-- n records more at the place p of the order
abbrev after : Seen → ℕ → ℕ → Seen
after c p n = record { last = p; count = set c.count p (get_or c.count p 0 + n) }

module _ (k p : ℕ) (o : order k ≡ p) (top : p ≤ Kinds.last) where
  step : (ks : List ℕ) (i : ℕ) (c : Seen) → c.last ≤ p → p ≤ c.last + 1 → get_or c.count p 0 < most p
      → walk_kinds i c (k ∷ ks) ≡ walk_kinds (i + 1) (counted c p) ks
  unfolding walk_kinds
  step ks i c a b h = rw (o, admit_passes c p top a b h)

  -- a run of records of one kind
  run : (n i : ℕ) (c : Seen) (ks : List ℕ) → p < length c.count → c.last ≤ p → p ≤ c.last + 1 → get_or c.count p 0 + suc n ≤ most p
      → walk_kinds i c (replicate (suc n) k ++ ks) ≡ walk_kinds (i + suc n) (after c p (suc n)) ks
  run zero i c ks l a b h = step ks i c a b (omega arith)
  run (suc n) i c ks l a b h =
      let x = get_or-set_same c.count p (get_or c.count p 0 + 1) 0 l in
      let y : get_or (counted c p).count p 0 + suc n ≡ get_or c.count p 0 + suc (suc n) = omega arith in
      let z : p < length (counted c p).count = rw length-set l in
      let j : i + 1 + suc n ≡ i + suc (suc n) = omega arith in
      step (replicate (suc n) k ++ ks) i c a b (omega arith)
      ∙ run n (i + 1) (counted c p) ks z (omega arith) (omega arith) (omega arith)
      ∙ (rw (j, y, set-set))

-- claims, of which there may be none, end the image
claims_end : (m i a b n : ℕ) → m ≤ Limits.claims
    → walk_kinds i (record { last = Kinds.obligations; count = 0 ∷ 1 ∷ a ∷ b ∷ 1 ∷ n ∷ 1 ∷ 0 ∷ [] }) (replicate m Kinds.claim)
    ≡ sound a b n m
unfolding walk_kinds ended order most
claims_end zero i a b n h = refl
claims_end (suc m) i a b n h =
    ap (walk_kinds i _) (sym (append-nil (replicate (suc m) Kinds.claim)))
    ∙ run Kinds.claim Kinds.last refl (omega arith) m i _ [] (omega arith) (omega arith) (omega arith) (omega arith)
    ∙ (rw (zero-add (suc m)))

-- the runs of an image, one after the other
pub kinds_sound : (a b n m : ℕ) → 1 ≤ a → a ≤ Limits.formulas → 1 ≤ b → b ≤ Limits.threads → 1 ≤ n → n ≤ Limits.lines → m ≤ Limits.claims
    → walk_kinds 1 none (kinds_of a b n m) ≡ sound a b n m
unfolding kinds_of most order
kinds_sound zero b n m la ha lb hb ln hn hm = elim la [ ]
kinds_sound (suc a) zero n m la ha lb hb ln hn hm = elim lb [ ]
kinds_sound (suc a) (suc b) zero m la ha lb hb ln hn hm = elim ln [ ]
kinds_sound (suc a) (suc b) (suc n) m la ha lb hb ln hn hm =
    run Kinds.header 1 refl (omega arith) 0 1 none _ (omega arith) (omega arith) (omega arith) (omega arith)
    ∙ run Kinds.formula 2 refl (omega arith) a _ _ _ (omega arith) (omega arith) (omega arith) (omega arith)
    ∙ run Kinds.thread 3 refl (omega arith) b _ _ _ (omega arith) (omega arith) (omega arith) (omega arith)
    ∙ run Kinds.outline 4 refl (omega arith) 0 _ _ _ (omega arith) (omega arith) (omega arith) (omega arith)
    ∙ run Kinds.line 5 refl (omega arith) n _ _ _ (omega arith) (omega arith) (omega arith) (omega arith)
    ∙ run Kinds.obligations 6 refl (omega arith) 0 _ _ _ (omega arith) (omega arith) (omega arith) (omega arith)
    ∙ claims_end m _ _ _ _ hm
    ∙ (simp zero-add)
