-- Kinds that pass are those of an image in their order.
use mathlib.Core.Path.{◌≡◌, refl, ap, sym, ◌∙◌}
use mathlib.Core.Bool.{Bool, true, false}
use mathlib.Core.List.{List, [], ◌∷◌, ◌++◌, append-nil}
use Prim.Native.Nat.{ℕ, zero, suc, ◌+◌, ◌≤◌, ◌<◌}
use native.Mathlib.Omega.{arith}
use lib.Dec.{eqb}
use lib.ListN.{get_or, replicate}
use borrow.Author.Tests.{eqb-true, eqb-false}
use Rattle.image_frames.specs.Kinds as Kinds
use Rattle.image_frames.specs.Kinds.{order, most}
use Rattle.image_frames.specs.Frames.{counted, none, sound}
use Rattle.image_frames.specs.declared.frame.Seen.{Seen}
use Rattle.trim_spec.specs.Framed.{kinds_of, Numbered}
use Rattle.trim_spec.proofs.WalkByKind.{walk_kinds, kind_at, kind-at}
use Rattle.trim_spec.proofs.WalkPassed.{Passes, final, passing}
use Rattle.trim_spec.proofs.KindCounts.{number, number_same, number_other, final_number, final_few, past, some}

-- as many of each kind as there are, from the place q on
unfoldable runs : ℕ → ℕ → List ℕ → List ℕ
runs zero q ks = []
runs (suc d) q ks = replicate (number q ks) (kind_at q) ++ runs d (suc q) ks

runs_later : (d q k : ℕ) (ks : List ℕ) → order k < q → runs d q (k ∷ ks) ≡ runs d q ks
unfolding runs
runs_later zero q k ks h = refl
runs_later (suc d) q k ks h =
    let z : q ≡ order k → ⊥ = omega arith in
    rw (number_other q k ks z, runs_later d (suc q) k ks (omega arith))

-- where none is before the first kind, that one comes first
runs_front : (d q k : ℕ) (ks : List ℕ) → q ≤ order k → order k < q + d → order k ≤ Kinds.last → ((j : ℕ) → j < order k → number j ks ≡ 0)
    → runs d q (k ∷ ks) ≡ k ∷ runs d q ks
unfolding runs
runs_front zero q k ks l h o f = absurd (omega arith)
runs_front (suc d) q k ks l h o f = go (eqb q (order k)) refl (λ b. runs_front d (suc q) k ks b (omega arith) o f)
  where
    go : (b : Bool) → eqb q (order k) ≡ b → (q < order k → runs d (suc q) (k ∷ ks) ≡ k ∷ runs d (suc q) ks)
        → replicate (number q (k ∷ ks)) (kind_at q) ++ runs d (suc q) (k ∷ ks)
        ≡ k ∷ (replicate (number q ks) (kind_at q) ++ runs d (suc q) ks)
    go true e g =
        let z = eqb-true q (order k) e in
        let t : kind_at q ≡ k = ap kind_at z ∙ sym (kind-at k o) in
        rw (number_same q k ks z, runs_later d (suc q) k ks (omega arith), t)
    go false e g =
        let z = eqb-false q (order k) e in
        let b : q < order k = omega arith in
        rw (number_other q k ks z, f q b, g b)

-- kinds that pass are the runs of the eight places
in_order : (c : Seen) (ks : List ℕ) → Passes c ks → runs 8 0 ks ≡ ks
unfolding runs number
in_order c [] p = refl
in_order c (k ∷ ks) p =
    let o = p.0.known in
    runs_front 8 0 k ks (omega arith) (omega arith) o (λ j b. past j (counted c (order k)) ks p.1 b)
    ∙ ap (◌∷◌ k) (in_order (counted c (order k)) ks p.1)

-- from the start, the numbers are the counts at the end
module _ (ks : List ℕ) (p : Passes none ks) (j : ℕ) where
  total : get_or (final none ks).count j 0 ≡ get_or none.count j 0 + number j ks
  total = final_number j none ks refl p

  few : get_or none.count j 0 ≤ most j → get_or (final none ks).count j 0 ≤ most j
  few = final_few j none ks refl p

pub record Ordered (ks : List ℕ) (a b n m : ℕ) : Type 0 where
  pub kinds : ks ≡ kinds_of a b n m
  pub numbered : Numbered a b n m

pub kinds_ordered : (ks : List ℕ) (a b n m : ℕ) → walk_kinds 1 none ks ≡ sound a b n m → Ordered ks a b n m
unfolding kinds_of runs kind_at most
kinds_ordered ks a b n m e =
    let p = passing 1 none ks a b n m e in
    let q = p.passes in
    let k₀ : number 0 ks ≡ 0 = omega (arith, total ks q 0, few ks q 0 (omega arith)) in
    let k₁ : number 1 ks ≡ 1 = omega (arith, total ks q 1, few ks q 1 (omega arith), some 1 none ks q (omega arith) (omega arith)) in
    let k₂ : number 2 ks ≡ a = omega (arith, total ks q 2, p.formulas) in
    let k₃ : number 3 ks ≡ b = omega (arith, total ks q 3, p.threads) in
    let k₄ : number 4 ks ≡ 1 = omega (arith, total ks q 4, few ks q 4 (omega arith), some 4 none ks q (omega arith) (omega arith)) in
    let k₅ : number 5 ks ≡ n = omega (arith, total ks q 5, p.lines) in
    let k₆ : number 6 ks ≡ 1 = omega (arith, total ks q 6, few ks q 6 (omega arith), some 6 none ks q (omega arith) (omega arith)) in
    let k₇ : number 7 ks ≡ m = omega (arith, total ks q 7, p.claims) in
    record {
      kinds = sym (in_order none ks q) ∙ (rw (k₀, k₁, k₂, k₃, k₄, k₅, k₆, k₇, append-nil));
      numbered = record {
        formula = omega (arith, some 2 none ks q (omega arith) (omega arith));
        formulas = omega (arith, p.formulas, few ks q 2 (omega arith));
        thread = omega (arith, some 3 none ks q (omega arith) (omega arith));
        threads = omega (arith, p.threads, few ks q 3 (omega arith));
        line = omega (arith, some 5 none ks q (omega arith) (omega arith));
        lines = omega (arith, p.lines, few ks q 5 (omega arith));
        claims = omega (arith, p.claims, few ks q 7 (omega arith));
      };
    }
