-- How many kinds stand at each place of the order, where they pass.
use mathlib.Core.Path.{◌≡◌, refl, ◌∙◌}
use mathlib.Core.Bool.{Bool, true, false, cond}
use mathlib.Core.List.{List, [], ◌∷◌}
use Prim.Native.Nat.{ℕ, suc, ◌+◌, ◌≤◌, ◌<◌}
use native.Mathlib.Omega.{arith}
use lib.Dec.{eqb}
use lib.ListN.{length, get_or, length-set}
use lib.Seq.{get_or-set_same, get_or-set_other}
use borrow.Author.Tests.{eqb-true, eqb-false, eq-eqb, ne_eqb}
use Rattle.image_frames.specs.Kinds as Kinds
use Rattle.image_frames.specs.Kinds.{order, most}
use Rattle.image_frames.specs.Frames.{counted}
use Rattle.image_frames.specs.declared.frame.Seen.{Seen}
use Rattle.trim_spec.proofs.WalkPassed.{Passes, final}

-- how many of the kinds stand at the place j of the order
unfoldable pub one : ℕ → ℕ → ℕ
one j p = cond (eqb j p) 1 0

unfoldable pub number : ℕ → List ℕ → ℕ
number j [] = 0
number j (k ∷ ks) = one j (order k) + number j ks

one_same : (j p : ℕ) → j ≡ p → one j p ≡ 1
unfolding one
one_same j p e = rw (eq-eqb j p e)

one_other : (j p : ℕ) → (j ≡ p → ⊥) → one j p ≡ 0
unfolding one
one_other j p e = rw (ne_eqb j p e)

pub number_same : (j k : ℕ) (ks : List ℕ) → j ≡ order k → number j (k ∷ ks) ≡ suc (number j ks)
unfolding number
number_same j k ks e = let q = one_same j (order k) e in omega arith

pub number_other : (j k : ℕ) (ks : List ℕ) → (j ≡ order k → ⊥) → number j (k ∷ ks) ≡ number j ks
unfolding number
number_other j k ks e = let q = one_other j (order k) e in omega arith

-- a count is raised by the numbers of kinds at its place

counted_one : (c : Seen) (p j : ℕ) → p < length c.count → get_or (counted c p).count j 0 ≡ get_or c.count j 0 + one j p
counted_one c p j h = go (eqb j p) refl
  where
    go : (b : Bool) → eqb j p ≡ b → get_or (counted c p).count j 0 ≡ get_or c.count j 0 + one j p
    go true e =
        let q = eqb-true j p e in
        rw (one_same j p q, q) (get_or-set_same c.count p (get_or c.count p 0 + 1) 0 h)
    go false e =
        let q = eqb-false j p e in
        let z = one_other j p q in
        get_or-set_other c.count p j (get_or c.count p 0 + 1) 0 q ∙ (omega arith)

-- all eight places have a count
abbrev Full : Seen → Type 0
Full c = length c.count ≡ 8

counted_full : (c : Seen) (p : ℕ) → Full c → Full (counted c p)
counted_full c p h = rw length-set h

module _ (j : ℕ) where
  pub final_number : (c : Seen) (ks : List ℕ) → Full c → Passes c ks → get_or (final c ks).count j 0 ≡ get_or c.count j 0 + number j ks
  unfolding number
  final_number c [] h p = omega arith
  final_number c (k ∷ ks) h p =
      let q = final_number (counted c (order k)) ks (counted_full c (order k) h) p.1 in
      let a = p.0.known in
      let r = counted_one c (order k) j (omega arith) in
      omega arith

  pub final_few : (c : Seen) (ks : List ℕ) → Full c → Passes c ks → get_or c.count j 0 ≤ most j → get_or (final c ks).count j 0 ≤ most j
  final_few c [] h p f = f
  final_few c (k ∷ ks) h p f = final_few (counted c (order k)) ks (counted_full c (order k) h) p.1 (go (eqb j (order k)) refl)
    where
      go : (b : Bool) → eqb j (order k) ≡ b → get_or (counted c (order k)).count j 0 ≤ most j
      go true e =
          let q = eqb-true j (order k) e in
          let a = p.0.known in
          let l : get_or c.count j 0 < most j = rw q p.0.few in
          omega (arith, counted_one c (order k) j (omega arith), one_same j (order k) q)
      go false e =
          let a = p.0.known in
          omega (arith, counted_one c (order k) j (omega arith), one_other j (order k) (eqb-false j (order k) e))

  -- none before the last place, and some behind it
  pub past : (c : Seen) (ks : List ℕ) → Passes c ks → j < c.last → number j ks ≡ 0
  unfolding number
  past c [] p h = refl
  past c (k ∷ ks) p h =
      let a = p.0.same in
      let z : j ≡ order k → ⊥ = omega arith in
      number_other j k ks z ∙ past (counted c (order k)) ks p.1 (omega arith)

  pub some : (c : Seen) (ks : List ℕ) → Passes c ks → c.last < j → j ≤ Kinds.obligations → 1 ≤ number j ks
  some c [] p h g = absurd (omega arith)
  some c (k ∷ ks) p h g = go (eqb j (order k)) refl (λ b. some (counted c (order k)) ks p.1 b g)
    where
      go : (b : Bool) → eqb j (order k) ≡ b → (order k < j → 1 ≤ number j ks) → 1 ≤ number j (k ∷ ks)
      go true e f = let q = number_same j k ks (eqb-true j (order k) e) in omega arith
      go false e f =
          let a = p.0.next in
          let z = eqb-false j (order k) e in
          let r = f (omega arith) in
          let q = number_other j k ks z in
          omega arith
