-- Rule 20: what follows by truth table is true, without excluded middle. Leaves known to be true are added until every premise holds.
use mathlib.Core.Path.{◌≡◌, refl, ap, ap₂, sym, subst}
use mathlib.Core.Bool.{Bool, true, false, not, ◌&&◌, ◌||◌, cond}
use mathlib.Core.List.{List, [], ◌∷◌}
use mathlib.Core.Logic.{◌⊎◌, inl, inr}
use Prim.Native.Nat.{ℕ, zero, suc, ◌+◌, ◌≤◌, ◌<◌}
use native.Mathlib.Omega.{arith}
use lib.Dec.{T, T_not}
use Rattle.semantics.proofs.Base.{and_left, and_right, and_both}
use Rattle.semantics.proofs.Encoding.{same_eq, same_refl}
use Rattle.logic.proofs.Tables.{Follows}
use Rattle.semantics.specs.Base.{All}
use Rattle.semantics.specs.Eval.{test, on_regs}
use Rattle.semantics.specs.Formula.{Formula, Test, Assertion, Formula.equal, Formula.less, Formula.and, Formula.or, Formula.unsync, Formula.cov, Formula.sees, Formula.both_a, Formula.either_a, Formula.start, Formula.holds, same}
use Rattle.semantics.specs.Machine.{State, Program}
use Rattle.logic.specs.Table.{table_t, table, Imp}
use Rattle.semantics.specs.Truth.{True}

or_cases : (a b : Bool) → T (a || b) → T a ⊎ T b
or_cases true b h = inl tt
or_cases false b h = inr h

or_left : (a b : Bool) → T a → T (a || b)
or_left true b h = tt
or_left false b h = absurd h

or_right : (a b : Bool) → T b → T (a || b)
or_right true b h = tt
or_right false b h = h

nand_cases : (a b : Bool) → T (not (a && b)) → T (not a) ⊎ T (not b)
nand_cases true b h = inr h
nand_cases false b h = inl tt

nor_left : (a b : Bool) → T (not (a || b)) → T (not a)
nor_left true b h = h
nor_left false b h = tt

nor_right : (a b : Bool) → T (not (a || b)) → T (not b)
nor_right true b h = absurd h
nor_right false b h = h

true_or_not : (b : Bool) → T b ⊎ T (not b)
true_or_not true = inl tt
true_or_not false = inr tt

-- one more leaf is true
add : Assertion → (Assertion → Bool) → Assertion → Bool
add a α b = same b a || α b

Le : (Assertion → Bool) → (Assertion → Bool) → Type 0
Le α β = (a : Assertion) → T (α a) → T (β a)

module _ (τ : Test → Bool) where
  table_mono : (α β : Assertion → Bool) → Le α β → (a : Assertion) → T (table τ α a) → T (table τ β a)
  unfolding Le
  table_mono α β f (sees t i) h = f (sees t i) h
  table_mono α β f (both_a a b) h = and_both (table τ β a) (table τ β b) (table_mono α β f a (search and_left))
      (table_mono α β f b (search and_right))
  table_mono α β f (either_a a b) h = go (or_cases (table τ α a) (table τ α b) h) (table_mono α β f a) (table_mono α β f b)
    where
      go : T (table τ α a) ⊎ T (table τ α b) → (T (table τ α a) → T (table τ β a)) → (T (table τ α b) → T (table τ β b))
          → T (table τ β a || table τ β b)
      go (inl k) f g = or_left (table τ β a) (table τ β b) (f k)
      go (inr k) f g = or_right (table τ β a) (table τ β b) (g k)
  table_mono α β f start h = f start h
  table_mono α β f (holds e) h = h

  -- how many leaves of an assertion are not taken for true
  missing : (Assertion → Bool) → Assertion → ℕ
  missing α (sees t i) = cond (α (sees t i)) 0 1
  missing α (both_a a b) = missing α a + missing α b
  missing α (either_a a b) = missing α a + missing α b
  missing α start = cond (α start) 0 1
  missing α (holds e) = 0

  leaf_mono : (p q : Bool) → (T p → T q) → cond {A = ℕ} q 0 1 ≤ cond p 0 1
  leaf_mono true true f = omega arith
  leaf_mono true false f = absurd (f tt)
  leaf_mono false true f = omega arith
  leaf_mono false false f = omega arith

  leaf_less : (p q : Bool) → T (not p) → T q → cond {A = ℕ} q 0 1 < cond p 0 1
  leaf_less false true h g = omega arith
  leaf_less true q h g = absurd h
  leaf_less false false h g = absurd g

  missing_mono : (α β : Assertion → Bool) → Le α β → (a : Assertion) → missing β a ≤ missing α a
  unfolding Le missing
  missing_mono α β f (sees t i) = leaf_mono (α (sees t i)) (β (sees t i)) (f (sees t i))
  missing_mono α β f (both_a a b) = omega (arith, missing_mono α β f a, missing_mono α β f b)
  missing_mono α β f (either_a a b) = omega (arith, missing_mono α β f a, missing_mono α β f b)
  missing_mono α β f start = leaf_mono (α start) (β start) (f start)
  missing_mono α β f (holds e) = omega arith

  -- an assertion that becomes true has a leaf that became true
  missing_less : (α β : Assertion → Bool) → Le α β → (a : Assertion) → T (not (table τ α a)) → T (table τ β a) → missing β a < missing α a
  unfolding Le missing
  missing_less α β f (sees t i) h g = leaf_less (α (sees t i)) (β (sees t i)) h g
  missing_less α β f (both_a a b) h g = go (nand_cases (table τ α a) (table τ α b) h) (missing_less α β f a) (missing_less α β f b)
    where
      go : T (not (table τ α a)) ⊎ T (not (table τ α b)) → (T (not (table τ α a)) → T (table τ β a) → missing β a < missing α a)
          → (T (not (table τ α b)) → T (table τ β b) → missing β b < missing α b) → missing β (both_a a b) < missing α (both_a a b)
      go (inl k) fa fb = omega (arith, fa k (and_left (table τ β a) (table τ β b) g), missing_mono α β f b)
      go (inr k) fa fb = omega (arith, fb k (and_right (table τ β a) (table τ β b) g), missing_mono α β f a)
  missing_less α β f (either_a a b) h g = go (or_cases (table τ β a) (table τ β b) g) (missing_less α β f a) (missing_less α β f b)
    where
      go : T (table τ β a) ⊎ T (table τ β b) → (T (not (table τ α a)) → T (table τ β a) → missing β a < missing α a)
          → (T (not (table τ α b)) → T (table τ β b) → missing β b < missing α b) → missing β (either_a a b) < missing α (either_a a b)
      go (inl k) fa fb = omega (arith, fa (nor_left (table τ α a) (table τ α b) h) k, missing_mono α β f b)
      go (inr k) fa fb = omega (arith, fb (nor_right (table τ α a) (table τ α b) h) k, missing_mono α β f a)
  missing_less α β f start h g = leaf_less (α start) (β start) h g
  missing_less α β f (holds e) h g = absurd (T_not (table_t τ e) h g)

-- the leaves' actual truth
module _ (P : Program) (s : State) where
  now : Test → Bool
  now e = test P.range (on_regs s.reg) e

  now_test : (e : Test) → table_t now e ≡ test P.range (on_regs s.reg) e
  unfolding now
  now_test Formula.false = refl
  now_test (equal a b) = refl
  now_test (less a b) = refl
  now_test (Formula.not e) = ap not (now_test e)
  now_test (and e f) = ap₂ ◌&&◌ (now_test e) (now_test f)
  now_test (or e f) = ap₂ ◌||◌ (now_test e) (now_test f)
  now_test (unsync x) = refl
  now_test (cov x) = refl

  Sure : (Assertion → Bool) → Type 0
  Sure α = (a : Assertion) → T (α a) → True P s a

  -- what the table makes true of leaves that are true is true
  sure_true : (α : Assertion → Bool) → Sure α → (a : Assertion) → T (table now α a) → True P s a
  unfolding Sure
  sure_true α f (sees t i) h = f (sees t i) h
  sure_true α f (both_a a b) h = (sure_true α f a (search and_left), sure_true α f b (search and_right))
  sure_true α f (either_a a b) h = go (or_cases (table now α a) (table now α b) h) (sure_true α f a) (sure_true α f b)
    where
      go : T (table now α a) ⊎ T (table now α b) → (T (table now α a) → True P s a) → (T (table now α b) → True P s b)
          → True P s a ⊎ True P s b
      go (inl k) f g = inl (f k)
      go (inr k) f g = inr (g k)
  sure_true α f start h = f start h
  sure_true α f (holds e) h = subst T (now_test e) h

  More : (Assertion → Bool) → Assertion → Type 0
  More α a = (β : Assertion → Bool) × Sure β × Le α β × T (table now β a)

  more_leaf : (α : Assertion → Bool) → Sure α → (a : Assertion) → True P s a → (table now (add a α) a ≡ add a α a) → More α a
  unfolding Sure More Le add
  more_leaf α f a h q = (
    add a α,
    (λ b k. go b (or_cases (same b a) (α b) k)),
    (λ b k. or_right (same b a) (α b) k),
    subst T (sym q) (or_left (same a a) (α a) (same_refl a)),
  )
    where
      go : (b : Assertion) → T (same b a) ⊎ T (α b) → True P s b
      go b (inl e) = rw (same_eq b a e) h
      go b (inr k) = f b k

  -- a true assertion is made true by leaves that are true
  more : (a : Assertion) (α : Assertion → Bool) → Sure α → True P s a → More α a
  unfolding Sure More Le
  more (sees t i) α f h = more_leaf α f (sees t i) h refl
  more (both_a a b) α f h =
      let m = more a α f h.0 in
      let n = more b m.0 m.1 h.1 in (
        n.0,
        n.1,
        (λ c k. n.2 c (m.2 c k)),
        and_both (table now n.0 a) (table now n.0 b)
            (table_mono now m.0 n.0 n.2 a m.3) n.3,
      )
  more (either_a a b) α f (inl h) = let m = more a α f h in (m.0, m.1, m.2, or_left (table now m.0 a) (table now m.0 b) m.3)
  more (either_a a b) α f (inr h) = let m = more b α f h in (m.0, m.1, m.2, or_right (table now m.0 a) (table now m.0 b) m.3)
  more start α f h = more_leaf α f start h refl
  more (holds e) α f h = (α, f, (λ c k. k), subst T (sym (now_test e)) h)

  total : (Assertion → Bool) → List Imp → ℕ
  total α [] = 0
  total α (p ∷ ps) = missing now α p.right + total α ps

  total_mono : (α β : Assertion → Bool) → Le α β → (ps : List Imp) → total β ps ≤ total α ps
  unfolding total
  total_mono α β f [] = omega arith
  total_mono α β f (p ∷ ps) = omega (arith, missing_mono now α β f p.right, total_mono α β f ps)

  Kept : (Assertion → Bool) → List Imp → Type 0
  Kept α ps = All (λ (p : Imp). T (table now α p.left) → T (table now α p.right)) ps

  -- a premise that the table does not keep yet; to make its right side true leaves less to be done
  Due : (Assertion → Bool) → List Imp → Type 0
  Due α ps = (p : Imp) × True P s p.right × ((β : Assertion → Bool) → Le α β → T (table now β p.right) → total β ps < total α ps)

  scan : (α : Assertion → Bool) → Sure α → (ps : List Imp) → All (λ (p : Imp). True P s p.left → True P s p.right) ps
      → Kept α ps ⊎ Due α ps
  unfolding Kept Due total
  scan α f [] hs = inl tt
  scan α f (p ∷ ps) hs = go (true_or_not (table now α p.left)) (true_or_not (table now α p.right)) (scan α f ps hs.1)
    where
      go : T (table now α p.left) ⊎ T (not (table now α p.left)) → T (table now α p.right) ⊎ T (not (table now α p.right))
          → Kept α ps ⊎ Due α ps → Kept α (p ∷ ps) ⊎ Due α (p ∷ ps)
      go (inl l) (inr r) k =
          inr (p, hs.0 (sure_true α f p.left l), λ β g h. omega (arith, missing_less now α β g p.right r h, total_mono α β g ps))
      go (inl l) (inl r) (inl k) = inl ((λ z. r), k)
      go (inl l) (inl r) (inr k) = inr (k.0, k.1, λ β g h. omega (arith, k.2 β g h, missing_mono now α β g p.right))
      go (inr l) (inl r) (inl k) = inl ((λ z. r), k)
      go (inr l) (inl r) (inr k) = inr (k.0, k.1, λ β g h. omega (arith, k.2 β g h, missing_mono now α β g p.right))
      go (inr l) (inr r) (inl k) = inl ((λ z. absurd (T_not (table now α p.left) l z)), k)
      go (inr l) (inr r) (inr k) = inr (k.0, k.1, λ β g h. omega (arith, k.2 β g h, missing_mono now α β g p.right))

  module _ (ps : List Imp) (c : Imp) (fol : Follows ps c) (hs : All (λ (p : Imp). True P s p.left → True P s p.right) ps) where
    round : (n : ℕ) (α : Assertion → Bool) → Sure α → T (table now α c.left) → total α ps ≤ n
        → ((β : Assertion → Bool) → Sure β → T (table now β c.left) → total β ps < n → True P s c.right) → True P s c.right
    unfolding Kept Due More
    round n α f l b next = go (scan α f ps hs)
      where
        go : Kept α ps ⊎ Due α ps → True P s c.right
        go (inl k) = sure_true α f c.right (fol now α k l)
        go (inr d) =
            let m = more d.0.right α f d.1 in
            next m.0 m.1 (table_mono now α m.0 m.2 c.left l) (omega (arith, d.2 m.0 m.2 m.3))

    chase : (n : ℕ) (α : Assertion → Bool) → Sure α → T (table now α c.left) → total α ps ≤ n → True P s c.right
    chase zero α f l b = round 0 α f l b (λ β g k h. absurd (omega arith))
    chase (suc n) α f l b = round (suc n) α f l b (λ β g k h. chase n β g k (omega arith))

    pub rule_20 : True P s c.left → True P s c.right
    unfolding More Sure
    rule_20 h =
        let m = more c.left (λ a. false) (λ a k. absurd k) h in
        chase (total m.0 ps) m.0 m.1 m.3 (omega arith)
