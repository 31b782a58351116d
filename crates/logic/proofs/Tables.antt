-- A truth table that is right in each row is right whatever the leaves are taken for.
use mathlib.Core.Path.{◌≡◌, refl, ap, ap₂, sym, subst, fun_ext}
use mathlib.Core.Bool.{Bool, true, false, cond, not, ◌&&◌, ◌||◌}
use mathlib.Core.List.{List, [], ◌∷◌, ◌++◌}
use Prim.Native.Nat.{ℕ, ◌<◌}
use lib.Dec.{T, eqb, leb}
use lib.ListN.{length}
use Rattle.semantics.proofs.Base.{and_right, and_both, All-left, All-right}
use Rattle.semantics.proofs.Encoding.{same_eq, same_refl}
use Rattle.logic.proofs.Rows.{Equality, row_sound, flag, flag_in, imp}
use Rattle.semantics.specs.Base.{All, all}
use Rattle.semantics.specs.Formula.{Formula, Test, Assertion, Formula.equal, Formula.less, Formula.and, Formula.or, Formula.unsync, Formula.cov, Formula.sees, Formula.both_a, Formula.either_a, Formula.start, Formula.holds}
use Rattle.semantics.specs.Limits
use Rattle.logic.specs.Rows.{distinct}
use Rattle.logic.specs.Table.{table_t, table, Imp, Leaf, l_assertion, l_test, same_leaf, leaves_t, leaves, in_row, imp_row, leaves_all, entailed_by_table}

-- wherever the leaves' truth makes every premise true, it makes the conclusion true
abbrev pub Follows : List Imp → Imp → Type 0
Follows ps c = (τ : Test → Bool) (α : Assertion → Bool) → All (λ (p : Imp). T (table τ α p.left) → T (table τ α p.right)) ps
    → T (table τ α c.left) → T (table τ α c.right)

leaves_equal : Equality same_leaf
unfolding same_leaf
leaves_equal = record { equal = go; self = come }
  where
    go : (a b : Leaf) → T (same_leaf a b) → a ≡ b
    go (l_assertion a) (l_assertion b) h = ap l_assertion (same_eq a b h)
    go (l_assertion a) (l_test f) h = absurd h
    go (l_test e) (l_assertion b) h = absurd h
    go (l_test e) (l_test f) h = ap l_test (same_eq e f h)

    come : (a : Leaf) → T (same_leaf a a)
    come (l_assertion a) = same_refl a
    come (l_test e) = same_refl e

module _ (μ ν : Leaf → ℕ) where
  abbrev Same : Leaf → Type 0
  Same l = μ l ≡ ν l

  same_test : (e : Test) → All Same (leaves_t e) → table_t (λ e. eqb (μ (l_test e)) 1) e ≡ table_t (λ e. eqb (ν (l_test e)) 1) e
  same_test Formula.false h = refl
  same_test (equal a b) h = ap (λ (n : ℕ). eqb n 1) h.0
  same_test (less a b) h = ap (λ (n : ℕ). eqb n 1) h.0
  same_test (Formula.not e) h = ap not (same_test e h)
  same_test (and e f) h = ap₂ ◌&&◌ (same_test e (All-left Same (leaves_t e) (leaves_t f) h))
      (same_test f (All-right Same (leaves_t e) (leaves_t f) h))
  same_test (or e f) h = ap₂ ◌||◌ (same_test e (All-left Same (leaves_t e) (leaves_t f) h))
      (same_test f (All-right Same (leaves_t e) (leaves_t f) h))
  same_test (unsync x) h = ap (λ (n : ℕ). eqb n 1) h.0
  same_test (cov x) h = ap (λ (n : ℕ). eqb n 1) h.0

  same_asn : (a : Assertion) → All Same (leaves a) → in_row μ a ≡ in_row ν a
  same_asn (sees t i) h = ap (λ (n : ℕ). eqb n 1) h.0
  same_asn (both_a a b) h = ap₂ ◌&&◌ (same_asn a (All-left Same (leaves a) (leaves b) h))
      (same_asn b (All-right Same (leaves a) (leaves b) h))
  same_asn (either_a a b) h = ap₂ ◌||◌ (same_asn a (All-left Same (leaves a) (leaves b) h))
      (same_asn b (All-right Same (leaves a) (leaves b) h))
  same_asn start h = ap (λ (n : ℕ). eqb n 1) h.0
  same_asn (holds e) h = same_test e h

  same_imp : (p : Imp) → All Same (leaves p.left ++ leaves p.right) → imp_row μ p ≡ imp_row ν p
  same_imp p h = ap₂ (λ a b. not a || b) (same_asn p.left (All-left Same (leaves p.left) (leaves p.right) h))
      (same_asn p.right (All-right Same (leaves p.left) (leaves p.right) h))

  same-all : (ps : List Imp) → All Same (leaves_all ps) → all (imp_row μ) ps ≡ all (imp_row ν) ps
  same-all [] h = refl
  same-all (p ∷ ps) h =
      ap₂ ◌&&◌ (same_imp p (All-left Same (leaves p.left ++ leaves p.right) (leaves_all ps) h))
      (same-all ps (All-right Same (leaves p.left ++ leaves p.right) (leaves_all ps) h))

module _ (τ : Test → Bool) (α : Assertion → Bool) where
  row : Leaf → ℕ
  row (l_assertion a) = cond (α a) 1 0
  row (l_test e) = cond (τ e) 1 0

  row_in : (l : Leaf) → row l < 2
  unfolding row
  row_in (l_assertion a) = flag_in (α a)
  row_in (l_test e) = flag_in (τ e)

  row_table : (a : Assertion) → in_row row a ≡ table τ α a
  unfolding row
  row_table a = ap₂ (λ (τ : Test → Bool) (α : Assertion → Bool). table τ α a) (fun_ext (λ e. flag (τ e))) (fun_ext (λ b. flag (α b)))

  imp-row : (p : Imp) → (T (table τ α p.left) → T (table τ α p.right)) → T (imp_row row p)
  imp-row p h = go (in_row row p.left) (row_table p.left)
    where
      go : (b : Bool) → b ≡ table τ α p.left → T (not b || in_row row p.right)
      go true e = subst T (sym (row_table p.right)) (h (subst T e tt))
      go false e = tt

  all-rows : (ps : List Imp) → All (λ (p : Imp). T (table τ α p.left) → T (table τ α p.right)) ps → T (all (imp_row row) ps)
  all-rows [] h = tt
  all-rows (p ∷ ps) h = and_both (imp_row row p) (all (imp_row row) ps) (imp-row p h.0) (all-rows ps h.1)

pub by_table : (ps : List Imp) (c : Imp) → T (entailed_by_table ps c) → Follows ps c
by_table ps c h τ α hs k =
    subst T (row_table τ α c.right)
    (imp (in_row (row τ α) c.left) (in_row (row τ α) c.right)
    (imp (all (imp_row (row τ α)) ps) (imp_row (row τ α) c)
    (row_sound leaves_equal (λ l. 2) (leaves_all (c ∷ ps)) (λ ν. not (all (imp_row ν) ps) || imp_row ν c)
    (λ μ ν a. ap₂ (λ a b. not a || b) (same-all μ ν ps (All-right _ (leaves c.left ++ leaves c.right) (leaves_all ps) a))
    (same_imp μ ν c (All-left _ (leaves c.left ++ leaves c.right) (leaves_all ps) a)))
    (and_right (leb (length (distinct same_leaf (leaves_all (c ∷ ps)))) Limits.leaves) _ h) (row τ α) (row_in τ α))
    (all-rows τ α ps hs))
    (subst T (sym (row_table τ α c.left)) k))
