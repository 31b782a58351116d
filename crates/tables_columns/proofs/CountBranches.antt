-- Rows counted: the ways through the count, one law for each.
use Prim.Native.Nat.{ℕ, zero, suc, ◌+◌, ◌*◌, ◌^◌, ◌≤◌, ◌<◌, max}
use mathlib.Core.Path.{◌≡◌, refl, ◌∙◌}
use mathlib.Core.List.{List, ◌∷◌}
use mathlib.Core.Bool.{Bool, true, false}
use native.Mathlib.Omega.{arith}
use native.Mathlib.Nat.{mul-le-mul, one-mul}
use lib.Dec.{ltb}
use borrow.Author.Tests.{lt-ltb, le-ltb, ltb-true, ltb-false}
use Rattle.limits.proofs.BranchTests.{tests}
use Rattle.logic.specs.Rows.{row_count}
use Rattle.formula.specs.Tree.{Tree, node, node_at}
use Rattle.formula.specs.declared.node.Node.{Node}
use Rattle.formula.proofs.NodeBranches.{parse_step}
use Rattle.formula_compare.specs.Same.{same_tree}
use Rattle.tables_columns.specs.Slots.{slot_tree, nth, slot_at, kept}
use Rattle.tables_columns.proofs.SlotBranches.{plain_tree, whole_tree}
use Rattle.tables_columns.specs.Count.{choices_by, choices_t, capped, rows_up_to}
use Rattle.tables_columns.specs.declared.slot.Slot.{Slot}
use Rattle.tables_columns.specs.declared.slot.Slot.TheVariants.{Plain, Whole}

choices_node : (R c o : ℕ) (l r : Tree) → choices_t R (node c o l r) ≡ choices_by R c
unfolding choices_t
choices_node R c o l r = refl

module _ (s : List ℕ) (R r : ℕ) where
  pub choices_plain : (c o : ℕ) → r ≡ choices_by R c → r ≡ choices_t R (slot_tree s (Plain c o))
  choices_plain c o e = rw (plain_tree, choices_node) e

  pub choices_whole : (p k : ℕ) (x : Node) → x ≡ node_at s p → r ≡ choices_by R x.code → r ≡ choices_t R (slot_tree s (Whole p k))
  choices_whole p k x ex e =
      let z : max k 1 ≡ 0 → ⊥ = λ h. omega arith in
      rw (whole_tree, parse_step s (max k 1) p z, choices_node, ← ex) e

pub ruleset choices_branches = (choices_plain, choices_whole)

pub small_product : (n r : ℕ) → n < 256 → r < 4294967296 → n * r < 2 ^ 64
small_product n r h g = let k : n ≤ 255 = omega arith in let l : r ≤ 4294967295 = omega arith in let e = mul-le-mul k l in omega arith

pub ruleset capped_product_branches = (small_product, tests)

module _ (L : ℕ) where
  capped_low : (n r : ℕ) → n * r ≤ L → capped L n r ≡ n * r
  unfolding capped
  capped_low n r h = rw (le-ltb _ _ h)

  capped_high : (n r : ℕ) → L < n * r → capped L n r ≡ L + 1
  unfolding capped
  capped_high n r h = rw (lt-ltb _ _ h)

  -- one choice more
  capped_twice : (n r : ℕ) → capped L n (capped L 1 r) ≡ capped L 1 (n * r)
  capped_twice n r = go (ltb L r) refl
    where
      more : (n : ℕ) → L < r → capped L n (L + 1) ≡ capped L 1 (n * r)
      more zero h =
          let e : 0 * (L + 1) ≤ L = omega arith in
          let f : 1 * (0 * r) ≤ L = omega arith in
          rw (capped_low 0 (L + 1) e, capped_low 1 (0 * r) f) (omega arith)
      more (suc n) h =
          let k : 1 ≤ suc n = omega arith in
          let l : L + 1 ≤ r = omega arith in
          let z : L + 1 ≤ L + 1 = omega arith in
          let e = mul-le-mul k l in
          let f = mul-le-mul k z in
          let e₁ : L < 1 * (suc n * r) = omega (arith, e, one-mul (suc n * r), one-mul (L + 1)) in
          let f₁ : L < suc n * (L + 1) = omega (arith, f, one-mul (L + 1)) in
          rw (capped_high (suc n) (L + 1) f₁, capped_high 1 (suc n * r) e₁)

      go : (b : Bool) → ltb L r ≡ b → capped L n (capped L 1 r) ≡ capped L 1 (n * r)
      go true d =
          let h : L < r = ltb-true L r d in
          let e : L < 1 * r = omega (arith, one-mul r) in
          rw (capped_high 1 r e) (more n h)
      go false d =
          let h : r ≤ L = ltb-false L r d in
          let e : 1 * r ≤ L = omega (arith, one-mul r) in
          rw (capped_low 1 r e, one-mul r) (same (ltb L (n * r)) refl)
        where
          same : (b : Bool) → ltb L (n * r) ≡ b → capped L n r ≡ capped L 1 (n * r)
          same true d =
              let h : L < n * r = ltb-true L (n * r) d in
              let e : L < 1 * (n * r) = omega (arith, one-mul (n * r)) in
              rw (capped_high n r h, capped_high 1 (n * r) e)
          same false d =
              let h : n * r ≤ L = ltb-false L (n * r) d in
              let e : 1 * (n * r) ≤ L = omega (arith, one-mul (n * r)) in
              rw (capped_low n r h, capped_low 1 (n * r) e, one-mul (n * r))

kept_next : (s : List ℕ) (q : List Slot) (j : ℕ) → kept s q (j + 1) ≡ slot_at s q j ∷ kept s q j
unfolding kept
kept_next s q j = let e : j + 1 ≡ suc j = omega arith in rw e

-- the ways through `count_rows`
module _ (s : List ℕ) (q : List Slot) (R limit : ℕ) where
  pub rows_begin : 1 ≡ rows_up_to s q R limit 0
  unfolding rows_up_to kept
  rows_begin = go (ltb limit 1) refl
    where
      go : (b : Bool) → ltb limit 1 ≡ b → 1 ≡ capped limit 1 1
      go true d = let h : limit < 1 = ltb-true limit 1 d in rw (capped_high limit 1 1 h) (omega arith)
      go false d = rw (capped_low limit 1 1 (ltb-false limit 1 d))

  pub rows_next : (p : Slot) (j c r r₂ : ℕ) → r ≡ rows_up_to s q R limit j → p ≡ nth q j → c ≡ choices_t R (slot_tree s p)
      → r₂ ≡ capped limit c r → r₂ ≡ rows_up_to s q R limit (j + 1)
  unfolding rows_up_to slot_at
  rows_next p j c r r₂ e ep ec f = f ∙ rw (e, ec, ep, kept_next s q j)
      (capped_twice limit (choices_t R (slot_tree s (nth q j))) (row_count same_tree (choices_t R) (kept s q j)))

pub ruleset count_rows_branches = (rows_begin, rows_next)
