-- A line's form is that of its rule's row.
use mathlib.Core.Path.{◌≡◌, refl}
use mathlib.Core.Bool.{Bool, true, false}
use Prim.Native.Nat.{ℕ, ◌≤◌}
use native.Mathlib.Omega.{arith}
use lib.Dec.{T, eqb, ltb, eqb→eq}
use lib.ListN.{get_or-eq_default}
use borrow.Author.Tests.{ltb-true, ltb-false, lt-leb, le-ltb, ne_eqb}
use Rattle.logic_schemas.specs.Rules.{row}
use Rattle.logic.specs.Rows.{all_below}
use Rattle.logic.proofs.Rows.{all_below_at}
use Rattle.image_bodies.specs.Line.{form_of}
use Rattle.formula_trees.specs.StatementTree as Said
use Rattle.logic.specs.RuleNumbers.{unlisted, rules, rule_of}
use Rattle.image_access.specs.AccessTrees.{form_number}

abbrev pub row_form : ℕ → ℕ
row_form n = Said.form_of (row (rule_of n)).says

-- the numbers up to the last rule's, one by one
listed : T (all_below 51 (λ n. eqb (row_form n) (form_number (form_of n))))
unfolding rule_of form_of
listed = tt

past : (n : ℕ) → 51 ≤ n → row_form n ≡ form_number (form_of n)
unfolding rule_of form_of
past n h =
    let q : n ≡ 50 → ⊥ = omega arith in
    rw (
      get_or-eq_default rules unlisted h,
      le-ltb n 1 (omega arith),
      lt-leb n 16 (omega arith),
      le-ltb n 20 (omega arith),
      lt-leb n 27 (omega arith),
      le-ltb n 30 (omega arith),
      lt-leb n 46 (omega arith),
      lt-leb n 49 (omega arith),
      ne_eqb n 50 q,
    )

pub rule_form : (n : ℕ) → row_form n ≡ form_number (form_of n)
rule_form n = go (ltb n 51) refl
  where
    go : (b : Bool) → ltb n 51 ≡ b → row_form n ≡ form_number (form_of n)
    go true e =
        eqb→eq (row_form n) (form_number (form_of n)) (all_below_at 51 (λ i. eqb (row_form i) (form_number (form_of i))) listed n
        (ltb-true n 51 e))
    go false e = past n (ltb-false n 51 e)
