-- A node's value from the values of its parts: the ways through the functions, one law for each.
use Prim.Native.Nat.{ℕ, ◌+◌, ◌-◌, ◌%◌, ◌≤◌, ◌<◌}
use mathlib.Core.Path.{◌≡◌, refl, ap, sym, ◌∙◌}
use mathlib.Core.Bool.{Bool, true, false, cond}
use native.Mathlib.Omega.{arith}
use native.Mathlib.Nat.{mod-eq_of_lt, add-mod_left}
use lib.Dec.{ltb, eqb}
use borrow.Author.Tests.{ne_eqb, lt-ltb, le-ltb, ltb-true, ltb-false}
use Rattle.semantics.specs.Code
use Rattle.semantics.specs.Code.{byte}
use Rattle.tables_columns.specs.Combine.{sum_of, combine}

module _ (R a b : ℕ) where
  module _ (room : ℕ) (e : room ≡ R - b) where
    pub sum_within : a < room → a + b ≡ sum_of R a b
    unfolding sum_of
    sum_within h = rw (← e, lt-ltb _ _ h)

    pub sum_past : room ≤ a → a - room ≡ sum_of R a b
    unfolding sum_of
    sum_past h = rw (← e, le-ltb _ _ h)

  -- values below the range
  module _ (l : a < R) (k : b < R) where
    pub sum_modulo : sum_of R a b ≡ (a + b) % R
    unfolding sum_of
    sum_modulo = go (ltb a (R - b)) refl
      where
        go : (c : Bool) → ltb a (R - b) ≡ c → cond c (a + b) (a - (R - b)) ≡ (a + b) % R
        go true e = let h : a + b < R = omega (arith, ltb-true a (R - b) e) in sym (mod-eq_of_lt h)
        go false e =
            let h : a + b ≡ R + (a - (R - b)) = omega (arith, ltb-false a (R - b) e) in
            let s : a - (R - b) < R = omega arith in
            sym (ap (λ (n : ℕ). n % R) h ∙ add-mod_left R (a - (R - b)) ∙ mod-eq_of_lt s)

pub ruleset sum_of_branches = (sum_within, sum_past)

module _ (R c o a b : ℕ) where
  pub combine_const : c ≡ byte Code.const → combine R c o a b ≡ o
  unfolding combine
  combine_const e = rw e

  pub combine_sum : c ≡ byte Code.sum → combine R c o a b ≡ sum_of R a b
  unfolding combine
  combine_sum e = rw e

  pub combine_equal : c ≡ byte Code.equal → combine R c o a b ≡ cond (eqb a b) 1 0
  unfolding combine
  combine_equal e = rw e

  pub combine_less : c ≡ byte Code.less → combine R c o a b ≡ cond (ltb a b) 1 0
  unfolding combine
  combine_less e = rw e

  pub combine_not : c ≡ byte Code.not → combine R c o a b ≡ cond (eqb a 1) 0 1
  unfolding combine
  combine_not e = rw e

  pub combine_and : c ≡ byte Code.and → combine R c o a b ≡ cond (eqb a 1) b 0
  unfolding combine
  combine_and e = rw e

  pub combine_or : c ≡ byte Code.or → combine R c o a b ≡ cond (eqb a 1) 1 b
  unfolding combine
  combine_or e = rw e

  pub combine_both : c ≡ byte Code.both_a → combine R c o a b ≡ cond (eqb a 1) b 0
  unfolding combine
  combine_both e = rw e

  pub combine_either : c ≡ byte Code.either_a → combine R c o a b ≡ cond (eqb a 1) 1 b
  unfolding combine
  combine_either e = rw e

  pub combine_holds : c ≡ byte Code.holds → combine R c o a b ≡ a
  unfolding combine
  combine_holds e = rw e

  pub combine_other : (c ≡ byte Code.const → ⊥) → (c ≡ byte Code.sum → ⊥) → (c ≡ byte Code.equal → ⊥) → (c ≡ byte Code.less → ⊥)
      → (c ≡ byte Code.not → ⊥) → (c ≡ byte Code.and → ⊥)
      → (c ≡ byte Code.or → ⊥) → (c ≡ byte Code.both_a → ⊥) → (c ≡ byte Code.either_a → ⊥) → (c ≡ byte Code.holds → ⊥) → 0 ≡ combine R c o a b
  unfolding combine
  combine_other a b c d e f g h i j = rw (
    ne_eqb _ _ a,
    ne_eqb _ _ b,
    ne_eqb _ _ c,
    ne_eqb _ _ d,
    ne_eqb _ _ e,
    ne_eqb _ _ f,
    ne_eqb _ _ g,
    ne_eqb _ _ h,
    ne_eqb _ _ i,
    ne_eqb _ _ j,
  )

pub ruleset combine_parts_branches = (
  combine_const,
  combine_sum,
  combine_equal,
  combine_less,
  combine_not,
  combine_and,
  combine_or,
  combine_both,
  combine_either,
  combine_holds,
  combine_other,
)
