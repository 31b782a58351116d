-- Where a formula ends: the ways through `end_at`, one law for each.
use mathlib.Core.Path.{◌≡◌}
use mathlib.Core.List.{List}
use Prim.Native.Nat.{ℕ, ◌-◌, ◌<◌}
use native.Mathlib.Omega.{arith}
use borrow.Author.Tests.{lt-ltb}
use Rattle.formula.specs.Tree.{node_at, parse_tree}
use Rattle.formula.specs.declared.node.Node.{Node}
use Rattle.formula.proofs.NodeBranches.{parse_zero, parse_step}
use Rattle.limits.proofs.BranchTests.{lower, tests}

pub end_zero : (s : List ℕ) (at k : ℕ) → k ≡ 0 → at ≡ (parse_tree s k at).end
end_zero s at k e = rw (parse_zero s k at e)

module _ (s : List ℕ) (at k : ℕ) (x : Node) (z : k ≡ 0 → ⊥) (e : x ≡ node_at s at) where
  pub end_leaf : x.parts ≡ 0 → x.next ≡ (parse_tree s k at).end
  end_leaf p = rw (parse_step s k at z, ← e, p)

  module _ (m : ℕ) (n : x.parts ≡ 0 → ⊥) (f : m ≡ (parse_tree s (k - 1) x.next).end) where
    pub end_one : x.parts ≡ 1 → m ≡ (parse_tree s k at).end
    end_one p = rw (parse_step s k at z, ← e, p) f

    pub end_two : (r : ℕ) → (x.parts ≡ 1 → ⊥) → r ≡ (parse_tree s (k - 1) m).end → r ≡ (parse_tree s k at).end
    end_two r p g =
        let t₀ : 0 < x.parts = omega arith in
        let t₁ : 1 < x.parts = omega arith in
        rw (parse_step s k at z, ← e, lt-ltb _ _ t₀, lt-ltb _ _ t₁, ← f) g

pub ruleset end_at_branches = (end_zero, end_leaf, end_one, end_two, lower)

-- what the end of a formula is proved by
pub ruleset end_ways = (end_at_branches, tests)
