-- The ways through the evaluator, one law for each.
use Prim.Native.Nat.{ℕ, ◌-◌, ◌<◌}
use mathlib.Core.Path.{◌≡◌, refl, ap}
use mathlib.Core.List.{List}
use native.Mathlib.Omega.{arith}
use borrow.Author.Tests.{lt-ltb}
use Rattle.formula.specs.Tree.{Tree, none, node, node_at, parse_tree}
use Rattle.formula.specs.declared.node.Node.{Node}
use Rattle.formula.proofs.NodeBranches.{parse_zero, parse_step}
use Rattle.limits.proofs.BranchTests.{lower}
use Rattle.replay_machine.specs.Evaluate.{worked_here, worked_t, worked_at}
use Rattle.replay_machine.specs.declared.evaluate.Worked.{Worked}

module _ (R : ℕ) (g : List ℕ) where
  worked_none : worked_t R g none ≡ 0
  unfolding worked_t
  worked_none = refl

  worked_node : (c o : ℕ) (l r : Tree) → worked_t R g (node c o l r) ≡ worked_here R g c o (worked_t R g l) (worked_t R g r)
  unfolding worked_t
  worked_node c o l r = refl

  module _ (s : List ℕ) (k at : ℕ) where
    pub work_zero : k ≡ 0 → record { value = 0; end = at } ≡ worked_at R g (parse_tree s k at)
    work_zero z = rw (parse_zero s k at z, worked_none)

    pub work_whole : (w : Worked) → w ≡ worked_at R g (parse_tree s k at) → w.value ≡ worked_t R g (parse_tree s k at).tree
    work_whole w e = ap (λ (u : Worked). u.value) e

    module _ (x : Node) (v : ℕ) (z : k ≡ 0 → ⊥) (e : x ≡ node_at s at) where
      pub work_leaf : x.parts ≡ 0 → v ≡ worked_here R g x.code x.operand 0 0
          → record { value = v; end = x.next } ≡ worked_at R g (parse_tree s k at)
      work_leaf p q = rw (parse_step s k at z, ← e, p, worked_node, worked_none, q)

      module _ (a : Worked) (n : x.parts ≡ 0 → ⊥) (f : a ≡ worked_at R g (parse_tree s (k - 1) x.next)) where
        pub work_one : x.parts ≡ 1 → v ≡ worked_here R g x.code x.operand a.value 0
            → record { value = v; end = a.end } ≡ worked_at R g (parse_tree s k at)
        work_one p q = rw (parse_step s k at z, ← e, p, worked_node, worked_none, q, f)

        pub work_two : (b : Worked) → (x.parts ≡ 1 → ⊥) → b ≡ worked_at R g (parse_tree s (k - 1) a.end)
            → v ≡ worked_here R g x.code x.operand a.value b.value
            → record { value = v; end = b.end } ≡ worked_at R g (parse_tree s k at)
        work_two b p h q =
            let t₀ : 0 < x.parts = omega arith in
            let t₁ : 1 < x.parts = omega arith in
            rw (parse_step s k at z, ← e, lt-ltb _ _ t₀, lt-ltb _ _ t₁, worked_node, q, h, f)

pub ruleset work_at_branches = (work_zero, work_leaf, work_one, work_two, lower)
