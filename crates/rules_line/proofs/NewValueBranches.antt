-- The ways through "it is the new write's value", one law for each.
use mathlib.Core.Path.{◌≡◌, refl, sym, ◌∙◌, ap}
use mathlib.Core.Bool.{Bool, true, false, cond, ◌&&◌}
use mathlib.Core.List.{List}
use Prim.Native.Nat.{ℕ, ◌-◌}
use borrow.Author.Tests.{eq-eqb, ne_eqb}
use Rattle.limits.proofs.BranchTests.{tests}
use Rattle.std.specs.Prelude.{Option, None, Some, is_some}
use native.Mathlib.Omega.{arith}
use Rattle.semantics.specs.Code
use Rattle.semantics.specs.Code.{byte}
use Rattle.logic.specs.Opcode
use Rattle.limits.specs.Limits.{nesting}
use Rattle.formula.specs.Codes.{part_count}
use Rattle.formula.specs.Tree.{Tree, none, node, ParsedTree, node_at, grow, parse_tree}
use Rattle.formula.specs.declared.node.Node.{Node}
use Rattle.formula.proofs.NodeBranches.{parse_zero, parse_step, parts_of}
use Rattle.formula_compare.specs.Same.{same_tree, same_of}
use Rattle.formula_compare.specs.Replace.{leaf_only}
use Rattle.formula_compare.proofs.ByPair.{same_node_none, same_nodes}
use Rattle.rules_line.specs.NewValue.{formula_is, sum_is, fresh_is}
use Rattle.rules_line.proofs.SideTestBranches.{answered}

pub formula_answer : (s : List ℕ) (f at k : ℕ) (r : Option (ℕ × ℕ)) (b : Bool) → r ≡ same_of (parse_tree s nesting f) (parse_tree s k at)
    → b ≡ is_some r → b ≡ formula_is s f (parse_tree s k at).tree
unfolding formula_is
formula_answer s f at k r b e d = d ∙ answered r _ _ e

-- an answer with its end
answer_end : (b : Bool) (i j : ℕ) (x : ℕ × ℕ) → Some x ≡ cond b (Some (i, j)) None → (b ≡ true) × (x.1 ≡ j)
answer_end true i j x h = (refl, let q : x ≡ (i, j) = cc in ap (λ (y : ℕ × ℕ). y.1) q)
answer_end false i j x h = let q : ◌≡◌ {A = ℕ} 0 1 = cc in absurd (omega arith)

answer_none : (b : Bool) (x : ℕ × ℕ) → None ≡ cond b (Some x) None → b ≡ false
answer_none true x h = let q : ◌≡◌ {A = ℕ} 0 1 = cc in absurd (omega arith)
answer_none false x h = refl

module _ (s : List ℕ) (r f at k : ℕ) where
  abbrev sum : Tree
  sum = node (byte Code.sum) 0 (node (byte Code.reg) r none none) (parse_tree s nesting f).tree

  pub sum_zero : k ≡ 0 → false ≡ sum_is s r f (parse_tree s k at).tree
  unfolding sum_is
  sum_zero z = rw (parse_zero s k at z) (sym (same_node_none _ _ _ _))

  module _ (x : Node) (nz : k ≡ 0 → ⊥) (ex : x ≡ node_at s at) where
    stepped : parse_tree s k at ≡ grow (λ p. parse_tree s (k - 1) p) x
    stepped = parse_step s k at nz ∙ ap (grow (λ p. parse_tree s (k - 1) p)) (sym ex)

    pub sum_other : (x.code ≡ byte Code.sum → ⊥) → false ≡ sum_is s r f (parse_tree s k at).tree
    unfolding sum_is
    sum_other n = let m : byte Code.sum ≡ x.code → ⊥ = λ e. n (sym e) in rw (stepped, same_nodes, ne_eqb _ _ m)

    pub sum_operand : x.code ≡ byte Code.sum → (x.operand ≡ 0 → ⊥) → false ≡ sum_is s r f (parse_tree s k at).tree
    unfolding sum_is
    sum_operand c n = let m : 0 ≡ x.operand → ⊥ = λ e. n (sym e) in rw (stepped, same_nodes, eq-eqb _ _ (sym c), ne_eqb _ _ m)

    module _ (c : x.code ≡ byte Code.sum) (o : x.operand ≡ 0) where
      abbrev first : ParsedTree
      first = parse_tree s (k - 1) x.next

      two : x.parts ≡ 2
      unfolding part_count
      two = ap (λ (n : Node). n.parts) ex ∙ parts_of s at ∙ ap (λ (n : Node). part_count n.code) (sym ex) ∙ ap part_count c

      -- the parts are compared one after the other
      split : sum_is s r f (parse_tree s k at).tree ≡ same_tree (leaf_only (byte Code.reg) r).tree first.tree
          && formula_is s f (parse_tree s (k - 1) first.end).tree
      unfolding sum_is formula_is
      split = rw (stepped, same_nodes, eq-eqb _ _ (sym c), eq-eqb _ _ (sym o), two)

      module _ (v : Option (ℕ × ℕ)) (ev : v ≡ same_of (leaf_only (byte Code.reg) r) first) where
        pub sum_first : v ≡ None → false ≡ sum_is s r f (parse_tree s k at).tree
        sum_first n = let q : same_tree (leaf_only (byte Code.reg) r).tree first.tree ≡ false =
            answer_none _ (0, first.end) (sym n ∙ ev) in rw (split, q)

        pub sum_second : (x : ℕ × ℕ) (u : Bool) → v ≡ Some x → u ≡ formula_is s f (parse_tree s (k - 1) x.1).tree
            → u ≡ sum_is s r f (parse_tree s k at).tree
        sum_second x u n d =
            let y = answer_end (same_tree (leaf_only (byte Code.reg) r).tree first.tree) 0 first.end x (sym n ∙ ev) in
            let a : same_tree (leaf_only (byte Code.reg) r).tree first.tree ≡ true = y.0 in
            let z : first.end ≡ x.1 = sym y.1 in
            rw (split, a, z) d

pub reg_parts : part_count (byte Code.reg) ≡ 0
unfolding part_count
reg_parts = refl

module _ (s : List ℕ) (op r f : ℕ) (t : Tree) (u : Bool) where
  pub fresh_sum : op ≡ Opcode.fetch_add → u ≡ sum_is s r f t → u ≡ fresh_is s op r f t
  unfolding fresh_is
  fresh_sum h d = rw (eq-eqb _ _ h) d

  pub fresh_formula : (op ≡ Opcode.fetch_add → ⊥) → u ≡ formula_is s f t → u ≡ fresh_is s op r f t
  unfolding fresh_is
  fresh_formula h d = rw (ne_eqb _ _ h) d

pub ruleset new_value_branches = (
  formula_answer,
  sum_zero,
  sum_other,
  sum_operand,
  sum_first,
  sum_second,
  reg_parts,
  fresh_sum,
  fresh_formula,
  tests,
)
