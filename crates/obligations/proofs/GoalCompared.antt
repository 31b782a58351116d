-- A conclusion against what is wanted: the form, the place and the trees of the two sides are compared.
use mathlib.Core.Path.{◌≡◌, refl, ap₂}
use mathlib.Core.Bool.{Bool, ◌&&◌}
use mathlib.Core.List.{List}
use Prim.Native.Nat.{ℕ}
use Rattle.semantics.specs.Code
use Rattle.semantics.specs.Code.{byte}
use Rattle.formula.specs.Codes.{has_operand, part_count}
use Rattle.formula.specs.Tree.{Tree, none, node, node_at, parse_tree}
use Rattle.formula_compare.specs.Same.{same_tree}
use Rattle.formula_match.specs.Template.{hole}
use Rattle.formula_match.specs.MatchPlaces.{proper}
use Rattle.std.specs.Prelude.{is_some}
use Rattle.formula_trees.specs.StatementTree.{TreeConclusion, implication, placed}
use Rattle.rules_table.specs.RuleTable.{form_number}
use Rattle.rules_table.specs.declared.rule.Form.{Form}
use Rattle.rules_table.specs.declared.rule.Form.TheVariants.{Implication}
use Rattle.image_access.specs.AccessTrees.{tree_at}
use Rattle.rules_line.specs.Conclusion.{concluded_at, match_conclusion}
use Rattle.rules_line.specs.declared.conclusion.Conclusion.{Conclusion}
use Rattle.rules_line.proofs.ConclusionAgrees.{StandSides}
use Rattle.obligations.specs.Goal.{goal_bytes, start_at, step_at, next_at, target_at, kept_at, claim_at, one_hole, two_holes, three_holes}
use Rattle.obligations.proofs.GoalFilled.{filled_is}

-- trees of assertions

abbrev pub starting : Tree
starting = node (byte Code.start) 0 none none

abbrev pub both : Tree → Tree → Tree
both p q = node (byte Code.both_a) 0 p q

abbrev pub holding : Tree → Tree
holding p = node (byte Code.holds) 0 p none

abbrev pub negated : Tree → Tree
negated p = node (byte Code.not) 0 p none

-- where the templates stand

start_stands : StandSides goal_bytes start_at starting (hole 0)
unfolding parse_tree node_at has_operand part_count proper
start_stands = record { left = refl; right = refl; holes_left = tt; holes_right = tt }

step_stands : StandSides goal_bytes step_at (hole 0) (hole 1)
unfolding parse_tree node_at has_operand part_count proper
step_stands = record { left = refl; right = refl; holes_left = tt; holes_right = tt }

next_stands : StandSides goal_bytes next_at (both (hole 0) (holding (negated (hole 1)))) (hole 2)
unfolding parse_tree node_at has_operand part_count proper
next_stands = record { left = refl; right = refl; holes_left = tt; holes_right = tt }

target_stands : StandSides goal_bytes target_at (both (hole 0) (holding (hole 1))) (hole 2)
unfolding parse_tree node_at has_operand part_count proper
target_stands = record { left = refl; right = refl; holes_left = tt; holes_right = tt }

kept_stands : StandSides goal_bytes kept_at (both (hole 0) (hole 1)) (hole 0)
unfolding parse_tree node_at has_operand part_count proper
kept_stands = record { left = refl; right = refl; holes_left = tt; holes_right = tt }

-- false, held
abbrev pub falsity : Tree
falsity = holding (node (byte Code.false) 0 none none)

claim_stands : StandSides goal_bytes claim_at (both (hole 0) (hole 1)) falsity
unfolding parse_tree node_at has_operand part_count proper
claim_stands = record { left = refl; right = refl; holes_left = tt; holes_right = tt }

-- what comes of the match

abbrev pub compared : ℕ → ℕ → ℕ → Tree → Tree → TreeConclusion → Bool
compared form t k u w v = placed form t k v && (same_tree u v.left && same_tree w v.right)

module _ (s : List ℕ) (c : Conclusion) (a : ℕ) where
  pub start_compared : is_some (match_conclusion s goal_bytes start_at Implication 0 0 c (one_hole a)) ≡ compared implication 0 0 starting
      (tree_at s a) (concluded_at s c)
  unfolding one_hole has_operand
  start_compared =
      filled_is s goal_bytes start_at 0 0 Implication starting (hole 0) (one_hole a) c (record { at = refl; left = refl; num = refl })
      start_stands
      (λ d h. (refl, h.tree 0 (tree_at s a) refl))

  module _ (e : ℕ) where
    pub step_compared : (form : Form) (t k : ℕ) → is_some (match_conclusion s goal_bytes step_at form t k c (two_holes a e))
        ≡ compared (form_number form) t k
        (tree_at s a) (tree_at s e) (concluded_at s c)
    unfolding two_holes has_operand
    step_compared form t k =
        filled_is s goal_bytes step_at t k form (hole 0) (hole 1) (two_holes a e) c (record { at = refl; left = refl; num = refl })
        step_stands
        (λ d h. (h.tree 0 (tree_at s a) refl, h.tree 1 (tree_at s e) refl))

    pub kept_compared : (form : Form) (t k : ℕ) → is_some (match_conclusion s goal_bytes kept_at form t k c (two_holes a e))
        ≡ compared (form_number form) t k
        (both (tree_at s a) (tree_at s e)) (tree_at s a) (concluded_at s c)
    unfolding two_holes has_operand
    kept_compared form t k =
        filled_is s goal_bytes kept_at t k form (both (hole 0) (hole 1)) (hole 0) (two_holes a e) c
        (record { at = refl; left = refl; num = refl }) kept_stands
        (λ d h. (ap₂ both (h.tree 0 (tree_at s a) refl) (h.tree 1 (tree_at s e) refl), h.tree 0 (tree_at s a) refl))

    pub claim_compared : is_some (match_conclusion s goal_bytes claim_at Implication 0 0 c (two_holes a e)) ≡ compared implication 0 0
        (both (tree_at s a) (tree_at s e)) falsity (concluded_at s c)
    unfolding two_holes has_operand
    claim_compared =
        filled_is s goal_bytes claim_at 0 0 Implication (both (hole 0) (hole 1)) falsity (two_holes a e) c
        (record { at = refl; left = refl; num = refl }) claim_stands
        (λ d h. (ap₂ both (h.tree 0 (tree_at s a) refl) (h.tree 1 (tree_at s e) refl), refl))

    module _ (b : ℕ) where
      pub next_compared : is_some (match_conclusion s goal_bytes next_at Implication 0 0 c (three_holes a e b)) ≡ compared implication 0 0
          (both (tree_at s a) (holding (negated (tree_at s e)))) (tree_at s b) (concluded_at s c)
      unfolding three_holes has_operand
      next_compared =
          filled_is s goal_bytes next_at 0 0 Implication (both (hole 0) (holding (negated (hole 1)))) (hole 2) (three_holes a e b) c
          (record { at = refl; left = refl; num = refl }) next_stands
          (λ d h. (
            ap₂ (λ (x y : Tree). both x (holding (negated y))) (h.tree 0 (tree_at s a) refl) (h.tree 1 (tree_at s e) refl),
            h.tree 2 (tree_at s b) refl,
          ))

      pub target_compared : is_some (match_conclusion s goal_bytes target_at Implication 0 0 c (three_holes a e b)) ≡ compared implication 0 0
          (both (tree_at s a) (holding (tree_at s e))) (tree_at s b) (concluded_at s c)
      unfolding three_holes has_operand
      target_compared =
          filled_is s goal_bytes target_at 0 0 Implication (both (hole 0) (holding (hole 1))) (hole 2) (three_holes a e b) c
          (record { at = refl; left = refl; num = refl }) target_stands
          (λ d h. (
            ap₂ (λ (x y : Tree). both x (holding y)) (h.tree 0 (tree_at s a) refl) (h.tree 1 (tree_at s e) refl),
            h.tree 2 (tree_at s b) refl,
          ))
