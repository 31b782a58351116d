-- The node at a position, and one step of the tree there.
use Prim.Native.Nat.{ℕ, zero, suc, ◌+◌, ◌-◌, ◌≤◌, ◌<◌}
use mathlib.Core.Path.{◌≡◌, refl}
use mathlib.Core.List.{List}
use mathlib.Core.Bool.{Bool, true, false, cond}
use native.Mathlib.Numerals.{sub-one}
use lib.ListN.{length, get_or}
use lib.Dec.{ltb}
use borrow.Author.Tests.{lt-ltb, le-ltb}
use Rattle.formula.specs.Codes.{has_operand, part_count}
use Rattle.formula.specs.Tree.{Tree, node_at, parse_tree, grow}
use Rattle.formula.specs.declared.node.Node.{Node}
use Rattle.limits.proofs.BranchTests.{tests}

pub node_past : (s : List ℕ) (at : ℕ) → length s ≤ at → record { code = 0; operand = 0; parts = 0; next = at } ≡ node_at s at
unfolding node_at
node_past s at h = simp (le-ltb _ _ h)

module _ (s : List ℕ) (at p : ℕ) (o : Bool) (h : at < length s) (e : o ≡ has_operand (get_or s at 0)) (q : p ≡ part_count (get_or s at 0)) where
  pub node_plain : o ≡ false → record { code = get_or s at 0; operand = 0; parts = p; next = at + 1 } ≡ node_at s at
  unfolding node_at
  node_plain z = rw (lt-ltb _ _ h, ← e, z, ← q)

  pub node_operand : (b : ℕ) → o ≡ true → b ≡ get_or s (at + 1) 0
      → record { code = get_or s at 0; operand = b; parts = p; next = at + 2 } ≡ node_at s at
  unfolding node_at
  node_operand b z d = rw (lt-ltb _ _ h, ← e, z, ← q, d)

pub ruleset node_at_branches = (node_past, node_plain, node_operand)

pub parse_zero : (s : List ℕ) (k at : ℕ) → k ≡ 0 → parse_tree s k at ≡ record { tree = Tree.none; end = at }
unfolding parse_tree
parse_zero s k at e = rw e

pub parse_step : (s : List ℕ) (k at : ℕ) → (k ≡ 0 → ⊥) → parse_tree s k at ≡ grow (λ p. parse_tree s (k - 1) p) (node_at s at)
unfolding parse_tree
parse_step s zero at h = absurd (h refl)
parse_step s (suc k) at h = rw (sub-one (suc k))

-- how many parts a node has goes by its code
pub parts_of : (s : List ℕ) (at : ℕ) → (node_at s at).parts ≡ part_count (node_at s at).code
unfolding node_at part_count
parts_of s at = go (ltb at (length s)) (has_operand (get_or s at 0))
  where
    n : Bool → Bool → Node
    n a b =
        cond a
        (cond b
        (record { code = get_or s at 0; operand = get_or s (at + 1) 0; parts = part_count (get_or s at 0); next = at + 2 })
        (record { code = get_or s at 0; operand = 0; parts = part_count (get_or s at 0); next = at + 1 }))
        (record { code = 0; operand = 0; parts = 0; next = at })

    go : (a b : Bool) → (n a b).parts ≡ part_count (n a b).code
    go true true = refl
    go true false = refl
    go false b = refl

-- what the function on nodes is proved by
pub ruleset node_ways = (node_at_branches, tests)
