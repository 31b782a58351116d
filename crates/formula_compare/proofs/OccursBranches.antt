-- The ways through the search for what occurs, one law for each.
use Prim.Native.Nat.{ℕ, ◌-◌, ◌<◌}
use mathlib.Core.Path.{◌≡◌, refl, sym}
use mathlib.Core.List.{List}
use mathlib.Core.Bool.{Bool, true, false, not, cond}
use native.Mathlib.Omega.{arith}
use lib.Dec.{ltb, eqb}
use borrow.Author.Tests.{lt-ltb}
use Rattle.std.specs.Prelude.{Option, Some, None}
use Rattle.formula.specs.Tree.{Tree, none, node, ParsedTree, node_at, parse_tree}
use Rattle.formula.specs.declared.node.Node.{Node}
use Rattle.formula.proofs.NodeBranches.{parse_zero, parse_step}
use Rattle.limits.proofs.BranchTests.{lower, tests}
use Rattle.formula_compare.specs.Occurs.{owner_of, operand_numbered, is_sought, is_queried, occurs, past_without}
use Rattle.formula_compare.specs.declared.occurs.Operand.TheVariants.{Any, Equal, Foreign}
use Rattle.formula_compare.specs.declared.occurs.Query.{Query}

occurs_node : (w : Query) (owners : List ℕ) (c o : ℕ) (l r : Tree)
    → occurs w owners (node c o l r) ≡ cond (is_queried w owners c o) true (cond (occurs w owners l) true (occurs w owners r))
unfolding occurs
occurs_node w owners c o l r = refl

occurs_none : (w : Query) (owners : List ℕ) → occurs w owners none ≡ false
unfolding occurs
occurs_none w owners = refl

said_here : (b : Bool) (e : ℕ) (f : Option ℕ) → f ≡ cond b None (Some e) → f ≡ None → b ≡ true
said_here true e f h d = refl
said_here false e f h d = let z : ◌≡◌ {A = ℕ} 0 1 = cc in absurd (omega arith)

said_past : (b : Bool) (e m : ℕ) (f : Option ℕ) → f ≡ cond b None (Some e) → f ≡ Some m → (b ≡ false) × (e ≡ m)
said_past true e m f h d = let z : ◌≡◌ {A = ℕ} 0 1 = cc in absurd (omega arith)
said_past false e m f h d = (refl, (cc))

module _ (w : Query) (owners : List ℕ) (s : List ℕ) (k at : ℕ) where
  pub find_zero : k ≡ 0 → Some at ≡ past_without w owners (parse_tree s k at)
  find_zero z = rw (parse_zero s k at z, occurs_none)

  module _ (x : Node) (t : Bool) (z : k ≡ 0 → ⊥) (e : x ≡ node_at s at) (et : t ≡ is_queried w owners x.code x.operand) where
    pub find_here : t ≡ true → None ≡ past_without w owners (parse_tree s k at)
    find_here h = rw (parse_step s k at z, ← e, occurs_node, ← et, h)

    pub find_leaf : t ≡ false → x.parts ≡ 0 → Some x.next ≡ past_without w owners (parse_tree s k at)
    find_leaf h p = rw (parse_step s k at z, ← e, occurs_node, ← et, h, p, occurs_none)

    module _ (g : Option ℕ) (h : t ≡ false) (p : x.parts ≡ 0 → ⊥) (eg : g ≡ past_without w owners (parse_tree s (k - 1) x.next)) where
      abbrev left : ParsedTree
      left = parse_tree s (k - 1) x.next

      some : ltb 0 x.parts ≡ true
      some = let q : 0 < x.parts = omega arith in lt-ltb _ _ q

      pub find_part : g ≡ None → None ≡ past_without w owners (parse_tree s k at)
      find_part d = rw (parse_step s k at z, ← e, occurs_node, ← et, h, some, said_here (occurs w owners left.tree) left.end g eg d)

      pub find_one : (m : ℕ) → g ≡ Some m → x.parts ≡ 1 → Some m ≡ past_without w owners (parse_tree s k at)
      find_one m d o =
          let q = said_past (occurs w owners left.tree) left.end m g eg d in
          rw (parse_step s k at z, ← e, occurs_node, ← et, h, o, q.0, occurs_none, q.1)

      pub find_two : (m : ℕ) (r : Option ℕ) → g ≡ Some m → (x.parts ≡ 1 → ⊥) → r ≡ past_without w owners (parse_tree s (k - 1) m)
          → r ≡ past_without w owners (parse_tree s k at)
      find_two m r d o er =
          let q = said_past (occurs w owners left.tree) left.end m g eg d in
          let t₁ : 1 < x.parts = omega arith in
          rw (parse_step s k at z, ← e, occurs_node, ← et, h, some, lt-ltb _ _ t₁, q.0, q.1) er

  pub found_here : (f : Option ℕ) → f ≡ past_without w owners (parse_tree s k at) → f ≡ None → true ≡ occurs w owners (parse_tree s k at).tree
  found_here f e d = sym (said_here (occurs w owners (parse_tree s k at).tree) (parse_tree s k at).end f e d)

  pub found_nowhere : (f : Option ℕ) (m : ℕ) → f ≡ past_without w owners (parse_tree s k at) → f ≡ Some m
      → false ≡ occurs w owners (parse_tree s k at).tree
  found_nowhere f m e d = sym (said_past (occurs w owners (parse_tree s k at).tree) (parse_tree s k at).end m f e d).0

-- every number of a kind seeks something: 0 any operand, 1 an equal one, each other one a register that the thread does not own
pub sought_numbered : (k n : ℕ) (owners : List ℕ) (o : ℕ)
    → is_sought (operand_numbered k n) owners o ≡ cond (eqb k 0) true (cond (eqb k 1) (eqb o n) (not (eqb (owner_of owners o) n)))
unfolding operand_numbered
sought_numbered k n owners o = go (eqb k 0) (eqb k 1)
  where
    go : (a b : Bool) → is_sought (cond a Any (cond b (Equal n) (Foreign n))) owners o
        ≡ cond a true (cond b (eqb o n) (not (eqb (owner_of owners o) n)))
    go true b = refl
    go false true = refl
    go false false = refl

pub ruleset past_without_branches = (find_zero, find_here, find_leaf, find_part, find_one, find_two, lower)

pub ruleset occurs_at_branches = (found_here, found_nowhere)

-- what the search is proved by
pub ruleset occurs_ways = (past_without_branches, occurs_at_branches, tests)
