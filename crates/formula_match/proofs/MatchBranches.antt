-- The ways through the matcher, one law for each.
use Prim.Native.Nat.{ℕ, zero, suc, ◌-◌, ◌≤◌, ◌<◌}
use mathlib.Core.Path.{◌≡◌, refl, ap, sym, ◌∙◌}
use mathlib.Core.List.{List}
use mathlib.Core.Bool.{Bool, true, false, cond}
use native.Mathlib.Numerals.{sub-one}
use native.Mathlib.Omega.{arith}
use lib.ListN.{get_or, set}
use borrow.Author.Tests.{lt-ltb, le-ltb, eq-eqb, ne_eqb}
use Rattle.std.proofs.lemmas.Option.{same_Some}
use Rattle.formula.specs.Codes.{among, one_part, two_parts, part_count}
use Rattle.formula.specs.Tree.{node_at, parse_tree}
use Rattle.formula.specs.declared.node.Node.{Node}
use Rattle.formula.proofs.NodeBranches.{parts_of}
use Rattle.formula_compare.specs.Same.{same_of}
use Rattle.std.specs.Prelude.{Option, Some, None}
use Rattle.formula_match.specs.Template.{first_hole}
use Rattle.formula_match.specs.MatchPlaces.{hole_count, opened, is_there, hole_at, node_of, root_at, grown, match_at}
use Rattle.formula_match.specs.declared.bind.Bind.{Bind}
use Rattle.formula_match.specs.declared.bind.Root.{Root}
use Rattle.formula_match.specs.declared.bind.Rest.TheVariants.{Nothing, One, Two, Taken}
use Rattle.formula_match.specs.declared.matching.Match.{Match}
use Rattle.limits.proofs.BranchTests.{tests}

module _ (s : List ℕ) (tpl j at k : ℕ) (b : Bind) where
  pub hole_new : get_or b.left j 0 ≡ 0 → Some (opened tpl (record { at = set b.at j at; left = set b.left j k; num = b.num })) ≡ hole_at s
      tpl j at k b
  unfolding hole_at
  hole_new z = rw (eq-eqb _ _ z)

  module _ (o : Bool) (z : get_or b.left j 0 ≡ 0 → ⊥) (d : o ≡ is_there (get_or b.at j 0) (get_or b.left j 0) at k) where
    pub hole_same : o ≡ true → Some (opened tpl b) ≡ hole_at s tpl j at k b
    unfolding hole_at
    hole_same h = rw (ne_eqb _ _ z, ← d, h)

    module _ (r : Option (ℕ × ℕ)) (h : o ≡ false)
        (e : r ≡ same_of (parse_tree s (get_or b.left j 0) (get_or b.at j 0)) (parse_tree s k at)) where
      pub hole_no : r ≡ None → None ≡ hole_at s tpl j at k b
      unfolding hole_at
      hole_no c = rw (ne_eqb _ _ z, ← d, h, ← e, c)

      pub hole_held : (x : ℕ × ℕ) → r ≡ Some x → Some (record { tpl = tpl; rest = Nothing x.1; bind = b }) ≡ hole_at s tpl j at k b
      unfolding hole_at
      hole_held x c = rw (ne_eqb _ _ z, ← d, h, ← e, c)

pub ruleset bind_branches = (hole_new, hole_same, hole_no, hole_held)

-- a node has at most two parts
pub few_parts : (c : ℕ) → part_count c < 3
unfolding part_count
few_parts c = go (among c two_parts) (among c one_part)
  where
    go : (a b : Bool) → cond {A = ℕ} a 2 (cond b 1 0) < 3
    go true b = omega arith
    go false true = omega arith
    go false false = omega arith

pub part_small : (s : List ℕ) (at : ℕ) (x : Node) → x ≡ node_at s at → x.parts < 3
part_small s at x e = rw (e, parts_of s at) (few_parts (node_at s at).code)

module _ (s t : List ℕ) (i at k : ℕ) (b : Bind) where
  pub root_zero : k ≡ 0 → Some (record { tpl = i; rest = Nothing at; bind = b }) ≡ root_at s t i at k b
  unfolding root_at
  root_zero z = rw (eq-eqb _ _ z)

  module _ (h : Node) (z : k ≡ 0 → ⊥) (eh : h ≡ node_at t i) where
    pub root_node : (x : Node) (r : Option Root) → h.code < first_hole → x ≡ node_at s at → r ≡ node_of h x b → r ≡ root_at s t i at k b
    unfolding root_at
    root_node x r l e d = rw (ne_eqb _ _ z, ← eh, lt-ltb _ _ l, ← e) d

    pub root_hole : (r : Option Root) → first_hole ≤ h.code → h.code - first_hole < hole_count
        → r ≡ hole_at s h.next (h.code - first_hole) at k b → r ≡ root_at s t i at k b
    unfolding root_at
    root_hole r l u e = rw (ne_eqb _ _ z, ← eh, le-ltb _ _ l, lt-ltb _ _ u) e

    pub root_bad : first_hole ≤ h.code → hole_count ≤ h.code - first_hole → None ≡ root_at s t i at k b
    unfolding root_at
    root_bad l u = rw (ne_eqb _ _ z, ← eh, le-ltb _ _ l, le-ltb _ _ u)

pub ruleset match_root_branches = (root_zero, root_node, root_hole, root_bad)

pub match_step : (s t : List ℕ) (k i at : ℕ) (b : Bind)
    → match_at s t k i at b ≡ grown (λ i' at' b'. match_at s t (k - 1) i' at' b') (parse_tree s k at).end (root_at s t i at k b)
unfolding match_at root_at
match_step s t zero i at b = refl
match_step s t (suc k) i at b = rw (sub-one (suc k))

-- parts are left only where nesting is
module _ (s t : List ℕ) (i at k next : ℕ) (b : Bind) (o : Option Root) (r : Root) (e : o ≡ root_at s t i at k b) (f : o ≡ Some r) where
  root_deep : (r.rest ≡ Nothing at → ⊥) → k ≡ 0 → ⊥
  unfolding root_at
  root_deep n z =
      let q : ◌≡◌ {A = Option Root} (Some r) (Some (record { tpl = i; rest = Nothing at; bind = b })) = sym f ∙ e ∙ rw (eq-eqb _ _ z) in
      n (ap (λ (r : Root). r.rest) (same_Some _ _ q))

  pub left_one : r.rest ≡ One next → 1 ≤ k
  left_one q =
      let d : k ≡ 0 → ⊥ = root_deep (λ (n : r.rest ≡ Nothing at). let z : ◌≡◌ {A = ℕ} 0 1 = cc in omega arith) in
      omega arith

  pub left_two : r.rest ≡ Two next → 1 ≤ k
  left_two q =
      let d : k ≡ 0 → ⊥ = root_deep (λ (n : r.rest ≡ Nothing at). let z : ◌≡◌ {A = ℕ} 0 1 = cc in omega arith) in
      omega arith

  pub falls_one : (m : ℕ) → k ≡ m → r.rest ≡ One next → k - 1 < m
  falls_one m d q = let l : 1 ≤ k = left_one q in omega arith

  pub falls_two : (m : ℕ) → k ≡ m → r.rest ≡ Two next → k - 1 < m
  falls_two m d q = let l : 1 ≤ k = left_two q in omega arith

module _ (s t : List ℕ) (i at k : ℕ) (b : Bind) (o : Option Root) (e : o ≡ root_at s t i at k b) where
  pub match_no : o ≡ None → None ≡ match_at s t k i at b
  match_no f = rw (match_step, ← e, f)

  module _ (r : Root) (f : o ≡ Some r) where
    pub match_ended : (next : ℕ) → r.rest ≡ Nothing next → Some (record { tpl = r.tpl; next = next; bind = r.bind }) ≡ match_at s t k i at b
    match_ended next q = rw (match_step, ← e, f, q)

    pub match_open : (next : ℕ) → r.rest ≡ Taken → next ≡ (parse_tree s k at).end
        → Some (record { tpl = r.tpl; next = next; bind = r.bind }) ≡ match_at s t k i at b
    match_open next q d = rw (match_step, ← e, f, q, ← d)

    pub match_one : (next : ℕ) (m : Option Match) → r.rest ≡ One next → m ≡ match_at s t (k - 1) r.tpl next r.bind → m ≡ match_at s t k i at b
    match_one next m q d = rw (match_step, ← e, f, q) d

    module _ (next : ℕ) (m : Option Match) (q : r.rest ≡ Two next) (em : m ≡ match_at s t (k - 1) r.tpl next r.bind) where
      pub match_first_no : m ≡ None → None ≡ match_at s t k i at b
      match_first_no g = rw (match_step, ← e, f, q, ← em, g)

      pub match_two : (x : Match) (m₂ : Option Match) → m ≡ Some x → m₂ ≡ match_at s t (k - 1) x.tpl x.next x.bind → m₂ ≡ match_at s t k i at b
      match_two x m₂ g d = rw (match_step, ← e, f, q, ← em, g) d

pub ruleset parting = (left_one, left_two, falls_one, falls_two)

pub ruleset match_at_branches = (match_no, match_ended, match_open, match_one, match_first_no, match_two, parting)

-- what the matcher is proved by
pub ruleset bind_ways = (bind_branches, tests)

pub ruleset match_ways = (match_root_branches, match_at_branches, tests)
