-- Comparison and replacement, side by side: one fact serves both, `by-pair`. Then the ways through the functions, one law for each.
use Prim.Native.Nat.{ℕ, ◌-◌, ◌≤◌, ◌<◌}
use mathlib.Core.Path.{◌≡◌, refl, ap, sym, ◌∙◌}
use mathlib.Core.List.{List}
use mathlib.Core.Bool.{Bool, true, false, cond, ◌&&◌}
use native.Mathlib.Omega.{arith}
use lib.Dec.{ltb, eqb}
use borrow.Author.Tests.{lt-ltb, eq-eqb, ne_eqb, eqb-true, eqb-false}
use Rattle.semantics.specs.Code
use Rattle.semantics.specs.Code.{byte}
use Rattle.formula.specs.Codes.{part_count}
use Rattle.formula.specs.Tree.{Tree, none, node, ParsedTree, node_at, parse_tree, part}
use Rattle.formula.specs.declared.node.Node.{Node}
use Rattle.formula.proofs.NodeBranches.{parse_zero, parse_step, parts_of}
use Rattle.formula_compare.specs.Same.{same_tree, same_of, pair_of, pair_at}
use Rattle.formula_compare.specs.Replace.{is_name, replace_t, is_named, one_name, leaf_only, stands_for, second_of, replacing_of, put_for, substituted, replaced_of, past_name, hit_at}
use Rattle.std.specs.Prelude.{Option, Some, None}
use Rattle.std.proofs.lemmas.Option.{some_pair_parts}
use Rattle.formula_compare.specs.declared.replace.Name.{Name}
use Rattle.formula_compare.specs.declared.replace.Replacing.{Replacing}
use Rattle.formula_compare.specs.declared.replace.Replacing.TheVariants.{Formula, Word}
use Rattle.formula_compare.specs.declared.replace.Substitution.{Substitution}
use Rattle.formula_compare.specs.declared.same.Pair.{Pair}
use Rattle.formula_compare.specs.declared.same.Pair.TheVariants.{Differ, Ended, One, Two}
use Rattle.limits.proofs.BranchTests.{tests}

-- the clauses of comparison
pub same_none : same_tree none none ≡ true
unfolding same_tree
same_none = refl

pub same_none_node : (c o : ℕ) (l r : Tree) → same_tree none (node c o l r) ≡ false
unfolding same_tree
same_none_node c o l r = refl

pub same_node_none : (c o : ℕ) (l r : Tree) → same_tree (node c o l r) none ≡ false
unfolding same_tree
same_node_none c o l r = refl

pub same_nodes : (c o d p : ℕ) (l r m s : Tree) → same_tree (node c o l r)
    (node d p m s) ≡ (eqb c d && (eqb o p && (same_tree l m && same_tree r s)))
unfolding same_tree
same_nodes c o d p l r m s = refl

and_true : (a : Bool) → (a && true) ≡ a
and_true true = refl
and_true false = refl

-- g of one tree compared with another
abbrev sim_of : (Tree → Tree) → ParsedTree → ParsedTree → Option (ℕ × ℕ)
sim_of g u v = cond (same_tree (g u.tree) v.tree) (Some (u.end, v.end)) None

abbrev then_same : Option (ℕ × ℕ) → (ℕ → ℕ → Option (ℕ × ℕ)) → Option (ℕ × ℕ)
then_same (Some x) f = f x.0 x.1
then_same None f = None

-- the comparison from what the two roots show
abbrev follow : (ℕ → ℕ → Option (ℕ × ℕ)) → Pair → Option (ℕ × ℕ)
follow f Differ = None
follow f (Ended p q) = Some (p, q)
follow f (One p q) = f p q
follow f (Two p q) = then_same (f p q) f

and_then : (x : Bool) (e d : ℕ) (y : ℕ → ℕ → Bool) (a : ℕ → ℕ → Option (ℕ × ℕ))
    → cond (x && y e d) (a e d) None ≡ then_same (cond x (Some (e, d)) None) (λ p q. cond (y p q) (a p q) None)
and_then true e d y a = refl
and_then false e d y a = refl

-- the parts of a node, read by f
abbrev left_of : (ℕ → ParsedTree) → Node → Tree
left_of f x = (part f (ltb 0 x.parts) x.next).tree

abbrev right_of : (ℕ → ParsedTree) → Node → Tree
right_of f x = (part f (ltb 1 x.parts) (part f (ltb 0 x.parts) x.next).end).tree

-- g goes through the node to its parts
abbrev Through : (Tree → Tree) → Node → Type 0
Through g x =
    (f : ℕ → ParsedTree)
    → g (node x.code x.operand (part f (ltb 0 x.parts) x.next).tree
    (part f (ltb 1 x.parts) (part f (ltb 0 x.parts) x.next).end).tree)
    ≡ node x.code x.operand (g (part f (ltb 0 x.parts) x.next).tree)
    (g (part f (ltb 1 x.parts) (part f (ltb 0 x.parts) x.next).end).tree)

module _ (g : Tree → Tree) (g0 : g none ≡ none) (s : List ℕ) (a m b k : ℕ) (gn : (m ≡ 0 → ⊥) → Through g (node_at s a)) where
  abbrev x : Node
  x = node_at s a

  abbrev y : Node
  y = node_at s b

  abbrev sub : ℕ → ℕ → Option (ℕ × ℕ)
  sub p q = sim_of g (parse_tree s (m - 1) p) (parse_tree s (k - 1) q)

  alike : eqb x.code y.code ≡ true → y.parts ≡ x.parts
  alike e = parts_of s b ∙ ap part_count (sym (eqb-true _ _ e)) ∙ sym (parts_of s a)

  by_pair : sim_of g (parse_tree s m a) (parse_tree s k b) ≡ follow sub (pair_at s a m b k)
  unfolding pair_at pair_of
  by_pair = go (eqb m 0) (eqb k 0) (eqb x.code y.code) (eqb x.operand y.operand) (eqb x.parts 0) (eqb x.parts 1) refl
      refl refl refl refl refl
    where
      go : (i j c o p q : Bool) → eqb m 0 ≡ i → eqb k 0 ≡ j → eqb x.code y.code ≡ c → eqb x.operand y.operand ≡ o
          → eqb x.parts 0 ≡ p → eqb x.parts 1 ≡ q → sim_of g (parse_tree s m a) (parse_tree s k b) ≡ follow sub (pair_at s a m b k)
      go true true c o p q e₁ e₂ e₃ e₄ e₅ e₆ = rw (
        e₁,
        e₂,
        parse_zero s m a (eqb-true _ _ e₁),
        parse_zero s k b (eqb-true _ _ e₂),
        g0,
        same_none,
      )
      go true false c o p q e₁ e₂ e₃ e₄ e₅ e₆ = rw (
        e₁,
        e₂,
        parse_zero s m a (eqb-true _ _ e₁),
        parse_step s k b (eqb-false _ _ e₂),
        g0,
        same_none_node,
      )
      go false true c o p q e₁ e₂ e₃ e₄ e₅ e₆ = rw (
        e₁,
        e₂,
        parse_step s m a (eqb-false _ _ e₁),
        parse_zero s k b (eqb-true _ _ e₂),
        gn (eqb-false _ _ e₁) (λ p. parse_tree s (m - 1) p),
        same_node_none,
      )
      go false false false o p q e₁ e₂ e₃ e₄ e₅ e₆ = rw (
        e₁,
        e₂,
        parse_step s m a (eqb-false _ _ e₁),
        parse_step s k b (eqb-false _ _ e₂),
        gn (eqb-false _ _ e₁) (λ p. parse_tree s (m - 1) p),
        same_nodes,
        e₃,
      )
      go false false true false p q e₁ e₂ e₃ e₄ e₅ e₆ =
          rw (
            e₁,
            e₂,
            parse_step s m a (eqb-false _ _ e₁),
            parse_step s k b (eqb-false _ _ e₂),
            gn (eqb-false _ _ e₁) (λ p. parse_tree s (m - 1) p),
            same_nodes,
            e₃,
            e₄,
          )
      go false false true true true q e₁ e₂ e₃ e₄ e₅ e₆ =
          let n : x.parts ≡ 0 = eqb-true _ _ e₅ in
          rw (
            e₁,
            e₂,
            parse_step s m a (eqb-false _ _ e₁),
            parse_step s k b (eqb-false _ _ e₂),
            gn (eqb-false _ _ e₁) (λ p. parse_tree s (m - 1) p),
            same_nodes,
            e₃,
            e₄,
            e₅,
            alike e₃,
            n,
            g0,
            same_none,
          )
      go false false true true false true e₁ e₂ e₃ e₄ e₅ e₆ =
          let n : x.parts ≡ 1 = eqb-true _ _ e₆ in
          rw (
            e₁,
            e₂,
            parse_step s m a (eqb-false _ _ e₁),
            parse_step s k b (eqb-false _ _ e₂),
            gn (eqb-false _ _ e₁) (λ p. parse_tree s (m - 1) p),
            same_nodes,
            e₃,
            e₄,
            e₅,
            e₆,
            alike e₃,
            n,
            g0,
            same_none,
            and_true,
          )
      go false false true true false false e₁ e₂ e₃ e₄ e₅ e₆ =
          let z₀ : x.parts ≡ 0 → ⊥ = eqb-false _ _ e₅ in
          let z₁ : x.parts ≡ 1 → ⊥ = eqb-false _ _ e₆ in
          let t₀ : 0 < x.parts = omega arith in
          let t₁ : 1 < x.parts = omega arith in
          rw (
            e₁,
            e₂,
            parse_step s m a (eqb-false _ _ e₁),
            parse_step s k b (eqb-false _ _ e₂),
            gn (eqb-false _ _ e₁) (λ p. parse_tree s (m - 1) p),
            same_nodes,
            e₃,
            e₄,
            e₅,
            e₆,
            alike e₃,
            lt-ltb _ _ t₀,
            lt-ltb _ _ t₁,
          )
          (and_then (same_tree (g (parse_tree s (m - 1) x.next).tree) (parse_tree s (k - 1) y.next).tree)
          (parse_tree s (m - 1) x.next).end (parse_tree s (k - 1) y.next).end
          (λ p q. same_tree (g (parse_tree s (m - 1) p).tree) (parse_tree s (k - 1) q).tree)
          (λ p q. Some ((parse_tree s (m - 1) p).end, (parse_tree s (k - 1) q).end)))

-- parts are read only where nesting is left, on both sides
shallow : (m k a b : ℕ) (t : Pair) (u : Pair) → t ≡ cond (eqb m 0) (cond (eqb k 0) (Ended a b) Differ) (cond (eqb k 0) Differ u)
    → ((p q : ℕ) → t ≡ One p q → (1 ≤ m) × (1 ≤ k)) × ((p q : ℕ) → t ≡ Two p q → (1 ≤ m) × (1 ≤ k))
shallow m k a b t u = go (eqb m 0) (eqb k 0) refl refl
  where
    Deep : Type 0
    Deep = ((p q : ℕ) → t ≡ One p q → (1 ≤ m) × (1 ≤ k)) × ((p q : ℕ) → t ≡ Two p q → (1 ≤ m) × (1 ≤ k))

    go : (i j : Bool) → eqb m 0 ≡ i → eqb k 0 ≡ j → t ≡ cond i (cond j (Ended a b) Differ) (cond j Differ u) → Deep
    go true true d e h = (
      (λ p q o. let z : ◌≡◌ {A = ℕ} 0 1 = cc in absurd (omega arith)),
      (λ p q o. let z : ◌≡◌ {A = ℕ} 0 1 = cc in absurd (omega arith)),
    )
    go true false d e h = (
      (λ p q o. let z : ◌≡◌ {A = ℕ} 0 1 = cc in absurd (omega arith)),
      (λ p q o. let z : ◌≡◌ {A = ℕ} 0 1 = cc in absurd (omega arith)),
    )
    go false true d e h = (
      (λ p q o. let z : ◌≡◌ {A = ℕ} 0 1 = cc in absurd (omega arith)),
      (λ p q o. let z : ◌≡◌ {A = ℕ} 0 1 = cc in absurd (omega arith)),
    )
    go false false d e h =
        let x = eqb-false m 0 d in
        let y = eqb-false k 0 e in
        ((λ p q o. (omega arith, omega arith)), (λ p q o. (omega arith, omega arith)))

module _ (s : List ℕ) (a m b k p q : ℕ) (t : Pair) (e : t ≡ pair_at s a m b k) where
  pub one_left : t ≡ One p q → 1 ≤ m
  unfolding pair_at
  one_left d = ((shallow m k a b t (pair_of (node_at s a) (node_at s b)) e).0 p q d).0

  pub one_right : t ≡ One p q → 1 ≤ k
  unfolding pair_at
  one_right d = ((shallow m k a b t (pair_of (node_at s a) (node_at s b)) e).0 p q d).1

  pub two_left : t ≡ Two p q → 1 ≤ m
  unfolding pair_at
  two_left d = ((shallow m k a b t (pair_of (node_at s a) (node_at s b)) e).1 p q d).0

  pub two_right : t ≡ Two p q → 1 ≤ k
  unfolding pair_at
  two_right d = ((shallow m k a b t (pair_of (node_at s a) (node_at s b)) e).1 p q d).1

-- the measure falls where a part is read
pub lower : (m t : ℕ) → m ≡ t → 1 ≤ m → m - 1 < t
lower m t e h = omega arith

module _ (s : List ℕ) (a m b k : ℕ) where
  pub pair_ended : m ≡ 0 → k ≡ 0 → Ended a b ≡ pair_at s a m b k
  unfolding pair_at
  pair_ended e d = rw (eq-eqb _ _ e, eq-eqb _ _ d)

  pub pair_left : m ≡ 0 → (k ≡ 0 → ⊥) → Differ ≡ pair_at s a m b k
  unfolding pair_at
  pair_left e d = rw (eq-eqb _ _ e, ne_eqb _ _ d)

  pub pair_right : (m ≡ 0 → ⊥) → k ≡ 0 → Differ ≡ pair_at s a m b k
  unfolding pair_at
  pair_right e d = rw (ne_eqb _ _ e, eq-eqb _ _ d)

pub pair_deep : (s : List ℕ) (a m b k : ℕ) (x y : Node) (r : Pair) → (m ≡ 0 → ⊥) → (k ≡ 0 → ⊥) → x ≡ node_at s a → y ≡ node_at s b
    → r ≡ pair_of x y → r ≡ pair_at s a m b k
unfolding pair_at
pair_deep s a m b k x y r zm zk ex ey er = rw (er, ex, ey, ne_eqb _ _ zm, ne_eqb _ _ zk)

-- the ways through `same_at`
module _ (s : List ℕ) (a m b k : ℕ) (t : Pair) (et : t ≡ pair_at s a m b k) where
  same_by : same_of (parse_tree s m a) (parse_tree s k b) ≡ follow (λ p q. same_of (parse_tree s (m - 1) p) (parse_tree s (k - 1) q)) t
  same_by = rw et (by_pair (λ x. x) refl s a m b k (λ z f. refl))

  pub same_differ : t ≡ Differ → None ≡ same_of (parse_tree s m a) (parse_tree s k b)
  same_differ d = rw (same_by, d)

  pub same_ended : (p q : ℕ) → t ≡ Ended p q → Some (p, q) ≡ same_of (parse_tree s m a) (parse_tree s k b)
  same_ended p q d = rw (same_by, d)

  pub same_one : (p q : ℕ) (r : Option (ℕ × ℕ)) → t ≡ One p q → r ≡ same_of (parse_tree s (m - 1) p) (parse_tree s (k - 1) q)
      → r ≡ same_of (parse_tree s m a) (parse_tree s k b)
  same_one p q r d e = rw (same_by, d) e

  pub same_two_no : (p q : ℕ) (r : Option (ℕ × ℕ)) → t ≡ Two p q → r ≡ same_of (parse_tree s (m - 1) p) (parse_tree s (k - 1) q) → r ≡ None
      → None ≡ same_of (parse_tree s m a) (parse_tree s k b)
  same_two_no p q r d e f = rw (same_by, d, ← e, f)

  pub same_two : (p q : ℕ) (x : ℕ × ℕ) (r r₂ : Option (ℕ × ℕ)) → t ≡ Two p q → r ≡ same_of (parse_tree s (m - 1) p) (parse_tree s (k - 1) q)
      → r ≡ Some x → r₂ ≡ same_of (parse_tree s (m - 1) x.0) (parse_tree s (k - 1) x.1) → r₂ ≡ same_of (parse_tree s m a) (parse_tree s k b)
  same_two p q x r r₂ d e f g = rw (same_by, d, ← e, f) g

pub ruleset same_at_branches = (same_differ, same_ended, same_one, same_two_no, same_two, one_left, one_right, two_left, two_right, lower)

pub ruleset pair_at_branches = (pair_ended, pair_left, pair_right, pair_deep)

replace_node : (σ : ℕ → ℕ → Tree) (c o : ℕ) (l r : Tree)
    → replace_t σ (node c o l r) ≡ cond (is_name c) (σ c o) (node c o (replace_t σ l) (replace_t σ r))
unfolding replace_t
replace_node σ c o l r = refl

replace_none : (σ : ℕ → ℕ → Tree) → replace_t σ none ≡ none
unfolding replace_t
replace_none σ = refl

-- names have no parts
name_parts : (c : ℕ) → is_name c ≡ true → part_count c ≡ 0
unfolding is_name part_count
name_parts c h = go (eqb c (byte Code.reg)) (eqb c (byte Code.word)) refl refl h
  where
    go : (i j : Bool) → eqb c (byte Code.reg) ≡ i → eqb c (byte Code.word) ≡ j → cond i true (cond j true false) ≡ true → part_count c ≡ 0
    go true j e d h = rw (eqb-true c (byte Code.reg) e)
    go false true e d h = rw (eqb-true c (byte Code.word) d)
    go false false e d h = let z : ◌≡◌ {A = ℕ} 0 1 = cc in absurd (omega arith)

is_word : is_name (byte Code.word) ≡ true
unfolding is_name
is_word = refl

is_reg : is_name (byte Code.reg) ≡ true
unfolding is_name
is_reg = refl

left_true : (i j : Bool) → (i && j) ≡ true → i ≡ true
left_true true j h = refl
left_true false j h = let z : ◌≡◌ {A = ℕ} 0 1 = cc in absurd (omega arith)

-- what is replaced is a name
named_name : (n : Name) (c o : ℕ) → is_named n c o ≡ true → is_name c ≡ true
unfolding is_named
named_name (Name.Word x) c o h = rw (eqb-true _ _ (left_true (eqb c (byte Code.word)) (eqb o x) h)) is_word
named_name (Name.Register r) c o h = rw (eqb-true _ _ (left_true (eqb c (byte Code.reg)) (eqb o r) h)) is_reg

second_name : (q : Option (ℕ × Replacing)) (c o : ℕ) (by : Replacing) → second_of q c o ≡ Some by → is_name c ≡ true
second_name None c o by h = let z : ◌≡◌ {A = ℕ} 0 1 = cc in absurd (omega arith)
second_name (Some x) c o by h = go (is_named (Name.Register x.0) c o) refl h
  where
    go : (b : Bool) → is_named (Name.Register x.0) c o ≡ b → cond b (Some x.1) None ≡ Some by → is_name c ≡ true
    go true e h = named_name (Name.Register x.0) c o e
    go false e h = let z : ◌≡◌ {A = ℕ} 0 1 = cc in absurd (omega arith)

replaced_name : (w : Substitution) (c o : ℕ) (by : Replacing) → replacing_of w c o ≡ Some by → is_name c ≡ true
unfolding replacing_of
replaced_name w c o by h = go (is_named w.name c o) refl h
  where
    go : (b : Bool) → is_named w.name c o ≡ b → cond b (Some w.by) (second_of w.second c o) ≡ Some by → is_name c ≡ true
    go true e h = named_name w.name c o e
    go false e h = second_name w.second c o by h

-- what `hitAt` says of the node at a
module _ (s : List ℕ) (a k : ℕ) (w : Substitution) where
  abbrev found : Option Replacing
  found = replacing_of w (node_at s a).code (node_at s a).operand

  abbrev put_there : Tree
  put_there = substituted s w (node_at s a).code (node_at s a).operand

  hit_other : hit_at s a k w ≡ None → (k ≡ 0 → ⊥) → put_there ≡ node (node_at s a).code (node_at s a).operand none none
  unfolding hit_at substituted
  hit_other e z = go found (rw (ne_eqb _ _ z) at e)
    where
      go : (f : Option Replacing) → past_name (node_at s a).next f ≡ None → put_for s f (node_at s a).code (node_at s a).operand
          ≡ node (node_at s a).code (node_at s a).operand none none
      go None d = refl
      go (Some by) d = let z : ◌≡◌ {A = ℕ} 0 1 = cc in absurd (omega arith)

  pub record IsHit (n : ℕ) (by : Replacing) : Type 0 where
    deep : k ≡ 0 → ⊥
    put : put_there ≡ (stands_for s by).tree
    name : is_name (node_at s a).code ≡ true
    past : (node_at s a).next ≡ n

  hit_is : (n : ℕ) (by : Replacing) → hit_at s a k w ≡ Some (n, by) → IsHit n by
  unfolding hit_at substituted
  hit_is n by e = go (eqb k 0) found refl refl e
    where
      go : (z : Bool) (f : Option Replacing) → eqb k 0 ≡ z → found ≡ f → cond z None (past_name (node_at s a).next f) ≡ Some (n, by)
          → IsHit n by
      go true f e₁ e₂ d = let z : ◌≡◌ {A = ℕ} 0 1 = cc in absurd (omega arith)
      go false None e₁ e₂ d = let z : ◌≡◌ {A = ℕ} 0 1 = cc in absurd (omega arith)
      go false (Some y) e₁ e₂ d =
          let q = some_pair_parts (node_at s a).next n y by d in
          record { deep = eqb-false _ _ e₁; put = rw (e₂, q.1); name = replaced_name w _ _ y e₂; past = q.0 }

-- a node without parts
pub leaf_zero : (s : List ℕ) (c o b k : ℕ) → k ≡ 0 → None ≡ same_of (leaf_only c o) (parse_tree s k b)
leaf_zero s c o b k e = rw (parse_zero s k b e, same_node_none)

module _ (s : List ℕ) (c o b k : ℕ) (n : Node) (z : k ≡ 0 → ⊥) (e : n ≡ node_at s b) where
  pub leaf_there : part_count c ≡ 0 → n.code ≡ c → n.operand ≡ o → Some (0, n.next) ≡ same_of (leaf_only c o) (parse_tree s k b)
  leaf_there q d x =
      let p : n.parts ≡ 0 = ap (λ (n : Node). n.parts) e ∙ parts_of s b ∙ ap part_count (ap (λ (n : Node). n.code) (sym e) ∙ d) ∙ q in
      rw (parse_step s k b z, ← e, same_nodes, eq-eqb _ _ (sym d), eq-eqb _ _ (sym x), p, same_none)

  pub leaf_operand : n.code ≡ c → (n.operand ≡ o → ⊥) → None ≡ same_of (leaf_only c o) (parse_tree s k b)
  leaf_operand d x = rw (parse_step s k b z, ← e, same_nodes, eq-eqb _ _ (sym d), ne_eqb _ _ (λ (q : o ≡ n.operand). x (sym q)))

  pub leaf_code : (n.code ≡ c → ⊥) → None ≡ same_of (leaf_only c o) (parse_tree s k b)
  leaf_code d = rw (parse_step s k b z, ← e, same_nodes, ne_eqb _ _ (λ (q : c ≡ n.code). d (sym q)))

pub ruleset leaf_stands_branches = (leaf_zero, leaf_there, leaf_operand, leaf_code)

pub word_parts : part_count (byte Code.word) ≡ 0
word_parts = name_parts (byte Code.word) is_word

module _ (s : List ℕ) (by : Replacing) (b k : ℕ) (r : Option (ℕ × ℕ)) where
  pub stands_formula : (at left : ℕ) → by ≡ Formula at left → r ≡ same_of (parse_tree s left at) (parse_tree s k b)
      → r ≡ same_of (stands_for s by) (parse_tree s k b)
  stands_formula at left e d = rw e d

  pub stands_word : (x : ℕ) → by ≡ Word x → r ≡ same_of (leaf_only (byte Code.word) x) (parse_tree s k b)
      → r ≡ same_of (stands_for s by) (parse_tree s k b)
  stands_word x e d = rw e d

pub ruleset stands_at_branches = (stands_formula, stands_word, word_parts)

said_yes : (u v : ParsedTree) (p q : ℕ) → same_of u v ≡ Some (p, q) → (same_tree u.tree v.tree ≡ true) × (u.end ≡ p) × (v.end ≡ q)
said_yes u v p q = go (same_tree u.tree v.tree)
  where
    go : (t : Bool) → cond {A = Option (ℕ × ℕ)} t (Some (u.end, v.end)) None ≡ Some (p, q) → (t ≡ true) × (u.end ≡ p) × (v.end ≡ q)
    go true h = let y = some_pair_parts u.end p v.end q h in (refl, y.0, y.1)
    go false h = let z : ◌≡◌ {A = ℕ} 0 1 = cc in absurd (omega arith)

said_no : (u v : ParsedTree) → same_of u v ≡ None → same_tree u.tree v.tree ≡ false
said_no u v = go (same_tree u.tree v.tree)
  where
    go : (t : Bool) → cond {A = Option (ℕ × ℕ)} t (Some (u.end, v.end)) None ≡ None → t ≡ false
    go true h = let z : ◌≡◌ {A = ℕ} 0 1 = cc in absurd (omega arith)
    go false h = refl

-- the ways through `replaced_at`
module _ (s : List ℕ) (a m b k : ℕ) (w : Substitution) (h : Option (ℕ × Replacing)) (eh : h ≡ hit_at s a m w) where
  abbrev put : Tree → Tree
  put = replace_t (substituted s w)

  abbrev want : Option (ℕ × ℕ)
  want = replaced_of s w (parse_tree s m a) (parse_tree s k b)

  replaced_there : (n : ℕ) (by : Replacing) → h ≡ Some (n, by)
      → want ≡ cond (same_tree (stands_for s by).tree (parse_tree s k b).tree) (Some (n, (parse_tree s k b).end)) None
  replaced_there n by d =
      let i = hit_is s a m w n by (sym eh ∙ d) in
      let p : (node_at s a).parts ≡ 0 = parts_of s a ∙ name_parts (node_at s a).code i.name in
      rw (parse_step s m a i.deep, replace_node, i.name, i.put, p, i.past)

  module _ (x : ℕ × Replacing) (r : Option (ℕ × ℕ)) (d : h ≡ Some x) (e : r ≡ same_of (stands_for s x.1) (parse_tree s k b)) where
    pub replaced_hit_no : r ≡ None → None ≡ want
    replaced_hit_no f = rw (replaced_there x.0 x.1 d, said_no (stands_for s x.1) (parse_tree s k b) (sym e ∙ f))

    pub replaced_hit : (q : ℕ × ℕ) → r ≡ Some q → Some (x.0, q.1) ≡ want
    replaced_hit q f =
        let y = said_yes (stands_for s x.1) (parse_tree s k b) q.0 q.1 (sym e ∙ f) in
        rw (replaced_there x.0 x.1 d, y.0, y.2)

  module _ (t : Pair) (o : h ≡ None) (et : t ≡ pair_at s a m b k) where
    -- another name stays as it is, and what is no name is replaced in its parts
    through : (m ≡ 0 → ⊥) → Through put (node_at s a)
    through z f = rw replace_node (go (is_name (node_at s a).code) refl)
      where
        go : (i : Bool) → is_name (node_at s a).code ≡ i
            → cond i (put_there s a m w) (node (node_at s a).code (node_at s a).operand (put (left_of f (node_at s a)))
            (put (right_of f (node_at s a)))) ≡ node (node_at s a).code (node_at s a).operand (put (left_of f (node_at s a)))
            (put (right_of f (node_at s a)))
        go true e =
            let p : (node_at s a).parts ≡ 0 = parts_of s a ∙ name_parts (node_at s a).code e in
            rw (hit_other s a m w (sym eh ∙ o) z, p) (simp replace_none)
        go false e = refl

    replaced_by : want ≡ follow (λ p q. replaced_of s w (parse_tree s (m - 1) p) (parse_tree s (k - 1) q)) t
    replaced_by = rw et (by_pair put (replace_none (substituted s w)) s a m b k through)

    pub replaced_differ : t ≡ Differ → None ≡ want
    replaced_differ d = rw (replaced_by, d)

    pub replaced_ended : (p q : ℕ) → t ≡ Ended p q → Some (p, q) ≡ want
    replaced_ended p q d = rw (replaced_by, d)

    pub replaced_one : (p q : ℕ) (r : Option (ℕ × ℕ)) → t ≡ One p q → r ≡ replaced_of s w (parse_tree s (m - 1) p) (parse_tree s (k - 1) q) → r ≡ want
    replaced_one p q r d e = rw (replaced_by, d) e

    pub replaced_two_no : (p q : ℕ) (r : Option (ℕ × ℕ)) → t ≡ Two p q → r ≡ replaced_of s w (parse_tree s (m - 1) p) (parse_tree s (k - 1) q) → r ≡ None
        → None ≡ want
    replaced_two_no p q r d e f = rw (replaced_by, d, ← e, f)

    pub replaced_two : (p q : ℕ) (x : ℕ × ℕ) (r r₂ : Option (ℕ × ℕ)) → t ≡ Two p q
        → r ≡ replaced_of s w (parse_tree s (m - 1) p) (parse_tree s (k - 1) q) → r ≡ Some x
        → r₂ ≡ replaced_of s w (parse_tree s (m - 1) x.0) (parse_tree s (k - 1) x.1) → r₂ ≡ want
    replaced_two p q x r r₂ d e f g = rw (replaced_by, d, ← e, f) g

pub ruleset replaced_at_branches = (
  replaced_hit_no,
  replaced_hit,
  replaced_differ,
  replaced_ended,
  replaced_one,
  replaced_two_no,
  replaced_two,
  one_left,
  one_right,
  two_left,
  two_right,
  lower,
)

-- one name alone
pub one_alone : (s : List ℕ) (w : Substitution) → w.second ≡ None → (c o : ℕ) → substituted s w c o ≡ one_name w.name (stands_for s w.by).tree c o
unfolding substituted one_name replacing_of
one_alone s w e c o = rw e (go (is_named w.name c o))
  where
    go : (b : Bool) → put_for s (cond b (Some w.by) None) c o ≡ cond b (stands_for s w.by).tree (node c o none none)
    go true = refl
    go false = refl

-- what comparison and replacement are proved by
pub ruleset same_ways = (pair_at_branches, same_at_branches, tests)

pub ruleset replace_ways = (leaf_stands_branches, stands_at_branches, replaced_at_branches, tests)
