-- Two formulas compared node by node: what is still to be compared, and the ways through the functions, one law for each.
use Prim.Native.Nat.{ℕ, suc, ◌+◌, ◌-◌, ◌≤◌, ◌<◌}
use mathlib.Core.Path.{◌≡◌, refl, ap, sym, ◌∙◌}
use mathlib.Core.List.{List, [], ◌∷◌}
use mathlib.Core.Bool.{Bool, true, false, cond}
use native.Mathlib.Omega.{arith}
use lib.ListN.{length}
use Rattle.semantics.specs.Base.{All}
use Rattle.formula.specs.Tree.{ParsedTree, node_at, parse_tree}
use Rattle.formula_compare.specs.Same.{same_tree, same_of, pair_of, pair_at}
use Rattle.formula_compare.specs.declared.same.Pair.{Pair}
use Rattle.formula_compare.specs.declared.same.Pair.TheVariants.{Differ, Ended, One, Two}
use Rattle.formula_compare.proofs.ByPair.{same_differ, same_ended, same_one, same_two_no, same_two, pair_deep}
use Rattle.std.specs.Prelude.{Option, Some, None}
use Rattle.std.specs.Option.{is_some}
use Rattle.tables_columns.specs.LeafEqual.{step_of}
use Rattle.tables_columns.specs.declared.leaf_equal.Step.{Step}

abbrev and_then : Option (ℕ × ℕ) → (ℕ → ℕ → Bool) → Bool
and_then (Some x) f = f x.0 x.1
and_then None f = false

module _ (s : List ℕ) where
  -- formulas one behind the other on each side, each with its own nesting
  abbrev rest : List ℕ → List ℕ → ℕ → ℕ → Bool
  rest [] [] p q = true
  rest [] (k ∷ ks) p q = false
  rest (m ∷ ms) [] p q = false
  rest (m ∷ ms) (k ∷ ks) p q = and_then (same_of (parse_tree s m p) (parse_tree s k q)) (rest ms ks)

  -- what the two nodes show is still to be compared
  after : Pair → ℕ → ℕ → List ℕ → List ℕ → Bool
  after Differ m k ms ks = false
  after (Ended p q) m k ms ks = rest ms ks p q
  after (One p q) m k ms ks = rest ((m - 1) ∷ ms) ((k - 1) ∷ ks) p q
  after (Two p q) m k ms ks = rest ((m - 1) ∷ (m - 1) ∷ ms) ((k - 1) ∷ (k - 1) ∷ ks) p q

  rest_after : (m k p q : ℕ) (ms ks : List ℕ) (t : Pair) → t ≡ pair_at s p m q k → rest (m ∷ ms) (k ∷ ks) p q ≡ after t m k ms ks
  unfolding after
  rest_after m k p q ms ks Differ e = ap (λ (r : Option (ℕ × ℕ)). and_then r (rest ms ks)) (sym (same_differ s p m q k Differ e refl))
  rest_after m k p q ms ks (Ended a b) e = ap (λ (r : Option (ℕ × ℕ)). and_then r (rest ms ks)) (sym (same_ended s p m q k (Ended a b) e a b refl))
  rest_after m k p q ms ks (One a b) e =
      ap (λ (r : Option (ℕ × ℕ)). and_then r (rest ms ks))
      (sym (same_one s p m q k (One a b) e a b (same_of (parse_tree s (m - 1) a) (parse_tree s (k - 1) b)) refl refl))
  rest_after m k p q ms ks (Two a b) e = go (same_of (parse_tree s (m - 1) a) (parse_tree s (k - 1) b)) refl
    where
      go : (r : Option (ℕ × ℕ)) → r ≡ same_of (parse_tree s (m - 1) a) (parse_tree s (k - 1) b)
          → and_then (same_of (parse_tree s m p) (parse_tree s k q)) (rest ms ks) ≡ and_then
          (same_of (parse_tree s (m - 1) a) (parse_tree s (k - 1) b)) (rest ((m - 1) ∷ ms) ((k - 1) ∷ ks))
      go None d = ap (λ (r : Option (ℕ × ℕ)). and_then r (rest ms ks)) (sym (same_two_no s p m q k (Two a b) e a b None refl d refl))
          ∙ ap (λ (r : Option (ℕ × ℕ)). and_then r (rest ((m - 1) ∷ ms) ((k - 1) ∷ ks))) d
      go (Some x) d =
          ap (λ (r : Option (ℕ × ℕ)). and_then r (rest ms ks)) (sym
          (same_two s p m q k (Two a b) e a b x (Some x) (same_of (parse_tree s (m - 1) x.0) (parse_tree s (k - 1) x.1)) refl d refl refl))
          ∙ ap (λ (r : Option (ℕ × ℕ)). and_then r (rest ((m - 1) ∷ ms) ((k - 1) ∷ ks))) d

-- so many parts are still to be compared, none of them without so much nesting left
pub record Open (s : List ℕ) (a m b k p q due left : ℕ) : Type 0 where
  ms : List ℕ
  ks : List ℕ
  many : length ms ≡ due
  many₂ : length ks ≡ due
  deep : All (λ n. left ≤ n) ms
  deep₂ : All (λ n. left ≤ n) ks
  is : same_tree (parse_tree s m a).tree (parse_tree s k b).tree ≡ rest s ms ks p q

-- so many pairs of nodes are walked, and some parts are still to be compared
pub record Walking (s : List ℕ) (a m b k p q due walked end : ℕ) : Type 0 where
  pub parts : Open s a m b k p q due (end - walked)
  pub some : 0 < due
  pub few : due ≤ walked + 1
  pub within : end ≤ 16

less : (l n : ℕ) (ms : List ℕ) → l ≤ n → All (λ k. n ≤ k) ms → All (λ k. l ≤ k) ms
less l n [] h a = tt
less l n (k ∷ ms) h a = (omega (arith, a.0), less l n ms h a.1)

module _ (s : List ℕ) (a m b k : ℕ) where
  abbrev whole : Bool
  whole = same_tree (parse_tree s m a).tree (parse_tree s k b).tree

  alone : (u v : ParsedTree) → same_tree u.tree v.tree ≡ and_then (same_of u v) (λ p q. true)
  alone u v = go (same_tree u.tree v.tree)
    where
      go : (c : Bool) → c ≡ and_then (cond c (Some (u.end, v.end)) None) (λ p q. true)
      go true = refl
      go false = refl

  pub due_begin : (l : ℕ) → l ≤ m → l ≤ k → Open s a m b k a b 1 l
  due_begin l h g = record {
    ms = m ∷ [];
    ks = k ∷ [];
    many = refl;
    many₂ = refl;
    deep = (h, tt);
    deep₂ = (g, tt);
    is = alone (parse_tree s m a) (parse_tree s k b);
  }

  module _ (p q due left : ℕ) (o : Open s a m b k p q due left) where
    pub due_end : due ≤ 0 → true ≡ same_tree (parse_tree s m a).tree (parse_tree s k b).tree
    due_end h = go o.ms o.ks o.many o.many₂ o.is
      where
        go : (ms ks : List ℕ) → length ms ≡ due → length ks ≡ due → whole ≡ rest s ms ks p q → true ≡ whole
        go [] [] e f g = sym g
        go [] (k ∷ ks) e f g = absurd (omega arith)
        go (m ∷ ms) ks e f g = absurd (omega arith)

    module _ (r : Option Step) (some : 0 < due) (z : left ≡ 0 → ⊥) (en : r ≡ step_of (pair_of (node_at s p) (node_at s q)) due) where
      abbrev t : Pair
      t = pair_of (node_at s p) (node_at s q)

      stepped : {Z : Type 0} → ((m k : ℕ) (ms ks : List ℕ) → suc (length ms) ≡ due → suc (length ks) ≡ due → left ≤ m → left ≤ k
          → All (λ n. left ≤ n) ms → All (λ n. left ≤ n) ks → whole ≡ after s t m k ms ks → Z) → Z
      stepped {Z} f = go o.ms o.ks o.many o.many₂ o.deep o.deep₂ o.is
        where
          go : (ms ks : List ℕ) → length ms ≡ due → length ks ≡ due → All (λ n. left ≤ n) ms → All (λ n. left ≤ n) ks
              → whole ≡ rest s ms ks p q → Z
          go [] ks e d h g i = absurd (omega arith)
          go (m ∷ ms) [] e d h g i = absurd (omega arith)
          go (m ∷ ms) (k ∷ ks) e d h g i =
              let zm : m ≡ 0 → ⊥ = λ c. z (omega (arith, h.0)) in
              let zk : k ≡ 0 → ⊥ = λ c. z (omega (arith, g.0)) in
              f m k ms ks e d h.0 g.0 h.1 g.1 (i
              ∙ rest_after s m k p q ms ks t (pair_deep s p m q k (node_at s p) (node_at s q) t zm zk refl refl refl))

      pub due_differ : ((n : Step) → r ≡ Some n → ⊥) → false ≡ same_tree (parse_tree s m a).tree (parse_tree s k b).tree
      unfolding step_of after
      due_differ d = stepped (λ m k ms ks e f l g h i j. go t en m k ms ks j)
        where
          go : (t : Pair) → r ≡ step_of t due → (m k : ℕ) (ms ks : List ℕ) → whole ≡ after s t m k ms ks → false ≡ whole
          go Differ e m k ms ks j = sym j
          go (Ended p q) e m k ms ks j = absurd (d _ e)
          go (One p q) e m k ms ks j = absurd (d _ e)
          go (Two p q) e m k ms ks j = absurd (d _ e)

      pub due_next : (n : Step) → r ≡ Some n → (l : ℕ) → l ≡ left - 1 → Open s a m b k n.first n.second n.due l
      unfolding step_of after
      due_next n d l₂ el = rw el (stepped (λ m' k' ms ks e f l g h i j. go t (sym en ∙ d) m' k' ms ks e f l g h i j))
        where
          go : (t : Pair) → step_of t due ≡ Some n → (m' k' : ℕ) (ms ks : List ℕ) → suc (length ms) ≡ due → suc (length ks) ≡ due → left ≤ m'
              → left ≤ k' → All (λ n. left ≤ n) ms → All (λ n. left ≤ n) ks → whole ≡ after s t m' k' ms ks
              → Open s a m b k n.first n.second n.due (left - 1)
          go Differ e m' k' ms ks f g l r h i j = cc
          go (Ended p q) e m' k' ms ks f g l r h i j =
              let e₂ : record { first = p; second = q; due = due - 1 } ≡ n = cc in
              rw (← e₂) (record {
                ms = ms;
                ks = ks;
                many = omega arith;
                many₂ = omega arith;
                deep = less (left - 1) left ms (omega arith) h;
                deep₂ = less (left - 1) left ks (omega arith) i;
                is = j;
              })
          go (One p q) e m' k' ms ks f g l r h i j =
              let e₂ : record { first = p; second = q; due = due } ≡ n = cc in
              rw (← e₂) (record {
                ms = (m' - 1) ∷ ms;
                ks = (k' - 1) ∷ ks;
                many = f;
                many₂ = g;
                deep = (omega arith, less (left - 1) left ms (omega arith) h);
                deep₂ = (omega arith, less (left - 1) left ks (omega arith) i);
                is = j;
              })
          go (Two p q) e m' k' ms ks f g l r h i j =
              let e₂ : record { first = p; second = q; due = due + 1 } ≡ n = cc in
              rw (← e₂) (record {
                ms = (m' - 1) ∷ (m' - 1) ∷ ms;
                ks = (k' - 1) ∷ (k' - 1) ∷ ks;
                many = omega arith;
                many₂ = omega arith;
                deep = (omega arith, (omega arith, less (left - 1) left ms (omega arith) h));
                deep₂ = (omega arith, (omega arith, less (left - 1) left ks (omega arith) i));
                is = j;
              })

pub due_bound : (t : Pair) (n : Step) (due : ℕ) → Some n ≡ step_of t due → n.due ≤ due + 1
unfolding step_of
due_bound Differ n due e = cc
due_bound (Ended p q) n due e = let e₂ : n ≡ record { first = p; second = q; due = due - 1 } = cc in rw e₂ (omega arith)
due_bound (One p q) n due e = let e₂ : n ≡ record { first = p; second = q; due = due } = cc in rw e₂ (omega arith)
due_bound (Two p q) n due e = let e₂ : n ≡ record { first = p; second = q; due = due + 1 } = cc in rw e₂ (omega arith)

-- behind two nodes
module _ (t : Pair) (due : ℕ) where
  pub step_differ : t ≡ Differ → None ≡ step_of t due
  unfolding step_of
  step_differ e = rw e

  pub step_ended : (p q o : ℕ) → t ≡ Ended p q → o ≡ due - 1 → Some (record { first = p; second = q; due = o }) ≡ step_of t due
  unfolding step_of
  step_ended p q o e d = rw (e, d)

  pub step_one : (p q : ℕ) → t ≡ One p q → Some (record { first = p; second = q; due = due }) ≡ step_of t due
  unfolding step_of
  step_one p q e = rw e

  pub step_two : (p q : ℕ) → t ≡ Two p q → Some (record { first = p; second = q; due = due + 1 }) ≡ step_of t due
  unfolding step_of
  step_two p q e = rw e

pub ruleset step_by_branches = (step_differ, step_ended, step_one, step_two)

-- by their parts
some_where : (c : Bool) (x : ℕ × ℕ) → is_some (cond c (Some x) None) ≡ c
some_where true x = refl
some_where false x = refl

pub parts_told : (s : List ℕ) (a m b k : ℕ) (g : Option (ℕ × ℕ)) (r : Bool) → g ≡ same_of (parse_tree s m a) (parse_tree s k b)
    → r ≡ is_some g → r ≡ same_tree (parse_tree s m a).tree (parse_tree s k b).tree
parts_told s a m b k g r e d = d ∙ ap is_some e ∙ some_where (same_tree (parse_tree s m a).tree (parse_tree s k b).tree) _
