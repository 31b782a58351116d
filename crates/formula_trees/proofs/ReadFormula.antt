-- What the reader passes is a formula of the place's sort: its tree, bytes, nesting, numbers and registers, by one induction.
use mathlib.Core.Path.{◌≡◌, refl, ap, ap₂, sym, ◌∙◌, subst}
use mathlib.Core.List.{List}
use Prim.Native.Nat.{ℕ, zero, suc, ◌+◌, ◌≤◌}
use native.Mathlib.Omega.{arith}
use lib.ListN.{get_or, drop}
use lib.Dec.{T}
use Rattle.semantics.specs.Formula.{Formula, encode, nesting}
use Rattle.semantics.proofs.Base.{and_both}
use Rattle.formula.specs.Codes.{value, test, interval, assertion, reg_value, reg_test, has_operand, part_count, part_place, fits_at}
use Rattle.formula.specs.Tree.{Tree, none, node, node_at, ParsedTree, grow, parse_tree}
use Rattle.formula.specs.Reader.{in_range, head_fault, first, fault_at}
use Rattle.formula.specs.declared.node.Node.{Node}
use Rattle.formula.specs.declared.reader.Counts.{Counts}
use Rattle.formula_trees.specs.ToTree.{to_tree, of_tree, Sorted}
use Rattle.formula_trees.specs.Place.{sort_at, formula_at, over_regs, alone, in_counts}
use Rattle.formula_trees.proofs.TreeAgree.{of_tree_to_tree, to_tree_sorted}
use Rattle.formula_trees.proofs.Constructors.{after, operand, ranged, Leaf, One, Two, and_two, both_two, both_a_two, box_one, chop_two, const_leaf, cov_leaf, either_two, either_a_two, equal_two, falsehood_leaf, holds_one, less_two, negation_one, one_leaf, or_two, reg_leaf, sees_one, start_leaf, sum_two, unsync_leaf, word_leaf}
use Rattle.formula_trees.proofs.NodeBytes.{◌▹◌, Each, by_place, node_of, parts_fault, fault_parts, first_left, first_right, head, next, own_node, own_bytes, own_range}

pub record Passed (s : List ℕ) (n : Counts) (k p at : ℕ) : Type 0 where
  pub formula : Formula (sort_at p)
  pub tree : (parse_tree s k at).tree ≡ to_tree formula
  pub bytes : drop at s ≡ encode formula (drop (parse_tree s k at).end s)
  pub deep : nesting formula ≤ k
  pub counted : T (in_counts n formula)
  pub lone : T (alone (over_regs p) formula)

-- one step: a node whose parts are formulas is one
module _ (s : List ℕ) (n : Counts) (k at : ℕ) (ih : (q m : ℕ) → fault_at s n k q m ≡ 0 → Passed s n k q m) where
  -- the formula at position m, and the one past it
  abbrev end : ℕ → ℕ
  end m = (parse_tree s k m).end

  abbrev tree : ℕ → Tree
  tree m = (parse_tree s k m).tree

  leaf : (p c : ℕ) (t : Leaf c (sort_at p)) → ((o : ℕ) → T (alone (over_regs p) (t.make o)))
      → (o m : ℕ) → drop at s ≡ after c o (drop m s) → T (ranged n c o)
      → parse_tree s (suc k) at ≡ record { tree = node c (operand c o) none none; end = m }
      → ◌≡◌ {A = ℕ} 0 0 → Passed s n (suc k) p at
  leaf p c t l o m b r e f = record {
    formula = t.make o;
    tree = ap (λ (u : ParsedTree). u.tree) e ∙ sym (t.tree o);
    bytes = rw e (b ∙ sym (t.bytes o (drop m s)));
    deep = rw (t.deep o) (omega arith);
    counted = rw (t.counted n o) r;
    lone = l o;
  }

  one : (p c q : ℕ) (t : One c (sort_at p) (sort_at q)) → t.inner (over_regs p) ≡ over_regs q
      → (o m : ℕ) → drop at s ≡ after c o (drop m s) → T (ranged n c o)
      → parse_tree s (suc k) at ≡ record { tree = node c (operand c o) (tree m) none; end = end m }
      → first (fault_at s n k q m) 0 ≡ 0 → Passed s n (suc k) p at
  one p c q t i o m b r e f = go (ih q m (first_left (fault_at s n k q m) 0 f))
    where
      go : Passed s n k q m → Passed s n (suc k) p at
      go h = record {
        formula = t.make o h.formula;
        tree = ap (λ (u : ParsedTree). u.tree) e ∙ ap (λ (u : Tree). node c (operand c o) u none) h.tree ∙ sym (t.tree o h.formula);
        bytes = rw e (b ∙ ap (after c o) h.bytes ∙ sym (t.bytes o h.formula (drop (end m) s)));
        deep = rw (t.deep o h.formula) (omega (arith, h.deep));
        counted = rw (t.counted n o h.formula) (and_both (ranged n c o) (in_counts n h.formula) r h.counted);
        lone = rw (t.lone (over_regs p) o h.formula, i) h.lone;
      }

  two : (p c q : ℕ) (t : Two c (sort_at p) (sort_at q)) → over_regs p ≡ over_regs q
      → (o m : ℕ) → drop at s ≡ after c o (drop m s) → T (ranged n c o)
      → parse_tree s (suc k) at ≡ record { tree = node c (operand c o) (tree m) (tree (end m)); end = end (end m) }
      → first (fault_at s n k q m) (fault_at s n k q (end m)) ≡ 0 → Passed s n (suc k) p at
  two p c q t i o m b r e f =
      go (ih q m (first_left (fault_at s n k q m) (fault_at s n k q (end m)) f))
      (ih q (end m) (first_right (fault_at s n k q m) (fault_at s n k q (end m)) f))
    where
      go : Passed s n k q m → Passed s n k q (end m) → Passed s n (suc k) p at
      go h g = record {
        formula = t.make h.formula g.formula;
        tree = ap (λ (u : ParsedTree). u.tree) e ∙ ap₂ (node c (operand c o)) h.tree g.tree
            ∙ sym (t.tree o h.formula g.formula);
        bytes = rw e (b ∙ ap (after c o) (h.bytes ∙ ap (encode h.formula) g.bytes)
            ∙ sym (t.bytes o h.formula g.formula (drop (end (end m)) s)));
        deep = rw (t.deep h.formula g.formula) (omega (arith, h.deep, g.deep));
        counted = rw (t.counted n h.formula g.formula)
            (and_both (in_counts n h.formula) (in_counts n g.formula) h.counted g.counted);
        lone = rw (t.lone (over_regs p) h.formula g.formula, i)
            (and_both (alone (over_regs q) h.formula) (alone (over_regs q) g.formula) h.lone g.lone);
      }

  -- a node with this code is passed at the place, if its parts are
  abbrev Fine : ℕ → ℕ → Type 0
  Fine p c =
      (o m : ℕ) → drop at s ≡ after c o (drop m s) → T (ranged n c o)
      → parse_tree s (suc k) at ≡ grow (λ i. parse_tree s k i) (node_of c o m) → parts_fault s n k p (node_of c o m) ≡ 0
      → Passed s n (suc k) p at

  fine_value : Each Fine value
  unfolding has_operand in_range part_count part_place fits_at
  fine_value =
      leaf value _ const_leaf (λ o. tt)
      ▹ leaf value _ reg_leaf (λ o. tt)
      ▹ leaf value _ word_leaf (λ o. tt)
      ▹ two value _ value sum_two refl
      ▹ tt

  fine_test : Each Fine test
  unfolding has_operand in_range part_count part_place fits_at
  fine_test =
      leaf test _ falsehood_leaf (λ o. tt)
      ▹ two test _ value equal_two refl
      ▹ two test _ value less_two refl
      ▹ one test _ test negation_one refl
      ▹ two test _ test and_two refl
      ▹ two test _ test or_two refl
      ▹ leaf test _ unsync_leaf (λ o. tt)
      ▹ leaf test _ cov_leaf (λ o. tt)
      ▹ tt

  fine_interval : Each Fine interval
  unfolding has_operand in_range part_count part_place fits_at
  fine_interval =
      one interval _ test box_one refl
      ▹ leaf interval _ one_leaf (λ o. tt)
      ▹ two interval _ interval chop_two refl
      ▹ two interval _ interval both_two refl
      ▹ two interval _ interval either_two refl
      ▹ tt

  fine_assertion : Each Fine assertion
  unfolding has_operand in_range part_count part_place fits_at
  fine_assertion =
      one assertion _ interval sees_one refl
      ▹ two assertion _ assertion both_a_two refl
      ▹ two assertion _ assertion either_a_two refl
      ▹ leaf assertion _ start_leaf (λ o. tt)
      ▹ one assertion _ reg_test holds_one refl
      ▹ tt

  fine_reg_value : Each Fine reg_value
  unfolding has_operand in_range part_count part_place fits_at
  fine_reg_value =
      leaf reg_value _ const_leaf (λ o. tt)
      ▹ leaf reg_value _ reg_leaf (λ o. tt)
      ▹ two reg_value _ reg_value sum_two refl
      ▹ tt

  fine_reg_test : Each Fine reg_test
  unfolding has_operand in_range part_count part_place fits_at
  fine_reg_test =
      leaf reg_test _ falsehood_leaf (λ o. tt)
      ▹ two reg_test _ reg_value equal_two refl
      ▹ two reg_test _ reg_value less_two refl
      ▹ one reg_test _ reg_test negation_one refl
      ▹ two reg_test _ reg_test and_two refl
      ▹ two reg_test _ reg_test or_two refl
      ▹ tt

  step : (p : ℕ) → fault_at s n (suc k) p at ≡ 0 → Passed s n (suc k) p at
  unfolding parse_tree
  step p h = go (first_left (head_fault s n p at) (parts_fault s n k p (node_at s at)) h')
      (first_right (head_fault s n p at) (parts_fault s n k p (node_at s at)) h')
    where
      h' : first (head_fault s n p at) (parts_fault s n k p (node_at s at)) ≡ 0
      h' = sym (fault_parts s n k p at) ∙ h

      go : head_fault s n p at ≡ 0 → parts_fault s n k p (node_at s at) ≡ 0 → Passed s n (suc k) p at
      go a b =
          by_place Fine p (get_or s at 0) fine_value fine_test fine_interval fine_assertion fine_reg_value fine_reg_test (head s n p at a).1
          (get_or s (at + 1) 0) (next s n p at a) (own_bytes s n p at a) (own_range s n p at a)
          (ap (grow (λ i. parse_tree s k i)) (own_node s n p at a))
          (subst (λ (d : Node). parts_fault s n k p d ≡ 0) (own_node s n p at a) b)

pub passed : (s : List ℕ) (n : Counts) (k p at : ℕ) → fault_at s n k p at ≡ 0 → Passed s n k p at
unfolding fault_at
passed s n zero p at h = absurd (omega arith)
passed s n (suc k) p at h = step s n k at (λ q m g. passed s n k q m g) p h

-- the formula passed is the one that stands there
pub is_formula : (s : List ℕ) (n : Counts) (k p at : ℕ) (q : Passed s n k p at) → formula_at s k p at ≡ q.formula
is_formula s n k p at q = ap (of_tree (sort_at p)) q.tree ∙ of_tree_to_tree q.formula

pub reads_sorted : (s : List ℕ) (n : Counts) (k p at : ℕ) → fault_at s n k p at ≡ 0 → Sorted (sort_at p) (parse_tree s k at).tree
reads_sorted s n k p at h = go (passed s n k p at h)
  where
    go : Passed s n k p at → Sorted (sort_at p) (parse_tree s k at).tree
    go q = rw q.tree (to_tree_sorted q.formula)
