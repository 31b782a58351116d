-- The values of a formula at all rows: the ways through the functions, one law for each.
use Prim.Native.Nat.{ℕ, zero, suc, ◌+◌, ◌-◌, ◌≤◌, ◌<◌, min, max}
use mathlib.Core.Path.{◌≡◌, refl, ap, ap₂, sym, ◌∙◌, subst, subst₂}
use mathlib.Core.List.{List}
use mathlib.Core.Bool.{Bool, true, false, cond, true≢false}
use native.Mathlib.Omega.{arith}
use lib.ListN.{get_or, take}
use lib.Dec.{eqb, ltb}
use borrow.Author.Tests.{lt-ltb, le-ltb, eq-eqb, ne_eqb, eqb-false, ltb-true, ltb-false}
use Rattle.std.specs.Prelude.{Option, Some, None}
use Rattle.limits.proofs.BranchTests.{tests}
use Rattle.formula.specs.Codes.{member, part_count}
use Rattle.formula.specs.Tree.{Tree, none, node, node_at, ParsedTree, part, parse_tree}
use Rattle.formula.specs.declared.node.Node.{Node}
use Rattle.formula.proofs.NodeBranches.{parse_zero, parse_step, parts_of}
use Rattle.tables_columns.specs.Slots.{slots, slot_of}
use Rattle.tables_columns.specs.Combine.{combine}
use Rattle.tables_columns.specs.Column.{column, constant, combined}
use Rattle.tables_digits.specs.SlotColumn.{value_in, row_in, slot_column, span_of, level_in, Cycles, Widened}
use Rattle.tables_digits.proofs.EachRowOnce.{run, digit_again}
use Rattle.tables_digits.proofs.RunBranches.{widen_begin, span_within, span_some, span_exact, span_more, span_fits}
use Rattle.tables_columns.proofs.ColumnLists.{column_at, column_same}
use Rattle.tables_digits.specs.ValueColumn.{value_t, row_value, column_of, level_of, span_t, leaf_at, leaf_column, met_at, reached_at, Joined, second_left}
use Rattle.tables_digits.specs.declared.value_column.Reading.{Reading}
use Rattle.tables_columns.specs.declared.slot.Slot.{Slot}
use Rattle.tables_digits.specs.declared.value_column.Reached.{Reached}

-- a node without parts has a code without parts
pub no_parts : (s : List ℕ) (at : ℕ) (x : Node) → x ≡ node_at s at → x.parts ≡ 0 → part_count x.code ≡ 0
no_parts s at x e p = rw e (sym (parts_of s at) ∙ ap (λ (x : Node). x.parts) (sym e) ∙ p)

module _ (s : List ℕ) (w : Reading) (q : List Slot) where
  pub value_none : (v : List ℕ) → row_value s w q v none ≡ 0
  unfolding row_value value_t
  value_none v = refl

  pub value_node : (v : List ℕ) (c o : ℕ) (l r : Tree)
      → row_value s w q v (node c o l r) ≡ cond (member w.leaves c) (value_in v (slot_of s q (node c o l r)))
      (combine w.range c o (row_value s w q v l) (row_value s w q v r))
  unfolding row_value value_t
  value_node v c o l r = refl

  value_inner : (v : List ℕ) (c o : ℕ) (l r : Tree) → member w.leaves c ≡ false
      → row_value s w q v (node c o l r) ≡ combine w.range c o (row_value s w q v l) (row_value s w q v r)
  value_inner v c o l r e = value_node v c o l r ∙ rw e

  -- how many slots decide
  level_none : level_of s w q none ≡ 0
  unfolding level_of
  level_none = refl

  level_node : (c o : ℕ) (l r : Tree) → level_of s w q (node c o l r) ≡ cond (member w.leaves c) (level_in (slot_of s q (node c o l r)))
      (max (level_of s w q l) (level_of s w q r))
  unfolding level_of
  level_node c o l r = refl

  level_leaf : (c o : ℕ) (l r : Tree) → member w.leaves c ≡ true → level_of s w q (node c o l r) ≡ level_in (slot_of s q (node c o l r))
  level_leaf c o l r e = level_node c o l r ∙ rw e

  level_inner : (c o : ℕ) (l r : Tree) → member w.leaves c ≡ false
      → level_of s w q (node c o l r) ≡ max (level_of s w q l) (level_of s w q r)
  level_inner c o l r e = level_node c o l r ∙ rw e

  in_most : (j : ℕ) → level_in j ≤ 12
  unfolding level_in
  in_most j = go (ltb j slots) refl
    where
      go : (b : Bool) → ltb j slots ≡ b → cond b (j + 1) 0 ≤ 12
      go true e = omega (arith, ltb-true j slots e)
      go false e = omega arith

  level_most : (t : Tree) → level_of s w q t ≤ 12
  level_most none = let e = level_none in omega arith
  level_most (node c o l r) = go (member w.leaves c) refl (level_most l) (level_most r)
    where
      go : (b : Bool) → member w.leaves c ≡ b → level_of s w q l ≤ 12 → level_of s w q r ≤ 12 → level_of s w q (node c o l r) ≤ 12
      go true e f g = let h = level_leaf c o l r e in let k = in_most (slot_of s q (node c o l r)) in omega arith
      go false e f g = let h = level_inner c o l r e in omega arith

  -- behind the rows of these slots the same values come again
  slot_again : (ms : List ℕ) (m j i : ℕ) → level_in m ≤ j → value_in (row_in ms (run ms j + i)) m ≡ value_in (row_in ms i) m
  unfolding level_in value_in row_in
  slot_again ms m j i = go (ltb m slots) refl
    where
      go : (b : Bool) → ltb m slots ≡ b → cond b (m + 1) 0 ≤ j
          → cond b (get_or (row_in ms (run ms j + i)) m 0) 0 ≡ cond b (get_or (row_in ms i) m 0) 0
      go true e h = digit_again ms slots m j i (ltb-true m slots e) (omega arith)
      go false e h = refl

  value_again : (ms : List ℕ) (t : Tree) (j i : ℕ) → level_of s w q t ≤ j
      → row_value s w q (row_in ms (run ms j + i)) t ≡ row_value s w q (row_in ms i) t
  value_again ms none j i h = value_none (row_in ms (run ms j + i)) ∙ sym (value_none (row_in ms i))
  value_again ms (node c o l r) j i h = go (member w.leaves c) refl (λ k. value_again ms l j i k) (λ k. value_again ms r j i k)
    where
      go : (b : Bool) → member w.leaves c ≡ b → (level_of s w q l ≤ j
          → row_value s w q (row_in ms (run ms j + i)) l ≡ row_value s w q (row_in ms i) l)
          → (level_of s w q r ≤ j → row_value s w q (row_in ms (run ms j + i)) r ≡ row_value s w q (row_in ms i) r)
          → row_value s w q (row_in ms (run ms j + i)) (node c o l r) ≡ row_value s w q (row_in ms i) (node c o l r)
      go true e f g =
          value_leafed (row_in ms (run ms j + i)) ∙ slot_again ms (slot_of s q (node c o l r)) j i
          (let k = level_leaf c o l r e in omega arith) ∙ sym (value_leafed (row_in ms i))
        where
          value_leafed : (v : List ℕ) → row_value s w q v (node c o l r) ≡ value_in v (slot_of s q (node c o l r))
          value_leafed v = value_node v c o l r ∙ rw e
      go false e f g =
          value_inner (row_in ms (run ms j + i)) c o l r e
          ∙ ap₂ (combine w.range c o) (f (let k = level_inner c o l r e in omega arith))
          (g (let k = level_inner c o l r e in omega arith)) ∙ sym (value_inner (row_in ms i) c o l r e)

  module _ (ms : List ℕ) (n : ℕ) where
    tree_cycles : (t : Tree) (m : ℕ) → m ≤ n → Cycles (λ (i : ℕ). row_value s w q (row_in ms i) t) m (span_of n ms (level_of s w q t))
    unfolding Cycles
    tree_cycles t m h less = (
      let k = span_some n ms (level_of s w q t) in omega arith,
      λ i. ap (λ (r : ℕ). row_value s w q (row_in ms (r + i)) t) (span_exact n ms (level_of s w q t) (omega arith))
          ∙ value_again ms t (level_of s w q t) i (omega arith),
    )

    column_none : (n : ℕ) → constant 0 n ≡ column_of s w q ms n none
    unfolding constant column_of
    column_none n = column_same (λ (i : ℕ). 0) (λ (i : ℕ). row_value s w q (row_in ms i) none) n (λ i h. sym (value_none (row_in ms i)))

    column_leaf : (n c o : ℕ) (l r : Tree) → member w.leaves c ≡ true
        → slot_column ms (slot_of s q (node c o l r)) n ≡ column_of s w q ms n (node c o l r)
    unfolding slot_column column_of
    column_leaf n c o l r e = column_same (λ (i : ℕ). value_in (row_in ms i) (slot_of s q (node c o l r)))
        (λ (i : ℕ). row_value s w q (row_in ms i) (node c o l r)) n (λ i h. sym (value_node (row_in ms i) c o l r ∙ rw e))

    -- what stands in a formula's column
    pub column_value : (t : Tree) (a : List ℕ) → take n a ≡ column_of s w q ms n t → (i : ℕ) → i < n
        → get_or a i 0 ≡ row_value s w q (row_in ms i) t
    unfolding column_of
    column_value t a e i h = column_at (λ (i : ℕ). row_value s w q (row_in ms i) t) 0 a n i e h

    -- nothing to combine
    module _ (k at : ℕ) (a o : List ℕ) where
      leaf_zero : k ≡ 0 → true ≡ leaf_at s w k at
      unfolding leaf_at
      leaf_zero z = rw (eq-eqb _ _ z)

      pub met_zero : k ≡ 0 → Some 0 ≡ met_at s w q k at
      unfolding met_at
      met_zero z = rw (← leaf_zero z, parse_zero s k at z, level_none)

      pub zero_column : (m : ℕ) → k ≡ 0 → m ≡ span_of n ms 0 → take m a ≡ constant 0 m
          → take (span_t s w q ms n (parse_tree s k at).tree) a ≡ leaf_column s w q ms (span_t s w q ms n (parse_tree s k at).tree) k at o
      unfolding leaf_column span_t
      zero_column m z em e = rw (← leaf_zero z, parse_zero s k at z, level_none) ((rw em at e) ∙ column_none (span_of n ms 0))

      module _ (x : Node) (z : k ≡ 0 → ⊥) (e : x ≡ node_at s at) where
        leaf_plain : x.parts ≡ 0 → true ≡ leaf_at s w k at
        unfolding leaf_at
        leaf_plain p = rw (ne_eqb _ _ z, ← e, eq-eqb _ _ p)

        plain_tree : x.parts ≡ 0 → (parse_tree s k at).tree ≡ node x.code x.operand none none
        plain_tree p = rw (parse_step s k at z, ← e, p)

        pub met_plain : (l : ℕ) → x.parts ≡ 0 → l ≡ level_of s w q (node x.code x.operand none none)
            → Some l ≡ met_at s w q k at
        unfolding met_at
        met_plain l p f = rw (← leaf_plain p, plain_tree p, f)

        pub plain_column : x.parts ≡ 0 → take (span_t s w q ms n (node x.code x.operand none none)) a ≡ column_of s w q ms
            (span_t s w q ms n (node x.code x.operand none none)) (node x.code x.operand none none)
            → take (span_t s w q ms n (parse_tree s k at).tree) a ≡ leaf_column s w q ms (span_t s w q ms n (parse_tree s k at).tree) k at o
        unfolding leaf_column
        plain_column p f = rw (← leaf_plain p, plain_tree p) f

        module _ (b : Bool) (p : x.parts ≡ 0 → ⊥) (eb : b ≡ member w.leaves x.code) where
          leaf_inner : (d : Bool) → b ≡ d → d ≡ leaf_at s w k at
          unfolding leaf_at
          leaf_inner d f = sym f ∙ eb ∙ rw (ne_eqb _ _ z, ← e, ne_eqb _ _ p)

          inner_level : b ≡ true → level_in (slot_of s q (parse_tree s k at).tree) ≡ level_of s w q (parse_tree s k at).tree
          inner_level d = rw (parse_step s k at z, ← e) (sym (level_leaf x.code x.operand _ _ (sym eb ∙ d)))

          module _ (j l : ℕ) (f : j ≡ slot_of s q (parse_tree s k at).tree) (el : l ≡ level_in j) where
            pub met_inner : b ≡ true → Some l ≡ met_at s w q k at
            unfolding met_at
            met_inner d = rw (← leaf_inner true d) (ap Some (el ∙ ap level_in f ∙ inner_level d))

            pub inner_column : b ≡ true → take (span_of n ms l) a ≡ slot_column ms j (span_of n ms l)
                → take (span_t s w q ms n (parse_tree s k at).tree) a ≡ leaf_column s w q ms (span_t s w q ms n (parse_tree s k at).tree) k
                at o
            unfolding leaf_column span_t
            inner_column d g =
                let h : l ≡ level_of s w q (parse_tree s k at).tree = el ∙ ap level_in f ∙ inner_level d in
                rw (← leaf_inner true d, ← h) (g ∙ ap (λ (j : ℕ). slot_column ms j (span_of n ms l)) f ∙ whole d)
              where
                whole : b ≡ true → slot_column ms (slot_of s q (parse_tree s k at).tree) (span_of n ms l) ≡ column_of s w q ms (span_of n ms l)
                    (parse_tree s k at).tree
                whole d = rw (parse_step s k at z, ← e) (column_leaf (span_of n ms l) x.code x.operand _ _ (sym eb ∙ d))

          pub met_other : b ≡ false → None ≡ met_at s w q k at
          unfolding met_at
          met_other d = rw (← leaf_inner false d)

          pub other_column : b ≡ false → take (span_t s w q ms n (parse_tree s k at).tree) a ≡ leaf_column s w q ms
              (span_t s w q ms n (parse_tree s k at).tree) k at a
          unfolding leaf_column
          other_column d = rw (← leaf_inner false d)

    -- all formulas
    module _ (k at : ℕ) (f : Option ℕ) (ef : f ≡ met_at s w q k at) where
      abbrev tree : Tree
      tree = (parse_tree s k at).tree

      is_leaf : (l : ℕ) → f ≡ Some l → (leaf_at s w k at ≡ true) × (l ≡ level_of s w q tree)
      unfolding met_at
      is_leaf l d = go (leaf_at s w k at) (sym d ∙ ef)
        where
          go : (b : Bool) → Some l ≡ cond b (Some (level_of s w q tree)) None → (b ≡ true) × (l ≡ level_of s w q tree)
          go true e = (refl, cc)
          go false e = cc

      no_leaf : ((l : ℕ) → f ≡ Some l → ⊥) → leaf_at s w k at ≡ false
      unfolding met_at
      no_leaf d = go (leaf_at s w k at) ef
        where
          go : (b : Bool) → f ≡ cond b (Some (level_of s w q tree)) None → b ≡ false
          go true e = absurd (d _ e)
          go false e = refl

      pub reached_leaf : (e l : ℕ) → f ≡ Some l → e ≡ (parse_tree s k at).end → record { end = e; level = l } ≡ reached_at s w q k at
      unfolding reached_at
      reached_leaf e l d g i = record { end = g i; level = (is_leaf l d).1 i }

      pub value_leaf : (a o : List ℕ) (l : ℕ) → f ≡ Some l
          → take (span_t s w q ms n (parse_tree s k at).tree) a ≡ leaf_column s w q ms (span_t s w q ms n (parse_tree s k at).tree) k at o
          → take (span_t s w q ms n (parse_tree s k at).tree) a ≡ column_of s w q ms (span_t s w q ms n (parse_tree s k at).tree)
          (parse_tree s k at).tree
      unfolding leaf_column
      value_leaf a o l d g = g ∙ rw ((is_leaf l d).0)

      -- neither a leaf nor without parts, and some nesting is left
      inner : (u v : Bool) → eqb k 0 ≡ u → eqb (node_at s at).parts 0 ≡ v
          → cond u true (cond v true (member w.leaves (node_at s at).code)) ≡ false
          → (k ≡ 0 → ⊥) × (((node_at s at).parts ≡ 0 → ⊥) × (member w.leaves (node_at s at).code ≡ false))
      inner true v f g h = absurd (true≢false h)
      inner false true f g h = absurd (true≢false h)
      inner false false f g h = (eqb-false k 0 f, (eqb-false (node_at s at).parts 0 g, h))

      module _ (d : (l : ℕ) → f ≡ Some l → ⊥) where
        split : (k ≡ 0 → ⊥) × (((node_at s at).parts ≡ 0 → ⊥) × (member w.leaves (node_at s at).code ≡ false))
        unfolding leaf_at
        split = inner (eqb k 0) (eqb (node_at s at).parts 0) refl refl (no_leaf d)

        pub some_left : 1 ≤ k
        some_left = go k refl
          where
            go : (i : ℕ) → k ≡ i → 1 ≤ k
            go zero f = absurd (split.0 f)
            go (suc i) f = omega arith

        some_parts : 0 < (node_at s at).parts
        some_parts = go (node_at s at).parts refl
          where
            go : (i : ℕ) → (node_at s at).parts ≡ i → 0 < (node_at s at).parts
            go zero f = absurd (split.1.0 f)
            go (suc i) f = omega arith

        pub first_less : (t : ℕ) → k ≡ t → k - 1 < t
        first_less t e = let h = some_left in omega arith

        pub second_less : (t p j : ℕ) → k ≡ t → j ≡ second_left p k → j < t
        unfolding second_left
        second_less t p j e f = let h = some_left in go (ltb p 2) f
          where
            go : (u : Bool) → j ≡ cond u 0 (k - 1) → j < t
            go true g = let h = some_left in omega arith
            go false g = let h = some_left in omega arith

        module _ (x : Node) (p y : Reached) (j : ℕ) (e : x ≡ node_at s at) (ep : p ≡ reached_at s w q (k - 1) x.next)
            (ej : j ≡ second_left x.parts k) (ey : y ≡ reached_at s w q j p.end) where
          abbrev first : Tree
          first = (parse_tree s (k - 1) x.next).tree

          abbrev second : Tree
          second = (parse_tree s j p.end).tree

          em : p.end ≡ (parse_tree s (k - 1) x.next).end
          unfolding reached_at
          em = ap (λ (r : Reached). r.end) ep

          -- the second part
          second_is : (u : Bool) → ltb (node_at s at).parts 2 ≡ u
              → parse_tree s j p.end ≡ part (λ p. parse_tree s (k - 1) p) (ltb 1 (node_at s at).parts) p.end
          unfolding second_left
          second_is true f =
              let h : (node_at s at).parts ≤ 1 = omega (arith, ltb-true (node_at s at).parts 2 f) in
              let g : j ≡ 0 = ej ∙ rw (e, f) in
              rw (g, le-ltb _ _ h) (parse_zero s 0 p.end refl)
          second_is false f =
              let h : 1 < (node_at s at).parts = omega (arith, ltb-false (node_at s at).parts 2 f) in
              let g : j ≡ k - 1 = ej ∙ rw (e, f) in
              rw (g, lt-ltb _ _ h)

          whole : parse_tree s k at ≡ record {
            tree = node x.code x.operand (parse_tree s (k - 1) x.next).tree
                (parse_tree s j p.end).tree;
            end = (parse_tree s j p.end).end;
          }
          whole = parse_step s k at split.0 ∙ rw (second_is (ltb (node_at s at).parts 2) refl, em, e, lt-ltb _ _ some_parts)

          whole_tree : (parse_tree s k at).tree ≡ node x.code x.operand first second
          whole_tree = ap (λ (u : ParsedTree). u.tree) whole

          outer : member w.leaves x.code ≡ false
          outer = rw e split.1.1

          levels : p.level ≡ level_of s w q first
          unfolding reached_at
          levels = ap (λ (r : Reached). r.level) ep

          levels₂ : y.level ≡ level_of s w q second
          unfolding reached_at
          levels₂ = ap (λ (r : Reached). r.level) ey

          joined : max p.level y.level ≡ level_of s w q (parse_tree s k at).tree
          joined = ap₂ max levels levels₂ ∙ sym (level_inner x.code x.operand first second outer)
              ∙ ap (level_of s w q) (sym whole_tree)

          pub reached_two : (l : ℕ) → l ≡ max p.level y.level → record { end = y.end; level = l } ≡ reached_at s w q k at
          unfolding reached_at
          reached_two l f i = record {
            end = (ap (λ (r : Reached). r.end) ey ∙ sym (ap (λ (u : ParsedTree). u.end) whole)) i;
            level = (f ∙ joined) i;
          }

          pub value_two : (a c g : List ℕ) → take (span_t s w q ms n (parse_tree s (k - 1) x.next).tree) c ≡ column_of s w q ms
              (span_t s w q ms n (parse_tree s (k - 1) x.next).tree) (parse_tree s (k - 1) x.next).tree
              → take (span_t s w q ms n (parse_tree s j p.end).tree) g ≡ column_of s w q ms
              (span_t s w q ms n (parse_tree s j p.end).tree) (parse_tree s j p.end).tree
              → Joined w.range x n ms p.level y.level c g a
              → take (span_t s w q ms n (parse_tree s k at).tree) a ≡ column_of s w q ms (span_t s w q ms n (parse_tree s k at).tree)
              (parse_tree s k at).tree
          unfolding Joined span_t column_of
          value_two a c g ec eg h =
              subst (λ (l : ℕ). take (span_of n ms l) a ≡ column_of s w q ms (span_of n ms l) tree) joined
              (h u v (subst (λ (l : ℕ). take (span_of n ms l) c ≡ column u (span_of n ms l)) (sym levels) ec) (cycles first p.level levels)
              (subst (λ (l : ℕ). take (span_of n ms l) g ≡ column v (span_of n ms l)) (sym levels₂) eg) (cycles second y.level levels₂)
              ∙ column_same (λ (r : ℕ). combine w.range x.code x.operand (u r) (v r))
              (λ (r : ℕ). row_value s w q (row_in ms r) tree) N
              (λ r b. sym (ap (row_value s w q (row_in ms r)) whole_tree
              ∙ value_inner (row_in ms r) x.code x.operand first second outer)))
            where
              u : ℕ → ℕ
              u r = row_value s w q (row_in ms r) first

              v : ℕ → ℕ
              v r = row_value s w q (row_in ms r) second

              N : ℕ
              N = span_of n ms (max p.level y.level)

              cycles : (t : Tree) (l : ℕ) → l ≡ level_of s w q t → Cycles (λ (r : ℕ). row_value s w q (row_in ms r) t) N (span_of n ms l)
              cycles t l e = subst (λ (l : ℕ). Cycles (λ (r : ℕ). row_value s w q (row_in ms r) t) N (span_of n ms l)) (sym e)
                  (tree_cycles t N (span_within n ms (max p.level y.level)))

    -- for all rows
    pub value_whole : (k at m : ℕ) (p : Reached) (a o : List ℕ)
        → p ≡ reached_at s w q k at → take (span_t s w q ms n (parse_tree s k at).tree) a ≡ column_of s w q ms
        (span_t s w q ms n (parse_tree s k at).tree) (parse_tree s k at).tree
        → m ≡ span_of n ms p.level → Widened m n a n o → take n o ≡ column_of s w q ms n (parse_tree s k at).tree
    unfolding reached_at span_t column_of Widened
    value_whole k at m p a o ep ea em h =
        (h (λ r. row_value s w q (row_in ms r) (parse_tree s k at).tree)
        (subst (λ (m : ℕ). take m a ≡ column_of s w q ms m (parse_tree s k at).tree) (sym same) ea)
        (subst (Cycles (λ r. row_value s w q (row_in ms r) (parse_tree s k at).tree) n) (sym same)
        (tree_cycles (parse_tree s k at).tree n (omega arith)))).0
      where
        same : m ≡ span_of n ms (level_of s w q (parse_tree s k at).tree)
        same = em ∙ ap (λ (r : Reached). span_of n ms r.level) ep

-- no more slots than there are
pub level_within : (s : List ℕ) (w : Reading) (q : List Slot) (k at : ℕ) (p : Reached) → p ≡ reached_at s w q k at → p.level ≤ 12
unfolding reached_at
level_within s w q k at p e = let f = ap (λ (r : Reached). r.level) e in let h = level_most s w q (parse_tree s k at).tree in omega arith

-- a column widened
module _ (n : ℕ) (ms : List ℕ) (i l : ℕ) (a : List ℕ) where
  pub widen_none : i ≡ l → Widened (span_of n ms i) (span_of n ms l) a (span_of n ms l) a
  widen_none e = rw e (widen_begin (span_of n ms l) (span_of n ms l) a)

  module _ (m rows : ℕ) (em : m ≡ span_of n ms i) (er : rows ≡ span_of n ms l) where
    pub widen_all : (o : List ℕ) → Widened m rows a rows o → Widened (span_of n ms i) (span_of n ms l) a (span_of n ms l) o
    widen_all o h = subst₂ (λ (m rows : ℕ). Widened m rows a rows o) em er h

    pub widens_within : i ≤ l → m ≤ rows
    widens_within h = let e = span_more n ms i l h in omega arith

    pub widens_some : min 1 rows ≤ m
    widens_some = let e = span_some n ms i in let h = span_within n ms l in omega arith

pub ruleset widen_level_branches = (widen_none, widen_all, widens_within, widens_some, span_fits, tests)

pub span_low : (n : ℕ) (ms : List ℕ) (j m : ℕ) → m ≡ span_of n ms j → m ≤ n
span_low n ms j m e = let h = span_within n ms j in omega arith

-- all rows
pub whole_asks : (n : ℕ) (ms : List ℕ) (i m : ℕ) → m ≡ span_of n ms i → (m ≤ n) × (min 1 n ≤ m)
whole_asks n ms i m e = (let h = span_within n ms i in omega arith, let h = span_some n ms i in omega arith)

-- two columns joined
module _ (R : ℕ) (x : Node) (n : ℕ) (ms : List ℕ) (i j l rows : ℕ) (a b a₂ b₂ o : List ℕ) where
  pub join_columns : l ≡ max i j → rows ≡ span_of n ms l → Widened (span_of n ms i) (span_of n ms l) a (span_of n ms l) a₂
      → Widened (span_of n ms j) (span_of n ms l) b (span_of n ms l) b₂
      → take rows o ≡ combined R x.code x.operand rows a₂ b₂ → Joined R x n ms i j a b o
  unfolding Joined Widened combined
  join_columns el er h g e f v ea ca eb cb =
      subst (λ (l : ℕ). take (span_of n ms l) o ≡ column (λ (r : ℕ). combine R x.code x.operand (f r) (v r)) (span_of n ms l)) el
      ((rw er at e) ∙ column_same (λ (r : ℕ). combine R x.code x.operand (get_or a₂ r 0) (get_or b₂ r 0))
      (λ (r : ℕ). combine R x.code x.operand (f r) (v r)) (span_of n ms l)
      (λ r k. ap₂ (combine R x.code x.operand) (column_at f 0 a₂ (span_of n ms l) r left k)
      (column_at v 0 b₂ (span_of n ms l) r right k)))
    where
      left : take (span_of n ms l) a₂ ≡ column f (span_of n ms l)
      left = (h f ea (subst (λ (k : ℕ). Cycles f (span_of n ms k) (span_of n ms i)) (sym el) ca)).0

      right : take (span_of n ms l) b₂ ≡ column v (span_of n ms l)
      right = (g v eb (subst (λ (k : ℕ). Cycles v (span_of n ms k) (span_of n ms j)) (sym el) cb)).0

-- a formula without parts
module _ (s : List ℕ) (w : Reading) (q : List Slot) (ms : List ℕ) (n c o : ℕ) (a : List ℕ) (b : Bool) (eb : b ≡ member w.leaves c) where
  abbrev plain : Tree
  plain = node c o none none

  module _ (j l : ℕ) (d : b ≡ true) (e : j ≡ slot_of s q (node c o none none)) (el : l ≡ level_in j) where
    pub plain_level : l ≡ level_of s w q (node c o none none)
    plain_level = el ∙ ap level_in e ∙ sym (level_leaf s w q c o none none (sym eb ∙ d))

    pub plain_leaf : take (span_of n ms l) a ≡ slot_column ms j (span_of n ms l)
        → take (span_t s w q ms n (node c o none none)) a ≡ column_of s w q ms (span_t s w q ms n (node c o none none)) (node c o none none)
    unfolding span_t
    plain_leaf f = rw (← plain_level) (f ∙ ap (λ (j : ℕ). slot_column ms j (span_of n ms l)) e
        ∙ column_leaf s w q ms n (span_of n ms l) c o none none (sym eb ∙ d))

  module _ (d : b ≡ false) where
    no_level : level_of s w q (node c o none none) ≡ 0
    no_level = level_inner s w q c o none none (sym eb ∙ d) ∙ ap₂ max (level_none s w q) (level_none s w q)

    pub plain_no_level : 0 ≡ level_of s w q (node c o none none)
    plain_no_level = sym no_level

    pub plain_other : (v m : ℕ) → v ≡ combine w.range c o 0 0 → m ≡ span_of n ms 0 → take m a ≡ constant v m
        → take (span_t s w q ms n (node c o none none)) a ≡ column_of s w q ms (span_t s w q ms n (node c o none none)) (node c o none none)
    unfolding constant column_of span_t
    plain_other v m e em f =
        rw no_level ((rw em at f) ∙ column_same (λ (i : ℕ). v) (λ (i : ℕ). row_value s w q (row_in ms i) plain) (span_of n ms 0)
        (λ i h. e ∙ sym (value_inner s w q (row_in ms i) c o none none (sym eb ∙ d)
        ∙ ap₂ (combine w.range c o) (value_none s w q (row_in ms i)) (value_none s w q (row_in ms i)))))

pub ruleset plain_column_branches = (plain_level, plain_leaf, plain_no_level, plain_other, span_fits, tests)

pub ruleset leaf_column_branches = (
  no_parts,
  met_zero,
  met_plain,
  met_inner,
  met_other,
  zero_column,
  plain_column,
  inner_column,
  other_column,
  span_fits,
  tests,
)

pub second_none : (p k : ℕ) → p < 2 → 0 ≡ second_left p k
unfolding second_left
second_none p k h = rw (lt-ltb _ _ h)

pub second_some : (p k : ℕ) → 2 ≤ p → k - 1 ≡ second_left p k
unfolding second_left
second_some p k h = rw (le-ltb _ _ h)

pub ruleset second_left_branches = (second_none, second_some)

pub ruleset column_at_branches = (value_leaf, some_left, first_less, second_less, value_two, reached_leaf, reached_two, tests)

pub ruleset whole_column_branches = (level_within, whole_asks, value_whole)
