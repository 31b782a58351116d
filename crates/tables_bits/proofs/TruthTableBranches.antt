-- Formulas walked: the ways through the functions, one law for each.
use Prim.Native.Nat.{ℕ, ◌+◌, ◌-◌, ◌≤◌, ◌<◌}
use mathlib.Core.Path.{◌≡◌, refl, ap, sym, ◌∙◌, subst}
use mathlib.Core.List.{List}
use mathlib.Core.Bool.{Bool, true, false}
use native.Mathlib.Omega.{arith}
use lib.ListN.{length, replicate}
use lib.Dec.{ltb}
use borrow.Author.Tests.{lt-ltb, ltb-true}
use Rattle.formula.specs.Codes.{member}
use Rattle.formula.specs.Tree.{Tree, none, node_at, parse_tree, ParsedTree, grow}
use Rattle.formula.specs.declared.node.Node.{Node}
use Rattle.formula.proofs.NodeBranches.{parse_zero, parse_step}
use Rattle.limits.proofs.BranchTests.{lower, tests}
use Rattle.tables_columns.specs.Slots.{slots, leaf_slot, slot_of, slot_within}
use Rattle.tables_columns.specs.Gather.{put_t, view, count_put, slot_put}
use Rattle.tables_columns.specs.declared.slot.Slot.{Slot}
use Rattle.tables_columns.proofs.GatherBranches.{put_over, put_there, put_new, put_length, nth_put, slot-put, gathers}
use Rattle.tables_columns.specs.Column.{constant}
use Rattle.tables_columns.proofs.ColumnLists.{column_length}
use Rattle.tables_bits.specs.Bits.{word_of, words_of, leaf_word, leaf_words}
use Rattle.tables_bits.specs.TruthTable.{by_leaves, LeafBits, TreeBits, Grown}
use Rattle.tables_bits.proofs.BitsShow.{shows_later, shows_over, leaf_shows, tree_none, tree_leaf, tree_node, tree_plain, tree_zeros}

-- as many words as ever
module _ (a : List ℕ) where
  wide_constant : (x : ℕ) → a ≡ constant x 16 → length a ≡ 16
  unfolding constant
  wide_constant x e = ap length e ∙ column_length (λ (w : ℕ). x) 16

  wide_leaf : (j : ℕ) → a ≡ leaf_words j 16 → length a ≡ 16
  unfolding leaf_words
  wide_leaf j e = ap length e ∙ column_length (leaf_word j) 16

  wide_node : (c o : ℕ) (a₁ b : List ℕ) → a ≡ words_of c o 16 a₁ b → length a ≡ 16
  unfolding words_of
  wide_node c o a₁ b e = ap length e ∙ column_length _ 16

pub plain_filled : (c o v : ℕ) (a : List ℕ) → v ≡ word_of c o 0 0 → a ≡ constant v 16 → a ≡ constant (word_of c o 0 0) 16
plain_filled c o v a e f = f ∙ ap (λ (x : ℕ). constant x 16) e

-- a leaf
module _ (s : List ℕ) (at left n : ℕ) (q : List Slot) (a : List ℕ) (some : 0 < left) where
  abbrev tree : Tree
  tree = (parse_tree s left at).tree

  not_zero : left ≡ 0 → ⊥
  not_zero e = omega arith

  -- too many
  module _ (h : slots < n) where
    pub over_view : view s n q ≡ put_t (parse_tree s left at).tree (view s n q)
    over_view = put_over s at left n q not_zero h

    pub over_bits : LeafBits s n q (parse_tree s left at).tree a
    unfolding LeafBits
    over_bits = shows_over _ n q a (omega arith)

  pub over_grown : length q ≡ 12 → length a ≡ 16 → Grown n q n q a
  over_grown l k = record { more = omega arith; same = λ j h. refl; long = l; wide = k }

  module _ (j : ℕ) (ej : j ≡ slot_within s q n (parse_tree s left at).tree) where
    -- one of those that are there
    pub found_view : n ≤ slots → j < n → view s n q ≡ put_t (parse_tree s left at).tree (view s n q)
    found_view h l = put_there s at left n q j not_zero h ej l

    -- a new one
    module _ (p : Slot) (m : ℕ) (q₂ : List Slot) (em : m ≡ count_put n) (eq : q₂ ≡ slot_put n p q) (l : length q ≡ 12) (h : n ≤ slots) where
      pub new_view : n ≤ j → p ≡ leaf_slot s at left → view s m q₂ ≡ put_t (parse_tree s left at).tree (view s n q)
      new_view k ep = put_new s at left n q j not_zero h ej p m q₂ l k ep em eq

      pub new_grown : a ≡ leaf_words j 16 → Grown n q m q₂ a
      unfolding count_put
      new_grown ea = record {
        more = more (ltb n slots) refl;
        same = nth_put n p q q₂ eq;
        long = put_length n p q q₂ l eq;
        wide = wide_leaf a j ea;
      }
        where
          more : (b : Bool) → ltb n slots ≡ b → n ≤ m
          more true e = let f : m ≡ n + 1 = em ∙ rw e in omega arith
          more false e = let f : m ≡ 13 = em ∙ rw e in omega arith

      pub new_bits : n ≤ j → p ≡ leaf_slot s at left → a ≡ leaf_words j 16 → LeafBits s m q₂ (parse_tree s left at).tree a
      unfolding count_put slot_within LeafBits
      new_bits k ep ea = go (ltb n slots) refl
        where
          go : (b : Bool) → ltb n slots ≡ b → LeafBits s m q₂ tree a
          go true e =
              let f : m ≡ n + 1 = em ∙ rw e in
              let d : j ≡ n = omega arith in
              let g : slot_of s q₂ tree ≡ j = slot-put s at left n p q not_zero (ltb-true n slots e) l ep q₂ eq (omega arith) ∙ sym d in
              subst (LeafBits s m q₂ tree) (sym ea) (leaf_shows s m q₂ tree j (omega arith) g)
          go false e = let f : m ≡ 13 = em ∙ rw e in shows_over _ m q₂ a (omega arith)

    -- its words
    module _ (ea : a ≡ leaf_words j 16) where
      pub found_grown : length q ≡ 12 → Grown n q n q a
      found_grown l = record { more = omega arith; same = λ j h. refl; long = l; wide = wide_leaf a j ea }

      pub found_bits : j < n → LeafBits s n q (parse_tree s left at).tree a
      unfolding slot_within
      found_bits l = subst (LeafBits s n q tree) (sym ea) (leaf_shows s n q tree j l (omega arith))

pub within_slots : (s : List ℕ) (q : List Slot) (n j : ℕ) (t : Tree) → j ≡ slot_within s q n t → n ≤ 12 → j < 64
unfolding slot_within
within_slots s q n j t e h = omega arith

pub ruleset leaf_bits_viewing = (over_view, found_view, new_view)

pub ruleset leaf_bits_growing = (over_grown, found_grown, new_grown)

pub ruleset leaf_bits_showing = (over_bits, found_bits, new_bits)

-- what is not changed, and what grows
module _ (n : ℕ) (q : List Slot) (a : List ℕ) where
  pub grown_none : (x : ℕ) → length q ≡ 12 → a ≡ constant x 16 → Grown n q n q a
  grown_none x l e = record { more = omega arith; same = λ j h. refl; long = l; wide = wide_constant a x e }

  module _ (c o m : ℕ) (q₂ : List Slot) (a₁ b : List ℕ) (e : a ≡ words_of c o 16 a₁ b) where
    pub grown_one : Grown n q m q₂ a₁ → Grown n q m q₂ a
    grown_one g = record { more = g.more; same = g.same; long = g.long; wide = wide_node a c o a₁ b e }

    pub grown_two : (m₂ : ℕ) (q₃ : List Slot) → Grown n q m q₂ b → Grown m q₂ m₂ q₃ a₁ → Grown n q m₂ q₃ a
    grown_two m₂ q₃ g h = record {
      more = let k = g.more in let l = h.more in
          omega arith;
      same = λ j k. h.same j (let l = g.more in omega arith)
          ∙ g.same j k;
      long = h.long;
      wide = wide_node a c o a₁ b e;
    }

pub ruleset table_at_grows = (grown_none, grown_one, grown_two)

-- the bits of a formula
module _ (s : List ℕ) (k at n : ℕ) (q : List Slot) (a : List ℕ) where
  pub bits_none : k ≡ 0 → a ≡ constant 0 16 → TreeBits s n q (parse_tree s k at).tree a
  bits_none z e = rw (e, parse_zero s k at z) (tree_none s n q)

  module _ (x : Node) (b : Bool) (z : k ≡ 0 → ⊥) (e : x ≡ node_at s at) (eb : b ≡ member by_leaves.leaves x.code) where
    pub bits_leaf : b ≡ true → LeafBits s n q (parse_tree s k at).tree a → TreeBits s n q (parse_tree s k at).tree a
    bits_leaf d =
        subst (λ (u : ParsedTree). LeafBits s n q u.tree a → TreeBits s n q u.tree a)
        (sym (parse_step s k at z ∙ ap (grow (λ p. parse_tree s (k - 1) p)) (sym e)))
        (tree_leaf s n q x.code x.operand _ _ a (sym eb ∙ d))

    module _ (d : b ≡ false) where
      pub bits_plain : x.parts ≡ 0 → a ≡ constant (word_of x.code x.operand 0 0) 16 → TreeBits s n q (parse_tree s k at).tree a
      bits_plain p f = rw (f, parse_step s k at z, ← e, p) (tree_plain s n q x.code x.operand (sym eb ∙ d))

      pub bits_one : (a₁ : List ℕ) → (x.parts ≡ 0 → ⊥) → x.parts ≡ 1 → TreeBits s n q (parse_tree s (k - 1) x.next).tree a₁
          → a ≡ words_of x.code x.operand 16 a₁ (replicate 16 0) → TreeBits s n q (parse_tree s k at).tree a
      bits_one a₁ p o h f = rw (f, parse_step s k at z, ← e, o)
          (tree_node s n q x.code x.operand (parse_tree s (k - 1) x.next).tree none a₁ (replicate 16 0) (sym eb ∙ d) h
          (tree_zeros s n q))

      pub bits_two : (y m : ℕ) (q₂ : List Slot) (a₁ c : List ℕ) → (x.parts ≡ 0 → ⊥) → (x.parts ≡ 1 → ⊥) → y ≡ (parse_tree s (k - 1) x.next).end
          → TreeBits s m q₂ (parse_tree s (k - 1) y).tree c → Grown m q₂ n q a₁ → TreeBits s n q (parse_tree s (k - 1) x.next).tree a₁
          → a ≡ words_of x.code x.operand 16 a₁ c
          → TreeBits s n q (parse_tree s k at).tree a
      unfolding TreeBits
      bits_two y m q₂ a₁ c p o em g r h f =
          let t₀ : 0 < x.parts = omega arith in
          let t₁ : 1 < x.parts = omega arith in
          rw (f, parse_step s k at z, ← e, lt-ltb _ _ t₀, lt-ltb _ _ t₁, ← em)
          (tree_node s n q x.code x.operand (parse_tree s (k - 1) x.next).tree (parse_tree s (k - 1) y).tree a₁ c (sym eb ∙ d) h
          (shows_later _ m n q₂ q c r.more r.same g))

pub ruleset table_at_bits = (bits_none, bits_leaf, bits_plain, bits_one, bits_two)

pub ruleset table_at_walks = (gathers, lower)

pub ruleset table_at_branches = (table_at_walks, table_at_grows, table_at_bits, tests)
