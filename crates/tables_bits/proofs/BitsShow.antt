-- What bits show: of a leaf, and of a node from its parts.
use Prim.Native.Nat.{ℕ, zero, suc, ◌+◌, ◌*◌, ◌≤◌, ◌<◌}
use mathlib.Core.Path.{◌≡◌, refl, ap, sym, ◌∙◌}
use mathlib.Core.List.{List}
use mathlib.Core.Bool.{Bool, true, false, cond, not, ◌&&◌, ◌||◌, true≢false}
use native.Mathlib.Omega.{arith}
use native.Mathlib.Nat.{mod-lt}
use lib.Bits.{bit_and, bit_or, bit_xor}
use lib.ListN.{get_or, replicate}
use lib.Dec.{eqb}
use borrow.Author.Tests.{lt-ltb, eqb-true}
use Rattle.semantics.specs.Code
use Rattle.semantics.specs.Code.{byte}
use Rattle.formula.specs.Codes.{member}
use Rattle.formula.specs.Tree.{Tree, none, node}
use Rattle.tables_columns.specs.Slots.{slots, nth, slot_of}
use Rattle.tables_columns.specs.declared.slot.Slot.{Slot}
use Rattle.tables_columns.proofs.GatherBranches.{slot_later}
use Rattle.tables_columns.specs.Combine.{combine}
use Rattle.tables_columns.specs.Column.{constant}
use Rattle.tables_columns.proofs.ColumnLists.{column_get_d}
use Rattle.tables_digits.specs.SlotColumn.{value_in, row_in}
use Rattle.tables_digits.proofs.EachRowOnce.{digit_bit}
use Rattle.tables_digits.specs.ValueColumn.{row_value}
use Rattle.tables_digits.proofs.ValueBranches.{value_none, value_node}
use Rattle.tables_bits.specs.Bits.{bit, ones, word_of, words_of, leaf_word, leaf_words}
use Rattle.tables_bits.proofs.BitFacts.{flag, bit_ones, bit_none, flag_not, flag_and, flag_or, leaf_bit}
use Rattle.tables_bits.specs.TruthTable.{by_leaves, Later, Shows, LeafBits, TreeBits}

-- slots that come later
pub shows_later : (f : List Slot → List ℕ → Bool) (n m : ℕ) (q q₂ : List Slot) (a : List ℕ) → n ≤ m → ((j : ℕ) → j < n → nth q₂ j ≡ nth q j)
    → Shows n q f a → Shows m q₂ f a
unfolding Shows
shows_later f n m q q₂ a l same h x w i hw hi hr = h back w i hw hi hr
  where
    back : Later n q
    back = record {
      count = x.count;
      slots = x.slots;
      lasts = x.lasts;
      few = x.few;
      more = let k = x.more in
          omega arith;
      same = λ j b. x.same j (omega arith) ∙ same j b;
      two = x.two;
    }

-- more slots than there may be show anything
pub shows_over : (f : List Slot → List ℕ → Bool) (n : ℕ) (q : List Slot) (a : List ℕ) → 10 < n → Shows n q f a
unfolding Shows
shows_over f n q a h x w i hw hi hr = absurd (let k = x.more in let l = x.few in omega arith)

flag_is : (v : ℕ) → v < 2 → v ≡ flag (eqb v 1)
flag_is zero h = refl
flag_is (suc zero) h = refl
flag_is (suc (suc v)) h = absurd (omega arith)

-- a leaf has the digits of its slot
pub leaf_shows : (s : List ℕ) (n : ℕ) (q : List Slot) (t : Tree) (j : ℕ) → j < n → slot_of s q t ≡ j → LeafBits s n q t (leaf_words j 16)
unfolding LeafBits Shows leaf_words value_in row_in
leaf_shows s n q t j h e x w i hw hi hr =
    ap (λ (y : ℕ). bit y i) (column_get_d (leaf_word j) 0 16 w hw) ∙ leaf_bit j w i few hw hi ∙ flag_is (bit r j) (mod-lt _ (omega arith))
    ∙ ap (λ (v : ℕ). flag (eqb v 1)) (sym digit ∙ sym within)
  where
    r : ℕ
    r = 64 * w + i

    few : j < 10
    few = let k = x.more in let l = x.few in omega arith

    slot : slot_of s x.slots t ≡ j
    slot = slot_later s q x.slots n t x.same (omega arith) ∙ e

    digit : get_or (row_in x.lasts r) j 0 ≡ bit r j
    digit = digit_bit x.lasts slots x.count j r x.two hr (omega arith)

    within : value_in (row_in x.lasts r) (slot_of s x.slots t) ≡ get_or (row_in x.lasts r) j 0
    within = let k : j < slots = omega arith in ap (value_in (row_in x.lasts r)) slot ∙ rw (lt-ltb _ _ k)

-- what is no leaf is neither a sum nor a comparison
inner : (c k : ℕ) → member by_leaves.leaves k ≡ true → member by_leaves.leaves c ≡ false → eqb c k ≡ false
inner c k h g = go (eqb c k) refl
  where
    go : (b : Bool) → eqb c k ≡ b → eqb c k ≡ false
    go true e = absurd (true≢false (sym h ∙ ap (member by_leaves.leaves) (sym (eqb-true c k e)) ∙ g))
    go false e = e

truth_not : (p : Bool) → not p ≡ eqb (cond {A = ℕ} p 0 1) 1
truth_not true = refl
truth_not false = refl

truth_and : (p : Bool) (y : ℕ) → (p && eqb y 1) ≡ eqb (cond p y 0) 1
truth_and true y = refl
truth_and false y = refl

truth_or : (p : Bool) (y : ℕ) → (p || eqb y 1) ≡ eqb (cond p 1 y) 1
truth_or true y = refl
truth_or false y = refl

-- one operation for 64 rows
pub node_bit : (c o i a b x y : ℕ) → i < 64 → member by_leaves.leaves c ≡ false → bit a i ≡ flag (eqb x 1) → bit b i ≡ flag (eqb y 1)
    → bit (word_of c o a b) i ≡ flag (eqb (combine 2 c o x y) 1)
unfolding word_of combine member
node_bit c o i a b x y hi h ea eb =
    rw (inner c (byte Code.sum) refl h, inner c (byte Code.equal) refl h, inner c (byte Code.less) refl h)
    (go (eqb c (byte Code.const)) (eqb c (byte Code.not)) (eqb c (byte Code.and)) (eqb c (byte Code.or)) (eqb c (byte Code.both_a))
    (eqb c (byte Code.either_a)) (eqb c (byte Code.holds)))
  where
    all : (p : Bool) → bit (cond p ones 0) i ≡ flag p
    all true = bit_ones i hi
    all false = bit_none i

    both : bit (bit_and a b) i ≡ flag (eqb (cond (eqb x 1) y 0) 1)
    both = flag_and i a (eqb x 1) ea b (eqb y 1) eb ∙ ap flag (truth_and (eqb x 1) y)

    either : bit (bit_or a b) i ≡ flag (eqb (cond (eqb x 1) 1 y) 1)
    either = flag_or i a (eqb x 1) ea b (eqb y 1) eb ∙ ap flag (truth_or (eqb x 1) y)

    go : (k n u v d e g : Bool)
        → bit
        (cond k (cond (eqb o 1) ones 0) (cond n (bit_xor a ones)
        (cond u (bit_and a b) (cond v (bit_or a b) (cond d (bit_and a b) (cond e (bit_or a b) (cond g a 0))))))) i
        ≡ flag
        (eqb
        (cond k o
        (cond n (cond (eqb x 1) 0 1) (cond u (cond (eqb x 1) y 0)
        (cond v (cond (eqb x 1) 1 y) (cond d (cond (eqb x 1) y 0) (cond e (cond (eqb x 1) 1 y) (cond g x 0))))))) 1)
    go true n u v d e g = all (eqb o 1)
    go false true u v d e g = flag_not i a (eqb x 1) ea hi ∙ ap flag (truth_not (eqb x 1))
    go false false true v d e g = both
    go false false false true d e g = either
    go false false false false true e g = both
    go false false false false false true g = either
    go false false false false false false true = ea
    go false false false false false false false = bit_none i

-- the value of a node, a leaf or not
module _ (s : List ℕ) (p : List Slot) (v : List ℕ) (c o : ℕ) (l r : Tree) where
  value_leaf : member by_leaves.leaves c ≡ true → row_value s by_leaves p v (node c o l r) ≡ value_in v (slot_of s p (node c o l r))
  value_leaf e = value_node s by_leaves p v c o l r ∙ rw e

  value_inner : member by_leaves.leaves c ≡ false
      → row_value s by_leaves p v (node c o l r) ≡ combine 2 c o (row_value s by_leaves p v l) (row_value s by_leaves p v r)
  value_inner e = value_node s by_leaves p v c o l r ∙ rw e

-- of trees
module _ (s : List ℕ) (n : ℕ) (q : List Slot) where
  pub tree_none : TreeBits s n q none (constant 0 16)
  unfolding TreeBits Shows constant
  tree_none x w i hw hi hr = ap (λ (y : ℕ). bit y i) (column_get_d (λ (w : ℕ). 0) 0 16 w hw) ∙ bit_none i
      ∙ ap (λ (v : ℕ). flag (eqb v 1)) (sym (value_none s by_leaves x.slots (row_in x.lasts (64 * w + i))))

  module _ (c o : ℕ) (l r : Tree) where
    pub tree_leaf : (a : List ℕ) → member by_leaves.leaves c ≡ true → LeafBits s n q (node c o l r) a → TreeBits s n q (node c o l r) a
    unfolding TreeBits LeafBits Shows
    tree_leaf a e h x w i hw hi hr = h x w i hw hi hr
        ∙ ap (λ (v : ℕ). flag (eqb v 1)) (sym (value_leaf s x.slots (row_in x.lasts (64 * w + i)) c o l r e))

    pub tree_node : (a b : List ℕ) → member by_leaves.leaves c ≡ false → TreeBits s n q l a → TreeBits s n q r b
        → TreeBits s n q (node c o l r) (words_of c o 16 a b)
    unfolding TreeBits Shows words_of
    tree_node a b e f g x w i hw hi hr =
        ap (λ (y : ℕ). bit y i) (column_get_d (λ (w : ℕ). word_of c o (get_or a w 0) (get_or b w 0)) 0 16 w hw)
        ∙ node_bit c o i (get_or a w 0) (get_or b w 0) (row_value s by_leaves x.slots v l) (row_value s by_leaves x.slots v r) hi e
        (f x w i hw hi hr) (g x w i hw hi hr)
        ∙ ap (λ (v : ℕ). flag (eqb v 1)) (sym (value_inner s x.slots v c o l r e))
      where
        v : List ℕ
        v = row_in x.lasts (64 * w + i)

-- a node without parts
pub tree_plain : (s : List ℕ) (n : ℕ) (q : List Slot) (c o : ℕ) → member by_leaves.leaves c ≡ false
    → TreeBits s n q (node c o none none) (constant (word_of c o 0 0) 16)
unfolding TreeBits Shows constant
tree_plain s n q c o e x w i hw hi hr =
    ap (λ (y : ℕ). bit y i) (column_get_d (λ (w : ℕ). word_of c o 0 0) 0 16 w hw)
    ∙ node_bit c o i 0 0 (row_value s by_leaves x.slots v none) (row_value s by_leaves x.slots v none) hi e nothing nothing
    ∙ ap (λ (v : ℕ). flag (eqb v 1)) (sym (value_inner s x.slots v c o none none e))
  where
    v : List ℕ
    v = row_in x.lasts (64 * w + i)

    nothing : bit 0 i ≡ flag (eqb (row_value s by_leaves x.slots v none) 1)
    nothing = bit_none i ∙ ap (λ (v : ℕ). flag (eqb v 1)) (sym (value_none s by_leaves x.slots v))

-- words that are all 0 show nothing
pub tree_zeros : (s : List ℕ) (n : ℕ) (q : List Slot) → TreeBits s n q none (replicate 16 0)
unfolding TreeBits Shows
tree_zeros s n q x w i hw hi hr = ap (λ (y : ℕ). bit y i) (zeros 16 w) ∙ bit_none i
    ∙ ap (λ (v : ℕ). flag (eqb v 1)) (sym (value_none s by_leaves x.slots (row_in x.lasts (64 * w + i))))
  where
    zeros : (n i : ℕ) → get_or (replicate {A = ℕ} n 0) i 0 ≡ 0
    zeros zero i = refl
    zeros (suc n) zero = refl
    zeros (suc n) (suc i) = zeros n i
