-- Words written one after the other: the ways through the functions, one law for each.
use Prim.Native.Nat.{ℕ, suc, ◌+◌, ◌-◌, ◌*◌, ◌/◌, ◌%◌, ◌^◌, ◌≤◌, ◌<◌, min}
use mathlib.Core.Path.{◌≡◌, refl, ap, sym, ◌∙◌, subst}
use mathlib.Core.List.{List}
use mathlib.Core.Bool.{Bool, true, false}
use native.Mathlib.Omega.{arith}
use native.Mathlib.Numerals.{add-one}
use native.Mathlib.Nat.{one-mul, mod-eq_of_lt}
use lib.Pow.{pow-lt, pow_mono, pow_pos}
use lib.Bits.{bit_and, bit_or, bit_xor, and_mask}
use lib.ListN.{length, get_or}
use lib.Seq.{take_all}
use lib.Dec.{T, eqb}
use borrow.Author.Tests.{eq-eqb, ne_eqb, lt-ltb, le-ltb}
use Rattle.semantics.specs.Code
use Rattle.semantics.specs.Code.{byte}
use Rattle.logic.specs.Rows.{all_below}
use Rattle.logic.proofs.Rows.{all_below_at}
use Rattle.tables_columns.specs.Column.{column, Zipped}
use Rattle.tables_columns.proofs.ColumnBranches.{column_begins}
use Rattle.tables_bits.specs.Bits.{ones, patterns, word_of, words_of, deny_word, deny_words, leaf_word, leaf_words, mask_of, none_set}

-- a node's word
module _ (c o a b : ℕ) where
  pub word_true : c ≡ byte Code.const → o ≡ 1 → word_of c o a b ≡ ones
  unfolding word_of
  word_true e d = rw (e, d)

  pub word_else : c ≡ byte Code.const → (o ≡ 1 → ⊥) → word_of c o a b ≡ 0
  unfolding word_of
  word_else e d = rw (e, ne_eqb _ _ d)

  pub word_not : c ≡ byte Code.not → word_of c o a b ≡ bit_xor a ones
  unfolding word_of
  word_not e = rw e

  pub word_and : c ≡ byte Code.and → word_of c o a b ≡ bit_and a b
  unfolding word_of
  word_and e = rw e

  pub word_or : c ≡ byte Code.or → word_of c o a b ≡ bit_or a b
  unfolding word_of
  word_or e = rw e

  pub word_both : c ≡ byte Code.both_a → word_of c o a b ≡ bit_and a b
  unfolding word_of
  word_both e = rw e

  pub word_either : c ≡ byte Code.either_a → word_of c o a b ≡ bit_or a b
  unfolding word_of
  word_either e = rw e

  pub word_holds : c ≡ byte Code.holds → word_of c o a b ≡ a
  unfolding word_of
  word_holds e = rw e

  pub word_other : (c ≡ byte Code.const → ⊥) → (c ≡ byte Code.not → ⊥) → (c ≡ byte Code.and → ⊥) → (c ≡ byte Code.or → ⊥)
      → (c ≡ byte Code.both_a → ⊥) → (c ≡ byte Code.either_a → ⊥) → (c ≡ byte Code.holds → ⊥)
      → 0 ≡ word_of c o a b
  unfolding word_of
  word_other d e f g h i j = rw (ne_eqb _ _ d, ne_eqb _ _ e, ne_eqb _ _ f, ne_eqb _ _ g, ne_eqb _ _ h, ne_eqb _ _ i, ne_eqb _ _ j)

pub ruleset combine_word_branches = (word_true, word_else, word_not, word_and, word_or, word_both, word_either, word_holds, word_other)

-- all of them
pub column_is : (f : ℕ → ℕ) (n : ℕ) (a : List ℕ) → length a ≡ n → ((i : ℕ) → i < n → get_or a i 0 ≡ f i) → a ≡ column f n
column_is f n a l e = sym (take_all n a (omega arith)) ∙ column_begins f n a (omega arith) e

module _ (a b l : List ℕ) (h : length l ≡ 16) (P : ℕ → ℕ → ℕ → Type 0) (z : Zipped P 16 a b l) where
  pub zip_words : (c o : ℕ) → ((x y r : ℕ) → P x y r → r ≡ word_of c o x y) → l ≡ words_of c o 16 a b
  unfolding words_of
  zip_words c o f = column_is (λ (w : ℕ). word_of c o (get_or a w 0) (get_or b w 0)) 16 l h (λ i k. f _ _ _ (z.at 0 i k))

  pub zip_denied : ((x y r : ℕ) → P x y r → r ≡ deny_word x y) → l ≡ deny_words 16 a b
  unfolding deny_words
  zip_denied f = column_is (λ (w : ℕ). deny_word (get_or a w 0) (get_or b w 0)) 16 l h (λ i k. f _ _ _ (z.at 0 i k))

-- a leaf's words
module _ (j : ℕ) where
  pub first_0 : j ≡ 0 → 0xaaaa_aaaa_aaaa_aaaa ≡ get_or patterns j 0
  first_0 e = rw e

  pub first_1 : j ≡ 1 → 0xcccc_cccc_cccc_cccc ≡ get_or patterns j 0
  first_1 e = rw e

  pub first_2 : j ≡ 2 → 0xf0f0_f0f0_f0f0_f0f0 ≡ get_or patterns j 0
  first_2 e = rw e

  pub first_3 : j ≡ 3 → 0xff00_ff00_ff00_ff00 ≡ get_or patterns j 0
  first_3 e = rw e

  pub first_4 : j ≡ 4 → 0xffff_0000_ffff_0000 ≡ get_or patterns j 0
  first_4 e = rw e

  pub first_5 : j < 6 → (j ≡ 0 → ⊥) → (j ≡ 1 → ⊥) → (j ≡ 2 → ⊥) → (j ≡ 3 → ⊥) → (j ≡ 4 → ⊥) → 0xffff_ffff_0000_0000 ≡ get_or patterns j 0
  first_5 h a b c d f = let e : j ≡ 5 = omega arith in rw e

  module _ (w : ℕ) where
    pub leaf_low : (x : ℕ) → j < 6 → x ≡ get_or patterns j 0 → x ≡ leaf_word j w
    unfolding leaf_word
    leaf_low x h e = rw (lt-ltb _ _ h) e

    pub leaf_set : 6 ≤ j → bit_and (w / 2 ^ (j - 6)) 1 ≡ 1 → ones ≡ leaf_word j w
    unfolding leaf_word
    leaf_set h e = rw (le-ltb _ _ h, eq-eqb _ _ (sym (and_mask (w / 2 ^ (j - 6)) 1) ∙ e))

    pub leaf_clear : 6 ≤ j → (bit_and (w / 2 ^ (j - 6)) 1 ≡ 1 → ⊥) → 0 ≡ leaf_word j w
    unfolding leaf_word
    leaf_clear h e = rw (le-ltb _ _ h, ne_eqb _ _ (λ (d : w / 2 ^ (j - 6) % 2 ≡ 1). e (and_mask (w / 2 ^ (j - 6)) 1 ∙ d)))

pub ruleset first_word_branches = (first_0, first_1, first_2, first_3, first_4, first_5)

pub ruleset leaf_word_branches = (leaf_low, leaf_set, leaf_clear)

pub leaf_words_are : (j : ℕ) (a : List ℕ) → length a ≡ 16 → ((i : ℕ) → i < 16 → get_or a i 0 ≡ leaf_word j i) → a ≡ leaf_words j 16
unfolding leaf_words
leaf_words_are j a l e = column_is (leaf_word j) 16 a l e

-- two values for each leaf
module _ (k : ℕ) (h : k ≤ 10) where
  pub shift_is : 1 * 2 ^ k % 18446744073709551616 ≡ 2 ^ k
  shift_is = ap (λ (x : ℕ). x % 18446744073709551616) (one-mul (2 ^ k)) ∙ mod-eq_of_lt (pow-lt {i = k} {j = 64} (omega arith))

  pub shift_low : 1 * 2 ^ k % 18446744073709551616 ≤ 1024
  shift_low = subst (λ (x : ℕ). x ≤ 1024) (sym shift_is) (pow_mono {i = k} {j = 10} h)

pub ruleset rows_of_branches = (shift_is, shift_low)

-- the rows of a word
module _ (n w : ℕ) where
  pub mask_all : 64 * w + 64 ≤ n → ones ≡ mask_of n w
  unfolding mask_of
  mask_all h = let e : min 64 (n - 64 * w) ≡ 64 = omega arith in rw e

  pub mask_none : n ≤ 64 * w → 0 ≡ mask_of n w
  unfolding mask_of
  mask_none h = let e : min 64 (n - 64 * w) ≡ 0 = omega arith in rw e

  module _ (h : n < 64 * w + 64) (k : 64 * w < n) where
    shifted : 1 * 2 ^ (n - 64 * w) % 18446744073709551616 ≡ 2 ^ (n - 64 * w)
    shifted = ap (λ (x : ℕ). x % 18446744073709551616) (one-mul (2 ^ (n - 64 * w)))
        ∙ mod-eq_of_lt (pow-lt {i = n - 64 * w} {j = 64} (omega arith))

    pub mask_shifts : 1 ≤ 1 * 2 ^ (n - 64 * w) % 18446744073709551616
    mask_shifts = subst (λ (x : ℕ). 1 ≤ x) (sym shifted) (pow_pos (n - 64 * w))

    pub mask_some : 1 * 2 ^ (n - 64 * w) % 18446744073709551616 - 1 ≡ mask_of n w
    unfolding mask_of
    mask_some = let e : min 64 (n - 64 * w) ≡ n - 64 * w = omega arith in ap (λ (x : ℕ). x - 1) shifted ∙ rw e

pub ruleset mask_of_branches = (mask_all, mask_none, mask_shifts, mask_some)

-- no row is set
module _ (a : List ℕ) (n : ℕ) where
  abbrev clear : ℕ → Bool
  clear w = eqb (bit_and (get_or a w 0) (mask_of n w)) 0

  pub none_begin : none_set a n 0 ≡ true
  unfolding none_set
  none_begin = refl

  none_step : (w : ℕ) → clear w ≡ true → none_set a n w ≡ true → none_set a n (suc w) ≡ true
  unfolding none_set
  none_step w d e = subst (λ (b : Bool). elim b as (λ x. Bool) [ true ↦ all_below w clear | false ↦ false ] ≡ true) (sym d) e

  pub none_more : (w m : ℕ) → none_set a n w ≡ true → m ≡ mask_of n w → bit_and (get_or a w 0) m ≡ 0 → none_set a n (w + 1) ≡ true
  none_more w m e em d = rw (add-one w) (none_step w (eq-eqb _ _ (ap (bit_and (get_or a w 0)) (sym em) ∙ d)) e)

  pub none_miss : (w m : ℕ) → w < 16 → m ≡ mask_of n w → (bit_and (get_or a w 0) m ≡ 0 → ⊥) → false ≡ none_set a n 16
  unfolding none_set
  none_miss w m h em d = go (all_below 16 clear) refl
    where
      no : clear w ≡ false
      no = ne_eqb _ _ (λ (z : bit_and (get_or a w 0) (mask_of n w) ≡ 0). d (ap (bit_and (get_or a w 0)) em ∙ z))

      go : (b : Bool) → all_below 16 clear ≡ b → false ≡ b
      go true e = absurd (subst T no (all_below_at 16 clear (subst T (sym e) tt) w h))
      go false e = refl

pub ruleset none_set_branches = (none_begin, none_more, none_miss)
