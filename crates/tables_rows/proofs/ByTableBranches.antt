-- Truth tables: the ways through the functions, one law for each.
use Prim.Native.Nat.{ℕ, zero, suc, ◌+◌, ◌-◌, ◌*◌, ◌/◌, ◌%◌, ◌^◌, ◌≤◌, ◌<◌}
use mathlib.Core.Path.{◌≡◌, refl, ap, ap₂, sym, ◌∙◌}
use mathlib.Core.List.{List, [], ◌∷◌}
use mathlib.Core.Bool.{Bool, true, false, cond, not, ◌&&◌}
use native.Mathlib.Omega.{arith}
use native.Mathlib.Nat.{one-mul, mod-lt, div-lt_iff_lt-mul, div-add-mod', mul_comm}
use lib.ListN.{length, get_or, replicate}
use lib.Pow.{pow_mono}
use lib.Dec.{eqb, ltb}
use borrow.Author.Tests.{lt-ltb, le-ltb, lt-leb, ltb-true, ltb-false}
use Rattle.semantics.specs.Code
use Rattle.semantics.specs.Code.{byte}
use Rattle.logic.specs.Rows.{row_count}
use Rattle.formula.specs.Tree.{parse_tree}
use Rattle.formula_compare.specs.Same.{same_tree}
use Rattle.tables_columns.specs.declared.slot.Slot.{Slot}
use Rattle.tables_columns.specs.Slots.{slots, slot_at, kept}
use Rattle.tables_columns.specs.Gather.{view}
use Rattle.tables_columns.specs.Count.{choices_t, capped, rows_up_to}
use Rattle.tables_columns.proofs.GatherBranches.{kept_length, view_keys, view_many}
use Rattle.tables_columns.proofs.ColumnLists.{column_get_d, column_length}
use Rattle.tables_digits.specs.Advance.{rows_from, rows_of, EveryOnce}
use Rattle.tables_digits.specs.SlotColumn.{row_in}
use Rattle.tables_digits.proofs.EachRowOnce.{from_at, from_long}
use Rattle.tables_digits.specs.ValueColumn.{row_value}
use Rattle.tables_bits.specs.Bits.{bit, ones, word_of, words_of, deny_word, deny_words, none_set}
use Rattle.tables_bits.proofs.BitFacts.{flag, bit_ones, flag_and, flag_deny, none-set}
use Rattle.tables_bits.specs.TruthTable.{by_leaves, Later, Shows, TreeBits, Grown}
use Rattle.tables_bits.proofs.BitsShow.{shows_later}
use Rattle.tables_rows.specs.Entailment.{ImpT, imp_of, premises_from, imp_at, all_at, entails_at, gather_all}
use Rattle.tables_rows.specs.EveryRow.{lasts_of, tried_rows, rows_hold, every_of}
use Rattle.tables_rows.specs.ByTable.{ImpBits, AllBits, FailBits}
use Rattle.tables_rows.specs.declared.entailment.Implication.{Implication}
use Rattle.tables_rows.specs.declared.entailment.Task.{Task}
use Rattle.tables_rows.proofs.EntailmentBranches.{prems_step, prems_end}
use Rattle.tables_rows.proofs.DistinctLeaves.{two_choices, two_rows, rows_power}
use Rattle.tables_rows.proofs.ChoicesTried.{all-below, lasts_at, rows_count, tried_once}
use Rattle.tables_rows.proofs.EveryRowBranches.{every_try}

-- what is shown of two columns is shown of one made of them
module _ (n : ℕ) (q : List Slot) (f g h : List Slot → List ℕ → Bool) (a b o : List ℕ) (ef : Shows n q f a) (eg : Shows n q g b) where
  shows_deny : ((p : List Slot) (v : List ℕ) → (f p v && not (g p v)) ≡ h p v) → o ≡ deny_words 16 a b → Shows n q h o
  unfolding Shows deny_words
  shows_deny said e x w i hw hi hr =
      ap (λ (l : List ℕ). bit (get_or l w 0) i) e ∙ ap (λ (y : ℕ). bit y i)
      (column_get_d (λ (w : ℕ). deny_word (get_or a w 0) (get_or b w 0)) 0 16 w hw)
      ∙ flag_deny i (get_or a w 0) (get_or b w 0) (f x.slots v) (g x.slots v) hi (ef x w i hw hi hr) (eg x w i hw hi hr)
      ∙ ap flag (said x.slots v)
    where
      v : List ℕ
      v = row_in x.lasts (64 * w + i)

  shows_and : ((p : List Slot) (v : List ℕ) → (f p v && g p v) ≡ h p v) → o ≡ words_of (byte Code.and) 0 16 a b → Shows n q h o
  unfolding Shows words_of word_of
  shows_and said e x w i hw hi hr =
      ap (λ (l : List ℕ). bit (get_or l w 0) i) e ∙ ap (λ (y : ℕ). bit y i)
      (column_get_d (λ (w : ℕ). word_of (byte Code.and) 0 (get_or a w 0) (get_or b w 0)) 0 16 w hw)
      ∙ flag_and i (get_or a w 0) (f x.slots v) (ef x w i hw hi hr) (get_or b w 0) (g x.slots v) (eg x w i hw hi hr)
      ∙ ap flag (said x.slots v)
    where
      v : List ℕ
      v = row_in x.lasts (64 * w + i)

-- as many words as ever
wide_deny : (o a b : List ℕ) → o ≡ deny_words 16 a b → length o ≡ 16
unfolding deny_words
wide_deny o a b e = ap length e ∙ column_length _ 16

module _ (s : List ℕ) (pairs : ℕ → Implication) (t : Task) where
  abbrev prems : ℕ → List ImpT
  prems = premises_from s pairs t

  abbrev imp : ℕ → ImpT
  imp = imp_of s pairs t

  -- an implication fails where the left side is true and the right side is not
  pub imp_bits : (i m k : ℕ) (x : Implication) (q₂ q₃ : List Slot) (b a o : List ℕ) → x ≡ pairs i
      → TreeBits s m q₂ (parse_tree s t.right x.right).tree b → Grown m q₂ k q₃ a → TreeBits s k q₃ (parse_tree s t.left x.left).tree a
      → o ≡ deny_words 16 a b → ImpBits s k q₃ (imp_of s pairs t i) o
  unfolding ImpBits TreeBits imp_at imp_of
  imp_bits i m k u q₂ q₃ b a o eu hb g ha e =
      shows_deny k q₃ (λ p v. eqb (row_value s by_leaves p v (parse_tree s t.left u.left).tree) 1)
      (λ p v. eqb (row_value s by_leaves p v (parse_tree s t.right u.right).tree) 1) (λ p v. not (imp_at s by_leaves p v (imp i))) a b o
      ha (shows_later _ m k q₂ q₃ b g.more g.same hb)
      (λ p v. go (eqb (row_value s by_leaves p v (parse_tree s t.left u.left).tree) 1)
      (eqb (row_value s by_leaves p v (parse_tree s t.right u.right).tree) 1)
      ∙ ap
      (λ (x : Implication). not (cond (eqb (row_value s by_leaves p v (parse_tree s t.left x.left).tree) 1)
      (eqb (row_value s by_leaves p v (parse_tree s t.right x.right).tree) 1) true)) eu) e
    where
      go : (x y : Bool) → (x && not y) ≡ not (cond x y true)
      go true y = refl
      go false y = refl

  -- without a premise, all rows
  pub rows_begin : (q : List Slot) → AllBits s 0 q (premises_from s pairs t t.premises) (replicate 16 18446744073709551615)
  unfolding AllBits Shows all_at
  rows_begin q x w i hw hi hr = ap (λ (y : ℕ). bit y i) (same 16 w hw) ∙ bit_ones i hi
      ∙ ap (λ (l : List ImpT). flag (all_at s by_leaves x.slots (row_in x.lasts (64 * w + i)) l))
      (sym (prems_end s pairs t t.premises (omega arith)))
    where
      same : (n w : ℕ) → w < n → get_or (replicate {A = ℕ} n ones) w 0 ≡ ones
      same zero w h = absurd (omega arith)
      same (suc n) zero h = refl
      same (suc n) (suc w) h = same n w (omega arith)

  module _ (i n m : ℕ) (q q₂ : List Slot) (a c o : List ℕ) (ha : AllBits s n q (premises_from s pairs t i) a) (g : Grown n q m q₂ c) where
    pub rows_next : (k : ℕ) → i ≤ t.premises → 0 < i → k ≡ i → ImpBits s m q₂ (imp_of s pairs t k) c → o ≡ deny_words 16 a c
        → AllBits s m q₂ (premises_from s pairs t (i - 1)) o
    unfolding AllBits ImpBits all_at
    rows_next k l z ek hk e =
        let hc = rw ek at hk in
        shows_deny m q₂ (λ p v. all_at s by_leaves p v (prems i)) (λ p v. not (imp_at s by_leaves p v (imp i)))
        (λ p v. all_at s by_leaves p v (prems (i - 1))) a c o
        (shows_later _ n m q q₂ a g.more g.same ha) hc
        (λ p v. go (all_at s by_leaves p v (prems i)) (imp_at s by_leaves p v (imp i)) ∙ sym (ap (all_at s by_leaves p v) before)) e
      where
        before : prems (i - 1) ≡ imp i ∷ prems i
        before = let f : i - 1 + 1 ≡ i = omega arith in
            prems_step s pairs t (i - 1) (omega arith) ∙ ap (λ (j : ℕ). imp j ∷ prems j) f

        go : (x y : Bool) → (x && not (not y)) ≡ cond y x false
        go true true = refl
        go true false = refl
        go false true = refl
        go false false = refl

    -- where the line fails and all premises are true
    pub rows_end : i ≤ 0 → ImpBits s m q₂ (imp_of s pairs t 0) c → o ≡ words_of 12 0 16 c a → FailBits s pairs t m q₂ o
    unfolding AllBits ImpBits FailBits entails_at
    rows_end l hc e =
        shows_and m q₂ (λ p v. not (imp_at s by_leaves p v (imp 0))) (λ p v. all_at s by_leaves p v (prems i))
        (λ p v. not (entails_at s pairs t by_leaves p v)) c a o
        hc (shows_later _ n m q q₂ a g.more g.same ha)
        (λ p v. ap (λ (j : ℕ). not (imp_at s by_leaves p v (imp 0)) && all_at s by_leaves p v (prems j)) none
        ∙ go (imp_at s by_leaves p v (imp 0)) (all_at s by_leaves p v (prems 0))) e
      where
        none : i ≡ 0
        none = omega arith

        go : (x y : Bool) → (not x && y) ≡ not (cond x true (not y))
        go true y = refl
        go false true = refl
        go false false = refl

-- what grows
module _ (n m : ℕ) (q q₂ : List Slot) (a b o : List ℕ) (g : Grown n q m q₂ b) where
  pub grown_deny : (k : ℕ) (q₃ : List Slot) → Grown m q₂ k q₃ a → o ≡ deny_words 16 a b → Grown n q k q₃ o
  grown_deny k q₃ h e = record {
    more = let x = g.more in let y = h.more in
        omega arith;
    same = λ j l. h.same j (let y = g.more in omega arith) ∙ g.same j l;
    long = h.long;
    wide = wide_deny o a b e;
  }

pub ruleset imp_bits_branches = (imp_bits, grown_deny)

-- a loop's words
pub kept_wide : (o a b : List ℕ) → o ≡ deny_words 16 a b → length o ≡ 16
kept_wide = wide_deny

pub ruleset all_bits_rowsets = (rows_begin, rows_next, rows_end, kept_wide)

-- so many rows have k leaves
two_tried : (s : List ℕ) (q : List Slot) (k : ℕ) → k ≤ slots → 2 ^ k ≡ rows_of (lasts_of s q 2 k)
two_tried s q k h = ap (λ (n : ℕ). 2 ^ n) (sym (kept_length s q k)) ∙ sym (two_rows (kept s q k)) ∙ sym (rows_count s q 2 (omega arith) k h)

-- the bits tried are the rows from all zeros on
module _ (s : List ℕ) (pairs : ℕ → Implication) (t : Task) (q : List Slot) (k : ℕ) (few : k ≤ 10) where
  pub bits_once : EveryOnce (lasts_of s q 2 k) (tried_rows s q 2 k (2 ^ k))
  bits_once = tried_once s q 2 k (2 ^ k) (two_tried s q k (omega arith))

  abbrev ms : List ℕ
  ms = lasts_of s q 2 k

  abbrev now : Later k q
  now = record {
    count = k;
    slots = q;
    lasts = ms;
    few = few;
    more = omega arith;
    same = λ j h. refl;
    two =
        λ j h. lasts_at s q 2 k j (omega arith) ∙ ap₂ (λ (b : Bool) (n : ℕ). cond b (n - 1) 0) (lt-ltb j k h) (two_choices (slot_at s q j));
  }

  pub bits_hold : (a : List ℕ) (n : ℕ) (r : Bool) → FailBits s pairs t k q a → n ≡ 2 ^ k → n ≤ 1024 → r ≡ none_set a n 16
      → r ≡ rows_hold s pairs t by_leaves q k (2 ^ k)
  unfolding FailBits Shows rows_hold tried_rows row_in
  bits_hold a n r hf en l e =
      e ∙ ap (λ (n : ℕ). none_set a n 16) en ∙ none-set a (2 ^ k) (omega arith)
      ∙ all-below (entails_at s pairs t by_leaves q) [] (rows_from ms (2 ^ k) (replicate slots 0)) (2 ^ k)
      (λ r. eqb (bit (get_or a (r / 64) 0) (r % 64)) 0) (from_long ms (2 ^ k) (replicate slots 0)) (λ r h.
      ap (λ (x : ℕ). eqb x 0) (hf now (r / 64) (r % 64) ((div-lt_iff_lt-mul {k = 64} (omega arith)).1 (omega arith))
      (mod-lt r (omega arith)) (omega (arith, place r)))
      ∙ go (entails_at s pairs t by_leaves q (row_in ms (64 * (r / 64) + r % 64)))
      ∙ ap (entails_at s pairs t by_leaves q) (ap (row_in ms) (place r) ∙ sym (from_at ms (2 ^ k) r (replicate slots 0) h)))
    where
      place : (r : ℕ) → 64 * (r / 64) + r % 64 ≡ r
      place r = ap (λ (n : ℕ). n + r % 64) (mul_comm 64 (r / 64)) ∙ div-add-mod' r 64

      go : (x : Bool) → eqb (cond {A = ℕ} (not x) 1 0) 0 ≡ x
      go true = refl
      go false = refl

pub ruleset bits_hold_branches = (bits_once, bits_hold)

module _ (s : List ℕ) (pairs : ℕ → Implication) (t : Task) (k : ℕ) (q : List Slot) (eg : view s k q ≡ gather_all s pairs t by_leaves.leaves) where
  pub bits_many : 10 < k → false ≡ every_of s pairs t by_leaves 1024
  unfolding every_of
  bits_many h = go (ltb slots k) refl
    where
      go : (b : Bool) → ltb slots k ≡ b → false ≡ every_of s pairs t by_leaves 1024
      go true e = rw (← eg, view_many s k q (ltb-true slots k e))
      go false e =
          let p = rows_power 2 (omega arith) 11 (kept s q k) (let l = kept_length s q k in omega arith) in
          let l : 1024 < row_count same_tree (choices_t 2) (kept s q k) = omega arith in
          rw (← eg, view_keys s k q (ltb-false slots k e), lt-leb _ _ l)

  pub bits_try : (r : Bool) → k ≤ 10 → r ≡ rows_hold s pairs t by_leaves q k (2 ^ k) → r ≡ every_of s pairs t by_leaves 1024
  unfolding rows_up_to capped
  bits_try r h e = every_try s pairs t by_leaves 1024 k q eg (2 ^ k) (omega arith) told r (omega arith) low e
    where
      low : 2 ^ k ≤ 1024
      low = pow_mono {i = k} {j = 10} h

      count : row_count same_tree (choices_t 2) (kept s q k) ≡ 2 ^ k
      count = two_rows (kept s q k) ∙ ap (λ (n : ℕ). 2 ^ n) (kept_length s q k)

      told : 2 ^ k ≡ rows_up_to s q 2 1024 k
      told = let l : 1 * row_count same_tree (choices_t 2) (kept s q k) ≤ 1024 =
          omega (arith, one-mul (row_count same_tree (choices_t 2) (kept s q k)), count, low) in
          rw (le-ltb _ _ l) (sym (one-mul (row_count same_tree (choices_t 2) (kept s q k)) ∙ count))

pub ruleset by_bits_branches = (bits_many, bits_try)
