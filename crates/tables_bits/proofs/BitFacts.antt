-- What the bits of words are: of a node's word, of a leaf's, and where none is set.
use Prim.Native.Nat.{ℕ, zero, suc, ◌+◌, ◌-◌, ◌*◌, ◌/◌, ◌%◌, ◌^◌, ◌≤◌, ◌<◌, min, max}
use mathlib.Core.Path.{◌≡◌, refl, ap, ap₂, sym, ◌∙◌, subst}
use mathlib.Core.List.{List}
use mathlib.Core.Bool.{Bool, true, false, cond, not, ◌&&◌, ◌||◌}
use native.Mathlib.Omega.{arith}
use native.Mathlib.Nat.{mod-lt, zero-div, div-add-mod', div-lt_iff_lt-mul, mul_comm, one-mul, zero-mul}
use lib.Arith.{digits_div, digits_mod}
use lib.Bits.{bit_and, bit_or, bit_xor, differ, and_step, or_step, xor_step, and_shr, or_shr, xor_shr, and_mask}
use lib.ListN.{get_or}
use lib.Pow.{pow_pos, mod-pow-add}
use lib.Dec.{T, eqb, ltb, eqb→eq}
use borrow.Author.Tests.{eqb-true, eq-eqb, ltb-true, ltb-false}
use Rattle.logic.specs.Rows.{all_below}
use Rattle.semantics.proofs.Base.{bool_ext, is_true}
use Rattle.logic.proofs.Rows.{all_below_at}
use Rattle.tables_columns.proofs.ColumnLists.{below_from}
use Rattle.tables_bits.specs.Bits.{bit, ones, leaf_word, mask_of, none_set, deny_word}

-- of one operation
pub bit-and : (a b i : ℕ) → bit (bit_and a b) i ≡ min (bit a i) (bit b i)
bit-and a b i =
    ap (λ (n : ℕ). n % 2) (and_shr a b i ∙ and_step (a / 2 ^ i) (b / 2 ^ i))
    ∙ digits_mod (bit_and (a / 2 ^ i / 2) (b / 2 ^ i / 2)) (let h = mod-lt (a / 2 ^ i) {m = 2} (omega arith) in omega arith)

pub bit-or : (a b i : ℕ) → bit (bit_or a b) i ≡ max (bit a i) (bit b i)
bit-or a b i =
    ap (λ (n : ℕ). n % 2) (or_shr a b i ∙ or_step (a / 2 ^ i) (b / 2 ^ i))
    ∙ digits_mod (bit_or (a / 2 ^ i / 2) (b / 2 ^ i / 2))
    (let h = mod-lt (a / 2 ^ i) {m = 2} (omega arith) in let k = mod-lt (b / 2 ^ i) {m = 2} (omega arith) in omega arith)

told : (b : Bool) → T b → b ≡ true
told true h = refl
told false h = absurd h

ones_bits : all_below 64 (λ i. eqb (bit ones i) 1) ≡ true
ones_bits = refl

pub bit_ones : (i : ℕ) → i < 64 → bit ones i ≡ 1
bit_ones i h = eqb-true (bit ones i) 1 (told (eqb (bit ones i) 1)
    (all_below_at 64 (λ i. eqb (bit ones i) 1) (subst T (sym ones_bits) tt) i h))

pub bit_none : (i : ℕ) → bit 0 i ≡ 0
bit_none i = ap (λ (n : ℕ). n % 2) (zero-div (2 ^ i))

-- a bit tells whether something is true
abbrev pub flag : Bool → ℕ
flag b = cond b 1 0

differ_flag : (p : Bool) → differ (flag p) 1 < 2
differ_flag true = omega arith
differ_flag false = omega arith

module _ (i : ℕ) (a : ℕ) (p : Bool) (ea : bit a i ≡ flag p) where
  pub flag_not : i < 64 → bit (bit_xor a ones) i ≡ flag (not p)
  flag_not h =
      ap (λ (n : ℕ). n % 2) (xor_shr a ones i ∙ xor_step (a / 2 ^ i) (ones / 2 ^ i))
      ∙ ap₂ (λ (x y : ℕ). (bit_xor (a / 2 ^ i / 2) (ones / 2 ^ i / 2) * 2 + differ x y) % 2) ea (bit_ones i h)
      ∙ digits_mod (bit_xor (a / 2 ^ i / 2) (ones / 2 ^ i / 2)) (differ_flag p)
      ∙ go p
    where
      go : (p : Bool) → differ (flag p) 1 ≡ flag (not p)
      go true = refl
      go false = refl

  module _ (b : ℕ) (q : Bool) (eb : bit b i ≡ flag q) where
    pub flag_and : bit (bit_and a b) i ≡ flag (p && q)
    flag_and = bit-and a b i ∙ ap₂ min ea eb ∙ go p q
      where
        go : (p q : Bool) → min (flag p) (flag q) ≡ flag (p && q)
        go true true = refl
        go true false = refl
        go false true = refl
        go false false = refl

    pub flag_or : bit (bit_or a b) i ≡ flag (p || q)
    flag_or = bit-or a b i ∙ ap₂ max ea eb ∙ go p q
      where
        go : (p q : Bool) → max (flag p) (flag q) ≡ flag (p || q)
        go true true = refl
        go true false = refl
        go false true = refl
        go false false = refl

pub flag_deny : (i a b : ℕ) (p q : Bool) → i < 64 → bit a i ≡ flag p → bit b i ≡ flag q → bit (deny_word a b) i ≡ flag (p && not q)
unfolding deny_word
flag_deny i a b p q h ea eb = flag_and i a p ea (bit_xor b ones) (not q) (flag_not i b q eb h)

-- a leaf's word has its digit in each row: of row r the leaf j has the digit r / 2 ^ j % 2
leaf_bits : all_below 10 (λ j. all_below 16 (λ w. all_below 64 (λ i. eqb (bit (leaf_word j w) i) (bit (64 * w + i) j)))) ≡ true
unfolding leaf_word
leaf_bits = refl

pub leaf_bit : (j w i : ℕ) → j < 10 → w < 16 → i < 64 → bit (leaf_word j w) i ≡ bit (64 * w + i) j
leaf_bit j w i hj hw hi =
    eqb-true (bit (leaf_word j w) i) (bit (64 * w + i) j)
    (told (eqb (bit (leaf_word j w) i) (bit (64 * w + i) j)) (all_below_at 64 (λ i. eqb (bit (leaf_word j w) i) (bit (64 * w + i) j))
    (all_below_at 16 (λ w. all_below 64 (λ i. eqb (bit (leaf_word j w) i) (bit (64 * w + i) j)))
    (all_below_at 10 (λ j. all_below 16 (λ w. all_below 64 (λ i. eqb (bit (leaf_word j w) i) (bit (64 * w + i) j))))
    (subst T (sym leaf_bits) tt) j hj) w hw) i hi))

-- the first bits of a word
low_next : (x c : ℕ) → x % 2 ^ suc c ≡ bit x c * 2 ^ c + x % 2 ^ c
low_next x c = let e : suc c ≡ 1 + c = omega arith in ap (λ (n : ℕ). x % 2 ^ n) e ∙ mod-pow-add x 1 c

pub low_none : (x c : ℕ) → ((i : ℕ) → i < c → bit x i ≡ 0) → x % 2 ^ c ≡ 0
low_none x zero h = let k = mod-lt x {m = 1} (omega arith) in omega arith
low_none x (suc c) h =
    low_next x c ∙ ap₂ (λ (a b : ℕ). a * 2 ^ c + b) (h c (omega arith)) (low_none x c (λ i k. h i (omega arith)))
    ∙ (let e = zero-mul (2 ^ c) in omega arith)

pub none_low : (x c i : ℕ) → x % 2 ^ c ≡ 0 → i < c → bit x i ≡ 0
none_low x zero i e h = absurd (omega arith)
none_low x (suc c) i e h = go (λ r k. none_low x c i r k) (bit x c) refl (let k = mod-lt (x / 2 ^ c) {m = 2} (omega arith) in k)
  where
    rest : x % 2 ^ c ≡ 0
    rest = let d = low_next x c in omega arith

    go : (x % 2 ^ c ≡ 0 → i < c → bit x i ≡ 0) → (b : ℕ) → bit x c ≡ b → bit x c < 2 → bit x i ≡ 0
    go ih zero eb k = last (ltb i c) refl
      where
        last : (t : Bool) → ltb i c ≡ t → bit x i ≡ 0
        last true et = ih rest (ltb-true i c et)
        last false et = let q : i ≡ c = omega (arith, ltb-false i c et) in ap (bit x) q ∙ eb
    go ih (suc b) eb k =
        let q : bit x c ≡ 1 = omega arith in
        absurd (let d = low_next x c in let p = pow_pos c in let m = one-mul (2 ^ c) in
        let f : bit x c * 2 ^ c ≡ 1 * 2 ^ c = ap (λ (n : ℕ). n * 2 ^ c) q in omega arith)

-- the bit at place i of word w is row 64 * w + i
place : (r : ℕ) → 64 * (r / 64) + r % 64 ≡ r
place r = ap (λ (n : ℕ). n + r % 64) (mul_comm 64 (r / 64)) ∙ div-add-mod' r 64

-- none of the first n rows is set: row by row
pub none-set : (a : List ℕ) (n : ℕ) → n ≤ 1024 → none_set a n 16 ≡ all_below n (λ r. eqb (bit (get_or a (r / 64) 0) (r % 64)) 0)
unfolding none_set mask_of
none-set a n h = bool_ext (all_below 16 clear) (all_below n unset) down up
  where
    clear : ℕ → Bool
    clear w = eqb (bit_and (get_or a w 0) (2 ^ min 64 (n - 64 * w) - 1)) 0

    unset : ℕ → Bool
    unset r = eqb (bit (get_or a (r / 64) 0) (r % 64)) 0

    down : T (all_below 16 clear) → T (all_below n unset)
    down p = below_from n unset (λ r k.
        let w : r / 64 < 16 = (div-lt_iff_lt-mul {k = 64} (omega arith)).1 (omega arith) in
        let i : r % 64 < 64 = mod-lt r (omega arith) in
        let e = eqb→eq (bit_and (get_or a (r / 64) 0) (2 ^ min 64 (n - 64 * (r / 64)) - 1)) 0 (all_below_at 16 clear p (r / 64) w) in
        let z : get_or a (r / 64) 0 % 2 ^ min 64 (n - 64 * (r / 64)) ≡ 0 = sym (and_mask (get_or a (r / 64) 0) (min 64 (n - 64 * (r / 64))))
        ∙ e in
        is_true (eq-eqb _ _ (none_low (get_or a (r / 64) 0) (min 64 (n - 64 * (r / 64))) (r % 64) z (omega (arith, place r)))))

    up : T (all_below n unset) → T (all_below 16 clear)
    up p = below_from 16 clear (λ w k.
        is_true (eq-eqb _ _ (and_mask (get_or a w 0) (min 64 (n - 64 * w)) ∙ low_none (get_or a w 0) (min 64 (n - 64 * w)) (λ i l.
        let d : (64 * w + i) / 64 ≡ w = ap (λ (m : ℕ). (m + i) / 64) (mul_comm 64 w) ∙ digits_div w (omega arith) in
        let m : (64 * w + i) % 64 ≡ i = ap (λ (m : ℕ). (m + i) % 64) (mul_comm 64 w) ∙ digits_mod w (omega arith) in
        sym (ap₂ (λ (x y : ℕ). bit (get_or a x 0) y) d m)
        ∙ eqb→eq (bit (get_or a ((64 * w + i) / 64) 0) ((64 * w + i) % 64)) 0 (all_below_at n unset p (64 * w + i) (omega arith))))))
