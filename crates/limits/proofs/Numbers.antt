-- Reads of bytes, as the code makes them.
use Prim.Native.Nat.{ℕ, zero, suc, ◌+◌, ◌-◌, ◌*◌, ◌≤◌, ◌<◌}
use mathlib.Core.Path.{◌≡◌, refl, ap, sym, ◌∙◌}
use mathlib.Core.List.{List, [], ◌∷◌}
use mathlib.Core.Bool.{Bool, true, false, true≢false, ◌&&◌}
use native.Mathlib.Nat.{add-zero}
use native.Mathlib.Numerals.{add-one, sub-one}
use native.Mathlib.Omega.{arith}
use lib.ListN.{length, get_or, drop, take, drop_of_length-le, length-drop, get_or-eq_default}
use Rattle.std.specs.List.{list_all, range_with_len}
use lib.Seq.{get_or-drop, drop-drop, drop-cons, take-nil, take_all}
use Rattle.limits.specs.Numbers.{le16, has, numbers, within, every, nth}

pub byte_past : (s : List ℕ) (at : ℕ) → length s ≤ at → 0 ≡ get_or s at 0
byte_past s at h = sym (get_or-eq_default s 0 h)

pub word_past : (s : List ℕ) (at : ℕ) → length s ≤ at → 0 ≡ le16 (drop at s)
unfolding le16
word_past s at h = rw (drop_of_length-le s h)

pub word_in : (s : List ℕ) (at a b : ℕ) → a ≡ get_or s at 0 → b ≡ get_or s (at + 1) 0 → a + 256 * b ≡ le16 (drop at s)
unfolding le16
word_in s at a b ea eb = rw (ea, eb, get_or-drop at s 0 0, get_or-drop at s 1 0, add-zero at)

module _ (s : List ℕ) (from n : ℕ) where
  pub part_past : length s ≤ from → [] ≡ take n (drop from s)
  part_past h = rw (drop_of_length-le s h, take-nil n)

  pub part_rest : length s - from ≤ n → take (length s - from) (drop from s) ≡ take n (drop from s)
  part_rest h =
      let a : length (drop from s) ≤ n = rw (length-drop from s) h in
      let b : length (drop from s) ≤ length s - from = rw (length-drop from s) (omega arith) in
      rw (take_all n (drop from s) a, take_all (length s - from) (drop from s) b)

  pub part_in : take (from + n - from) (drop from s) ≡ take n (drop from s)
  part_in = let z : from + n - from ≡ n = omega arith in rw z

pub rest_all : (s r : List ℕ) (from : ℕ) → r ≡ take (length s) (drop from s) → r ≡ drop from s
rest_all s r from e = let h : length (drop from s) ≤ length s = rw (length-drop from s) (omega arith) in
    rw (take_all (length s) (drop from s) h) at e

pub nth_none : {A : Type 0} (l : List A) (k : ℕ) (d : A) → k ≡ 0 → d ≡ nth l k d
unfolding nth
nth_none l k d e = rw e

pub nth_in : {A : Type 0} (l : List A) (k : ℕ) (d r : A) → (k ≡ 0 → ⊥) → r ≡ get_or l (k - 1) d → r ≡ nth l k d
unfolding nth
nth_in l zero d r h e = absurd (h refl)
nth_in l (suc k) d r h e = rw (sub-one (suc k)) at e

pub ruleset read_branches = (rest_all, nth_none, nth_in, byte_past, word_past, word_in, part_past, part_rest, part_in)

-- there are n bytes, or not

pub has_all : (n : ℕ) (l : List ℕ) → n ≤ length l → has n l ≡ true
unfolding has
has_all zero l h = refl
has_all (suc n) [] h = absurd (omega arith)
has_all (suc n) (x ∷ l) h = has_all n l (omega arith)

pub has-not : (n : ℕ) (l : List ℕ) → length l < n → has n l ≡ false
unfolding has
has-not zero l h = absurd (omega arith)
has-not (suc n) [] h = refl
has-not (suc n) (x ∷ l) h = has-not n l (omega arith)

pub has_true : (n : ℕ) (l : List ℕ) → has n l ≡ true → n ≤ length l
unfolding has
has_true zero l h = omega arith
has_true (suc n) [] h = absurd (true≢false (sym h))
has_true (suc n) (x ∷ l) h = let q = has_true n l h in omega arith

-- 16-bit numbers one after the other

pub numbers_length : (n : ℕ) (l : List ℕ) → length (numbers n l) ≡ n
unfolding numbers
numbers_length zero l = refl
numbers_length (suc n) l = ap suc (numbers_length n (drop 2 l))

numbers-at : (n : ℕ) (l : List ℕ) (j : ℕ) → j < n → get_or (numbers n l) j 0 ≡ le16 (drop (2 * j) l)
unfolding numbers
numbers-at zero l j h = absurd (omega arith)
numbers-at (suc n) l zero h = refl
numbers-at (suc n) l (suc j) h =
    let q : 2 * suc j ≡ 2 + 2 * j = omega arith in
    numbers-at n (drop 2 l) j (omega arith) ∙ (rw (drop-drop (2 * j) 2 l, q))

pub number_past : (n : ℕ) (l : List ℕ) (j : ℕ) → n ≤ j → 0 ≡ get_or (numbers n l) j 0
number_past n l j h = sym (get_or-eq_default (numbers n l) 0 (rw (numbers_length n l) h))

pub number_none : (n : ℕ) (l : List ℕ) (j : ℕ) → j < n → length l ≤ j → 0 ≡ get_or (numbers n l) j 0
unfolding le16
number_none n l j h g = let q : length l ≤ 2 * j = omega arith in rw (numbers-at n l j h, drop_of_length-le l q)

pub number_in : (n : ℕ) (l : List ℕ) (j r : ℕ) → j < n → r ≡ le16 (drop (2 * j) l) → r ≡ get_or (numbers n l) j 0
number_in n l j r h e = e ∙ sym (numbers-at n l j h)

pub ruleset number_at_branches = (number_past, number_none, number_in)

-- a test of a number, or of numbers, that a call gave

pub within_of : (lo hi x y : ℕ) (u : Bool) → x ≡ y → u ≡ within lo hi x → u ≡ within lo hi y
within_of lo hi x y u e d = rw (← e) d

pub every_of : {A : Type 0} (f : A → Bool) (l m : List A) (u : Bool) → l ≡ m → u ≡ every f l → u ≡ every f m
every_of f l m u e d = rw (← e) d

pub nth_of : (l m : List ℕ) (x r : ℕ) → l ≡ m → r ≡ nth l x 0 → r ≡ nth m x 0
nth_of l m x r e d = rw (← e) d

pub ruleset given = (within_of, every_of, nth_of)

-- `all` of an iterator over the list, or over the indices of its members

every_list : {A : Type 0} (f : A → Bool) (l : List A) → list_all f l ≡ every f l
unfolding every
every_list f [] = refl
every_list f (x ∷ l) = ap (λ b. f x && b) (every_list f l)

pub every_all : {A : Type 0} (f : A → Bool) (l : List A) {u : Bool} → u ≡ list_all f l → u ≡ every f l
every_all f l e = e ∙ every_list f l

each_index : {A : Type 0} (f : A → Bool) (l : List A) (d : A) (n k : ℕ) → length l ≡ k + n
    → list_all (λ i. f (get_or l i d)) (range_with_len k n) ≡ every f (drop k l)
unfolding every
each_index f l d zero k e = let q : length l ≤ k = omega arith in rw (drop_of_length-le l q)
each_index f l d (suc n) k e = let h : k < length l = omega arith in
    rw (drop-cons l k d h, each_index f l d n (k + 1) (omega arith), add-one k)

pub each_number : (f : ℕ → Bool) (n : ℕ) (l : List ℕ) {u : Bool} → u ≡ list_all (λ i. f (get_or (numbers n l) i 0)) (range_with_len 0 n)
    → u ≡ every f (numbers n l)
each_number f n l e = e ∙ each_index f (numbers n l) 0 n 0 (omega (arith, numbers_length n l))
