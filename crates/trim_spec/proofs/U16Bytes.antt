-- 16-bit numbers in two bytes each, and back.
use mathlib.Core.Path.{◌≡◌, refl, sym, ap₂}
use mathlib.Core.List.{List, [], ◌∷◌, ◌++◌, append-nil}
use Prim.Native.Nat.{ℕ, zero, suc, ◌+◌, ◌*◌, ◌/◌, ◌%◌, ◌≤◌, ◌<◌}
use native.Mathlib.Omega.{arith}
use native.Mathlib.Nat.{add-zero, mod-eq_of_lt}
use lib.ListN.{length, get_or, drop, length-drop, drop_of_length-le}
use lib.Seq.{get_or-drop, drop-cons}
use Rattle.limits.specs.Numbers.{le16, numbers}
use Rattle.verdict_record.specs.Record.{two}
use Rattle.trim_spec.specs.Canonical.{Byte, Short, Bytes, Shorts}
use Rattle.trim_spec.specs.Encode.{number_bytes}
use Rattle.trim_spec.proofs.EachMember.{each_nil, each_cons, each_tail, each_drop, each_any, each_flat}

-- from a number

pub word_two : (n : ℕ) (r : List ℕ) → Short n → le16 (two n ++ r) ≡ n
unfolding le16
word_two n r h = omega arith

pub drop_two : (n : ℕ) (r : List ℕ) → drop 2 (two n ++ r) ≡ r
drop_two n r = refl

pub two_bytes : (n : ℕ) → Bytes (two n)
two_bytes n =
    each_cons Byte 0 (n % 256) ((n / 256) % 256 ∷ []) (omega arith)
    (each_cons Byte 0 ((n / 256) % 256) [] (omega arith) (each_nil Byte 0))

pub numbers_back : (l r : List ℕ) → Shorts l → numbers (length l) (number_bytes l ++ r) ≡ l
unfolding numbers number_bytes
numbers_back [] r h = refl
numbers_back (n ∷ l) r h = rw (word_two n (number_bytes l ++ r) (h 0 (omega arith)), numbers_back l r (each_tail Short 0 n l h))

pub numbers_alone : (l : List ℕ) → Shorts l → numbers (length l) (number_bytes l) ≡ l
numbers_alone l h = rw append-nil at (numbers_back l [] h)

pub numbers_size : (l : List ℕ) → length (number_bytes l) ≡ 2 * length l
unfolding number_bytes
numbers_size [] = refl
numbers_size (n ∷ l) = let e = numbers_size l in omega arith

pub numbers_bytes : (l : List ℕ) → Shorts l → Bytes (number_bytes l)
unfolding number_bytes
numbers_bytes l h = each_flat Byte 0 Short 0 two (λ n s. two_bytes n) l h

-- from bytes

module _ (b : List ℕ) (h : Bytes b) where
  pub byte_at : (i : ℕ) → Byte (get_or b i 0)
  byte_at = each_any Byte 0 b (omega arith) h

  word_is : (i : ℕ) → le16 (drop i b) ≡ get_or b i 0 + 256 * get_or b (i + 1) 0
  unfolding le16
  word_is i = rw (get_or-drop i b 0 0, get_or-drop i b 1 0, add-zero i)

  pub word_short : (i : ℕ) → Short (le16 (drop i b))
  word_short i = omega (arith, word_is i, byte_at i, byte_at (i + 1))

  -- its two bytes
  pub word_low : (i : ℕ) → le16 (drop i b) % 256 ≡ get_or b i 0
  word_low i = omega (arith, word_is i, byte_at i, byte_at (i + 1))

  pub word_high : (i : ℕ) → (le16 (drop i b) / 256) % 256 ≡ get_or b (i + 1) 0
  word_high i = omega (arith, word_is i, byte_at i, byte_at (i + 1))

pub numbers_short : (n : ℕ) (b : List ℕ) → Bytes b → Shorts (numbers n b)
unfolding numbers
numbers_short zero b h = each_nil Short 0
numbers_short (suc n) b h =
    each_cons Short 0 (le16 b) (numbers n (drop 2 b)) (word_short b h 0) (numbers_short n (drop 2 b) (each_drop Byte 0 2 b h))

-- n of them, from byte i on
abbrev pub reads : List ℕ → ℕ → ℕ → List ℕ
reads b i zero = []
reads b i (suc n) = get_or b i 0 ∷ reads b (suc i) n

pub reads_all : (b : List ℕ) (i n : ℕ) → i + n ≤ length b → reads b i n ++ drop (i + n) b ≡ drop i b
reads_all b i zero h = rw (add-zero i)
reads_all b i (suc n) h =
    let q : i + suc n ≡ suc i + n = omega arith in
    let s : i < length b = omega arith in
    rw (q, reads_all b (suc i) n (omega arith), drop-cons b i 0 s)

pub number-bytes : (n : ℕ) (b : List ℕ) → length b ≡ 2 * n → Bytes b → number_bytes (numbers n b) ≡ b
unfolding numbers number_bytes
number-bytes zero b e h = sym (drop_of_length-le b {i = 0} (omega arith))
number-bytes (suc n) b e h =
    let r = number-bytes n (drop 2 b) (rw (length-drop 2 b) (omega arith)) (each_drop Byte 0 2 b h) in
    rw (word_low b h 0, word_high b h 0, r) (reads_all b 0 2 (omega arith))

-- the two bytes in front
pub word_front : (l : List ℕ) → Bytes l → Short (le16 l)
word_front l h = word_short l h 0

pub two_word : (l : List ℕ) → 2 ≤ length l → Bytes l → two (le16 l) ++ drop 2 l ≡ l
unfolding le16
two_word [] g h = absurd (omega arith)
two_word (x ∷ []) g h = absurd (omega arith)
two_word (x ∷ y ∷ l) g h =
    let p = h 0 (omega arith) in
    let q = h 1 (omega arith) in
    let a : (x + 256 * y) % 256 ≡ x = omega arith in
    let b : (x + 256 * y) / 256 ≡ y = omega arith in
    ap₂ (λ m n. m ∷ n ∷ l) a (rw (b, mod-eq_of_lt))
