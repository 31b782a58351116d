-- The nine numbers of a verdict, read back from its record and from its line of text: what `Uncut` is for.
use mathlib.Core.Path.{◌≡◌, refl, ap, ◌∙◌}
use mathlib.Core.Bool.{Bool, true, false, cond}
use mathlib.Core.List.{List, [], ◌∷◌, ◌++◌, append-nil, append_assoc}
use Prim.Native.Nat.{ℕ, zero, suc, ◌+◌, ◌-◌, ◌*◌, ◌/◌, ◌%◌, ◌<◌}
use native.Mathlib.Nat.{mod-eq_of_lt}
use native.Mathlib.Omega.{arith}
use lib.Dec.{ltb, leb}
use lib.ListN.{length, drop}
use borrow.Author.Tests.{le-leb}
use Rattle.limits.specs.Numbers.{le16}
use Rattle.verdict_record.specs.Record.{record_bytes}
use Rattle.verdict_record.specs.Text.{digit, digits, numbered, space, newline, place_text, text_of}
use Rattle.verdict_record.specs.Uncut.{beyond, Uncut}
use Rattle.verdict_record.specs.declared.verdict.Fields.{Fields}

-- FROM THE RECORD: "code, record, class, thread, point, other thread, other point, line, count (16 bits each)", behind length and kind
unfoldable pub fields_in : List ℕ → Fields
fields_in b = record {
  code = le16 (drop 4 b);
  «record» = le16 (drop 6 b);
  class = le16 (drop 8 b);
  thread = le16 (drop 10 b);
  point = le16 (drop 12 b);
  other_thread = le16 (drop 14 b);
  other_point = le16 (drop 16 b);
  line = le16 (drop 18 b);
  count = le16 (drop 20 b);
}

module _ (f : Fields) (behind : List ℕ) where
  -- "A record of 22 bytes"
  pub record_size : length (record_bytes f) ≡ 22
  unfolding record_bytes
  record_size = refl

  -- its length field "counts all that follows in the record"
  pub record_length : le16 (record_bytes f ++ behind) ≡ 20
  unfolding record_bytes le16
  record_length = refl

  -- "kind 7"
  pub record_kind : le16 (drop 2 (record_bytes f ++ behind)) ≡ 7
  unfolding record_bytes le16
  record_kind = refl

  -- the nine numbers in its bytes are those of the verdict
  pub record_read : Uncut f → fields_in (record_bytes f ++ behind) ≡ f
  unfolding record_bytes fields_in le16
  record_read u = λ i. record {
    code = word f.code u.code i;
    «record» = word f.«record» u.«record» i;
    class = word f.class u.class i;
    thread = word f.thread u.thread i;
    point = word f.point u.point i;
    other_thread = word f.other_thread u.other_thread i;
    other_point = word f.other_point u.other_point i;
    line = word f.line u.line i;
    count = word f.count u.count i;
  }
    where
      word : (n : ℕ) → n < beyond → n % 256 + 256 * ((n / 256) % 256) ≡ n
      word n h = omega arith

-- FROM THE TEXT: numbers in decimal, each ended by a byte that is no digit; n is the number read so far
abbrev pub read_on : ℕ → List ℕ → List ℕ
read_on n [] = []
read_on n (c ∷ l) = elim (leb 48 c) [ true ↦ read_on (10 * n + (c - 48)) l | false ↦ n ∷ read_on 0 l ]

-- the numbers in a text
abbrev pub numbers_in : List ℕ → List ℕ
numbers_in l = read_on 0 l

-- one more than the greatest number of k digits
abbrev beyond_digits : ℕ → ℕ
beyond_digits zero = 1
beyond_digits (suc k) = 10 * beyond_digits k

-- a byte that is a digit, and one that is none
is_digit : (m c : ℕ) (l : List ℕ) → leb 48 c ≡ true → read_on m (c ∷ l) ≡ read_on (10 * m + (c - 48)) l
is_digit m c l e = rw (e, read_on)

ends : (m c : ℕ) (l : List ℕ) → leb 48 c ≡ false → read_on m (c ∷ l) ≡ m ∷ read_on 0 l
ends m c l e = rw (e, read_on)

digit_read : (m d : ℕ) (l : List ℕ) → read_on m (digit d ∷ l) ≡ read_on (10 * m + d) l
digit_read m d l =
    let e : 10 * m + (digit d - 48) ≡ 10 * m + d = omega arith in
    is_digit m (digit d) l (le-leb 48 (digit d) (omega arith)) ∙ ap (λ (n : ℕ). read_on n l) e

digits_read : (k n : ℕ) (l : List ℕ) → n < beyond_digits k → read_on 0 (digits k n ++ l) ≡ read_on n l
unfolding digits
digits_read zero n l h = let e : n ≡ 0 = omega arith in rw e
digits_read (suc k) n l h = go (ltb n 10) refl (digits_read k (n / 10) (digit (n % 10) ∷ l) (omega arith))
  where
    go : (b : Bool) → ltb n 10 ≡ b → read_on 0 (digits k (n / 10) ++ (digit (n % 10) ∷ l)) ≡ read_on (n / 10) (digit (n % 10) ∷ l)
        → read_on 0 (cond b (digit n ∷ []) (digits k (n / 10) ++ (digit (n % 10) ∷ [])) ++ l) ≡ read_on n l
    go true e r = let q : 10 * 0 + n ≡ n = omega arith in digit_read 0 n l ∙ ap (λ (m : ℕ). read_on m l) q
    go false e r =
        let q : 10 * (n / 10) + n % 10 ≡ n = omega arith in
        rw (append_assoc, r, digit_read (n / 10) (n % 10) l, q)

numbered_read : (n b : ℕ) (l : List ℕ) → leb 48 b ≡ false → n < beyond → read_on 0 (numbered n b ++ l) ≡ n ∷ read_on 0 l
unfolding numbered
numbered_read n b l e h =
    let q : n % 65536 < beyond_digits 5 = omega arith in
    rw (append_assoc, digits_read 5 (n % 65536) (b ∷ l) q, ends (n % 65536) b l e, mod-eq_of_lt h)

last_read : (n : ℕ) → n < beyond → read_on 0 (numbered n newline) ≡ n ∷ []
last_read n h = rw append-nil at (numbered_read n newline [] refl h)

-- the nine numbers in order
abbrev pub nine : Fields → List ℕ
nine f =
    f.code ∷ f.«record» ∷ f.class ∷ f.thread ∷ f.point ∷ f.other_thread ∷ f.other_point ∷ f.line ∷ f.count ∷ []

-- "the nine fields in the order above, decimal, one space between, a newline": the numbers in the line are those of the verdict
pub text_read : (f : Fields) → Uncut f → numbers_in (text_of f) ≡ nine f
unfolding text_of place_text
text_read f u =
    simp append_assoc
    (rw (
      numbered_read f.code space _ refl u.code,
      numbered_read f.«record» space _ refl u.«record»,
      numbered_read f.class space _ refl u.class,
      numbered_read f.thread space _ refl u.thread,
      numbered_read f.point space _ refl u.point,
      numbered_read f.other_thread space _ refl u.other_thread,
      numbered_read f.other_point space _ refl u.other_point,
      numbered_read f.line space _ refl u.line,
      last_read f.count u.count,
    ))
