-- The bytes of the records that are left out: the ways through the code.
use mathlib.Core.Path.{◌≡◌, ap, ◌∙◌}
use mathlib.Core.Bool.{Bool, true, false}
use mathlib.Core.List.{List, [], ◌∷◌, map}
use Prim.Native.Nat.{ℕ, zero, suc, ◌+◌, ◌-◌, ◌≤◌, ◌<◌}
use native.Mathlib.Numerals.{add-one}
use native.Mathlib.Omega.{arith}
use lib.ListN.{length, get_or, drop, length-take, length-drop, drop_of_length-le}
use lib.Seq.{drop-cons, drop-drop, get_or-drop}
use Rattle.limits.specs.Limits as Limits
use Rattle.limits.specs.Numbers.{le16}
use Rattle.image_frames.specs.Records.{body, cut, bodies}
use Rattle.trim_spec.specs.Parse.{part}
use Rattle.trim_encode.specs.LeftOutBytes.{left_one, left_out, left_behind}
use Rattle.trim_encode.proofs.DocumentBodies.{part_at, part_length}

-- a body is a part of the image

body_short : (l : List ℕ) → length (body l) ≤ length l
unfolding body
body_short l = let a = length-take (le16 l - 2) (drop 4 l) in let b = length-drop 4 l in omega arith

cut_short : (k : ℕ) (l : List ℕ) (i : ℕ) → length (get_or (cut k l) i []) ≤ length l
unfolding cut
cut_short zero l i = omega arith
cut_short (suc k) [] i = omega arith
cut_short (suc k) (x ∷ l) zero = body_short (x ∷ l)
cut_short (suc k) (x ∷ l) (suc i) =
    let h = cut_short k (drop (2 + le16 (x ∷ l)) (x ∷ l)) i in
    let b = length-drop (2 + le16 (x ∷ l)) (x ∷ l) in
    omega arith

-- one record

pub one_stays : (m : List Bool) (n k : ℕ) (b : Bool) → b ≡ get_or m n false → b ≡ true → 0 ≡ left_one m n k
unfolding left_one
one_stays m n k b e h = rw (← e, h)

pub one_left : (s : List ℕ) (m : List Bool) (n i : ℕ) (b : Bool) (c : List ℕ) → b ≡ get_or m n false → b ≡ false → c ≡ get_or (bodies s) i []
    → length c + 4 ≡ left_one m n (length (get_or (bodies s) i []))
unfolding left_one
one_left s m n i b c e h d = rw (← e, h, d)

pub one_short : (s c : List ℕ) (i : ℕ) → length s ≤ Limits.image_bytes → c ≡ get_or (bodies s) i [] → length c + 4 ≤ Limits.image_bytes + 4
unfolding bodies
one_short s c i h d = let q = cut_short Limits.records s i in let e = ap length d in omega arith

-- one after the other

one_first : (m : List Bool) (j n : ℕ) → left_one (drop j m) 0 n ≡ left_one m j n
unfolding left_one
one_first m j n = let q : j + 0 ≡ j = omega arith in rw (get_or-drop j m 0 false, q)

left_cons : (m : List Bool) (j n : ℕ) (l : List ℕ) → left_out (drop j m) (n ∷ l) ≡ left_one m j n + left_out (drop (suc j) m) l
unfolding left_out
left_cons m j n l = rw (one_first m j n, drop-drop 1 j m, add-one j)

module _ (l : List (List ℕ)) (from n : ℕ) (m : List Bool) where
  pub behind_start : left_behind l from n m 0 ≡ 0 + left_behind l from n m 0
  behind_start = omega arith

  abbrev those : List (List ℕ)
  those = part (from + 1) n l

  behind_step : (i : ℕ) → i < n → from + 1 + n ≤ length l
      → left_behind l from n m i ≡ left_one m (i + 1) (length (get_or l (from + (i + 1)) [])) + left_behind l from n m (i + 1)
  unfolding left_behind
  behind_step i h w =
      let len = part_length (from + 1) n l w in
      let b : i < length those = omega arith in
      let q : from + 1 + i ≡ from + suc i = omega arith in
      rw (add-one i)
      (ap (λ (x : List (List ℕ)). left_out (drop (suc i) m) (map length x)) (drop-cons those i [] b)
      ∙ left_cons m (suc i) (length (get_or those i [])) (map length (drop (suc i) those))
      ∙ ap (λ (x : List ℕ). left_one m (suc i) (length x) + left_out (drop (suc (suc i)) m) (map length (drop (suc i) those)))
      (part_at (from + 1) n l i [] h ∙ ap (λ (j : ℕ). get_or l j []) q))

  pub behind_more : (i r x : ℕ) → i < n → from + 1 + n ≤ length l → left_behind l from n m 0 ≡ r + left_behind l from n m i
      → x ≡ left_one m (i + 1) (length (get_or l (from + (i + 1)) [])) → left_behind l from n m 0 ≡ r + x + left_behind l from n m (i + 1)
  behind_more i r x h w e d = let q = behind_step i h w in omega arith

  pub behind_all : (i r : ℕ) → n ≤ i → left_behind l from n m 0 ≡ r + left_behind l from n m i → from + 1 + n ≤ length l
      → r ≡ left_behind l from n m 0
  unfolding left_behind left_out
  behind_all i r h e w =
      let len = part_length (from + 1) n l w in
      let b : length those ≤ i = omega arith in
      let q : left_behind l from n m i ≡ 0 =
      ap (λ (x : List (List ℕ)). left_out (drop (suc i) m) (map length x)) (drop_of_length-le those b) in
      omega (arith, e, q)
