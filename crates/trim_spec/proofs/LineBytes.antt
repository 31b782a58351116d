-- A line in bytes, and back.
use mathlib.Core.Path.{◌≡◌, refl}
use mathlib.Core.Bool.{true}
use mathlib.Core.List.{List, ◌∷◌, ◌++◌}
use Prim.Native.Nat.{ℕ, ◌+◌, ◌*◌, ◌≤◌}
use native.Mathlib.Omega.{arith}
use lib.ListN.{length, get_or, drop, length-drop}
use Rattle.limits.specs.Numbers.{has}
use Rattle.limits.proofs.Numbers.{has_true, numbers_length}
use Rattle.image_bodies.specs.Line.{premises, line_size}
use Rattle.verdict_record.specs.Record.{two}
use Rattle.image_meaning.specs.Certificate.{left, right}
use Rattle.trim_spec.specs.Document.{LineRecord}
use Rattle.trim_spec.specs.Canonical.{Byte, Short, Bytes, LineFits}
use Rattle.trim_spec.specs.Encode.{number_bytes, line_bytes}
use Rattle.trim_spec.specs.Parse.{line_record}
use Rattle.trim_spec.proofs.EachMember.{each_cons, each_append, each_drop}
use Rattle.trim_spec.proofs.U16Bytes.{word_two, two_bytes, numbers_alone, numbers_size, numbers_bytes}
use Rattle.trim_spec.proofs.U16Bytes.{byte_at, word_short, word_low, word_high, numbers_short, number-bytes, reads_all}

-- from a line

module _ (v : LineRecord) where
  abbrev behind : List ℕ
  behind = length v.premises ∷ number_bytes v.premises

  pub line_rule : get_or (line_bytes v) 0 0 ≡ v.rule
  unfolding line_bytes
  line_rule = refl

  pub line_thread : get_or (line_bytes v) 1 0 ≡ v.thread
  unfolding line_bytes
  line_thread = refl

  pub line_point : get_or (line_bytes v) 2 0 ≡ v.point
  unfolding line_bytes
  line_point = refl

  pub line_count : get_or (line_bytes v) 7 0 ≡ length v.premises
  unfolding line_bytes
  line_count = refl

  pub line_has : has 8 (line_bytes v) ≡ true
  unfolding has line_bytes
  line_has = refl

  pub line-size : length (line_bytes v) ≡ line_size (line_bytes v)
  unfolding line_size line_bytes
  line-size = omega (arith, numbers_size v.premises)

  module _ (f : LineFits v) where
    pub line_left : left (line_bytes v) ≡ v.left
    unfolding line_bytes
    line_left = word_two v.left (two v.right ++ behind) f.left

    pub line_right : right (line_bytes v) ≡ v.right
    unfolding line_bytes
    line_right = word_two v.right behind f.right

    pub line_premises : premises (line_bytes v) ≡ v.premises
    unfolding premises line_bytes
    line_premises = numbers_alone v.premises f.premises

    pub line_back : line_record (line_bytes v) ≡ v
    unfolding line_record
    line_back = rw (line_rule, line_thread, line_point, line_left, line_right, line_premises)

    pub line-bytes : Bytes (line_bytes v)
    unfolding line_bytes
    line-bytes =
        let s : List ℕ = two v.right ++ behind in
        each_cons Byte 0 v.rule (v.thread ∷ v.point ∷ two v.left ++ s) f.rule
        (each_cons Byte 0 v.thread (v.point ∷ two v.left ++ s) f.thread
        (each_cons Byte 0 v.point (two v.left ++ s) f.point
        (each_append Byte 0 (two v.left) s (two_bytes v.left)
        (each_append Byte 0 (two v.right) behind (two_bytes v.right)
        (each_cons Byte 0 (length v.premises) (number_bytes v.premises) f.count (numbers_bytes v.premises f.premises))))))

    pub line_short : Short (length (line_bytes v) + 2)
    unfolding line_bytes
    line_short = omega (arith, f.count, numbers_size v.premises)

-- from bytes

module _ (b : List ℕ) (h : Bytes b) where
  pub line-fits : LineFits (line_record b)
  unfolding line_record premises
  line-fits = record {
    rule = byte_at b h 0;
    thread = byte_at b h 1;
    point = byte_at b h 2;
    left = word_short b h 3;
    right = word_short b h 5;
    count = rw (numbers_length (get_or b 7 0) (drop 8 b)) (byte_at b h 7);
    premises = numbers_short (get_or b 7 0) (drop 8 b) (each_drop Byte 0 8 b h);
  }

  pub line_again : has 8 b ≡ true → length b ≡ line_size b → line_bytes (line_record b) ≡ b
  unfolding line_record line_bytes line_size premises
  line_again e d =
      let s : 8 ≤ length b = has_true 8 b e in
      let r : length (drop 8 b) ≡ 2 * get_or b 7 0 = rw (length-drop 8 b) (omega arith) in
      let n = numbers_length (get_or b 7 0) (drop 8 b) in
      let m = number-bytes (get_or b 7 0) (drop 8 b) r (each_drop Byte 0 8 b h) in
      rw (word_low b h 3, word_high b h 3, word_low b h 5, word_high b h 5, n, m)
      (reads_all b 0 8 s)
