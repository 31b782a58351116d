-- A verdict with nine different numbers above 255, as a record and as a line of text, worked out by hand.
use mathlib.Core.Path.{◌≡◌, refl}
use mathlib.Core.List.{[], ◌∷◌}
use Prim.Native.Nat.{ℕ}
use native.Mathlib.Omega.{arith}
use Rattle.verdict_record.specs.Record.{record_bytes}
use Rattle.verdict_record.specs.Text.{digits, numbered, place_text, text_of}
use Rattle.verdict_record.specs.Uncut.{Uncut}
use Rattle.verdict_record.specs.declared.verdict.Fields.{Fields}

-- code 300, record 4555, class 513, thread 770, point 1029, other thread 2057, other point 3082, line 4000, count 2944
abbrev unlike : Fields
unlike = record {
  code = 300;
  «record» = 4555;
  class = 513;
  thread = 770;
  point = 1029;
  other_thread = 2057;
  other_point = 3082;
  line = 4000;
  count = 2944;
}

-- length 20, kind 7, then 300 = 44 + 256, 4555 = 203 + 17 * 256, and so on
record_worked : record_bytes unlike
    ≡ 20 ∷ 0 ∷ 7 ∷ 0
    ∷ 44 ∷ 1
    ∷ 203 ∷ 17
    ∷ 1 ∷ 2
    ∷ 2 ∷ 3
    ∷ 5 ∷ 4
    ∷ 9 ∷ 8
    ∷ 10 ∷ 12
    ∷ 160 ∷ 15
    ∷ 128 ∷ 11 ∷ []
unfolding record_bytes
record_worked = refl

-- "300 4555 513 770 1029 2057 3082 4000 2944" and a newline; the digits are bytes 48 to 57
text_worked : text_of unlike
    ≡ 51 ∷ 48 ∷ 48 ∷ 32
    ∷ 52 ∷ 53 ∷ 53 ∷ 53 ∷ 32
    ∷ 53 ∷ 49 ∷ 51 ∷ 32
    ∷ 55 ∷ 55 ∷ 48 ∷ 32
    ∷ 49 ∷ 48 ∷ 50 ∷ 57 ∷ 32
    ∷ 50 ∷ 48 ∷ 53 ∷ 55 ∷ 32
    ∷ 51 ∷ 48 ∷ 56 ∷ 50 ∷ 32
    ∷ 52 ∷ 48 ∷ 48 ∷ 48 ∷ 32
    ∷ 50 ∷ 57 ∷ 52 ∷ 52 ∷ 10 ∷ []
unfolding text_of place_text numbered digits
text_worked = refl

-- nine times the same number
abbrev each : ℕ → Fields
each n = record {
  code = n;
  «record» = n;
  class = n;
  thread = n;
  point = n;
  other_thread = n;
  other_point = n;
  line = n;
  count = n;
}

-- 65,535 is the greatest number of 16 bits
greatest : Uncut (each 65535)
greatest = record {
  code = omega arith;
  «record» = omega arith;
  class = omega arith;
  thread = omega arith;
  point = omega arith;
  other_thread = omega arith;
  other_point = omega arith;
  line = omega arith;
  count = omega arith;
}
