-- Texts put together: bytes, digits, numbers.
use mathlib.Core.Path.{◌≡◌, refl, ap}
use mathlib.Core.Bool.{Bool, true, false, cond}
use mathlib.Core.List.{List, [], ◌∷◌, ◌++◌, append-nil, append_assoc}
use Prim.Native.Nat.{ℕ, zero, suc, ◌+◌, ◌-◌, ◌/◌, ◌%◌, ◌≤◌, ◌<◌}
use native.Mathlib.Numerals.{add-one, sub-one}
use native.Mathlib.Omega.{arith}
use lib.Dec.{ltb}
use lib.ListN.{length, set, take, length-take, length-append}
use lib.Seq.{take_all, take-append-le, take-suc-set}
use borrow.Author.Tests.{lt-ltb, le-ltb}
use Rattle.limits.proofs.BranchTests.{lower}
use Rattle.verdict_record.specs.Text.{room, written, added, digit, digits, decimal, numbered, space, newline, place_text, text_of}
use Rattle.verdict_record.specs.declared.verdict.Fields.{Fields}
use Rattle.verdict_record.specs.declared.text.Text.{Text}

take_again : (n : ℕ) (a b : List ℕ) → take n (take n a ++ b) ≡ take n (a ++ b)
take_again zero a b = refl
take_again (suc n) [] b = refl
take_again (suc n) (x ∷ a) b = ap (λ l. x ∷ l) (take_again n a b)

added_both : (w a b : List ℕ) → added (added w a) b ≡ added w (a ++ b)
unfolding added
added_both w a b = rw (take_again room (w ++ a) b, append_assoc w a b)

module _ (t : Text) (l : length t.bytes ≡ room) where
  put_nothing : written t ≡ added (written t) []
  unfolding written added
  put_nothing = let h : length (take t.len t.bytes) ≤ room = simp length-take (omega arith) in
      rw (append-nil, take_all room (take t.len t.bytes) h)

  module _ (b : ℕ) where
    pub byte_full : room ≤ t.len → written (record { bytes = t.bytes; len = room }) ≡ added (written t) (b ∷ [])
    unfolding written added
    byte_full h =
        let k : length t.bytes ≤ t.len = omega arith in
        let m : room ≤ length t.bytes = omega arith in
        rw (take_all t.len t.bytes k, take-append-le room t.bytes (b ∷ []) m)

    pub byte_more : t.len < room → written (record { bytes = set t.bytes t.len b; len = t.len + 1 }) ≡ added (written t) (b ∷ [])
    unfolding written added
    byte_more h =
        let k : length (take t.len t.bytes ++ (b ∷ [])) ≤ room = simp (length-append, length-take) (omega arith) in
        let m : t.len < length t.bytes = omega arith in
        rw (add-one, take-suc-set t.bytes t.len b m, take_all room (take t.len t.bytes ++ (b ∷ [])) k)

pub ruleset put_byte_branches = (byte_full, byte_more)

digits_step : (k n : ℕ) → (k ≡ 0 → ⊥) → digits k n ≡ cond (ltb n 10) (digit n ∷ []) (digits (k - 1) (n / 10) ++ (digit (n % 10) ∷ []))
unfolding digits
digits_step zero n z = absurd (z refl)
digits_step (suc k) n z = rw (sub-one (suc k))

module _ (t : Text) (n left : ℕ) where
  pub digits_none : length t.bytes ≡ room → left ≡ 0 → written t ≡ added (written t) (digits left n)
  unfolding digits
  digits_none l z = rw z (put_nothing t l)

  module _ (z : left ≡ 0 → ⊥) (r : Text) where
    pub digits_last : n < 10 → written r ≡ added (written t) (digit n ∷ []) → written r ≡ added (written t) (digits left n)
    digits_last h e = rw (digits_step left n z, lt-ltb _ _ h) e

    pub digits_more : (q : Text) → 10 ≤ n → written q ≡ added (written t) (digits (left - 1) (n / 10))
        → written r ≡ added (written q) (digit (n % 10) ∷ [])
        → written r ≡ added (written t) (digits left n)
    digits_more q h e d = rw (digits_step left n z, le-ltb _ _ h) (rw (d, e, added_both))

pub ruleset put_digits_branches = (digits_none, digits_last, digits_more, lower)

pub number_put : (t q r : Text) (n b : ℕ) → written q ≡ added (written t) (decimal n) → written r ≡ added (written q) (b ∷ [])
    → written r ≡ added (written t) (numbered n b)
unfolding numbered
number_put t q r n b e d = rw (d, e, added_both)

pub place_put : (f : Fields) (t a b c d r : Text) → written a ≡ added (written t) (numbered f.class space)
    → written b ≡ added (written a) (numbered f.thread space)
    → written c ≡ added (written b) (numbered f.point space) → written d ≡ added (written c) (numbered f.other_thread space)
    → written r ≡ added (written d) (numbered f.other_point space) → written r ≡ added (written t) (place_text f)
unfolding place_text
place_put f t a b c d r e₁ e₂ e₃ e₄ e₅ = rw (e₅, e₄, e₃, e₂, e₁) (simp (added_both, append_assoc))

length_digits : (k n : ℕ) → length (digits k n) ≤ k
unfolding digits
length_digits zero n = omega arith
length_digits (suc k) n = go (ltb n 10) (length_digits k (n / 10))
  where
    go : (b : Bool) → length (digits k (n / 10)) ≤ k → length (cond b (digit n ∷ []) (digits k (n / 10) ++ (digit (n % 10) ∷ []))) ≤ suc k
    go true h = omega arith
    go false h = simp length-append (omega arith)

length_numbered : (n b : ℕ) → length (numbered n b) ≤ 6
unfolding numbered
length_numbered n b = simp length-append (omega (arith, length_digits 5 (n % 65536)))

length_text : (f : Fields) → length (text_of f) ≤ room
unfolding text_of place_text
length_text f =
    simp length-append
    (omega (
      arith,
      length_numbered f.code space,
      length_numbered f.«record» space,
      length_numbered f.class space,
      length_numbered f.thread space,
      length_numbered f.point space,
      length_numbered f.other_thread space,
      length_numbered f.other_point space,
      length_numbered f.line space,
      length_numbered f.count newline,
    ))

pub text_put : (f : Fields) (l : List ℕ) (a b c d r : Text)
    → written a ≡ added (written (record { bytes = l; len = 0 })) (numbered f.code space)
    → written b ≡ added (written a) (numbered f.«record» space) → written c ≡ added (written b) (place_text f)
    → written d ≡ added (written c) (numbered f.line space)
    → written r ≡ added (written d) (numbered f.count newline) → take r.len r.bytes ≡ text_of f
unfolding text_of written added
text_put f l a b c d r e₁ e₂ e₃ e₄ e₅ = rw (e₅, e₄, e₃, e₂, e₁) (simp (added_both, append_assoc) (take_all room (text_of f) (length_text f)))
