-- The one fact on rows: those from all zeros on are every choice exactly once, and no other. And a digit by itself: its runs, and its
-- cycle.
use Prim.Native.Nat.{ℕ, zero, suc, ◌+◌, ◌*◌, ◌/◌, ◌%◌, ◌^◌, ◌≤◌, ◌<◌}
use mathlib.Core.Path.{◌≡◌, refl, ap, ap₂, sym, ◌∙◌, subst}
use mathlib.Core.List.{List, [], ◌∷◌}
use mathlib.Core.Bool.{Bool, true, false}
use native.Mathlib.Omega.{arith}
use native.Mathlib.Nat.{mul_comm, mul_assoc, mul-one, mul-suc, mul-zero, mul-le-mul, mod-lt, mod-eq_of_lt, div-eq_of_lt, div-add-mod', div-lt_iff_lt-mul, mul-add-div_right, mul-add-mod_self_right, zero-div, div-one, div-div-eq-div-mul, pow-suc}
use lib.ListN.{length, get_or, replicate}
use lib.Dec.{ltb}
use borrow.Author.Tests.{lt-ltb, le-ltb, ltb-true, ltb-false}
use Rattle.tables_digits.specs.Advance.{advance, rows_from, after, rows_of, Choice, EveryOnce}

advance_up : (m : ℕ) (ms : List ℕ) (d : ℕ) (r : List ℕ) → d < m → advance (m ∷ ms) (d ∷ r) ≡ suc d ∷ r
unfolding advance
advance_up m ms d r h = rw (lt-ltb _ _ h)

advance_carry : (m : ℕ) (ms : List ℕ) (d : ℕ) (r : List ℕ) → m ≤ d → advance (m ∷ ms) (d ∷ r) ≡ 0 ∷ advance ms r
unfolding advance
advance_carry m ms d r h = rw (le-ltb _ _ h)

after_zero : (ms r : List ℕ) → after ms 0 r ≡ r
unfolding after
after_zero ms r = refl

after_step : (ms : List ℕ) (i : ℕ) (r : List ℕ) → after ms (suc i) r ≡ after ms i (advance ms r)
unfolding after
after_step ms i r = refl

after_none : (i : ℕ) (r : List ℕ) → after [] i r ≡ r
unfolding after advance
after_none zero r = refl
after_none (suc i) r = after_none i r

-- the first digit of a row, and the others
after_first : (m : ℕ) (ms : List ℕ) (i d : ℕ) (r : List ℕ) → d ≤ m
    → after (m ∷ ms) i (d ∷ r) ≡ (d + i) % suc m ∷ after ms ((d + i) / suc m) r
after_first m ms zero d r h =
    let e : d + 0 ≡ d = omega arith in
    let l : d < suc m = omega arith in
    after_zero (m ∷ ms) (d ∷ r)
    ∙ sym (ap₂ (λ (a b : ℕ). a ∷ after ms b r) (ap (λ (n : ℕ). n % suc m) e ∙ mod-eq_of_lt l)
    (ap (λ (n : ℕ). n / suc m) e ∙ div-eq_of_lt l) ∙ ap (λ (t : List ℕ). d ∷ t) (after_zero ms r))
after_first m ms (suc i) d r h = after_step (m ∷ ms) i (d ∷ r) ∙ go (ltb d m) refl (λ d r h. after_first m ms i d r h)
  where
    go : (b : Bool) → ltb d m ≡ b → ((d : ℕ) (r : List ℕ) → d ≤ m
        → after (m ∷ ms) i (d ∷ r) ≡ (d + i) % suc m ∷ after ms ((d + i) / suc m) r)
        → after (m ∷ ms) i (advance (m ∷ ms) (d ∷ r)) ≡ (d + suc i) % suc m ∷ after ms ((d + suc i) / suc m) r
    go true e ih =
        let q : suc d + i ≡ d + suc i = omega arith in
        ap (after (m ∷ ms) i) (advance_up m ms d r (ltb-true d m e)) ∙ ih (suc d) r (omega (arith, ltb-true d m e))
        ∙ ap (λ (n : ℕ). n % suc m ∷ after ms (n / suc m) r) q
    go false e ih =
        let k : m ≤ d = ltb-false d m e in
        let q : d + suc i ≡ 1 * suc m + (0 + i) = omega arith in
        let p : 0 < suc m = omega arith in
        let z : 1 + (0 + i) / suc m ≡ suc ((0 + i) / suc m) = omega arith in
        ap (after (m ∷ ms) i) (advance_carry m ms d r k) ∙ ih 0 (advance ms r) (omega arith)
        ∙ sym (ap (λ (n : ℕ). n % suc m ∷ after ms (n / suc m) r) q
        ∙ ap₂ (λ (a b : ℕ). a ∷ after ms b r) (mul-add-mod_self_right 1 (suc m) (0 + i)) (mul-add-div_right p 1 (0 + i) ∙ z)
        ∙ ap (λ (t : List ℕ). (0 + i) % suc m ∷ t) (after_step ms ((0 + i) / suc m) r))

-- from all zeros on
abbrev zeros : List ℕ → List ℕ
zeros ms = replicate (length ms) 0

pub zero_first : (m : ℕ) (ms : List ℕ) (i : ℕ) (r : List ℕ) → after (m ∷ ms) i (0 ∷ r) ≡ i % suc m ∷ after ms (i / suc m) r
zero_first m ms i r = let e : 0 + i ≡ i = omega arith in
    after_first m ms i 0 r (omega arith) ∙ ap (λ (n : ℕ). n % suc m ∷ after ms (n / suc m) r) e

-- a row's place among them
place : List ℕ → List ℕ → ℕ
place [] r = 0
place (m ∷ ms) [] = 0
place (m ∷ ms) (d ∷ r) = place ms r * suc m + d

after_choice : (ms : List ℕ) (i : ℕ) → Choice ms (after ms i (zeros ms))
after_choice [] i = subst (Choice []) (sym (after_none i [])) tt
after_choice (m ∷ ms) i =
    subst (Choice (m ∷ ms)) (sym (zero_first m ms i (zeros ms)))
    (let h = mod-lt i {m = suc m} (omega arith) in omega arith, after_choice ms (i / suc m))

after_place : (ms r : List ℕ) → Choice ms r → after ms (place ms r) (zeros ms) ≡ r
unfolding place
after_place [] [] c = after_none 0 []
after_place [] (d ∷ r) c = absurd c
after_place (m ∷ ms) [] c = absurd c
after_place (m ∷ ms) (d ∷ r) c =
    let l : d < suc m = omega (arith, c.0) in
    let z : place ms r + 0 ≡ place ms r = omega arith in
    zero_first m ms (place ms r * suc m + d) (zeros ms)
    ∙ ap₂ (λ (a b : ℕ). a ∷ after ms b (zeros ms)) (mul-add-mod_self_right (place ms r) (suc m) d ∙ mod-eq_of_lt l)
    (mul-add-div_right (omega arith) (place ms r) d ∙ ap (λ (n : ℕ). place ms r + n) (div-eq_of_lt l) ∙ z)
    ∙ ap (λ (t : List ℕ). d ∷ t) (after_place ms r c.1)

place_less : (ms r : List ℕ) → Choice ms r → place ms r < rows_of ms
unfolding place rows_of
place_less [] [] c = omega arith
place_less [] (d ∷ r) c = absurd c
place_less (m ∷ ms) [] c = absurd c
place_less (m ∷ ms) (d ∷ r) c =
    let h : suc (place ms r) * suc m ≤ rows_of ms * suc m = mul-le-mul (place_less ms r c.1) (omega arith) in
    let e : suc (place ms r) * suc m ≡ place ms r * suc m + suc m = suc_times (place ms r) (suc m) in
    let f : rows_of ms * suc m ≡ suc m * rows_of ms = mul_comm (rows_of ms) (suc m) in
    omega (arith, c.0)
  where
    suc_times : (a b : ℕ) → suc a * b ≡ a * b + b
    suc_times a b = mul_comm (suc a) b ∙ mul-suc b a ∙ ap (λ (n : ℕ). n + b) (mul_comm b a)

place_after : (ms : List ℕ) (i : ℕ) → i < rows_of ms → place ms (after ms i (zeros ms)) ≡ i
unfolding place rows_of
place_after [] i h = omega arith
place_after (m ∷ ms) i h =
    let g : i < rows_of ms * suc m = let f = mul_comm (suc m) (rows_of ms) in omega arith in
    let l : i / suc m < rows_of ms = (div-lt_iff_lt-mul {k = suc m} (omega arith)).1 g in
    ap (place (m ∷ ms)) (zero_first m ms i (zeros ms)) ∙ ap (λ (n : ℕ). n * suc m + i % suc m) (place_after ms (i / suc m) l)
    ∙ div-add-mod' i (suc m)

-- the list of rows
from_length : (ms : List ℕ) (n : ℕ) (r : List ℕ) → length (rows_from ms n r) ≡ n
unfolding rows_from
from_length ms zero r = refl
from_length ms (suc n) r = ap (λ (k : ℕ). suc k) (from_length ms n (advance ms r))

pub from_at : (ms : List ℕ) (n i : ℕ) (r : List ℕ) → i < n → get_or (rows_from ms n r) i [] ≡ after ms i r
unfolding rows_from after
from_at ms zero i r h = absurd (omega arith)
from_at ms (suc n) zero r h = refl
from_at ms (suc n) (suc i) r h = from_at ms n i (advance ms r) (omega arith)

pub every_once : (ms : List ℕ) → EveryOnce ms (rows_from ms (rows_of ms) (replicate (length ms) 0))
every_once ms = record {
  choices = λ i h. subst (Choice ms) (sym (there i h)) (after_choice ms i);
  tried = λ r c. let l : place ms r < length rows = within (place_less ms r c) in
      (place ms r, l, there (place ms r) l ∙ after_place ms r c);
  once = λ i j h k e. sym (at i h) ∙ ap (place ms) e ∙ at j k;
}
  where
    rows : List (List ℕ)
    rows = rows_from ms (rows_of ms) (zeros ms)

    long : length rows ≡ rows_of ms
    long = from_length ms (rows_of ms) (zeros ms)

    within : {i : ℕ} → i < rows_of ms → i < length rows
    within h = omega (arith, long)

    below : (i : ℕ) → i < length rows → i < rows_of ms
    below i h = omega (arith, long)

    there : (i : ℕ) → i < length rows → get_or rows i [] ≡ after ms i (zeros ms)
    there i h = from_at ms (rows_of ms) i (zeros ms) (below i h)

    at : (i : ℕ) → i < length rows → place ms (get_or rows i []) ≡ i
    at i h = ap (place ms) (there i h) ∙ place_after ms i (below i h)

pub from_long : (ms : List ℕ) (n : ℕ) (r : List ℕ) → length (rows_from ms n r) ≡ n
from_long = from_length

-- A DIGIT BY ITSELF

-- the product of the choices before it
pub run : List ℕ → ℕ → ℕ
run ms zero = 1
run [] (suc j) = 1
run (m ∷ ms) (suc j) = suc m * run ms j

zero_at : (n j : ℕ) → get_or (replicate {A = ℕ} n 0) j 0 ≡ 0
zero_at zero j = refl
zero_at (suc n) zero = refl
zero_at (suc n) (suc j) = zero_at n j

none_at : (j : ℕ) → get_or {A = ℕ} [] j 0 ≡ 0
none_at zero = refl
none_at (suc j) = refl

run_none : (j : ℕ) → run [] j ≡ 1
unfolding run
run_none zero = refl
run_none (suc j) = refl

abbrev digit : List ℕ → ℕ → ℕ → ℕ → ℕ
digit ms n j i = get_or (after ms i (replicate n 0)) j 0

-- each value stays for a run
pub digit_run : (ms : List ℕ) (n j v x : ℕ) → j < n → v ≤ get_or ms j 0 → x < run ms j → digit ms n j (run ms j * v + x) ≡ v
unfolding run
digit_run [] n j v x hj hv hx = ap (λ (r : List ℕ). get_or r j 0) (after_none (run [] j * v + x) (replicate n 0)) ∙ zero_at n j
    ∙ (let e = none_at j in let q : 0 ≡ v = omega arith in q)
digit_run (m ∷ ms) zero j v x hj hv hx = absurd (omega arith)
digit_run (m ∷ ms) (suc n) zero v x hj hv hx =
    let l : v < suc m = omega arith in
    let e : 1 * v + x ≡ v = omega arith in
    ap (λ (r : List ℕ). get_or r 0 0) (zero_first m ms (1 * v + x) (replicate n 0)) ∙ ap (λ (i : ℕ). i % suc m) e ∙ mod-eq_of_lt l
digit_run (m ∷ ms) (suc n) (suc j) v x hj hv hx =
    let e : suc m * run ms j * v ≡ run ms j * v * suc m = mul_assoc (suc m) (run ms j) v ∙ mul_comm (suc m) (run ms j * v) in
    let g : x < run ms j * suc m = let f = mul_comm (suc m) (run ms j) in omega arith in
    let l : x / suc m < run ms j = (div-lt_iff_lt-mul {k = suc m} (omega arith)).1 g in
    ap (λ (r : List ℕ). get_or r (suc j) 0) (zero_first m ms (suc m * run ms j * v + x) (replicate n 0))
    ∙ ap (digit ms n j) (ap (λ (i : ℕ). (i + x) / suc m) e ∙ mul-add-div_right (omega arith) (run ms j * v) x)
    ∙ digit_run ms n j v (x / suc m) (omega arith) hv l

-- behind the run of its last value it goes through the same values again
pub digit_cycle : (ms : List ℕ) (n j i : ℕ) → j < n → digit ms n j (run ms j * suc (get_or ms j 0) + i) ≡ digit ms n j i
unfolding run
digit_cycle [] n j i hj = ap (λ (r : List ℕ). get_or r j 0)
    (after_none (run [] j * suc (get_or [] j 0) + i) (replicate n 0) ∙ sym (after_none i (replicate n 0)))
digit_cycle (m ∷ ms) zero j i hj = absurd (omega arith)
digit_cycle (m ∷ ms) (suc n) zero i hj =
    ap (λ (r : List ℕ). get_or r 0 0) (zero_first m ms (1 * suc m + i) (replicate n 0)) ∙ mul-add-mod_self_right 1 (suc m) i
    ∙ sym (ap (λ (r : List ℕ). get_or r 0 0) (zero_first m ms i (replicate n 0)))
digit_cycle (m ∷ ms) (suc n) (suc j) i hj =
    let c : ℕ = suc (get_or ms j 0) in
    let e : suc m * run ms j * suc (get_or ms j 0) ≡ run ms j * suc (get_or ms j 0) * suc m = mul_assoc (suc m) (run ms j) (suc (get_or ms j 0))
    ∙ mul_comm (suc m) (run ms j * suc (get_or ms j 0)) in
    ap (λ (r : List ℕ). get_or r (suc j) 0) (zero_first m ms (suc m * run ms j * suc (get_or ms j 0) + i) (replicate n 0))
    ∙ ap (digit ms n j) (ap (λ (k : ℕ). (k + i) / suc m) e ∙ mul-add-div_right (omega arith) (run ms j * suc (get_or ms j 0)) i)
    ∙ digit_cycle ms n j (i / suc m) (omega arith)
    ∙ sym (ap (λ (r : List ℕ). get_or r (suc j) 0) (zero_first m ms i (replicate n 0)))

pub run_first : (ms : List ℕ) → run ms 0 ≡ 1
unfolding run
run_first [] = refl
run_first (m ∷ ms) = refl

-- from one digit to the next
pub run_next : (ms : List ℕ) (j : ℕ) → run ms (suc j) ≡ run ms j * suc (get_or ms j 0)
unfolding run
run_next [] zero = refl
run_next [] (suc j) = (let e : 1 ≡ 1 * 1 = omega arith in e)
run_next (m ∷ ms) zero = mul-one (suc m) ∙ (let e : suc m ≡ 1 * suc m = omega arith in e)
run_next (m ∷ ms) (suc j) = ap (λ (n : ℕ). suc m * n) (run_next ms j) ∙ sym (mul_assoc (suc m) (run ms j) (suc (get_or ms j 0)))

-- where the first k digits are 0 or 1, a row below 2 ^ k has the bits of its number
pub digit_bit : (ms : List ℕ) (n k j i : ℕ) → ((h : ℕ) → h < k → get_or ms h 0 ≡ 1) → i < 2 ^ k → j < n → digit ms n j i ≡ i / 2 ^ j % 2
digit_bit ms n zero j i two hi hj =
    let z : i ≡ 0 = omega arith in
    ap (digit ms n j) z ∙ ap (λ (r : List ℕ). get_or r j 0) (after_zero ms (replicate n 0)) ∙ zero_at n j
    ∙ sym (ap (λ (i : ℕ). i / 2 ^ j % 2) z ∙ ap (λ (x : ℕ). x % 2) (zero-div (2 ^ j)))
digit_bit [] n (suc k) j i two hi hj = absurd (let e = two 0 (omega arith) in omega arith)
digit_bit (m ∷ ms) zero (suc k) j i two hi hj = absurd (omega arith)
digit_bit (m ∷ ms) (suc n) (suc k) zero i two hi hj =
    ap (λ (r : List ℕ). get_or r 0 0) (zero_first m ms i (replicate n 0)) ∙ ap (λ (m : ℕ). i % suc m) (two 0 (omega arith))
    ∙ sym (ap (λ (x : ℕ). x % 2) (div-one i))
digit_bit (m ∷ ms) (suc n) (suc k) (suc j) i two hi hj =
    let h : i < 2 ^ k * 2 = let e = pow-suc 2 k in omega arith in
    ap (λ (r : List ℕ). get_or r (suc j) 0) (zero_first m ms i (replicate n 0))
    ∙ ap (λ (m : ℕ). digit ms n j (i / suc m)) (two 0 (omega arith))
    ∙ digit_bit ms n k j (i / 2) (λ x hx. two (suc x) (omega arith)) ((div-lt_iff_lt-mul {k = 2} (omega arith)).1 h) (omega arith)
    ∙ ap (λ (x : ℕ). x % 2) (div-div-eq-div-mul i 2 (2 ^ j) ∙ ap (λ (x : ℕ). i / x) (mul_comm 2 (2 ^ j) ∙ sym (pow-suc 2 j)))

-- a digit comes again behind the rows of all digits up to it, and of more
many_times : (f : ℕ → ℕ) (p : ℕ) → ((i : ℕ) → f (p + i) ≡ f i) → (c i : ℕ) → f (p * c + i) ≡ f i
many_times f p h zero i = let e : p * 0 + i ≡ i = let m = mul-zero p in omega arith in ap f e
many_times f p h (suc c) i = let e : p * suc c + i ≡ p + (p * c + i) = let m = mul-suc p c in omega arith in
    ap f e ∙ h (p * c + i) ∙ many_times f p h c i

pub digit_again : (ms : List ℕ) (n k j i : ℕ) → k < n → k < j → digit ms n k (run ms j + i) ≡ digit ms n k i
digit_again ms n k zero i hn hj = absurd (omega arith)
digit_again ms n k (suc j) i hn hj = ap (λ (r : ℕ). digit ms n k (r + i)) (run_next ms j)
    ∙ go (ltb k j) refl (λ l i. digit_again ms n k j i hn l)
  where
    go : (b : Bool) → ltb k j ≡ b → (k < j → (i : ℕ) → digit ms n k (run ms j + i) ≡ digit ms n k i)
        → digit ms n k (run ms j * suc (get_or ms j 0) + i) ≡ digit ms n k i
    go true e ih = many_times (digit ms n k) (run ms j) (ih (ltb-true k j e)) (suc (get_or ms j 0)) i
    go false e ih =
        let q : j ≡ k = omega (arith, ltb-false k j e) in
        ap (λ (j : ℕ). digit ms n k (run ms j * suc (get_or ms j 0) + i)) q ∙ digit_cycle ms n k i hn
