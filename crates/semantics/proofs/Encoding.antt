-- Equal bytes are equal formulas, whatever the sort: what is encoded can be read back.
use mathlib.Core.Path.{◌≡◌, refl, ap, ap₂, sym, ◌∙◌}
use mathlib.Core.Bool.{true, false}
use mathlib.Core.List.{List, [], ◌∷◌}
use Prim.Native.Nat.{ℕ, zero, suc, ◌≤◌, max}
use native.Mathlib.Omega.{arith}
use lib.Dec.{T, eqb, eqb→eq, eqb_refl}
use Rattle.semantics.proofs.Base.{and_left, and_right, and_both}
use Rattle.semantics.specs.Formula.{Sort, Formula, Formula.const, Formula.reg, Formula.word, Formula.sum, Formula.equal, Formula.less, Formula.and, Formula.or, Formula.unsync, Formula.cov, Formula.box, Formula.one, Formula.chop, Formula.both, Formula.either, Formula.sees, Formula.both_a, Formula.either_a, Formula.start, Formula.holds, encode, nesting, same_bytes, same}
use Rattle.semantics.specs.Code
use Rattle.semantics.specs.Code.{byte}

-- A reader that undoes `encode`: nothing, or what it has read and the bytes that are left
data Read (A : Type 0) : Type 0 where
  none : Read A
  got : A → List ℕ → Read A

abbrev Reader : Type 0 → Type 0
Reader A = List ℕ → Read A

abbrev next : {A B : Type 0} → Read A → (A → Reader B) → Read B
next none f = none
next (got a l) f = f a l

abbrev operand : Reader ℕ
operand [] = none
operand (c ∷ l) = got c l

abbrev one-part : {A B : Type 0} → (A → B) → Reader A → Reader B
one-part f r l = next (r l) (λ a. got (f a))

abbrev two-parts : {A B C : Type 0} → (A → B → C) → Reader A → Reader B → Reader C
two-parts f r q l = next (r l) (λ a m. next (q m) (λ b. got (f a b)))

-- by a byte's code
abbrev case {ℓ} : {A : Type ℓ} → ℕ → ℕ → A → A → A
case c k a b = elim (eqb c k) [ true ↦ a | false ↦ b ]

-- a formula of the sort whose nesting is at most n
abbrev read : ℕ → (s : Sort) → Reader (Formula s)
read zero s l = none
read (suc n) s [] = none
read (suc n) Sort.value (c ∷ l) =
    case c (byte Code.const) (one-part const operand l)
    (case c (byte Code.reg) (one-part reg operand l) (case c (byte Code.word) (one-part word operand l)
    (case c (byte Code.sum) (two-parts sum (read n Sort.value) (read n Sort.value) l) none)))
read (suc n) Sort.test (c ∷ l) =
    case c (byte Code.false) (got Formula.false l) (case c (byte Code.equal) (two-parts equal (read n Sort.value) (read n Sort.value) l)
    (case c (byte Code.less) (two-parts less (read n Sort.value) (read n Sort.value) l)
    (case c (byte Code.not) (one-part Formula.not (read n Sort.test) l)
    (case c (byte Code.and) (two-parts and (read n Sort.test) (read n Sort.test) l)
    (case c (byte Code.or) (two-parts or (read n Sort.test) (read n Sort.test) l)
    (case c (byte Code.unsync) (one-part unsync operand l) (case c (byte Code.cov) (one-part cov operand l) none)))))))
read (suc n) Sort.interval (c ∷ l) =
    case c (byte Code.box) (one-part box (read n Sort.test) l) (case c (byte Code.one) (one-part one operand l)
    (case c (byte Code.chop) (two-parts chop (read n Sort.interval) (read n Sort.interval) l)
    (case c (byte Code.both) (two-parts both (read n Sort.interval) (read n Sort.interval) l)
    (case c (byte Code.either) (two-parts either (read n Sort.interval) (read n Sort.interval) l) none))))
read (suc n) Sort.assertion (c ∷ l) =
    case c (byte Code.sees) (two-parts sees operand (read n Sort.interval) l)
    (case c (byte Code.both_a) (two-parts both_a (read n Sort.assertion) (read n Sort.assertion) l)
    (case c (byte Code.either_a) (two-parts either_a (read n Sort.assertion) (read n Sort.assertion) l)
    (case c (byte Code.start) (got start l)
    (case c (byte Code.holds) (one-part holds (read n Sort.test) l) none))))

one_back : {A B : Type 0} (f : A → B) (r : Reader A) (a : A) (l m : List ℕ) → r m ≡ got a l → one-part f r m ≡ got (f a) l
one_back {A} f r a l m e = ap (λ (z : Read A). next z (λ a. got (f a))) e

two_back : {A B C : Type 0} (f : A → B → C) (r : Reader A) (q : Reader B) (a : A) (b : B) (k l m : List ℕ) → r k ≡ got a l → q l ≡ got b m
    → two-parts f r q k ≡ got (f a b) m
two_back {A} {B} f r q a b k l m e d =
    ap (λ (z : Read A). next z (λ a m. next (q m) (λ b. got (f a b)))) e ∙ ap (λ (z : Read B). next z (λ b. got (f a b))) d

-- what is encoded is read back, if enough nesting is left
abbrev Back : (s : Sort) → Formula s → Type 0
Back s f = (n : ℕ) → nesting f ≤ n → (l : List ℕ) → read n s (encode f l) ≡ got f l

back_suc : (s : Sort) (f : Formula s) → 1 ≤ nesting f
    → ((n : ℕ) → nesting f ≤ suc n → (l : List ℕ) → read (suc n) s (encode f l) ≡ got f l) → Back s f
back_suc s f h g zero k l = absurd (omega arith)
back_suc s f h g (suc n) k l = g n k l

back_one : (s r : Sort) (c : Formula r → Formula s) (f : Formula r) → Back r f → (n : ℕ) → suc (nesting f) ≤ suc n → (l : List ℕ)
    → one-part c (read n r) (encode f l) ≡ got (c f) l
back_one s r c f b n h l = one_back c (read n r) f l (encode f l) (b n (omega arith) l)

back_two : (s r : Sort) (c : Formula r → Formula r → Formula s) (f g : Formula r) → Back r f → Back r g → (n : ℕ)
    → suc (max (nesting f) (nesting g)) ≤ suc n
    → (l : List ℕ) → two-parts c (read n r) (read n r) (encode f (encode g l)) ≡ got (c f g) l
back_two s r c f g b d n h l = two_back c (read n r) (read n r) f g (encode f (encode g l)) (encode g l) l
    (b n (omega arith) (encode g l)) (d n (omega arith) l)

read_back : {s : Sort} (f : Formula s) → Back s f
read_back (const k) = back_suc Sort.value (const k) (omega arith) (λ n h l. refl)
read_back (reg k) = back_suc Sort.value (reg k) (omega arith) (λ n h l. refl)
read_back (word k) = back_suc Sort.value (word k) (omega arith) (λ n h l. refl)
read_back (sum a b) = back_suc Sort.value (sum a b) (omega arith) (back_two Sort.value Sort.value sum a b (read_back a) (read_back b))
read_back Formula.false = back_suc Sort.test Formula.false (omega arith) (λ n h l. refl)
read_back (equal a b) = back_suc Sort.test (equal a b) (omega arith) (back_two Sort.test Sort.value equal a b (read_back a) (read_back b))
read_back (less a b) = back_suc Sort.test (less a b) (omega arith) (back_two Sort.test Sort.value less a b (read_back a) (read_back b))
read_back (Formula.not a) = back_suc Sort.test (Formula.not a) (omega arith) (back_one Sort.test Sort.test Formula.not a (read_back a))
read_back (and a b) = back_suc Sort.test (and a b) (omega arith) (back_two Sort.test Sort.test and a b (read_back a) (read_back b))
read_back (or a b) = back_suc Sort.test (or a b) (omega arith) (back_two Sort.test Sort.test or a b (read_back a) (read_back b))
read_back (unsync k) = back_suc Sort.test (unsync k) (omega arith) (λ n h l. refl)
read_back (cov k) = back_suc Sort.test (cov k) (omega arith) (λ n h l. refl)
read_back (box a) = back_suc Sort.interval (box a) (omega arith) (back_one Sort.interval Sort.test box a (read_back a))
read_back (one k) = back_suc Sort.interval (one k) (omega arith) (λ n h l. refl)
read_back (chop a b) = back_suc Sort.interval (chop a b) (omega arith)
    (back_two Sort.interval Sort.interval chop a b (read_back a) (read_back b))
read_back (both a b) = back_suc Sort.interval (both a b) (omega arith)
    (back_two Sort.interval Sort.interval both a b (read_back a) (read_back b))
read_back (either a b) = back_suc Sort.interval (either a b) (omega arith)
    (back_two Sort.interval Sort.interval either a b (read_back a) (read_back b))
read_back (sees t i) = back_suc Sort.assertion (sees t i) (omega arith) (back_one Sort.assertion Sort.interval (sees t) i (read_back i))
read_back (both_a a b) = back_suc Sort.assertion (both_a a b) (omega arith)
    (back_two Sort.assertion Sort.assertion both_a a b (read_back a) (read_back b))
read_back (either_a a b) = back_suc Sort.assertion (either_a a b) (omega arith)
    (back_two Sort.assertion Sort.assertion either_a a b (read_back a) (read_back b))
read_back start = back_suc Sort.assertion start (omega arith) (λ n h l. refl)
read_back (holds a) = back_suc Sort.assertion (holds a) (omega arith) (back_one Sort.assertion Sort.test holds a (read_back a))

-- formulas of one sort with the same bytes are the same
pub encode_injective : {s : Sort} (f g : Formula s) → encode f [] ≡ encode g [] → f ≡ g
encode_injective {s} f g e =
    let n : ℕ = max (nesting f) (nesting g) in
    formula-of (sym (read_back f n (omega arith) []) ∙ ap (read n s) e ∙ read_back g n (omega arith) [])
  where
    formula-of : got f [] ≡ got g [] → f ≡ g
    formula-of q = cc

bytes_eq : (l m : List ℕ) → T (same_bytes l m) → l ≡ m
bytes_eq [] [] h = refl
bytes_eq [] (y ∷ m) h = absurd h
bytes_eq (x ∷ l) [] h = absurd h
bytes_eq (x ∷ l) (y ∷ m) h = ap₂ (λ (x : ℕ) (l : List ℕ). x ∷ l) (eqb→eq x y (search and_left)) (bytes_eq l m (search and_right))

bytes_refl : (l : List ℕ) → T (same_bytes l l)
bytes_refl [] = tt
bytes_refl (x ∷ l) = and_both (eqb x x) (same_bytes l l) (eqb_refl x) (bytes_refl l)

pub same_eq : {s : Sort} (f g : Formula s) → T (same f g) → f ≡ g
unfolding same
same_eq f g h = encode_injective f g (bytes_eq (encode f []) (encode g []) h)

pub same_refl : {s : Sort} (f : Formula s) → T (same f f)
unfolding same
same_refl f = bytes_refl (encode f [])
