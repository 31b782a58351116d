-- Totals over 0 to n - 1, and measures of lists that have a part for each number.
use mathlib.Core.Path.{◌≡◌, refl, ap, ap₂, sym, ◌∙◌}
use mathlib.Core.Bool.{Bool, true, false, cond}
use mathlib.Core.List.{List, [], ◌∷◌, ◌++◌, map, append_assoc}
use Prim.Native.Nat.{ℕ, zero, suc, ◌+◌, ◌-◌, ◌*◌, ◌≤◌, ◌<◌}
use native.Mathlib.Nat.{mul-add, add-mul}
use native.Mathlib.Omega.{arith}
use lib.Dec.{eqb}
use lib.ListN.{length, length-append}
use borrow.Author.Tests.{ne_eqb, eqb-true, eqb-false}
use Rattle.logic.specs.Obligations.{flat}
use Rattle.semantics.specs.Base.{below, up_to}

unfoldable pub sum : (ℕ → ℕ) → ℕ → ℕ
sum f zero = 0
sum f (suc n) = sum f n + f n

pub sum_same : (f g : ℕ → ℕ) (n : ℕ) → ((k : ℕ) → k < n → f k ≡ g k) → sum f n ≡ sum g n
unfolding sum
sum_same f g zero h = refl
sum_same f g (suc n) h = ap₂ ◌+◌ (sum_same f g n (λ k b. h k (omega arith))) (h n (omega arith))

-- the first number apart
pub sum_front : (f : ℕ → ℕ) (n : ℕ) → sum f (suc n) ≡ f 0 + sum (λ k. f (suc k)) n
unfolding sum
sum_front f zero = omega arith
sum_front f (suc n) = let h = sum_front f n in omega arith

pub sum_const : (c n : ℕ) → sum (λ k. c) n ≡ n * c
unfolding sum
sum_const c zero = omega arith
sum_const c (suc n) = let h = sum_const c n in let m = add-mul n 1 c in omega arith

pub sum_add : (f g : ℕ → ℕ) (n : ℕ) → sum (λ k. f k + g k) n ≡ sum f n + sum g n
unfolding sum
sum_add f g zero = refl
sum_add f g (suc n) = let h = sum_add f g n in omega arith

pub sum_scale : (f : ℕ → ℕ) (c n : ℕ) → sum (λ k. f k * c) n ≡ sum f n * c
unfolding sum
sum_scale f c zero = omega arith
sum_scale f c (suc n) = let h = sum_scale f c n in let m = add-mul (sum f n) (f n) c in omega arith

pub sum_zero : (f : ℕ → ℕ) (n : ℕ) → ((k : ℕ) → k < n → f k ≡ 0) → sum f n ≡ 0
sum_zero f n h = let e = sum_same f (λ k. 0) n h in let d = sum_const 0 n in omega arith

-- all but one are 0
pub sum_one : (f : ℕ → ℕ) (n u : ℕ) → u < n → ((k : ℕ) → k < n → (k ≡ u → ⊥) → f k ≡ 0) → sum f n ≡ f u
unfolding sum
sum_one f zero u b h = absurd (omega arith)
sum_one f (suc n) u b h = go (eqb u n) refl (λ c. sum_one f n u c (λ k d q. h k (omega arith) q))
  where
    go : (x : Bool) → eqb u n ≡ x → (u < n → sum f n ≡ f u) → sum f n + f n ≡ f u
    go true e i = let q = eqb-true u n e in let o = sum_zero f n (λ k d. h k (omega arith) (omega arith)) in rw q (omega arith)
    go false e i = let q = eqb-false u n e in let j = i (omega arith) in let o = h n (omega arith) (omega arith) in omega arith

-- the numbers before u, and that of u
pub sum_part : (f : ℕ → ℕ) (n u : ℕ) → u < n → sum f u + f u ≤ sum f n
unfolding sum
sum_part f zero u h = absurd (omega arith)
sum_part f (suc n) u h = go (eqb u n) refl (λ g. sum_part f n u g)
  where
    go : (b : Bool) → eqb u n ≡ b → (u < n → sum f u + f u ≤ sum f n) → sum f u + f u ≤ sum f n + f n
    go true e i = let q = eqb-true u n e in rw q (omega arith)
    go false e i = let q = eqb-false u n e in let j = i (omega arith) in omega arith

pub sum_least : (f : ℕ → ℕ) (n u : ℕ) → u < n → f u ≤ sum f n
sum_least f n u h = let i = sum_part f n u h in omega arith

-- the sum but for the number u
abbrev pub but : ℕ → (ℕ → ℕ) → ℕ → ℕ
but u f k = cond (eqb k u) 0 (f k)

but_past : (f : ℕ → ℕ) (u n : ℕ) → n ≤ u → sum (but u f) n ≡ sum f n
but_past f u n h = sum_same (but u f) f n (λ k b. let q : k ≡ u → ⊥ = omega arith in rw (ne_eqb k u q))

but_of : (f : ℕ → ℕ) (u n : ℕ) → u < n → sum (but u f) n + f u ≡ sum f n
unfolding sum
but_of f u zero h = absurd (omega arith)
but_of f u (suc n) h = go (eqb n u) refl (λ g. but_of f u n g)
  where
    go : (b : Bool) → eqb n u ≡ b → (u < n → sum (but u f) n + f u ≡ sum f n) → sum (but u f) n + but u f n + f u ≡ sum f n + f n
    go true e i = let q = eqb-true n u e in rw (e, q) (let j = but_past f u u (omega arith) in omega arith)
    go false e i = let q = eqb-false n u e in let j = i (omega arith) in rw e (omega arith)

pub sum_but : (f : ℕ → ℕ) (u n : ℕ) → u < n → sum (but u f) n ≡ sum f n - f u
sum_but f u n h = let e = but_of f u n h in omega arith

-- each p with what all the a are but for its own
cross_with : (p a : ℕ → ℕ) (A n : ℕ) → ((k : ℕ) → k < n → a k ≤ A) → sum (λ u. p u * (A - a u)) n + sum (λ u. p u * a u) n ≡ sum p n * A
unfolding sum
cross_with p a A zero h = omega arith
cross_with p a A (suc n) h =
    let i = cross_with p a A n (λ k b. h k (omega arith)) in
    let b = h n (omega arith) in
    let q : A - a n + a n ≡ A = omega arith in
    let m : p n * A ≡ p n * (A - a n) + p n * a n = sym (ap (λ (k : ℕ). p n * k) q) ∙ mul-add (p n) (A - a n) (a n) in
    let d = add-mul (sum p n) (p n) A in
    omega arith

pub sum_cross : (p a : ℕ → ℕ) (n : ℕ) → sum (λ u. p u * sum (but u a) n) n ≡ sum p n * sum a n - sum (λ u. p u * a u) n
sum_cross p a n =
    let e = sum_same (λ u. p u * sum (but u a) n) (λ u. p u * (sum a n - a u)) n (λ u b. ap (λ (k : ℕ). p u * k) (sum_but a u n b)) in
    let d = cross_with p a (sum a n) n (λ k b. sum_least a n k b) in
    omega arith

-- lists that have a part for each number

pub flat_append : {A B : Type 0} (f : A → List B) (l m : List A) → flat f (l ++ m) ≡ flat f l ++ flat f m
flat_append f [] m = refl
flat_append f (a ∷ l) m = ap (λ k. f a ++ k) (flat_append f l m) ∙ sym (append_assoc (f a) (flat f l) (flat f m))

pub flat_map : {A B C : Type 0} (f : B → List C) (g : A → B) (l : List A) → flat f (map g l) ≡ flat (λ a. f (g a)) l
flat_map f g [] = refl
flat_map f g (a ∷ l) = ap (λ m. f (g a) ++ m) (flat_map f g l)

-- a measure that adds up over the parts of a list, as its length does
pub record Additive {B : Type 0} (m : List B → ℕ) : Type 0 where
  pub none : m [] ≡ 0
  pub joined : (a b : List B) → m (a ++ b) ≡ m a + m b

module _ {B : Type 0} (m : List B → ℕ) (add : Additive m) (f : ℕ → List B) where
  pub parts_below : (n : ℕ) → m (flat f (below n)) ≡ sum (λ k. m (f k)) n
  unfolding sum
  parts_below zero = add.none
  parts_below (suc n) =
      let i = parts_below n in
      let p = ap m (flat_append f (below n) (n ∷ [])) ∙ add.joined (flat f (below n)) (f n ++ []) in
      let q = add.joined (f n) [] in
      let o = add.none in
      omega arith

pub parts_up_to : {B : Type 0} (m : List B → ℕ) → Additive m → (f : ℕ → List B) (n : ℕ) → m (flat f (up_to n)) ≡ sum (λ k. m (f (suc k))) n
parts_up_to m add f n = ap m (flat_map f suc (below n)) ∙ parts_below m add (λ k. f (suc k)) n

pub lengths : {B : Type 0} → Additive (length {A = B})
lengths = record { none = refl; joined = length-append }

pub flat_below : {B : Type 0} (f : ℕ → List B) (n : ℕ) → length (flat f (below n)) ≡ sum (λ k. length (f k)) n
flat_below = parts_below length lengths

pub flat_up_to : {B : Type 0} (f : ℕ → List B) (n : ℕ) → length (flat f (up_to n)) ≡ sum (λ k. length (f (suc k))) n
flat_up_to = parts_up_to length lengths

pub below_length : (n : ℕ) → length (below n) ≡ n
below_length zero = refl
below_length (suc n) = let p = length-append (below n) (n ∷ []) in let i = below_length n in omega arith
