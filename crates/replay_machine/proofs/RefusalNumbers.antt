-- Refusals go by their numbers: each number of one byte but 0 is that of one refusal, and of no other.
use Prim.Native.Nat.{ℕ, ◌+◌, ◌-◌, ◌≤◌, ◌<◌}
use mathlib.Core.Path.{◌≡◌, refl, ap, sym, ◌∙◌}
use mathlib.Core.Bool.{Bool, true, false, cond}
use native.Mathlib.Omega.{arith}
use lib.Dec.{eqb, ltb}
use borrow.Author.Tests.{lt-ltb, le-ltb, ne_eqb, ltb-true, ltb-false}
use Rattle.replay_machine.specs.Refusal.{unnamed, number}
use Rattle.replay_machine.specs.declared.pick.Refusal.{Refusal}
use Rattle.replay_machine.specs.declared.pick.Refusal.TheVariants.{Declined, Thread, Pick, Room, Unlike, OutOfRange, Unserved, Other}

-- what holds in each of the four runs of numbers without a name holds of every one of them
unnamed_goes : (P : ℕ → Type 0) (n : ℕ) → (n < 23 → P (n + 1)) → (23 ≤ n → n < 25 → P (n + 2)) → (25 ≤ n → n < 27 → P (n + 5))
    → (27 ≤ n → P (n + 8)) → P (unnamed n)
unfolding unnamed
unnamed_goes P n first second third last = go (ltb n 23) (ltb n 25) (ltb n 27) refl refl refl
  where
    go : (a b c : Bool) → ltb n 23 ≡ a → ltb n 25 ≡ b → ltb n 27 ≡ c → P (cond a (n + 1) (cond b (n + 2) (cond c (n + 5) (n + 8))))
    go true b c p q r = first (ltb-true n 23 p)
    go false true c p q r = second (ltb-false n 23 p) (ltb-true n 25 q)
    go false false true p q r = third (ltb-false n 25 q) (ltb-true n 27 r)
    go false false false p q r = last (ltb-false n 27 r)

module _ (c : ℕ) where
  pub ends_first : 1 ≤ c → c ≤ 23 → unnamed (c - 1) ≡ c
  ends_first h k = unnamed_goes (λ (m : ℕ). m ≡ c) (c - 1) (λ a. omega arith) (λ a b. omega arith) (λ a b. omega arith) (λ a. omega arith)

  pub ends_second : 25 ≤ c → c ≤ 26 → unnamed (c - 2) ≡ c
  ends_second h k = unnamed_goes (λ (m : ℕ). m ≡ c) (c - 2) (λ a. omega arith) (λ a b. omega arith) (λ a b. omega arith) (λ a. omega arith)

  pub ends_third : 30 ≤ c → c ≤ 31 → unnamed (c - 5) ≡ c
  ends_third h k = unnamed_goes (λ (m : ℕ). m ≡ c) (c - 5) (λ a. omega arith) (λ a b. omega arith) (λ a b. omega arith) (λ a. omega arith)

  pub ends_last : 35 ≤ c → unnamed (c - 8) ≡ c
  ends_last h = unnamed_goes (λ (m : ℕ). m ≡ c) (c - 8) (λ a. omega arith) (λ a b. omega arith) (λ a b. omega arith) (λ a. omega arith)

pub ruleset ends_by_code = (ends_first, ends_second, ends_third, ends_last)

-- no refusal without a name has the number 0
pub some_unnamed : (n : ℕ) → unnamed n ≡ 0 → ⊥
some_unnamed n =
    unnamed_goes (λ (m : ℕ). m ≡ 0 → ⊥) n (λ a e. omega arith) (λ a b e. omega arith) (λ a b e. omega arith) (λ a e. omega arith)

-- THE OTHER WAY: A REFUSAL BY ITS NUMBER

unfoldable place_of : ℕ → ℕ
place_of c = cond (ltb c 24) (c - 1) (cond (ltb c 27) (c - 2) (cond (ltb c 32) (c - 5) (c - 8)))

abbrev refusal_of : ℕ → Refusal
refusal_of c =
    cond (eqb c 24) Declined
    (cond (eqb c 27) Thread
    (cond (eqb c 28) Pick
    (cond (eqb c 29) Room
    (cond (eqb c 32) Unlike
    (cond (eqb c 33) OutOfRange
    (cond (eqb c 34) Unserved (Other (place_of c))))))))

module _ (n c : ℕ) where
  other_at : place_of c ≡ n → (c ≡ 24 → ⊥) → (c ≡ 27 → ⊥) → (c ≡ 28 → ⊥) → (c ≡ 29 → ⊥) → (c ≡ 32 → ⊥) → (c ≡ 33 → ⊥) → (c ≡ 34 → ⊥)
      → refusal_of c ≡ Other n
  other_at e n24 n27 n28 n29 n32 n33 n34 = rw (
    ne_eqb c 24 n24,
    ne_eqb c 27 n27,
    ne_eqb c 28 n28,
    ne_eqb c 29 n29,
    ne_eqb c 32 n32,
    ne_eqb c 33 n33,
    ne_eqb c 34 n34,
  ) (ap Other e)

other_back : (n : ℕ) → refusal_of (unnamed n) ≡ Other n
unfolding place_of
other_back n =
    unnamed_goes (λ (c : ℕ). refusal_of c ≡ Other n) n
    (λ h.
    let few : n + 1 < 24 = omega arith in
    let back : n + 1 - 1 ≡ n = omega arith in
    other_at n (n + 1) (rw (lt-ltb _ _ few) back)
    (omega arith) (omega arith) (omega arith) (omega arith) (omega arith) (omega arith) (omega arith))
    (λ h k.
    let over : 24 ≤ n + 2 = omega arith in
    let few : n + 2 < 27 = omega arith in
    let back : n + 2 - 2 ≡ n = omega arith in
    other_at n (n + 2) (rw (le-ltb _ _ over, lt-ltb _ _ few) back)
    (omega arith) (omega arith) (omega arith) (omega arith) (omega arith) (omega arith) (omega arith))
    (λ h k.
    let over : 24 ≤ n + 5 = omega arith in
    let past : 27 ≤ n + 5 = omega arith in
    let few : n + 5 < 32 = omega arith in
    let back : n + 5 - 5 ≡ n = omega arith in
    other_at n (n + 5) (rw (le-ltb _ _ over, le-ltb _ _ past, lt-ltb _ _ few) back)
    (omega arith) (omega arith) (omega arith) (omega arith) (omega arith) (omega arith) (omega arith))
    (λ h.
    let over : 24 ≤ n + 8 = omega arith in
    let past : 27 ≤ n + 8 = omega arith in
    let last : 32 ≤ n + 8 = omega arith in
    let back : n + 8 - 8 ≡ n = omega arith in
    other_at n (n + 8) (rw (le-ltb _ _ over, le-ltb _ _ past, le-ltb _ _ last) back)
    (omega arith) (omega arith) (omega arith) (omega arith) (omega arith) (omega arith) (omega arith))

refusal_back : (e : Refusal) → refusal_of (number e) ≡ e
refusal_back Declined = refl
refusal_back Thread = refl
refusal_back Pick = refl
refusal_back Room = refl
refusal_back Unlike = refl
refusal_back OutOfRange = refl
refusal_back Unserved = refl
refusal_back (Other n) = other_back n

-- refusals are told apart by their numbers
pub number_one : (e f : Refusal) → number e ≡ number f → e ≡ f
number_one e f d = sym (refusal_back e) ∙ ap refusal_of d ∙ refusal_back f
