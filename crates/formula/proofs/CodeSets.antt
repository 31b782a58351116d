-- A set as a number has the codes of its list: computed over the numbers below 32.
use Prim.Native.Nat.{ℕ, ◌-◌, ◌≤◌, ◌<◌}
use mathlib.Core.Path.{◌≡◌, refl, ◌∙◌}
use mathlib.Core.List.{List, [], ◌∷◌}
use mathlib.Core.Bool.{Bool, true, false, cond}
use native.Mathlib.Omega.{arith}
use lib.Dec.{T, ltb, eqb}
use borrow.Author.Tests.{ltb-true, ltb-false, ne_eqb}
use Rattle.semantics.specs.Code.{Code, byte}
use Rattle.logic.specs.Rows.{all_below}
use Rattle.logic.proofs.Rows.{all_below_at}
use Rattle.formula.specs.Codes.{among, member, value, test, interval, assertion, reg_value, reg_test, codes_at, set_of, set_at, fits_at, operand_codes, one_part, two_parts, lower_parts, has_operand, part_count, part_place}
use Rattle.limits.proofs.BranchTests.{tests}

abbrev pub agree : Bool → Bool → Bool
agree true b = b
agree false true = false
agree false false = true

agrees : (a b : Bool) → T (agree a b) → a ≡ b
agrees true true h = refl
agrees true false h = absurd h
agrees false true h = absurd h
agrees false false h = refl

-- the number has what the list has, below k
abbrev pub as_listed : ℕ → ℕ → List Code → Bool
as_listed k n l = all_below k (λ c. agree (member n c) (among c l))

abbrev pub low : List Code → Bool
low [] = true
low (k ∷ l) = cond (ltb (byte k) 32) (low l) false

below : (n : ℕ) (l : List Code) (k : ℕ) → T (as_listed k n l) → (c : ℕ) → c < k → member n c ≡ among c l
below n l k h c lt = agrees (member n c) (among c l) (all_below_at k (λ i. agree (member n i) (among i l)) h c lt)

above : (c : ℕ) (l : List Code) → 32 ≤ c → T (low l) → among c l ≡ false
above c [] h t = refl
above c (k ∷ l) h t = go (ltb (byte k) 32) refl t (λ u. above c l h u)
  where
    go : (b : Bool) → ltb (byte k) 32 ≡ b → T (cond b (low l) false) → (T (low l) → among c l ≡ false)
        → cond (eqb c (byte k)) true (among c l) ≡ false
    go true e t ih = let q = ltb-true (byte k) 32 e in rw (ne_eqb c (byte k) (λ (d : c ≡ byte k). omega arith)) (ih t)
    go false e t ih = absurd t

member_among : (n : ℕ) (l : List Code) → T (as_listed 32 n l) → T (low l) → (c : ℕ) → member n c ≡ among c l
unfolding member
member_among n l h t c = go (ltb c 32) refl
  where
    go : (b : Bool) → ltb c 32 ≡ b → member n c ≡ among c l
    go true e = below n l 32 h c (ltb-true c 32 e)
    go false e = rw (e, above c l (ltb-false c 32 e) t)

module _ (c : ℕ) (r : Bool) where
  pub operand-codes : r ≡ member (set_of operand_codes) c → r ≡ has_operand c
  unfolding has_operand member
  operand-codes e = e ∙ member_among (set_of operand_codes) operand_codes tt tt c

  module _ (e : r ≡ member (set_of two_parts) c) where
    two : r ≡ among c two_parts
    unfolding member
    two = e ∙ member_among (set_of two_parts) two_parts tt tt c

    pub parts_two : r ≡ true → 2 ≡ part_count c
    unfolding part_count
    parts_two d = rw (← two, d)

    module _ (u : Bool) (d : r ≡ false) (f : u ≡ member (set_of one_part) c) where
      one : u ≡ among c one_part
      unfolding member
      one = f ∙ member_among (set_of one_part) one_part tt tt c

      pub parts_one : u ≡ true → 1 ≡ part_count c
      unfolding part_count
      parts_one g = rw (← two, d, ← one, g)

      pub parts_none : u ≡ false → 0 ≡ part_count c
      unfolding part_count
      parts_none g = rw (← two, d, ← one, g)

  module _ (p : ℕ) where
    pub fits_code : (n : ℕ) → n ≡ set_at p → r ≡ member n c → r ≡ fits_at c p
    unfolding fits_at set_at member
    fits_code n e d = d ∙ rw e (go (eqb p value) (eqb p test) (eqb p interval) (eqb p assertion) (eqb p reg_value) (eqb p reg_test))
      where
        at : Bool → Bool → Bool → Bool → Bool → Bool → List Code
        at i j k l m n =
            cond i (codes_at value) (cond j (codes_at test)
            (cond k (codes_at interval) (cond l (codes_at assertion) (cond m (codes_at reg_value) (cond n (codes_at reg_test) [])))))

        go : (i j k l m n : Bool) → member (set_of (at i j k l m n)) c ≡ among c (at i j k l m n)
        go true j k l m n = member_among (set_of (codes_at value)) (codes_at value) tt tt c
        go false true k l m n = member_among (set_of (codes_at test)) (codes_at test) tt tt c
        go false false true l m n = member_among (set_of (codes_at interval)) (codes_at interval) tt tt c
        go false false false true m n = member_among (set_of (codes_at assertion)) (codes_at assertion) tt tt c
        go false false false false true n = member_among (set_of (codes_at reg_value)) (codes_at reg_value) tt tt c
        go false false false false false true = member_among (set_of (codes_at reg_test)) (codes_at reg_test) tt tt c
        go false false false false false false = member_among 0 [] tt tt c

    module _ (h : c ≡ byte Code.holds → ⊥) (e : r ≡ member (set_of lower_parts) c) where
      lower : r ≡ among c lower_parts
      unfolding member
      lower = e ∙ member_among (set_of lower_parts) lower_parts tt tt c

      pub place_bottom : r ≡ true → p ≡ 0 → 0 ≡ part_place c p
      unfolding part_place
      place_bottom d z = rw (ne_eqb _ _ h, ← lower, d, z)

      pub place_lower : r ≡ true → p - 1 ≡ part_place c p
      unfolding part_place
      place_lower d = rw (ne_eqb _ _ h, ← lower, d)

      pub place_own : r ≡ false → p ≡ part_place c p
      unfolding part_place
      place_own d = rw (ne_eqb _ _ h, ← lower, d)

pub place_holds : (c p : ℕ) → c ≡ byte Code.holds → reg_test ≡ part_place c p
unfolding part_place
place_holds c p e = rw e

-- the set of a place
module _ (p : ℕ) where
  pub set_value : p ≡ value → set_of (codes_at value) ≡ set_at p
  unfolding set_at
  set_value e = rw e

  pub set_test : p ≡ test → set_of (codes_at test) ≡ set_at p
  unfolding set_at
  set_test e = rw e

  pub set_interval : p ≡ interval → set_of (codes_at interval) ≡ set_at p
  unfolding set_at
  set_interval e = rw e

  pub set_assertion : p ≡ assertion → set_of (codes_at assertion) ≡ set_at p
  unfolding set_at
  set_assertion e = rw e

  pub set_reg_value : p ≡ reg_value → set_of (codes_at reg_value) ≡ set_at p
  unfolding set_at
  set_reg_value e = rw e

  pub set_reg_test : p ≡ reg_test → set_of (codes_at reg_test) ≡ set_at p
  unfolding set_at
  set_reg_test e = rw e

  pub set_none : (p ≡ value → ⊥) → (p ≡ test → ⊥) → (p ≡ interval → ⊥) → (p ≡ assertion → ⊥) → (p ≡ reg_value → ⊥) → (p ≡ reg_test → ⊥)
      → 0 ≡ set_at p
  unfolding set_at
  set_none a b c d e f = rw (ne_eqb _ _ a, ne_eqb _ _ b, ne_eqb _ _ c, ne_eqb _ _ d, ne_eqb _ _ e, ne_eqb _ _ f)

pub ruleset codes_at_branches = (set_value, set_test, set_interval, set_assertion, set_reg_value, set_reg_test, set_none)

pub ruleset code_branches = (operand-codes, parts_two, parts_one, parts_none, fits_code, place_bottom, place_lower, place_own, place_holds)

-- what the functions on codes are proved by
pub ruleset code_ways = (code_branches, codes_at_branches, tests)
