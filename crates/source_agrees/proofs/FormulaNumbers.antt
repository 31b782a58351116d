-- What the numbers in a formula are, by the names and the constants that it may have.
use mathlib.Core.Path.{◌≡◌, refl, subst}
use mathlib.Core.Bool.{Bool, true, ◌&&◌}
use mathlib.Core.List.{List, [], ◌∷◌, ◌++◌}
use mathlib.Core.Logic.{◌⊎◌, inl, inr}
use Prim.Native.Nat.{ℕ, ◌<◌}
use native.Mathlib.Omega.{arith}
use lib.Dec.{T, ltb→lt}
use Rattle.semantics.specs.Base.{All, all}
use Rattle.semantics.specs.Formula.{Sort, Formula, Value, Test, Assertion, Formula.const, Formula.reg, Formula.word, Formula.sum, Formula.equal, Formula.less, Formula.and, Formula.or, Formula.unsync, Formula.cov, Formula.box, Formula.one, Formula.chop, Formula.both, Formula.either, Formula.sees, Formula.both_a, Formula.either_a, Formula.start, Formula.holds}
use Rattle.semantics.specs.Names.{Name, n_reg, n_word, n_unsync, n_cov, names, only, is_reg, startless, plain}
use Rattle.semantics.specs.Eval.{bounded}
use Rattle.semantics.proofs.Base.{and_left, and_right, and_both}
use Rattle.formula_trees.proofs.OccursAgree.{all_join}
use Rattle.source.specs.Prefix.{nodes}
use Rattle.source.specs.InRange.{Named, Numbers, Outlined}

all_append : {A : Type 0} (P : A → Type 0) (l m : List A) → All P l → All P m → All P (l ++ m)
all_append P [] m h g = g
all_append P (x ∷ l) m h g = (h.0, all_append P l m h.1 g)

-- two tests that each name passes
pub only_both : (a b : Name → Bool) (l : List Name) → T (all a l) → T (all b l) → T (all (λ n. a n && b n) l)
only_both a b [] h g = tt
only_both a b (n ∷ l) h g =
    and_both (a n && b n) (all (λ n. a n && b n) l) (and_both (a n) (b n) (and_left (a n) (all a l) h) (and_left (b n) (all b l) g))
    (only_both a b l (and_right (a n) (all a l) h) (and_right (b n) (all b l) g))

-- of a formula with two parts
only_parts : {r : Sort} (ok : Name → Bool) (f g : Formula r) → T (all ok (names f ++ names g)) → T (only ok f) × T (only ok g)
only_parts ok f g h =
    let p : T (only ok f && only ok g) = subst T (all_join ok (names f) (names g)) h in
    (and_left (only ok f) (only ok g) p, and_right (only ok f) (only ok g) p)

-- values and tests, by their names
module _ (ok : Name → Bool) (P : ℕ → ℕ → Type 0) (at-const : (n : ℕ) → P 0 n) (at_reg : (r : ℕ) → T (ok (n_reg r)) → P 1 r)
    (at-word : (x : ℕ) → T (ok (n_word x)) → P 2 x) where
  pub value_numbers : (f : Value) → T (only ok f) → Numbers P f
  unfolding nodes
  value_numbers (const n) h = (at-const n, tt)
  value_numbers (reg r) h = (at_reg r (and_left (ok (n_reg r)) true h), tt)
  value_numbers (word x) h = (at-word x (and_left (ok (n_word x)) true h), tt)
  value_numbers (sum f g) h =
      let p = only_parts ok f g h in
      (tt, all_append (Named P) (nodes f) (nodes g) (value_numbers f p.0) (value_numbers g p.1))

  module _ (at-unsync : (x : ℕ) → T (ok (n_unsync x)) → P 14 x) (at-cov : (x : ℕ) → T (ok (n_cov x)) → P 15 x) where
    compared : (f g : Value) → T (all ok (names f ++ names g)) → All (Named P) (nodes f ++ nodes g)
    compared f g h =
        let p = only_parts ok f g h in
        all_append (Named P) (nodes f) (nodes g) (value_numbers f p.0) (value_numbers g p.1)

    pub test_numbers : (e : Test) → T (only ok e) → Numbers P e
    unfolding nodes
    test_numbers Formula.false h = (tt, tt)
    test_numbers (equal f g) h = (tt, compared f g h)
    test_numbers (less f g) h = (tt, compared f g h)
    test_numbers (Formula.not e) h = (tt, test_numbers e h)
    test_numbers (and e f) h =
        let p = only_parts ok e f h in
        (tt, all_append (Named P) (nodes e) (nodes f) (test_numbers e p.0) (test_numbers f p.1))
    test_numbers (or e f) h =
        let p = only_parts ok e f h in
        (tt, all_append (Named P) (nodes e) (nodes f) (test_numbers e p.0) (test_numbers f p.1))
    test_numbers (unsync x) h = (at-unsync x (and_left (ok (n_unsync x)) true h), tt)
    test_numbers (cov x) h = (at-cov x (and_left (ok (n_cov x)) true h), tt)

-- an assertion without start, with registers alone under holds, may stand in an outline
pub outlined : (a : Assertion) → T (plain a) → T (startless a) → Outlined a
outlined (sees t i) p q = tt
outlined (both_a a b) p q = (
  outlined a (and_left (plain a) (plain b) p) (and_left (startless a) (startless b) q),
  outlined b (and_right (plain a) (plain b) p) (and_right (startless a) (startless b) q),
)
outlined (either_a a b) p q = (
  outlined a (and_left (plain a) (plain b) p) (and_left (startless a) (startless b) q),
  outlined b (and_right (plain a) (plain b) p) (and_right (startless a) (startless b) q),
)
outlined start p q = q
outlined (holds e) p q =
    test_numbers is_reg (λ c n. (c ≡ 0) ⊎ (c ≡ 1)) (λ n. inl refl) (λ r h. inr refl) (λ x h. absurd h) (λ x h. absurd h)
    (λ x h. absurd h) e p

-- the constants of a formula that is bounded
module _ (R : ℕ) where
  abbrev pub Constant : ℕ → ℕ → Type 0
  Constant c n = c ≡ 0 → n < R

  other : (c n : ℕ) → (c ≡ 0 → ⊥) → Constant c n
  other c n h e = absurd (h e)

  parts : {s r : Sort} (f : Formula s) (g : Formula r) → (T (bounded R f) → Numbers Constant f) → (T (bounded R g) → Numbers Constant g)
      → T (bounded R f && bounded R g) → All (Named Constant) (nodes f ++ nodes g)
  parts f g a b h = all_append (Named Constant) (nodes f) (nodes g) (a (and_left (bounded R f) (bounded R g) h))
      (b (and_right (bounded R f) (bounded R g) h))

  pub bounded_numbers : {s : Sort} (f : Formula s) → T (bounded R f) → Numbers Constant f
  unfolding nodes
  bounded_numbers (const n) h = ((λ e. ltb→lt n R h), tt)
  bounded_numbers (reg r) h = (other 1 r (λ e. omega arith), tt)
  bounded_numbers (word x) h = (other 2 x (λ e. omega arith), tt)
  bounded_numbers (sum f g) h = (tt, parts f g (bounded_numbers f) (bounded_numbers g) h)
  bounded_numbers Formula.false h = (tt, tt)
  bounded_numbers (equal f g) h = (tt, parts f g (bounded_numbers f) (bounded_numbers g) h)
  bounded_numbers (less f g) h = (tt, parts f g (bounded_numbers f) (bounded_numbers g) h)
  bounded_numbers (Formula.not e) h = (tt, bounded_numbers e h)
  bounded_numbers (and e f) h = (tt, parts e f (bounded_numbers e) (bounded_numbers f) h)
  bounded_numbers (or e f) h = (tt, parts e f (bounded_numbers e) (bounded_numbers f) h)
  bounded_numbers (unsync x) h = (other 14 x (λ e. omega arith), tt)
  bounded_numbers (cov x) h = (other 15 x (λ e. omega arith), tt)
  bounded_numbers (box e) h = (tt, bounded_numbers e h)
  bounded_numbers (one x) h = (other 17 x (λ e. omega arith), tt)
  bounded_numbers (chop i j) h = (tt, parts i j (bounded_numbers i) (bounded_numbers j) h)
  bounded_numbers (both i j) h = (tt, parts i j (bounded_numbers i) (bounded_numbers j) h)
  bounded_numbers (either i j) h = (tt, parts i j (bounded_numbers i) (bounded_numbers j) h)
  bounded_numbers (sees t i) h = (other 24 t (λ e. omega arith), bounded_numbers i h)
  bounded_numbers (both_a a b) h = (tt, parts a b (bounded_numbers a) (bounded_numbers b) h)
  bounded_numbers (either_a a b) h = (tt, parts a b (bounded_numbers a) (bounded_numbers b) h)
  bounded_numbers start h = (tt, tt)
  bounded_numbers (holds e) h = (tt, bounded_numbers e h)
