-- Truth tables (rule 20): assertions as propositional formulas over their leaves.
use Rattle.std.specs.Prelude.{Bool, false, not, ◌&&◌, ◌||◌, List, [], ◌∷◌, ◌++◌, ℕ, eqb, leb, length}
use Rattle.semantics.specs.Base.{all}
use Rattle.semantics.specs.Limits
use Rattle.logic.specs.Rows.{distinct, every_row}
use Rattle.semantics.specs.Formula.{Formula, Test, Assertion, Formula.equal, Formula.less, Formula.and, Formula.or, Formula.unsync, Formula.cov, Formula.sees, Formula.both_a, Formula.either_a, Formula.start, Formula.holds, same}

-- the truth of a test, where τ says which leaves are true. (Flags do not occur under holds; they would be leaves)
abbrev pub table_t : (Test → Bool) → Test → Bool
table_t τ Formula.false = false
table_t τ (equal a b) = τ (equal a b)
table_t τ (less a b) = τ (less a b)
table_t τ (Formula.not e) = not (table_t τ e)
table_t τ (and e f) = table_t τ e && table_t τ f
table_t τ (or e f) = table_t τ e || table_t τ f
table_t τ (unsync x) = τ (unsync x)
table_t τ (cov x) = τ (cov x)

-- the truth of an assertion, where τ and α say which leaves are true
abbrev pub table : (Test → Bool) → (Assertion → Bool) → Assertion → Bool
table τ α (sees t i) = α (sees t i)
table τ α (both_a a b) = table τ α a && table τ α b
table τ α (either_a a b) = table τ α a || table τ α b
table τ α start = α start
table τ α (holds e) = table_t τ e

-- rule 20's leaves: assertions 24 and 27, tests 9 and 10
pub data Leaf : Type 0 where
  l_assertion : Assertion → Leaf
  l_test : Test → Leaf

-- two leaves are the same if their bytes are equal
unfoldable pub same_leaf : Leaf → Leaf → Bool
same_leaf (l_assertion a) (l_assertion b) = same a b
same_leaf (l_assertion a) (l_test f) = false
same_leaf (l_test e) (l_assertion b) = false
same_leaf (l_test e) (l_test f) = same e f

-- the leaves of a test, from the left
abbrev pub leaves_t : Test → List Leaf
leaves_t Formula.false = []
leaves_t (equal a b) = l_test (equal a b) ∷ []
leaves_t (less a b) = l_test (less a b) ∷ []
leaves_t (Formula.not e) = leaves_t e
leaves_t (and e f) = leaves_t e ++ leaves_t f
leaves_t (or e f) = leaves_t e ++ leaves_t f
leaves_t (unsync x) = l_test (unsync x) ∷ []
leaves_t (cov x) = l_test (cov x) ∷ []

-- the leaves of an assertion, from the left
abbrev pub leaves : Assertion → List Leaf
leaves (sees t i) = l_assertion (sees t i) ∷ []
leaves (both_a a b) = leaves a ++ leaves b
leaves (either_a a b) = leaves a ++ leaves b
leaves start = l_assertion start ∷ []
leaves (holds e) = leaves_t e

-- an implication: left and right
pub record Imp : Type 0 where
  pub left : Assertion
  pub right : Assertion

-- the leaves of all implications
abbrev pub leaves_all : List Imp → List Leaf
leaves_all [] = []
leaves_all (p ∷ ps) = (leaves p.left ++ leaves p.right) ++ leaves_all ps

-- the assertion is true at the row ν, which has 1 for true
abbrev pub in_row : (Leaf → ℕ) → Assertion → Bool
in_row ν a = table (λ e. eqb (ν (l_test e)) 1) (λ b. eqb (ν (l_assertion b)) 1) a

-- the implication is true at the row ν
abbrev pub imp_row : (Leaf → ℕ) → Imp → Bool
imp_row ν p = not (in_row ν p.left) || in_row ν p.right

-- "at most 10 distinct leaves (24, 9, 10, 27) in line and premises"; at each row at which every premise is true the conclusion is
abbrev pub entailed_by_table : List Imp → Imp → Bool
entailed_by_table ps c =
    leb (length (distinct same_leaf (leaves_all (c ∷ ps)))) Limits.leaves
    && every_row same_leaf (λ l. 2) (leaves_all (c ∷ ps)) (λ ν. not (all (imp_row ν) ps) || imp_row ν c)
