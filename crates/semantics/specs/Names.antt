-- The names that occur in a formula, each in its role, and tests on them: what the side conditions of rules are made of.
use Rattle.std.specs.Prelude.{Bool, true, false, not, ◌&&◌, List, [], ◌∷◌, ◌++◌, ℕ, eqb}
use Rattle.semantics.specs.Base.{all}
use Rattle.semantics.specs.Formula.{Sort, Formula, Assertion, Formula.const, Formula.reg, Formula.word, Formula.sum, Formula.equal, Formula.less, Formula.and, Formula.or, Formula.unsync, Formula.cov, Formula.box, Formula.one, Formula.chop, Formula.both, Formula.either, Formula.sees, Formula.both_a, Formula.either_a, Formula.start, Formula.holds}

-- a register; a word's value; the two flags of a word, unsync and cov
pub data Name : Type 0 where
  n_reg n_word n_unsync n_cov : ℕ → Name
  deriving Discrete as Name-discrete

-- the names in a formula, from the left; `one x` names the word x
abbrev pub names : {s : Sort} → Formula s → List Name
names (const n) = []
names (reg r) = n_reg r ∷ []
names (word x) = n_word x ∷ []
names (sum a b) = names a ++ names b
names Formula.false = []
names (equal a b) = names a ++ names b
names (less a b) = names a ++ names b
names (Formula.not e) = names e
names (and e f) = names e ++ names f
names (or e f) = names e ++ names f
names (unsync x) = n_unsync x ∷ []
names (cov x) = n_cov x ∷ []
names (box e) = names e
names (one x) = n_word x ∷ []
names (chop i j) = names i ++ names j
names (both i j) = names i ++ names j
names (either i j) = names i ++ names j
names (sees t i) = names i
names (both_a a b) = names a ++ names b
names (either_a a b) = names a ++ names b
names start = []
names (holds e) = names e

-- every name in the formula passes the test
abbrev pub only : {s : Sort} → (Name → Bool) → Formula s → Bool
only ok f = all ok (names f)

-- the name is not the word x, in any role
abbrev pub not_word : ℕ → Name → Bool
not_word x (n_reg r) = true
not_word x (n_word y) = not (eqb y x)
not_word x (n_unsync y) = not (eqb y x)
not_word x (n_cov y) = not (eqb y x)

-- the name is neither flag of x
abbrev pub not_flag : ℕ → Name → Bool
not_flag x (n_reg r) = true
not_flag x (n_word y) = true
not_flag x (n_unsync y) = not (eqb y x)
not_flag x (n_cov y) = not (eqb y x)

-- a register passes if `ok` says so, a word in any role always
abbrev pub regs_in : (ℕ → Bool) → Name → Bool
regs_in ok (n_reg r) = ok r
regs_in ok (n_word y) = true
regs_in ok (n_unsync y) = true
regs_in ok (n_cov y) = true

-- the name is not the register r
abbrev pub not_reg : ℕ → Name → Bool
not_reg r = regs_in (λ q. not (eqb q r))

-- the name is a register: what a formula "without 2, 14, 15" has
abbrev pub is_reg : Name → Bool
is_reg (n_reg r) = true
is_reg (n_word y) = false
is_reg (n_unsync y) = false
is_reg (n_cov y) = false

-- `start` occurs nowhere in the assertion
abbrev pub startless : Assertion → Bool
startless (sees t i) = true
startless (both_a a b) = startless a && startless b
startless (either_a a b) = startless a && startless b
startless start = false
startless (holds e) = true

-- each test under `holds` names registers alone
abbrev pub plain : Assertion → Bool
plain (sees t i) = true
plain (both_a a b) = plain a && plain b
plain (either_a a b) = plain a && plain b
plain start = true
plain (holds e) = only is_reg e
