-- Substitution of values for registers and words, of any number of them at once, so that none feeds another.
use Rattle.std.specs.Prelude.{List, [], ◌∷◌, ℕ}
use Rattle.semantics.specs.Base.{upd}
use Rattle.semantics.specs.Formula.{Sort, Formula, Value, Formula.const, Formula.reg, Formula.word, Formula.sum, Formula.equal, Formula.less, Formula.and, Formula.or, Formula.unsync, Formula.cov, Formula.box, Formula.one, Formula.chop, Formula.both, Formula.either, Formula.sees, Formula.both_a, Formula.either_a, Formula.start, Formula.holds}

-- a substitution: what stands for each register and for each word's value
pub record Sub : Type 0 where
  pub reg : ℕ → Value
  pub word : ℕ → Value

-- the formula after the substitution; unsync, cov and one keep their word
abbrev pub replace : {s : Sort} → Sub → Formula s → Formula s
replace σ (const n) = const n
replace σ (reg r) = σ.reg r
replace σ (word x) = σ.word x
replace σ (sum a b) = sum (replace σ a) (replace σ b)
replace σ Formula.false = Formula.false
replace σ (equal a b) = equal (replace σ a) (replace σ b)
replace σ (less a b) = less (replace σ a) (replace σ b)
replace σ (Formula.not e) = Formula.not (replace σ e)
replace σ (and e f) = and (replace σ e) (replace σ f)
replace σ (or e f) = or (replace σ e) (replace σ f)
replace σ (unsync x) = unsync x
replace σ (cov x) = cov x
replace σ (box e) = box (replace σ e)
replace σ (one x) = one x
replace σ (chop i j) = chop (replace σ i) (replace σ j)
replace σ (both i j) = both (replace σ i) (replace σ j)
replace σ (either i j) = either (replace σ i) (replace σ j)
replace σ (sees t i) = sees t (replace σ i)
replace σ (both_a a b) = both_a (replace σ a) (replace σ b)
replace σ (either_a a b) = either_a (replace σ a) (replace σ b)
replace σ start = start
replace σ (holds e) = holds (replace σ e)

-- the substitution of f for the register r
abbrev pub reg_by : ℕ → Value → Sub
reg_by r f = record { reg = upd reg r f; word = word }

-- the "note" of a pair (Change 6), an auxiliary assignment: a register and the value that it is given
pub record Note : Type 0 where
  pub to : ℕ
  pub by : Value

-- what stands for each register after the notes, all at once: its value where it is given one, else itself
abbrev pub noted : List Note → ℕ → Value
noted [] = reg
noted (n ∷ l) = upd (noted l) n.to n.by

-- the substitution that a list of notes denotes
abbrev pub notes : List Note → Sub
notes l = record { reg = noted l; word = word }

-- the substitution of f for the value of the word x
abbrev pub word_by : ℕ → Value → Sub
word_by x f = record { reg = reg; word = upd word x f }
