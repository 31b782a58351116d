-- "Values and tests are read plainly, registers from the state, words from the view": here over any environment for the names.
use Rattle.std.specs.Prelude.{Bool, true, false, not, ◌&&◌, ◌||◌, ℕ, ◌+◌, ◌%◌, eqb, ltb}
use Rattle.semantics.specs.Formula.{Sort, Formula, Value, Test, Formula.const, Formula.reg, Formula.word, Formula.sum, Formula.equal, Formula.less, Formula.and, Formula.or, Formula.unsync, Formula.cov, Formula.box, Formula.one, Formula.chop, Formula.both, Formula.either, Formula.sees, Formula.both_a, Formula.either_a, Formula.start, Formula.holds}

-- an environment: the value of each register and word, the truth of unsync and cov for each word
pub record Env : Type 0 where
  pub reg : ℕ → ℕ
  pub word : ℕ → ℕ
  pub unsync : ℕ → Bool
  pub cov : ℕ → Bool

-- the environment of registers alone, over which `holds` and the formulas of instructions are read
abbrev pub on_regs : (ℕ → ℕ) → Env
on_regs g = record { reg = g; word = λ x. 0; unsync = λ x. false; cov = λ x. false }

-- R: how many values there are, the range of the program
module _ (R : ℕ) where
  -- the value of a formula; sums are modulo R
  abbrev pub value : Env → Value → ℕ
  value ρ (const n) = n
  value ρ (reg r) = ρ.reg r
  value ρ (word x) = ρ.word x
  value ρ (sum a b) = (value ρ a + value ρ b) % R

  -- whether a test is true
  abbrev pub test : Env → Test → Bool
  test ρ Formula.false = false
  test ρ (equal a b) = eqb (value ρ a) (value ρ b)
  test ρ (less a b) = ltb (value ρ a) (value ρ b)
  test ρ (Formula.not e) = not (test ρ e)
  test ρ (and e f) = test ρ e && test ρ f
  test ρ (or e f) = test ρ e || test ρ f
  test ρ (unsync x) = ρ.unsync x
  test ρ (cov x) = ρ.cov x

  -- every constant in the formula is below R
  abbrev pub bounded : {s : Sort} → Formula s → Bool
  bounded (const n) = ltb n R
  bounded (reg r) = true
  bounded (word x) = true
  bounded (sum a b) = bounded a && bounded b
  bounded Formula.false = true
  bounded (equal a b) = bounded a && bounded b
  bounded (less a b) = bounded a && bounded b
  bounded (Formula.not e) = bounded e
  bounded (and e f) = bounded e && bounded f
  bounded (or e f) = bounded e && bounded f
  bounded (unsync x) = true
  bounded (cov x) = true
  bounded (box e) = bounded e
  bounded (one x) = true
  bounded (chop i j) = bounded i && bounded j
  bounded (both i j) = bounded i && bounded j
  bounded (either i j) = bounded i && bounded j
  bounded (sees t i) = bounded i
  bounded (both_a a b) = bounded a && bounded b
  bounded (either_a a b) = bounded a && bounded b
  bounded start = true
  bounded (holds e) = bounded e
