-- What an answer's points and registers tell: an assertion "made of 25, 26 and 28 alone" is evaluated from the registers.
use Rattle.std.specs.Prelude.{Bool, true, false, ◌&&◌, ◌||◌, ℕ}
use Rattle.semantics.specs.Formula.{Assertion, Formula.sees, Formula.both_a, Formula.either_a, Formula.start, Formula.holds}
use Rattle.semantics.specs.Eval.{test, on_regs}

-- the assertion is made of 25, 26 and 28 alone
abbrev pub of_regs : Assertion → Bool
of_regs (sees t i) = false
of_regs (both_a a b) = of_regs a && of_regs b
of_regs (either_a a b) = of_regs a && of_regs b
of_regs start = false
of_regs (holds e) = true

-- the truth of such an assertion at the registers g; R: the range. What registers do not tell is not taken for true
abbrev pub plain_true : ℕ → (ℕ → ℕ) → Assertion → Bool
plain_true R g (sees t i) = false
plain_true R g (both_a a b) = plain_true R g a && plain_true R g b
plain_true R g (either_a a b) = plain_true R g a || plain_true R g b
plain_true R g start = false
plain_true R g (holds e) = test R (on_regs g) e
