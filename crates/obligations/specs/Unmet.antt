-- Why an obligation is not met, and the codes of a verdict for it.
use Rattle.std.specs.Prelude.{cond, ℕ, eqb}
use Rattle.obligations.specs.declared.concludes.Unmet.{Unmet}
use Rattle.obligations.specs.declared.concludes.Unmet.TheVariants.{NoLine, SaysElse, Unjustified}

-- "20 no line; 21 line concludes something else; 22 line unjustified"
abbrev pub code_number : Unmet → ℕ
code_number NoLine = 20
code_number SaysElse = 21
code_number Unjustified = 22

-- what a code stands for
abbrev pub unmet_by : ℕ → Unmet
unmet_by e = cond (eqb e 20) NoLine (cond (eqb e 21) SaysElse Unjustified)
