-- The codes of refused handovers.
use Rattle.std.specs.Prelude.{ℕ, Result, Ok, Err}
use Rattle.handover_spec.specs.declared.refusal.Refusal.{Refusal}
use Rattle.handover_spec.specs.declared.refusal.Refusal.TheVariants.{Unlike, OutOfRange, Unserved}

-- the number of a refusal
abbrev pub number : Refusal → ℕ
number Unlike = 32
number OutOfRange = 33
number Unserved = 34

-- the code of a handover; 0 where it is permitted
abbrev pub code_told : Result (Unit {0}) Refusal → ℕ
code_told (Ok x) = 0
code_told (Err e) = number e
