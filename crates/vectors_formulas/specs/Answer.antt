-- Results of the formula reader, compared with the stored ones.
use Rattle.std.specs.Prelude.{Bool, ◌&&◌, ℕ, Result, Ok, Err, eqb}
use Rattle.formula.specs.Reader.{number_of}
use Rattle.formula.specs.declared.reader.Fault.{Fault}

-- a reading with the number of its fault
abbrev pub numbered : Result ℕ Fault → Result ℕ ℕ
numbered (Ok sort) = Ok sort
numbered (Err f) = Err (number_of f)

-- the number by which a reading is counted
unfoldable pub kind_of : Result ℕ ℕ → ℕ
kind_of (Ok sort) = sort
kind_of (Err f) = f

-- the reading is the stored one: `result` is 0 or the fault, and `sort` is 0 where the formula is refused
unfoldable pub is_answer : Result ℕ ℕ → ℕ → ℕ → Bool
is_answer (Ok found) result sort = eqb result 0 && eqb found sort
is_answer (Err f) result sort = eqb sort 0 && eqb f result
