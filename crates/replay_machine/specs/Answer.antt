-- The answer of a replay, and the same as numbers.
use Rattle.std.specs.Prelude.{cond, List, ◌∷◌, ◌++◌, ℕ, ltb, length, get_or, drop}
use Rattle.tables_columns.specs.Column.{column}
use Rattle.replay_machine.specs.Replayed.{Replayed}
use Rattle.replay_machine.specs.declared.answer.Answer.{Answer}

-- how many numbers the answer has, besides the code
abbrev pub size : ℕ
size = 21

-- the answer of a replay
unfoldable pub answer_of : Replayed → Answer
answer_of r = record { code = r.code; steps = r.steps; points = r.machine.points; registers = r.machine.registers.at }

-- the steps, the points of threads 1 to 4, registers 1 to 16
unfoldable pub numbers_of : Answer → List ℕ
numbers_of a = a.steps ∷ column (λ t. get_or a.points t 0) 4 ++ column (λ r. get_or a.registers r 0) 16

-- the code returned: 1 where `room` is too short for the numbers, else the answer's own
unfoldable pub code_for : Answer → List ℕ → ℕ
code_for a room = cond (ltb (length room) size) 1 a.code

-- `room` afterwards: the numbers, and after them what was there; where it is too short it stays as it is
unfoldable pub numbers_for : Answer → List ℕ → List ℕ
numbers_for a room = cond (ltb (length room) size) room (numbers_of a ++ drop size room)
