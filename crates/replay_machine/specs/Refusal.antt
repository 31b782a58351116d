-- The code of a refused step: "27 thread absent, at its last point, or half a step; 28 pick not permitted; 29 no entry left for a write".
use Rattle.std.specs.Prelude.{ℕ, ◌+◌, Bool, false, not, cond, eqb, ltb, leb, Result, Ok, Err}
use Rattle.logic.specs.Opcode as Opcode
use Rattle.replay_memory.specs.Memory.{first}
use Rattle.replay_memory.specs.declared.memory.Memory.{Memory}
use Rattle.replay_machine.specs.Shared.{may_pick}
use Rattle.replay_machine.specs.declared.effect.Effect.{Effect}
use Rattle.replay_machine.specs.declared.pick.Refusal.{Refusal}
use Rattle.replay_machine.specs.declared.pick.Refusal.TheVariants.{Declined, Thread, Pick, Room, Unlike, OutOfRange, Unserved, Other}

-- the numbers that no named case has, in order: 1 to 23, 25, 26, 30, 31, 35 and so on
unfoldable pub unnamed : ℕ → ℕ
unnamed n = cond (ltb n 23) (n + 1) (cond (ltb n 25) (n + 2) (cond (ltb n 27) (n + 5) (n + 8)))

-- the number of a refusal
abbrev pub number : Refusal → ℕ
number Declined = 24
number Thread = 27
number Pick = 28
number Room = 29
number Unlike = 32
number OutOfRange = 33
number Unserved = 34
number (Other n) = unnamed n

-- the code of what is refused; 0 where nothing is
abbrev pub code_of : Result (Unit {0}) Refusal → ℕ
code_of (Ok x) = 0
code_of (Err e) = number e

-- how many writes the first n rows have
abbrev pub total : Memory → ℕ → ℕ
total m n = first m.sizes n

-- the operation adds a write
unfoldable pub adding : ℕ → Bool
adding op = cond (leb op Opcode.acquire) false (cond (eqb op Opcode.branch) false (not (eqb op Opcode.assign_two)))

-- why thread t may not take a step with effect d at position p: 28, 29, or 0 if it may
unfoldable pub pick_refusal : Memory → ℕ → ℕ → Effect → ℕ → ℕ → ℕ
pick_refusal m words room d t p = cond (may_pick m d t p) (cond (adding d.operation) (cond (ltb (total m words) room) 0 29) 0) 28
