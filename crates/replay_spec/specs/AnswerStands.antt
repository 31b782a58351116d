-- Which state of the machine an answer and a table of writes represent.
use Rattle.std.specs.Prelude.{◌≡◌, List, ℕ, suc, ◌+◌, ◌≤◌, ◌<◌, length, get_or}
use Rattle.semantics.specs.Machine.{State}
use Rattle.limits.specs.Numbers.{nth}
use Rattle.replay_memory.specs.Write.{start_write}
use Rattle.replay_memory.specs.MemoryStands.{SameWrite}
use Rattle.replay_memory.specs.declared.write.Write.{Write}
use Rattle.replay_spec.specs.MachineReplay.{used}
use Rattle.replay_machine.specs.declared.answer.Answer.{Answer}

-- the answer has the points and registers of the state, for a program with T threads and R registers; "0 for those not there"
pub record AnswerStands (T R : ℕ) (a : Answer) (s : State) : Type 0 where
  pub points : (t : ℕ) → t < 4 → get_or a.points t 0 ≡ s.point (suc t)
  pub registers : (r : ℕ) → nth a.registers r 0 ≡ s.reg r
  pub no-thread : (t : ℕ) → T ≤ t → t < 4 → get_or a.points t 0 ≡ 0
  pub no_register : (r : ℕ) → R < r → nth a.registers r 0 ≡ 0

-- l has the writes of the state "word by word in row order, views naming row positions, 0 for words not there":
-- position i of word k + 1 is after the rows of words 1 to k
pub record TableStands (words : ℕ) (l : List Write) (s : State) : Type 0 where
  pub many : length l ≡ used s words
  pub entry : (k i : ℕ) → k < words → i < s.size (suc k) → SameWrite (get_or l (used s k + i) (start_write 0)) (s.row (suc k) i)
  pub no_word : (k i y : ℕ) → k < words → i < s.size (suc k) → words ≤ y → y < 8
      → get_or (get_or l (used s k + i) (start_write 0)).stored.at y 0 ≡ 0
