-- Which state of the logic the numbers of a memory represent. Words and threads count from 0 in the memory, from 1 in the state.
use Rattle.std.specs.Prelude.{◌≡◌, ℕ, suc, ◌≤◌, ◌<◌, length, get_or}
use Rattle.semantics.specs.Machine as Logic
use Rattle.semantics.specs.Machine.{State}
use Rattle.replay_memory.specs.Memory.{first, write_at, size_at, view_of}
use Rattle.replay_memory.specs.declared.view.View.{View}
use Rattle.replay_memory.specs.declared.write.Write.{Write}
use Rattle.replay_memory.specs.declared.memory.Memory.{Memory}

-- a view of the code represents a view of the logic
pub record SameView (v : View) (w : Logic.View) : Type 0 where
  pub eight : length v.at ≡ 8
  pub same : (k : ℕ) → k < 8 → get_or v.at k 0 ≡ w (suc k)

-- a write of the code represents a write of the logic
pub record SameWrite (a : Write) (b : Logic.Write) : Type 0 where
  pub value : a.value ≡ b.value
  pub releasing : a.releasing ≡ b.releasing
  pub covered : a.covered ≡ b.covered
  pub stored : SameView a.stored b.stored

-- the memory represents that of the state, and its views. All rows have at most 72 writes
-- together; of the places after them nothing is said
pub record Stands (m : Memory) (s : State) : Type 0 where
  pub rows : length m.sizes ≡ 8
  pub places : length m.writes ≡ 72
  pub threads : length m.views ≡ 4
  pub size : (k : ℕ) → k < 8 → size_at m k ≡ s.size (suc k)
  pub few : first m.sizes 8 ≤ 72
  pub writes : (k p : ℕ) → k < 8 → p < s.size (suc k) → SameWrite (write_at m k p) (s.row (suc k) p)
  pub views : (t : ℕ) → t < 4 → SameView (view_of m t) (s.view (suc t))

-- views name writes that are there
pub record Named (s : State) : Type 0 where
  pub views : (t y : ℕ) → s.view t y < s.size y
  pub stored : (x i y : ℕ) → i < s.size x → (s.row x i).stored y < s.size y
