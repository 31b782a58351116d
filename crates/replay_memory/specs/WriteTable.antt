-- The table of writes, one for each of 72 places.
use Rattle.std.specs.Prelude.{ℕ, Bool, cond, List, get_or}
use Rattle.semantics.specs.Machine.{down}
use Rattle.tables_columns.specs.Column.{column}
use Rattle.replay_memory.specs.Write.{no_write, up_write}
use Rattle.replay_memory.specs.declared.write.Write.{Write}

-- a mark as a byte: 1 if it is set
abbrev pub bit : Bool → ℕ
bit b = cond b 1 0

-- the writes after an insertion behind position p of word k: every stored view keeps its write
unfoldable pub raised_all : List Write → ℕ → ℕ → List Write
raised_all l k p = column (λ j. up_write k p (get_or l j no_write)) 72

-- the writes with those after place q moved up by one; the last is dropped
unfoldable pub moved_up : List Write → ℕ → List Write
moved_up l q = column (λ j. get_or l (down q j) no_write) 72
