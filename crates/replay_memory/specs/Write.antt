-- Writes as the code has them.
use Rattle.std.specs.Prelude.{ℕ, true, false, []}
use Rattle.replay_memory.specs.View.{start_view, up_view}
use Rattle.replay_memory.specs.declared.view.View.{View}
use Rattle.replay_memory.specs.declared.write.Write.{Write}

-- the view that is given where a list has none
abbrev pub no_view : View
no_view = record { at = [] }

-- the write that is given where a list has none
abbrev pub no_write : Write
no_write = record { value = 0; releasing = false; covered = false; stored = no_view }

-- the write with which a row starts
abbrev pub start_write : ℕ → Write
start_write n = record { value = n; releasing = false; covered = false; stored = start_view }

-- the write after an insertion behind position p of word k: its stored view keeps its writes
unfoldable pub up_write : ℕ → ℕ → Write → Write
up_write k p w = record { value = w.value; releasing = w.releasing; covered = w.covered; stored = up_view k p w.stored }

-- the write with its covered mark set
unfoldable pub covered_write : Write → Write
covered_write w = record { value = w.value; releasing = w.releasing; covered = true; stored = w.stored }
