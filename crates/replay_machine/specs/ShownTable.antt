-- The writes word by word, in modification order.
use Rattle.std.specs.Prelude.{ℕ, List, get_or}
use Rattle.tables_columns.specs.Column.{column}
use Rattle.replay_memory.specs.Write.{no_write, start_write}
use Rattle.replay_memory.specs.declared.write.Write.{Write}
use Rattle.replay_memory.specs.declared.memory.Memory.{Memory}
use Rattle.replay_machine.specs.Refusal.{total}
use Rattle.replay_machine.specs.declared.shown_table.Packed.{Packed}

-- the writes of the first words
unfoldable pub entries : Memory → ℕ → List Write
entries m words = column (λ e. get_or m.writes e no_write) (total m words)

-- the first n entries; after the last write there are start writes of 0
unfoldable pub packed_to : Memory → ℕ → ℕ → List Write
packed_to m words n = column (λ e. get_or (entries m words) e (start_write 0)) n

-- the first 64 entries
unfoldable pub packed : Memory → ℕ → Packed
packed m words = record { writes = packed_to m words 64 }
