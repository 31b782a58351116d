-- The writes that a replay shows, as structs and as bytes.
use Rattle.std.specs.Prelude.{cond, List, [], ◌∷◌, ◌++◌, ℕ, zero, suc, ◌*◌, ◌/◌, ◌%◌, ltb, length, get_or, set, take, drop}
use Rattle.tables_columns.specs.Column.{column}
use Rattle.replay_memory.specs.Write.{no_write}
use Rattle.replay_memory.specs.WriteTable.{bit}
use Rattle.replay_memory.specs.declared.write.Write.{Write}
use Rattle.replay_memory.specs.declared.memory.Memory.{Memory}
use Rattle.replay_machine.specs.ShownTable.{entries, packed}
use Rattle.replay_machine.specs.Replayed.{Replayed, room_of}
use Rattle.replay_machine.specs.Answer.{size, answer_of}
use Rattle.replay_machine.specs.declared.output.Shown.{Shown}

-- the writes of the first words, word by word in modification order, as far as a table of `lent` entries has room
unfoldable pub shown_in : Memory → ℕ → ℕ → List Write
shown_in m words lent = take (room_of lent) (entries m words)

-- the writes that go to a table of `lent` entries: none where it stays as it is
unfoldable pub shown_of : Replayed → ℕ → List Write
shown_of r lent = cond r.held (shown_in r.machine.memory r.words lent) []

-- the answer, how many writes the table is given, and the first 64 writes
unfoldable pub shown_by : Replayed → ℕ → Shown
shown_by r lent = record { answer = answer_of r; count = length (shown_of r lent); writes = (packed r.machine.memory r.words).writes }

-- AS STRUCTS

-- the write of entry e
unfoldable pub write_in : Shown → ℕ → Write
write_in s e = get_or s.writes (e % 64) no_write

-- the table with the first n writes put in, one after another
unfoldable pub put_to : Shown → ℕ → List Write → List Write
put_to s zero table = table
put_to s (suc n) table = set (put_to s n table) n (write_in s n)

-- the table afterwards: the writes in front; the entries after them stay
unfoldable pub placed : List Write → List Write → List Write
placed l table = l ++ drop (length l) table

-- AS BYTES

-- an entry: eleven bytes, value, releasing, covered, a position for each of eight words
unfoldable pub entry_bytes : Write → List ℕ
entry_bytes w = w.value ∷ bit w.releasing ∷ bit w.covered ∷ column (λ k. get_or w.stored.at k 0) 8

-- the entries of all writes
unfoldable pub table_bytes : List Write → List ℕ
table_bytes [] = []
table_bytes (w ∷ l) = entry_bytes w ++ table_bytes l

-- how many whole entries the table has
abbrev pub entries_in : List ℕ → ℕ
entries_in table = length table / 11

-- the table afterwards: the writes in front; the entries and bytes after them stay
unfoldable pub laid : List Write → List ℕ → List ℕ
laid l table = table_bytes l ++ drop (length l * 11) table

-- the table afterwards; it stays as it is where `room` is too short for the answer's numbers
unfoldable pub table_for : List Write → List ℕ → List ℕ → List ℕ
table_for l room table = cond (ltb (length room) size) table (laid l table)
