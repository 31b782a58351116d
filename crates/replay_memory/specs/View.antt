-- Views as eight positions. Words count from 0 here.
use Rattle.std.specs.Prelude.{ℕ, ◌+◌, ◌%◌, max, cond, List, ltb, leb, get_or, set, replicate}
use Rattle.tables_columns.specs.Column.{column}
use Rattle.replay_memory.specs.declared.view.View.{View}

-- the view that names the first write of each word
abbrev pub start_view : View
start_view = record { at = replicate 8 0 }

-- the number after n; 255 stays
unfoldable pub next : ℕ → ℕ
next n = cond (ltb n 255) (n + 1) n

-- where the write at position i is after an insertion behind position p
unfoldable pub up : ℕ → ℕ → ℕ
up p i = cond (leb i p) i (next i)

-- the position that the view has for word k
unfoldable pub position_in : View → ℕ → ℕ
position_in v k = get_or v.at (k % 8) 0

-- the view with position p for word k
unfoldable pub with_position : View → ℕ → ℕ → View
with_position v k p = record { at = set v.at (k % 8) p }

-- the view after an insertion behind position p of word k: it keeps its write
unfoldable pub up_view : ℕ → ℕ → View → View
up_view k p v = with_position v k (up p (position_in v k))

-- the join of two views on the first n words: word by word the later
unfoldable pub joined_to : View → View → ℕ → List ℕ
joined_to v w n = column (λ i. max (get_or v.at i 0) (get_or w.at i 0)) n

-- the join of two views
unfoldable pub joined : View → View → View
joined v w = record { at = joined_to v w 8 }
