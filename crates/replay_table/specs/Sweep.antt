-- Insertion of a write into a table of writes, by one sweep of its entries.
use Rattle.std.specs.Prelude.{ℕ, zero, suc, ◌+◌, false, cond, List, eqb, ltb, length, get_or, set}
use Rattle.replay_memory.specs.Write.{no_write, start_write, up_write, covered_write}
use Rattle.replay_memory.specs.declared.write.Write.{Write}
use Rattle.replay_table.specs.declared.order.Order.{Order}
use Rattle.replay_table.specs.declared.order.Turn.{Turn}

-- nothing is to be inserted
abbrev pub no_order : Order
no_order = record { count = 0; at = 0; word = 0; behind = 0; covers = false; write = start_write 0 }

-- the start write of word k, in entry k; no view names a position behind 255, so all views stay
abbrev pub start_order : ℕ → ℕ → Order
start_order k v = record { count = k + 1; at = k; word = k; behind = 255; covers = false; write = start_write v }

-- the write of entry e before the insertion: covered if that is ordered and the new write goes directly behind it
unfoldable pub cover_at : Order → ℕ → Write → Write
cover_at o e w = cond o.covers (cond (eqb o.at (suc e)) (covered_write w) w) w

-- the turn of entry e, which has `old`: before the place it keeps its write, from it on it takes the carried one
unfoldable pub turn_of : Order → ℕ → Write → Write → Turn
turn_of o e carried old =
    cond (ltb e o.at)
    (record { put = up_write o.word o.behind (cover_at o e old); next = carried })
    (record { put = carried; next = up_write o.word o.behind old })

-- how many of n entries are visited: those in use afterwards
unfoldable pub visits : Order → ℕ → ℕ
visits o n = cond (ltb o.count n) o.count n

-- the table and the write carried on, after the turn of entry e
abbrev pub sweep_at : Order → ℕ → List Write × Write → List Write × Write
sweep_at o e s =
    (set s.0 e (turn_of o e s.1 (get_or s.0 e no_write)).put, (turn_of o e s.1 (get_or s.0 e no_write)).next)

-- the table and the write carried on, after the first n entries
unfoldable pub sweep_to : Order → ℕ → List Write → List Write × Write
sweep_to o zero l = (l, o.write)
sweep_to o (suc n) l = sweep_at o n (sweep_to o n l)

-- the table after the sweep
unfoldable pub swept_of : Order → List Write → List Write
swept_of o l = (sweep_to o (visits o (length l)) l).0
