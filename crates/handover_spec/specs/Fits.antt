-- Which tables fit two images: entry by entry, as the code tests them, and by what the images say.
use Rattle.std.specs.Prelude.{Bool, ◌&&◌, List, ℕ, suc, ◌+◌, ◌*◌, eqb, leb, ltb, length}
use Rattle.limits.specs.Numbers.{within}
use Rattle.logic_outline.specs.Verdict.{Image}
use Rattle.handover_spec.specs.Table.{entry_size, point_named, line_named, points_to, new_point, new_line, each}

-- entry i names a point up to `last` and a line from 1 to `lines`
unfoldable pub entry_fits : List ℕ → ℕ → ℕ → ℕ → Bool
entry_fits table last lines i = leb (point_named table i) last && within 1 lines (line_named table i)

-- entries from .. from + n - 1 all name a point up to `last` and a line from 1 to `lines`
unfoldable pub entries_fit : List ℕ → ℕ → ℕ → ℕ → ℕ → Bool
entries_fit table last lines from n = each n (λ k. entry_fits table last lines (from + k))

-- D and E are what the old and the new image say
module _ (D E : Image) (table : List ℕ) where
  -- the entry for point k of thread t names an existing point of the same thread and an existing line; line 0 is none
  abbrev pub in_range : ℕ → ℕ → Bool
  in_range t k = ltb (new_point D.program table t k) (E.program.points t) && within 1 E.certificate.count
      (new_line D.program table t k)

  -- the entries of thread t are in range
  unfoldable pub thread_fits : ℕ → Bool
  thread_fits t = each (D.program.points t) (λ k. in_range t k)

  -- the entries of threads 1 to n are in range
  unfoldable pub threads_fit : ℕ → Bool
  threads_fit n = each n (λ t. thread_fits (suc t))

  -- an entry for each old point and nothing else, each in range
  unfoldable pub table_fits : Bool
  table_fits = eqb (length table) (entry_size * points_to D.program D.program.threads) && threads_fit D.program.threads
