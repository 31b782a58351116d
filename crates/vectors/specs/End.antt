-- Where the cases of a file end.
use Rattle.std.specs.Prelude.{ℕ, Result, Ok, Err, Option, Some, None, cond, ◌==◌}
use Rattle.input.specs.declared.Filled.{Filled}
use Rattle.input.specs.declared.Filled.TheVariants.{Full, Ended}
use Rattle.vectors.specs.declared.counters.Counters.{Counters}
use Rattle.vectors.specs.declared.end.Fault.{Fault}
use Rattle.vectors.specs.declared.end.Fault.TheVariants.{Cut}
use Rattle.vectors.specs.declared.end.Stop.{Stop}

-- a file that ends n bytes into a case
unfoldable pub end_after : ℕ → Result (Unit {0}) Fault
end_after n = cond (n == 0) (Ok tt) (Err Cut)

-- a part of a case that has begun, by how it was filled
unfoldable pub part_read : Filled → Result (Unit {0}) Fault
part_read Full = Ok tt
part_read (Ended k) = Err Cut

-- the counters of a file that has cases, all of which are judged
unfoldable pub passed : Result Counters Stop → Option Counters
passed (Ok t) = cond (t.cases == 0) None (Some t)
passed (Err s) = None
