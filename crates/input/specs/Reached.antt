-- What one read has led to.
use Rattle.std.specs.Prelude.{◌≡◌, cond, ℕ, ◌+◌, ◌≤◌, ◌<◌, eqb, Option, Some, None, Result, Ok, Err}
use Rattle.std.specs.declared.io.Error.{Error}

-- the read brought `more` bytes, behind `done` bytes that were there before it; none at the input's end
unfoldable pub reached_by : Result ℕ Error → ℕ → Result (Option ℕ) Error
reached_by (Ok more) done = cond (eqb more 0) (Ok None) (Ok (Some (done + more)))
reached_by (Err e) done = Err e

-- `done` bytes in a buffer of `room` bytes become more within it, unless the input ends or the read fails
unfoldable pub Goes : Result (Option ℕ) Error → ℕ → ℕ → Type 0
Goes (Ok (Some end)) done room = (done < end) × (end ≤ room)
Goes (Ok None) done room = Unit {0}
Goes (Err e) done room = Unit {0}
