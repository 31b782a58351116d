-- How a buffer was filled.
use Rattle.std.specs.Prelude.{List, ℕ, ◌<◌, length, Result, Ok, Err}
use Rattle.std.specs.Counts.{IsPrefixLen}
use Rattle.std.specs.declared.io.Error.{Error}
use Rattle.input.specs.declared.Filled.{Filled}
use Rattle.input.specs.declared.Filled.TheVariants.{Full, Ended}

-- the bytes before the input's end are counted from the buffer's start, and do not fill it
unfoldable pub Fits : Result Filled Error → List ℕ → Type 0
Fits (Ok Full) l = Unit {0}
Fits (Ok (Ended n)) l = (n < length l) × IsPrefixLen n l
Fits (Err e) l = Unit {0}
