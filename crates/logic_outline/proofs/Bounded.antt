-- Lines whose constants are values.
use mathlib.Core.Bool.{Bool, ◌&&◌}
use Prim.Native.Nat.{ℕ}
use Rattle.semantics.specs.Eval.{bounded}
use Rattle.logic.specs.Statement.{Statement}

-- the constants of its formulas are values
abbrev pub bounded_sides : ℕ → Statement → Bool
bounded_sides R (Statement.inside a b) = bounded R a && bounded R b
bounded_sides R (Statement.implies a b) = bounded R a && bounded R b
bounded_sides R (Statement.triple j m a b) = bounded R a && bounded R b
bounded_sides R (Statement.pair j m a b) = bounded R a && bounded R b
