-- The bytes of a place read by hand: a mark is set where its byte is 1, and not where it is 2.
use mathlib.Core.Path.{◌≡◌, refl}
use mathlib.Core.Bool.{true, false}
use mathlib.Core.List.{List, [], ◌∷◌, ◌++◌}
use Prim.Native.Nat.{ℕ}
use lib.ListN.{replicate}
use Rattle.tables_columns.specs.Column.{column}
use Rattle.replay_memory.specs.Bytes.{view_at, read_at}

-- behind place 0 the value 7, releasing 1, covered 2, and positions 3 to 10
abbrev two_places : List ℕ
two_places = replicate 11 0 ++ 7 ∷ 1 ∷ 2 ∷ 3 ∷ 4 ∷ 5 ∷ 6 ∷ 7 ∷ 8 ∷ 9 ∷ 10 ∷ []

read_worked : read_at two_places 1 ≡ record {
  value = 7;
  releasing = true;
  covered = false;
  stored = record { at = 3 ∷ 4 ∷ 5 ∷ 6 ∷ 7 ∷ 8 ∷ 9 ∷ 10 ∷ [] };
}
unfolding read_at view_at column
read_worked = refl
