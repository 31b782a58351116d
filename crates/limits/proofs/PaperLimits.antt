-- The limits of the papers, each with its number there: one table, one theorem.
use mathlib.Core.Path.{◌≡◌, refl}
use mathlib.Core.Bool.{Bool}
use mathlib.Core.List.{List, [], ◌∷◌}
use Prim.Native.Nat.{ℕ}
use lib.Dec.{T, eqb}
use lib.ListN.{length}
use Rattle.semantics.specs.Base.{all}
use Rattle.semantics.specs.Limits as Logic
use Rattle.limits.specs.Limits as Limits

-- a limit as defined, and as the papers have it
pub record Row : Type 0 where
  pub defined : ℕ
  pub stated : ℕ

abbrev row : ℕ → ℕ → Row
row m n = record { defined = m; stated = n }

abbrev agree : Row → Bool
agree r = eqb r.defined r.stated

-- "2 to 16 values"; "four threads"; "words 1 to 8"; "registers 0 to 16"; "up to 16 points each"; "Formula, 1 to 500"; "1 to 255 bytes";
-- "nesting at most 16"; "Lines go to 4,000"; claims "none to 16"; "premise count 0 to 4"; rule 20, "0 to 4 implications as premises";
-- "262,144 bytes for the library"; "the program still refuses above 65,535"; "at most 4,096 rows"; "at most 10 distinct leaves"; and the
-- most records: 3 + 500 + 4 + 4,000 + 16
abbrev table : List Row
table =
    row Limits.fewest_values 2
    ∷ row Limits.most_values 16
    ∷ row Limits.threads 4
    ∷ row Limits.words 8
    ∷ row Limits.registers 16
    ∷ row Limits.points 16
    ∷ row Limits.formulas 500
    ∷ row Limits.formula_bytes 255
    ∷ row Limits.nesting 16
    ∷ row Limits.lines 4000
    ∷ row Limits.claims 16
    ∷ row Limits.premises 4
    ∷ row Logic.premises 4
    ∷ row Limits.image_bytes 262144
    ∷ row Limits.program_bytes 65535
    ∷ row Logic.rows 4096
    ∷ row Logic.leaves 10
    ∷ row Limits.records 4523
    ∷ []

-- each limit is the papers'
pub limits_stated : T (all agree table)
limits_stated = tt

-- none is left out: sixteen bounds of images, the bound of rule 20's premises, and the number of records
limits_counted : length table ≡ 18
limits_counted = refl
