-- A buffer compared with what it should hold after a call.
use Rattle.std.specs.Prelude.{ℕ, Bool, true, false, cond, ◌&&◌, List, [], ◌∷◌, drop, ◌==◌, nat_eq, slice_index_or}

-- the buffer holds `front`, and behind it x everywhere, where E says which values are the same
unfoldable pub holds_by : {A : Type 0} → (A → A → Bool) → List A → List A → A → Bool
holds_by E [] [] x = true
holds_by E [] (f ∷ front) x = false
holds_by E (r ∷ room) front x = E r (slice_index_or front 0 x) && holds_by E room (drop 1 front) x

-- the same of numbers
abbrev pub holds : List ℕ → List ℕ → ℕ → Bool
holds room front x = holds_by nat_eq room front x

-- the numbers written; with code 1 there are none
unfoldable pub written : {A : Type 0} → ℕ → List A → List A
written code numbers = cond (code == 1) [] numbers
