-- Rows that advance like digits. A row, "a value for each name" and flag, is what the field calls a valuation.
use Rattle.std.specs.Prelude.{ℕ, zero, suc, ◌*◌, ◌≤◌, ◌<◌, ◌≡◌, List, [], ◌∷◌, cond, length, get_or, ltb}

-- the row after a row, by the last value of each digit: the first digit that is not at its last value goes up by one, those before it go
-- back to 0
unfoldable pub advance : List ℕ → List ℕ → List ℕ
advance [] r = r
advance (m ∷ ms) [] = []
advance (m ∷ ms) (d ∷ r) = cond (ltb d m) (suc d ∷ r) (0 ∷ advance ms r)

-- n rows from the row r on, each the one after the last
unfoldable pub rows_from : List ℕ → ℕ → List ℕ → List (List ℕ)
rows_from ms zero r = []
rows_from ms (suc n) r = r ∷ rows_from ms n (advance ms r)

-- the row that comes i rows after the row r
unfoldable pub after : List ℕ → ℕ → List ℕ → List ℕ
after ms zero r = r
after ms (suc i) r = after ms i (advance ms r)

-- the number of rows: the product of the choices
unfoldable pub rows_of : List ℕ → ℕ
rows_of [] = 1
rows_of (m ∷ ms) = suc m * rows_of ms

-- a row that is a choice for each digit
abbrev pub Choice : List ℕ → List ℕ → Type 0
Choice [] [] = Unit {0}
Choice [] (d ∷ r) = ⊥
Choice (m ∷ ms) [] = ⊥
Choice (m ∷ ms) (d ∷ r) = (d ≤ m) × Choice ms r

-- "every row is tried exactly once and no other"
pub record EveryOnce (ms : List ℕ) (l : List (List ℕ)) : Type 0 where
  pub choices : (i : ℕ) → i < length l → Choice ms (get_or l i [])
  pub tried : (r : List ℕ) → Choice ms r → (i : ℕ) × (i < length l) × (get_or l i [] ≡ r)
  pub once : (i j : ℕ) → i < length l → j < length l → get_or l i [] ≡ get_or l j [] → i ≡ j
