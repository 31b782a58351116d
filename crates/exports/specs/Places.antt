-- Positions of implications in bytes: left and right of the line, then of each premise, 16 bits each, little-endian. Past the end they
-- are 0.
use Rattle.std.specs.Prelude.{ℕ, ◌+◌, ◌/◌, List, [], ◌∷◌, cond, length, drop, ltb}
use Rattle.limits.specs.Numbers.{le16}
use Rattle.tables_rows.specs.declared.by_rows.Implications.{Implications}
use Rattle.tables_rows.specs.declared.entailment.Implication.{Implication}

-- the number of pairs in n bytes: a pair has four, a part of one does not count, nor does a sixth pair
unfoldable pub pairs_in : ℕ → ℕ
pairs_in n = cond (ltb (n / 4) 5) (n / 4) 5

-- the implication between the formulas whose positions are the pair at a position
unfoldable pub implication_at : ℕ → List ℕ → Implication
implication_at at p = record { left = le16 (drop at p); right = le16 (drop (at + 2) p) }

-- the implications at these positions
unfoldable pub implications_in : List ℕ → Implications
implications_in p = record {
  count = pairs_in (length p);
  pairs = implication_at 0 p ∷ implication_at 4 p ∷ implication_at 8 p ∷ implication_at 12 p ∷ implication_at 16 p ∷ [];
}
