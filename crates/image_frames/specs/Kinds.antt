-- The kinds of records, in the order in which an image has them, and how many records there may be of each.
use Rattle.std.specs.Prelude.{cond, [], ◌∷◌, ℕ, ◌+◌, eqb, ltb, get_or}
use Rattle.limits.specs.Limits as Limits

abbrev pub header : ℕ
header = 1

abbrev pub formula : ℕ
formula = 2

abbrev pub thread : ℕ
thread = 3

abbrev pub outline : ℕ
outline = 4

abbrev pub line : ℕ
line = 5

abbrev pub obligations : ℕ
obligations = 6

-- "claim records of kind 8 after the obligations"; kind 7 is the verdict's
abbrev pub claim : ℕ
claim = 8

-- the place of claims in the order, which is the last one
abbrev pub last : ℕ
last = 7

-- the place of a kind in the order: its number up to 6, the last place for a claim, one past the last for any other
unfoldable pub order : ℕ → ℕ
order k = cond (eqb k claim) last (cond (ltb obligations k) (last + 1) k)

-- the greatest number of records at each place; place 0 is no kind's
unfoldable pub most : ℕ → ℕ
most k = get_or (0 ∷ 1 ∷ Limits.formulas ∷ Limits.threads ∷ 1 ∷ Limits.lines ∷ 1 ∷ Limits.claims ∷ []) k 0
