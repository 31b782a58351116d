-- The holes that a line's instruction fills before its templates are matched.
use Rattle.std.specs.Prelude.{[], ◌∷◌, ℕ, ◌+◌}
use Rattle.limits.specs.Limits.{nesting}
use Rattle.formula_match.specs.declared.bind.Bind.{Bind}

-- thread, word and register in the first three holes for numbers, each plus 1 (0: empty); the formula in the last hole for formulas
unfoldable pub preset_at : ℕ → ℕ → ℕ → ℕ → Bind
preset_at t x r f = record {
  at = 0 ∷ 0 ∷ 0 ∷ 0 ∷ f ∷ [];
  left = 0 ∷ 0 ∷ 0 ∷ 0 ∷ nesting ∷ [];
  num = (t + 1) ∷ (x + 1) ∷ (r + 1) ∷ 0 ∷ 0 ∷ [];
}
