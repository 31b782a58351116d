-- Before the templates are read, the holes hold the line's thread and its instruction's word, register and formula.
use mathlib.Core.Bool.{cond}
use mathlib.Core.Path.{◌≡◌, refl, ap, fun_ext}
use mathlib.Core.List.{List, [], ◌∷◌}
use mathlib.Core.Option.{none, some}
use Prim.Native.Nat.{ℕ, zero, suc, ◌+◌, ◌-◌}
use native.Mathlib.Omega.{arith}
use lib.ListN.{get_or}
use lib.Dec.{eqb}
use borrow.Author.Tests.{ne_eqb}
use Rattle.limits.specs.Limits.{nesting}
use Rattle.formula.specs.Tree.{parse_tree}
use Rattle.formula_compare.specs.Replace.{NoteT}
use Rattle.formula_match.specs.MatchPlaces.{taken_of}
use Rattle.formula_match.proofs.TreesAgree.{Sized}
use Rattle.formula_trees.specs.StatementTree.{Acting}
use Rattle.rules_table.specs.FitTree.{preset}
use Rattle.rules_line.specs.Preset.{preset_at}

pub preset_is : (t x r f : ℕ) → record {
  at = 0 ∷ 0 ∷ 0 ∷ 0 ∷ f ∷ [];
  left = 0 ∷ 0 ∷ 0 ∷ 0 ∷ nesting ∷ [];
  num = (t + 1) ∷ (x + 1) ∷ (r + 1) ∷ 0 ∷ 0 ∷ [];
} ≡ preset_at t x r f
unfolding preset_at
preset_is t x r f = refl

pub preset_sized : (t x r f : ℕ) → Sized (preset_at t x r f)
unfolding preset_at
preset_sized t x r f = record { at = refl; left = refl; num = refl }

module _ (s : List ℕ) (t op w x r f : ℕ) (ns : List NoteT) where
  abbrev acting : Acting
  acting = record { operation = op; whole = w; word = x; register = r; formula = (parse_tree s nesting f).tree; notes = ns }

  back : (n : ℕ) → n + 1 - 1 ≡ n
  back n = omega arith

  -- a number that is kept one higher
  kept : (n : ℕ) → cond (eqb (n + 1) 0) none (some (n + 1 - 1)) ≡ some n
  kept n = let z : n + 1 ≡ 0 → ⊥ = omega arith in rw (ne_eqb _ _ z) (ap (λ (i : ℕ). some i) (back n))

  nums : (j : ℕ) → (taken_of s (preset_at t x r f)).num j ≡ (preset t acting).num j
  unfolding preset_at
  nums zero = kept t
  nums (suc zero) = kept x
  nums (suc (suc zero)) = kept r
  nums (suc (suc (suc j))) =
      let a : suc (suc (suc j)) ≡ 0 → ⊥ = omega arith in
      let b : suc (suc (suc j)) ≡ 1 → ⊥ = omega arith in
      let d : suc (suc (suc j)) ≡ 2 → ⊥ = omega arith in
      rw (preset, ne_eqb _ _ a, ne_eqb _ _ b, ne_eqb _ _ d) (past j)
    where
      past : (j : ℕ) → cond (eqb (get_or (0 ∷ 0 ∷ []) j 0) 0) none (some (get_or (0 ∷ 0 ∷ []) j 0 - 1)) ≡ none
      past zero = refl
      past (suc zero) = refl
      past (suc (suc j)) = refl

  trees : (j : ℕ) → (taken_of s (preset_at t x r f)).tree j ≡ (preset t acting).tree j
  unfolding preset_at
  trees zero = refl
  trees (suc zero) = refl
  trees (suc (suc zero)) = refl
  trees (suc (suc (suc zero))) = refl
  trees (suc (suc (suc (suc zero)))) = refl
  trees (suc (suc (suc (suc (suc j))))) = let a : suc (suc (suc (suc (suc j)))) ≡ 4 → ⊥ = omega arith in rw (preset, ne_eqb _ _ a)

  pub preset_taken : taken_of s (preset_at t x r f) ≡ preset t acting
  preset_taken = λ q. record { num = fun_ext nums q; tree = fun_ext trees q }
