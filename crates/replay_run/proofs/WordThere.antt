-- The word of an instruction of an accepted image that picks a write is there.
use Prim.Native.Nat.{ℕ, zero, suc, ◌≤◌, ◌<◌}
use mathlib.Core.Path.{◌≡◌, sym}
use mathlib.Core.Bool.{true, true≢false}
use mathlib.Core.List.{List}
use native.Mathlib.Omega.{arith}
use Rattle.image_header.specs.declared.sizes.Sizes.{Sizes}
use Rattle.image_header.specs.declared.instruction.Half.{Half}
use Rattle.image_header.specs.Instruction.{fields_of, ranged}
use Rattle.image_access.specs.AccessPlaces.{register_first}
use Rattle.image_meaning.proofs.RecordsChecked.{Checks}
use Rattle.image_meaning.proofs.WellFormedProgram.{made, fields_in, ranged_both, none_above}
use Rattle.replay_machine.specs.Effect.{effect_of}
use Rattle.replay_run.proofs.ChangeAgrees.{touching}

module _ (z : Sizes) (l : List (List ℕ)) (c : Checks z l) (last f : ℕ) (n : Half) (v u : ℕ) where
  abbrev In : ℕ → ℕ → ℕ → Type 0
  In op a b = (((fields_of op last z).a.low ≤ a) × (a ≤ (fields_of op last z).a.high)) ×
      (((fields_of op last z).b.low ≤ b) × (b ≤ (fields_of op last z).b.high)) ×
      (((fields_of op last z).formula.low ≤ f) × (f ≤ (fields_of op last z).formula.high))

  in_fields : (op a b : ℕ) → ranged last z (made op a b f n) ≡ true → In op a b
  in_fields op a b e = fields_in (made op a b f n) (fields_of op last z) (ranged_both last z (made op a b f n) e).0

  pub word_there : (op a b : ℕ) → ranged last z (made op a b f n) ≡ true → touching op ≡ true
      → (effect_of (made op a b f n) v u).word < z.words
  unfolding fields_of effect_of register_first touching
  word_there zero a b e h = absurd (true≢false (sym h))
  word_there (suc zero) a b e h = let g = in_fields 1 a b e in omega (arith, g.1)
  word_there (suc (suc zero)) a b e h = let g = in_fields 2 a b e in omega (arith, g.1)
  word_there (suc (suc (suc zero))) a b e h = let g = in_fields 3 a b e in omega (arith, g.0)
  word_there (suc (suc (suc (suc zero)))) a b e h = let g = in_fields 4 a b e in omega (arith, g.0)
  word_there (suc (suc (suc (suc (suc zero))))) a b e h = let g = in_fields 5 a b e in omega (arith, g.0)
  word_there (suc (suc (suc (suc (suc (suc zero)))))) a b e h = absurd (true≢false (sym h))
  word_there (suc (suc (suc (suc (suc (suc (suc zero))))))) a b e h = let g = in_fields 7 a b e in omega (arith, g.0)
  word_there (suc (suc (suc (suc (suc (suc (suc (suc zero)))))))) a b e h = let g = in_fields 8 a b e in omega (arith, g.0)
  word_there (suc (suc (suc (suc (suc (suc (suc (suc (suc zero))))))))) a b e h = let g = in_fields 9 a b e in omega (arith, g.0)
  word_there (suc (suc (suc (suc (suc (suc (suc (suc (suc (suc zero)))))))))) a b e h = let g = in_fields 10 a b e in omega (arith, g.0)
  word_there (suc (suc (suc (suc (suc (suc (suc (suc (suc (suc (suc zero))))))))))) a b e h =
      let g = in_fields 11 a b e in omega (arith, g.0)
  word_there (suc (suc (suc (suc (suc (suc (suc (suc (suc (suc (suc (suc zero)))))))))))) a b e h = absurd (true≢false (sym h))
  word_there (suc (suc (suc (suc (suc (suc (suc (suc (suc (suc (suc (suc (suc op))))))))))))) a b e h =
      absurd (none_above z l c last (made (suc (suc (suc (suc (suc (suc (suc (suc (suc (suc (suc (suc (suc op))))))))))))) a b f n)
      (omega arith) e)
