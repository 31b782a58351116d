-- The ways through the exported functions, one law for each.
use Rattle.std.proofs.Common.{Result, Ok, Err}
use mathlib.Core.Path.{◌≡◌, ap, sym, ◌∙◌}
use mathlib.Core.List.{List}
use Prim.Native.Nat.{ℕ, ◌+◌, ◌*◌, ◌%◌}
use Rattle.formula.specs.Reader.{limit, number_of}
use Rattle.formula.specs.declared.reader.Fault.{Fault}
use Rattle.image_frames.specs.Fault as Faults
use Rattle.image_frames.specs.declared.fault.Refusal.{Refusal}
use Rattle.image_header.specs.declared.sizes.Sizes.{Sizes}
use Rattle.image.specs.Decode.{decoded}
use Rattle.exports.specs.Answers.{of_reading, of_decoded}

module _ (q r : Result ℕ Fault) (e : r ≡ q) where
  pub is_sort : (k x : ℕ) → r ≡ Ok k → x ≡ limit + k → x ≡ of_reading q
  is_sort k x h g = g ∙ ap of_reading (sym h ∙ e)

  pub is_fault : (f : Fault) (k : ℕ) → r ≡ Err f → k ≡ number_of f → k ≡ of_reading q
  is_fault f k h g = g ∙ ap of_reading (sym h ∙ e)

module _ (s : List ℕ) (d : Result Sizes Refusal) (e : d ≡ decoded s) where
  pub is_sound : (z : Sizes) → d ≡ Ok z → 0 ≡ of_decoded (decoded s)
  is_sound z h = ap of_decoded (sym h ∙ e)

  pub is_refused : (r : Refusal) (x : ℕ) → d ≡ Err r → x ≡ Faults.code_of r.fault → x * 65536 + r.record % 65536 ≡ of_decoded (decoded s)
  is_refused r x h g = ap (λ (c : ℕ). c * 65536 + r.record % 65536) g ∙ ap of_decoded (sym h ∙ e)

pub ruleset main_branches = (is_sort, is_fault, is_sound, is_refused)
