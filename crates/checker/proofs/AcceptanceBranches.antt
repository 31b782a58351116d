-- Accepted images and what they hold: the ways through the code.
use mathlib.Core.Path.{◌≡◌, ap, sym, ◌∙◌}
use mathlib.Core.List.{List}
use Prim.Native.Nat.{ℕ}
use Rattle.std.specs.Prelude.{Option, None, Ok, Err}
use Rattle.image_frames.specs.declared.fault.Refusal.{Refusal}
use Rattle.image_header.specs.declared.sizes.Sizes.{Sizes}
use Rattle.image.specs.Decode.{Decoded, decoded}
use Rattle.verdict_record.specs.declared.verdict.Verdict.{Verdict}
use Rattle.checker_spec.specs.ImageVerdict.{verdict}
use Rattle.checker_spec.specs.Acceptance.{granted_by, accepted_as, acceptance}
use Rattle.checker.specs.VerdictFound.{sound_verdict}
use Rattle.checker.proofs.JudgeBranches.{judge_found}

module _ (s : List ℕ) (d : Decoded) (e : d ≡ decoded s) where
  pub declined_bytes : (r : Refusal) → d ≡ Err r → None ≡ acceptance s
  unfolding acceptance
  declined_bytes r h = rw (← e, h)

  pub granted_found : (z : Sizes) (v : Verdict) (r : Option Sizes) → d ≡ Ok z → v ≡ sound_verdict s z → r ≡ granted_by z v → r ≡ acceptance s
  unfolding acceptance
  granted_found z v r h g q = q ∙ ap (granted_by z) (judge_found s d e z v h g) ∙ ap (λ (x : Decoded). accepted_as x (verdict s)) (sym h ∙ e)

pub ruleset acceptance_branches = (declined_bytes, granted_found)
