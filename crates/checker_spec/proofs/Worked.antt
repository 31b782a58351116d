-- Verdicts worked out by hand, in their nine numbers: code, record, class, thread, point, other thread, other point, line, count.
use mathlib.Core.Path.{◌≡◌, refl}
use mathlib.Core.List.{List, [], ◌∷◌}
use Prim.Native.Nat.{ℕ}
use Rattle.logic.specs.Obligations.{Obligation.start, Obligation.step, Obligation.taken, Obligation.interference}
use Rattle.image_frames.specs.Fault.{code_of}
use Rattle.image_frames.specs.declared.fault.Fault.TheVariants.{Owner}
use Rattle.logic_outline.specs.Verdict.{Image, accepted, unmet, denied}
use Rattle.image_meaning.specs.Image.{refused}
use Rattle.verdict_record.specs.ObligationPlace.{place_of}
use Rattle.verdict_record.specs.Fields.{gathered, fields_of}
use Rattle.verdict_record.specs.declared.verdict.Verdict.{Verdict}
use Rattle.verdict_record.specs.declared.verdict.Fields.{Fields}
use Rattle.checker_spec.specs.ImageVerdict.{judged, answered}

unfoldable nine : Verdict → List ℕ
nine v = go (fields_of v)
  where
    go : Fields → List ℕ
    go f = f.code ∷ f.«record» ∷ f.class ∷ f.thread ∷ f.point ∷ f.other_thread ∷ f.other_point ∷ f.line ∷ f.count ∷ []

-- an owner's register in record 12
of_bytes : nine (answered (refused Owner 12)) ≡ 9 ∷ 12 ∷ 0 ∷ 0 ∷ 0 ∷ 0 ∷ 0 ∷ 0 ∷ 0 ∷ []
unfolding nine fields_of gathered code_of
of_bytes = refl

module _ (D : Image) where
  -- 17 obligations, all met
  all-met : nine (judged D (accepted 17)) ≡ 0 ∷ 0 ∷ 0 ∷ 0 ∷ 0 ∷ 0 ∷ 0 ∷ 0 ∷ 17 ∷ []
  unfolding nine fields_of gathered
  all-met = refl

  -- line 7 says something else than the fifth wants: thread 2 starts
  of_start : nine (judged D (unmet 21 (start 2) 7 4)) ≡ 21 ∷ 0 ∷ 1 ∷ 2 ∷ 0 ∷ 0 ∷ 0 ∷ 7 ∷ 4 ∷ []
  unfolding nine fields_of gathered place_of
  of_start = refl

  of_step : nine (judged D (unmet 20 (step 2 3) 0 4)) ≡ 20 ∷ 0 ∷ 2 ∷ 2 ∷ 3 ∷ 0 ∷ 0 ∷ 0 ∷ 4 ∷ []
  unfolding nine fields_of gathered place_of
  of_step = refl

  of_target : nine (judged D (unmet 22 (taken 2 3) 7 4)) ≡ 22 ∷ 0 ∷ 3 ∷ 2 ∷ 3 ∷ 0 ∷ 0 ∷ 7 ∷ 4 ∷ []
  unfolding nine fields_of gathered place_of
  of_target = refl

  -- the assertion of thread 2 at point 5 under the instruction of thread 1 at point 3: the asserting side first
  of_interference : nine (judged D (unmet 22 (interference 2 5 1 3) 7 4)) ≡ 22 ∷ 0 ∷ 4 ∷ 2 ∷ 5 ∷ 1 ∷ 3 ∷ 7 ∷ 4 ∷ []
  unfolding nine fields_of gathered place_of
  of_interference = refl

  -- the second claim, of record 40, about threads 1 and 3 at points 2 and 6, is not borne out by line 9; 17 obligations are met
  module _ (place : D.claims.place 1 ≡ 40) (line : D.claims.line 1 ≡ 9)
      (says : D.claims.claim 1 ≡ record { thread = 1; point = 2; other = 3; other_point = 6 }) where
    of_claim : nine (judged D (denied 1 17)) ≡ 26 ∷ 40 ∷ 0 ∷ 1 ∷ 2 ∷ 3 ∷ 6 ∷ 9 ∷ 17 ∷ []
    unfolding nine fields_of gathered
    of_claim = rw (place, line, says)
