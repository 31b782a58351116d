-- The ways through the functions that judge one obligation more, one law for each.
use mathlib.Core.Path.{◌≡◌, refl, sym}
use mathlib.Core.List.{List}
use Prim.Native.Nat.{ℕ, ◌+◌, ◌≤◌}
use Rattle.std.specs.Prelude.{Result, Ok, Err}
use Rattle.limits.proofs.BranchTests.{tests}
use Rattle.limits.proofs.Numbers.{number_past}
use Rattle.image_frames.specs.Records.{bodies}
use Rattle.image_header.specs.declared.sizes.Sizes.{Sizes}
use Rattle.image_bodies.specs.PointCounts.{obligation_count}
use Rattle.image_meaning.specs.Image.{obligations_body, named_line}
use Rattle.image_access.specs.Totals.{totals_of}
use Rattle.image_access.specs.declared.totals.Totals.{Totals}
use Rattle.rules_justified.specs.declared.marks.Marks.{Marks}
use Rattle.verdict_record.specs.declared.obligation.Obligation.{Obligation}
use Rattle.obligations.specs.declared.concludes.Unmet.{Unmet}
use Rattle.obligations.specs.declared.concludes.Unmet.TheVariants.{NoLine}
use Rattle.obligations.specs.Concludes.{code_at}
use Rattle.obligations.proofs.ConcludesBranches.{code_none}
use Rattle.obligations.specs.Judgement.{judge_one}

module _ (s : List ℕ) (z : Sizes) (m : Marks) (o : Obligation) (c : ℕ) where
  none_named : (y : Totals) → y ≡ totals_of z (bodies s) → y.obligations ≤ c → named_line z (bodies s) c ≡ 0
  unfolding named_line totals_of
  none_named y e h = sym (number_past (obligation_count z (bodies s)) (obligations_body z (bodies s)) c (rw e at h))

  pub one_past : (y : Totals) → y ≡ totals_of z (bodies s) → y.obligations ≤ c
      → Err (record { what = o; unmet = NoLine; line = 0; count = c }) ≡ judge_one s z m o c
  unfolding judge_one
  one_past y e h = rw (none_named y e h, ← code_none s z m o 0 refl)

  module _ (n : ℕ) (d : Result (Unit {0}) Unmet) (e : n ≡ named_line z (bodies s) c) (f : d ≡ code_at s z m o n) where
    pub one_met : (x : Unit {0}) → d ≡ Ok x → Ok (c + 1) ≡ judge_one s z m o c
    unfolding judge_one
    one_met x h = rw (← e, ← f, h)

    pub one_failed : (u : Unmet) → d ≡ Err u → Err (record { what = o; unmet = u; line = n; count = c }) ≡ judge_one s z m o c
    unfolding judge_one
    one_failed u h = rw (← e, ← f, h)

pub ruleset judgement_branches = (one_past, one_met, one_failed, tests)
