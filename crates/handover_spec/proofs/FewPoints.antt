-- How many points there are before a thread: the tally's, and few.
use mathlib.Core.Path.{◌≡◌, refl, ap}
use mathlib.Core.List.{List}
use Prim.Native.Nat.{ℕ, zero, suc, ◌+◌, ◌-◌, ◌*◌, ◌≤◌}
use native.Mathlib.Omega.{arith}
use Rattle.std.specs.declared.result.Result.TheVariants.{Ok}
use Rattle.limits.specs.Limits as Limits
use Rattle.image_frames.specs.Records.{bodies}
use Rattle.image_header.specs.declared.sizes.Sizes.{Sizes}
use Rattle.image_header.specs.Thread.{last_point}
use Rattle.image_bodies.specs.RecordPlaces.{thread_body}
use Rattle.image_bodies.specs.PointCounts.{thread_counts, point_counts_to, point_counts}
use Rattle.image.specs.Decode.{decoded}
use Rattle.image_meaning.specs.Program.{point_count, program_of}
use Rattle.image_access.specs.Totals.{totals_of}
use Rattle.image_access.specs.declared.totals.Totals.{Totals}
use Rattle.image_meaning.proofs.RecordsChecked.{Checks, sound_checks}
use Rattle.image_meaning.proofs.WellFormedProgram.{points_few}
use Rattle.checker_spec.proofs.NumbersUncut.{few_threads}
use Rattle.handover_spec.specs.Table.{points_to, most_points}

pub points_are : (z : Sizes) (l : List (List ℕ)) (n : ℕ) → (point_counts_to z l n).points ≡ points_to (program_of z l) n
unfolding point_counts_to thread_counts points_to point_count
points_are z l zero = refl
points_are z l (suc n) = ap (λ (k : ℕ). k + (last_point (thread_body z l (suc n)) + 1)) (points_are z l n)

points-below : (z : Sizes) (l : List (List ℕ)) → Checks z l → (n : ℕ) → n ≤ z.threads → (point_counts_to z l n).points ≤ Limits.points * n
unfolding point_counts_to thread_counts point_count
points-below z l c zero h = omega arith
points-below z l c (suc n) h =
    let p = points-below z l c n (omega arith) in
    let q = points_few z l c (suc n) (omega arith) h in
    omega arith

module _ (s : List ℕ) (z : Sizes) (e : decoded s ≡ Ok z) where
  pub few_in_all : (c : Totals) → c ≡ totals_of z (bodies s) → c.points ≤ most_points
  unfolding totals_of point_counts
  few_in_all c q =
      let k = sound_checks s z e in
      let p = points-below z (bodies s) k z.threads (omega arith) in
      let f = few_threads s z k in
      let r : c.points ≡ (point_counts_to z (bodies s) z.threads).points = ap (λ (y : Totals). y.points) q in
      omega arith

  module _ (t from : ℕ) (low : 1 ≤ t) (high : t ≤ z.threads) (q : from ≡ (point_counts_to z (bodies s) (t - 1)).points) where
    pub few_before : from ≤ most_points
    few_before =
        let k = sound_checks s z e in
        let p = points-below z (bodies s) k (t - 1) (omega arith) in
        let f = few_threads s z k in
        omega arith

pub ruleset few_branches = (few_in_all, few_before)
