-- Runs across a handover: the ways through the functions, one law for each.
use mathlib.Core.Path.{◌≡◌, ap, ◌∙◌}
use mathlib.Core.Bool.{Bool, true, false}
use mathlib.Core.List.{List, [], ◌∷◌}
use Prim.Native.Nat.{ℕ, suc, ◌+◌, ◌-◌, ◌*◌, ◌≤◌, ◌<◌}
use native.Mathlib.Omega.{arith}
use lib.Dec.{eqb}
use lib.ListN.{length, get_or}
use borrow.Author.Tests.{ne_eqb, lt-ltb, le-ltb}
use Rattle.image_frames.specs.Records.{bodies}
use Rattle.image_header.specs.declared.sizes.Sizes.{Sizes}
use Rattle.image_bodies.specs.PointCounts.{point_counts_to}
use Rattle.image_meaning.specs.Program.{program_of}
use Rattle.handover_spec.specs.Table.{point_named, points_to}
use Rattle.handover_spec.proofs.FewPoints.{points_are}
use Rattle.replay_machine.specs.Step.{stepped}
use Rattle.replay_machine.specs.Run.{Run, told, ran}
use Rattle.replay_machine.specs.declared.state.Machine.{Machine}
use Rattle.replay_machine.specs.declared.run.Run as Code
use Rattle.replay_machine.specs.Refusal.{code_of}
use Rattle.replay_machine.specs.declared.pick.Refusal.{Refusal}
use Rattle.replay_machine.proofs.StepBranches.{refused_some}
use Rattle.std.specs.declared.result.Result.{Result}
use Rattle.std.specs.declared.result.Result.TheVariants.{Ok, Err}
use Rattle.handover_replay.specs.JoinedRun.{most_steps, mapped_point, handed_over, went_on}

-- points

module _ (old : List ℕ) (z : Sizes) (points : List ℕ) (t k : ℕ) where
  pub mapped_none : z.threads ≤ t → 0 ≡ mapped_point old z points t k
  unfolding mapped_point
  mapped_none h = rw (le-ltb t z.threads h)

  pub mapped_there : (n r : ℕ) → t < z.threads → n ≡ (point_counts_to z (bodies old) (t + 1 - 1)).points → r ≡ point_named points (n + k)
      → r ≡ mapped_point old z points t k
  unfolding mapped_point
  mapped_there n r h en er =
      let q : t + 1 - 1 ≡ suc t - 1 = omega arith in
      rw (lt-ltb t z.threads h)
      (er ∙ ap (λ (i : ℕ). point_named points (i + k))
      (en ∙ points_are z (bodies old) (t + 1 - 1) ∙ ap (points_to (program_of z (bodies old))) q))

pub handed_so : (old : List ℕ) (z : Sizes) (points : List ℕ) (n : Machine) (a b c d : ℕ)
    → a ≡ mapped_point old z points 0 (get_or n.points 0 0) → b ≡ mapped_point old z points 1 (get_or n.points 1 0)
    → c ≡ mapped_point old z points 2 (get_or n.points 2 0) → d ≡ mapped_point old z points 3 (get_or n.points 3 0)
    → record { memory = n.memory; registers = n.registers; points = a ∷ b ∷ c ∷ d ∷ [] } ≡ handed_over old z points n
unfolding handed_over
handed_so old z points n a b c d ea eb ec ed = rw (ea, eb, ec, ed)

-- runs: two bytes of the trace for each step
steps_half : (s : List ℕ) (z : Sizes) (room : ℕ) (n : Machine) (k : ℕ) (l : List ℕ) → 2 * (ran s z room n k l).steps ≤ 2 * k + length l
unfolding ran
steps_half s z room n k [] = omega arith
steps_half s z room n k (t ∷ []) = omega arith
steps_half s z room n k (t ∷ p ∷ l) = go (eqb (stepped s z room n t p).code 0)
    (steps_half s z room (stepped s z room n t p).machine (k + 1) l)
  where
    go : (b : Bool) → 2 * (ran s z room (stepped s z room n t p).machine (k + 1) l).steps ≤ 2 * (k + 1) + length l
        → 2 * (elim b as (λ x. Run) [
          | true ↦ ran s z room (stepped s z room n t p).machine
              (k + 1) l
          | false ↦ record { code = (stepped s z room n t p).code; steps = k; machine = n }
        ]).steps
        ≤ 2 * k + length (t ∷ p ∷ l)
    go true h = omega arith
    go false h = omega arith

pub steps_few : (s : List ℕ) (z : Sizes) (room : ℕ) (n : Machine) (l : List ℕ) (r : Code.Run) → told r ≡ ran s z room n 0 l
    → length l < 9223372036854775808 → r.steps < most_steps
unfolding told
steps_few s z room n l r e few = let h = steps_half s z room n 0 l in let q = ap (λ (x : Run). x.steps) e in omega arith

pub went_refused : (old : List ℕ) (z : Sizes) (new : List ℕ) (y : Sizes) (points : List ℕ) (room : ℕ) (r : Run) (second : List ℕ)
    → (r.code ≡ 0 → ⊥) → r ≡ went_on old z new y points room r second
unfolding went_on
went_refused old z new y points room r second h = rw (ne_eqb r.code 0 h)

module _ (old : List ℕ) (z : Sizes) (new : List ℕ) (y : Sizes) (points : List ℕ) (room : ℕ) (r : Code.Run) (second : List ℕ) where
  pub on_refused : (x : Refusal) → r.ended ≡ Err x → told r ≡ went_on old z new y points room (told r) second
  unfolding went_on told
  on_refused x h = rw (ap (λ (e : Result (Unit {0}) Refusal). eqb (code_of e) 0) h ∙ refused_some x)

  pub on_taken : (n : Machine) (q : Code.Run) → r.ended ≡ Ok tt → n ≡ handed_over old z points r.machine → told q ≡ ran new y room n 0 second
      → told (record { ended = q.ended; steps = r.steps + q.steps; machine = q.machine }) ≡ went_on old z new y points room (told r) second
  unfolding went_on told
  on_taken n q h en eq = rw (h, ← en, ← eq)

pub ruleset mapped_branches = (mapped_none, mapped_there)

pub ruleset on_branches = (on_refused, on_taken)
