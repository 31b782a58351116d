-- The ways through the functions, one law for each.
use mathlib.Core.Path.{◌≡◌, refl, ap, sym, ◌∙◌}
use mathlib.Core.Bool.{true, false}
use lib.Dec.{eqb}
use mathlib.Core.List.{List, []}
use Prim.Native.Nat.{ℕ, ◌≤◌, ◌<◌}
use borrow.Author.Tests.{lt-ltb, le-ltb}
use Rattle.std.specs.declared.result.Result.{Result}
use Rattle.std.specs.declared.result.Result.TheVariants.{Ok, Err}
use Rattle.std.specs.declared.option.Option.{Option}
use Rattle.std.specs.declared.option.Option.TheVariants.{None, Some}
use Rattle.image_header.specs.declared.sizes.Sizes.{Sizes}
use Rattle.checker_spec.specs.Acceptance.{acceptance}
use Rattle.handover_spec.proofs.PermittedRuns.{granted_sound}
use Rattle.handover_spec.specs.Code.{header_of, code_of}
use Rattle.handover_spec.specs.Refusal as HandoverCode
use Rattle.handover_spec.specs.Refusal.{code_told}
use Rattle.handover_spec.specs.declared.refusal.Refusal as HandoverRefusal
use Rattle.handover_spec.specs.declared.refusal.Refusal.TheVariants as HandoverCase
use Rattle.replay_machine.specs.Refusal.{number}
use Rattle.replay_machine.specs.declared.pick.Refusal.{Refusal}
use Rattle.replay_machine.specs.declared.pick.Refusal.TheVariants.{Room}
use Rattle.replay_machine.specs.Start.{started}
use Rattle.replay_machine.specs.Run as Run
use Rattle.replay_machine.specs.Run.{ran}
use Rattle.replay_machine.specs.Replayed.{Replayed, told, room_of}
use Rattle.replay_machine.specs.declared.state.Machine.{Machine}
use Rattle.replay_machine.specs.declared.run.Run as Code
use Rattle.handover_replay.specs.JoinedRun.{went_on}
use Rattle.handover_replay.specs.ReplayAcross.{across_on, refused_by, across_by, by_acceptance, across_of}

pub refused_so : (n : Machine) (x : Refusal) → n ≡ started [] 0 []
    → told (record { ended = Err x; steps = 0; held = false; words = 0; machine = n }) ≡ refused_by (number x)
unfolding refused_by told
refused_so n x e = rw e

handover_some : (x : HandoverRefusal.Refusal) → eqb (HandoverCode.number x) 0 ≡ false
handover_some HandoverCase.Unlike = refl
handover_some HandoverCase.OutOfRange = refl
handover_some HandoverCase.Unserved = refl

module _ (old : List ℕ) (z : Sizes) (new : List ℕ) (y : Sizes) (points first second given : List ℕ) (room : ℕ) where
  module _ (b : List ℕ) (n : Machine) (eb : b ≡ header_of old) (en : n ≡ started b z.range given) where
    pub both_short : room < z.words → told (record {
      ended = Err Room;
      steps = 0;
      held = false;
      words = z.words;
      machine = n;
    }) ≡ across_on old z new y points first second given room
    unfolding across_on told
    both_short h = rw (lt-ltb _ _ h, ← eb, en)

    pub both_run : (r q : Code.Run) → z.words ≤ room → Run.told r ≡ ran old z room n 0 first
        → Run.told q ≡ went_on old z new y points room (Run.told r) second
        → told (record {
          ended = q.ended;
          steps = q.steps;
          held = true;
          words = z.words;
          machine = q.machine;
        }) ≡ across_on old z new y points first second given room
    unfolding across_on told Run.told
    both_run r q h er eq = rw (le-ltb _ _ h, ← eb, ← en, ← er, ← eq)

  module _ (c : Result (Unit {0}) HandoverRefusal.Refusal) (r : Replayed) (e : code_told c ≡ code_of old z new y points) where
    pub between_permitted : c ≡ Ok tt → r ≡ across_on old z new y points first second given room
        → r ≡ across_by old z new y points first second given room
    unfolding across_by
    between_permitted h q = rw (← e, h) q

    pub between_refused : (x : HandoverRefusal.Refusal) (n : ℕ) → c ≡ Err x → n ≡ HandoverCode.number x → r ≡ refused_by n
        → r ≡ across_by old z new y points first second given room
    unfolding across_by
    between_refused x n h k q = rw (← e, h, handover_some x) (q ∙ ap refused_by k)

module _ (old new points first second given : List ℕ) (z : Sizes) (room : ℕ) (w : Option Sizes) (r : Replayed) (ew : w ≡ acceptance new) where
  pub from_declined : w ≡ None → r ≡ refused_by 32 → r ≡ by_acceptance old new points first second given room (Some z) (acceptance new)
  from_declined g q = q ∙ ap (by_acceptance old new points first second given room (Some z)) (sym g ∙ ew)

  pub from_granted : (y : Sizes) → w ≡ Some y → r ≡ across_by old z new y points first second given room
      → r ≡ by_acceptance old new points first second given room (Some z) (acceptance new)
  from_granted y g q = q ∙ ap (by_acceptance old new points first second given room (Some z)) (sym g ∙ ew)

module _ (old new points first second given : List ℕ) (lent : ℕ) (x : Option Sizes) (r : Replayed) (ex : x ≡ acceptance old) where
  pub across_declined : x ≡ None → r ≡ refused_by 32 → r ≡ across_of old new points first second given lent
  unfolding across_of
  across_declined h q = q ∙ ap (λ (v : Option Sizes). by_acceptance old new points first second given (room_of lent) v (acceptance new))
      (sym h ∙ ex)

  pub across_granted : (z : Sizes) (room : ℕ) → x ≡ Some z → room ≡ room_of lent
      → r ≡ by_acceptance old new points first second given room (Some z) (acceptance new)
      → r ≡ across_of old new points first second given lent
  unfolding across_of
  across_granted z room h e q =
      q ∙ ap (λ (m : ℕ). by_acceptance old new points first second given m (Some z) (acceptance new)) e
      ∙ ap (λ (v : Option Sizes). by_acceptance old new points first second given (room_of lent) v (acceptance new)) (sym h ∙ ex)

pub ruleset both_branches = (both_short, both_run)

pub ruleset between_branches = (between_permitted, between_refused)

pub ruleset from_branches = (from_declined, from_granted, granted_sound)

pub ruleset across_branches = (across_declined, across_granted, granted_sound)
