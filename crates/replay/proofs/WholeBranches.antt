-- The whole replay: the ways through the functions, one law for each.
use Prim.Native.Nat.{ℕ}
use mathlib.Core.Path.{◌≡◌}
use mathlib.Core.Bool.{false}
use mathlib.Core.List.{List, []}
use Rattle.image_index.proofs.IndexBranches.{short_zeros, long_zeros}
use Rattle.limits.proofs.BranchTests.{tests}
use Rattle.std.specs.declared.result.Result.TheVariants.{Err}
use Rattle.std.specs.declared.option.Option.{Option}
use Rattle.std.specs.declared.option.Option.TheVariants.{None, Some}
use Rattle.image_header.specs.declared.sizes.Sizes.{Sizes}
use Rattle.checker_spec.specs.Acceptance.{acceptance}
use Rattle.replay_machine.specs.declared.state.Machine.{Machine}
use Rattle.replay_machine.specs.declared.pick.Refusal.TheVariants.{Declined}
use Rattle.replay_machine.specs.Start.{started}
use Rattle.replay_machine.specs.Replayed.{Replayed, told, room_of, replay_on}
use Rattle.replay_spec.specs.ReplayNumbers.{replay_of}

module _ (s trace given : List ℕ) (lent : ℕ) (a : Option Sizes) (e : a ≡ acceptance s) where
  pub whole_declined : (n : Machine) → a ≡ None → n ≡ started [] 0 []
      → told (record { ended = Err Declined; steps = 0; held = false; words = 0; machine = n }) ≡ replay_of s trace given lent
  unfolding replay_of told
  whole_declined n d q = rw (← e, d, q)

  pub whole_granted : (z : Sizes) (room : ℕ) (r : Replayed) → a ≡ Some z → room ≡ room_of lent → r ≡ replay_on s z trace given room
      → r ≡ replay_of s trace given lent
  unfolding replay_of
  whole_granted z room r d q h = rw (← e, d, ← q) h

pub ruleset replay_by_branches = (whole_declined, whole_granted)

pub ruleset zeros = (short_zeros, long_zeros, tests)
