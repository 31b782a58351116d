-- The start of a replay: one law for each way.
use Prim.Native.Nat.{ℕ}
use mathlib.Core.Path.{◌≡◌}
use mathlib.Core.List.{List, []}
use Rattle.std.specs.declared.result.Result.TheVariants.{Err}
use Rattle.std.specs.declared.option.Option.{Option}
use Rattle.std.specs.declared.option.Option.TheVariants.{None, Some}
use Rattle.image_header.specs.declared.sizes.Sizes.{Sizes}
use Rattle.checker_spec.specs.Acceptance.{acceptance}
use Rattle.replay_table.specs.Sweep.{no_order}
use Rattle.replay_table.specs.declared.order.Order.{Order}
use Rattle.replay_machine.specs.Replayed.{room_of}
use Rattle.replay_machine.specs.declared.pick.Refusal.TheVariants.{Declined}
use Rattle.replay_machine.specs.declared.state.Threads.{Threads}
use Rattle.replay_run.specs.Course.{Course, told, no_sizes, start_threads, opened_on, opened_by}

module _ (s : List ℕ) (n : ℕ) (given : List ℕ) (lent : ℕ) (a : Option Sizes) (e : a ≡ acceptance s) where
  pub open_declined : (room : ℕ) (h : Threads) (o : Order) → a ≡ None → room ≡ room_of lent → h ≡ start_threads [] 0 [] → o ≡ no_order
      → told (record { sizes = no_sizes; room = room; ended = Err Declined; steps = 0; left = 0; begun = 0; threads = h; order = o })
      ≡ opened_by s n given
      lent
  unfolding opened_by
  open_declined room h o d er eh eo = rw (← e, d, er, eh, eo)

  pub open_granted : (z : Sizes) (room : ℕ) (r : Course) → a ≡ Some z → room ≡ room_of lent → r ≡ opened_on s z n given room
      → r ≡ opened_by s n given lent
  unfolding opened_by
  open_granted z room r d q h = rw (← e, d, ← q) h

pub ruleset open_branches = (open_declined, open_granted)
