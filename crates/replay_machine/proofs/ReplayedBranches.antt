-- A replay on an accepted image: the ways through the functions, one law for each.
use Prim.Native.Nat.{ℕ, ◌≤◌, ◌<◌}
use mathlib.Core.Path.{◌≡◌}
use mathlib.Core.Bool.{true, false}
use mathlib.Core.List.{List, []}
use lib.ListN.{get_or}
use borrow.Author.Tests.{lt-ltb, le-ltb}
use Rattle.image_frames.specs.Records.{bodies}
use Rattle.image_header.specs.declared.sizes.Sizes.{Sizes}
use Rattle.replay_machine.specs.declared.state.Machine.{Machine}
use Rattle.replay_machine.specs.Start.{started}
use Rattle.replay_machine.specs.Run as Run
use Rattle.replay_machine.specs.Run.{ran}
use Rattle.replay_machine.specs.Replayed.{told, replay_on}
use Rattle.replay_machine.specs.declared.run.Run as Code
use Rattle.replay_machine.specs.declared.pick.Refusal.TheVariants.{Room}
use Rattle.std.specs.declared.result.Result.TheVariants.{Err}

module _ (s : List ℕ) (z : Sizes) (trace given : List ℕ) (room : ℕ) (b : List ℕ) (n : Machine) (eb : b ≡ get_or (bodies s) 0 [])
    (en : n ≡ started b z.range given) where
  pub on_short : room < z.words
      → told (record { ended = Err Room; steps = 0; held = false; words = z.words; machine = n }) ≡ replay_on s z trace given room
  unfolding replay_on told
  on_short h = rw (lt-ltb _ _ h, ← eb, en)

  pub on_run : (r : Code.Run) → z.words ≤ room → Run.told r ≡ ran s z room n 0 trace
      → told (record { ended = r.ended; steps = r.steps; held = true; words = z.words; machine = r.machine }) ≡ replay_on s z trace given room
  unfolding replay_on told Run.told
  on_run r h e = rw (le-ltb _ _ h, ← eb, ← en, ← e)

pub ruleset replay_on_branches = (on_short, on_run)
