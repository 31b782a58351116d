-- A replay on numbers, of any image.
use Rattle.std.specs.Prelude.{ℕ, false, List, None, Option, Some}
use Rattle.image_header.specs.declared.sizes.Sizes.{Sizes}
use Rattle.checker_spec.specs.Acceptance.{acceptance}
use Rattle.replay_machine.specs.Replayed.{room_of, replay_on, blank}
use Rattle.replay_machine.specs.Replayed.{Replayed}

-- code 24 for an image that is not accepted, else `replayOn`
abbrev pub by_acceptance : List ℕ → List ℕ → List ℕ → ℕ → Option Sizes → Replayed
by_acceptance s trace given room (Some z) = replay_on s z trace given room
by_acceptance s trace given room None = record { code = 24; steps = 0; held = false; words = 0; machine = blank }

-- the replay of a trace on the image s, for a table of `lent` entries
unfoldable pub replay_of : List ℕ → List ℕ → List ℕ → ℕ → Replayed
replay_of s trace given lent = by_acceptance s trace given (room_of lent) (acceptance s)
