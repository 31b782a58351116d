-- A replay across a handover, on numbers: 32, 33 or 34 where it is not permitted; 29 where the start writes do not fit; else the run over
-- the first trace under the old code, and, if no step of it is refused, the run over the second under the new code.
use Rattle.std.specs.Prelude.{ℕ, false, cond, List, eqb, ltb, None, Option, Some}
use Rattle.image_header.specs.declared.sizes.Sizes.{Sizes}
use Rattle.checker_spec.specs.Acceptance.{acceptance}
use Rattle.handover_spec.specs.Code.{header_of, code_of}
use Rattle.replay_machine.specs.Start.{started}
use Rattle.replay_machine.specs.Run.{ran}
use Rattle.replay_machine.specs.Replayed.{room_of, of_run, blank}
use Rattle.replay_machine.specs.Replayed.{Replayed}
use Rattle.handover_replay.specs.JoinedRun.{went_on}

-- the replay across a permitted handover between two accepted images with sizes z and y
unfoldable pub across_on : List ℕ → Sizes → List ℕ → Sizes → List ℕ → List ℕ → List ℕ → List ℕ → ℕ → Replayed
across_on old z new y points first second given room =
    cond (ltb room z.words)
    (record { code = 29; steps = 0; held = false; words = z.words; machine = started (header_of old) z.range given })
    (of_run z (went_on old z new y points room (ran old z room (started (header_of old) z.range given) 0 first) second))

-- a replay that is refused: points and registers of 0, and the table stays
unfoldable pub refused_by : ℕ → Replayed
refused_by code = record { code = code; steps = 0; held = false; words = 0; machine = blank }

-- the replay for two accepted images: refused with the handover's code unless that is 0
unfoldable pub across_by : List ℕ → Sizes → List ℕ → Sizes → List ℕ → List ℕ → List ℕ → List ℕ → ℕ → Replayed
across_by old z new y points first second given room =
    cond (eqb (code_of old z new y points) 0) (across_on old z new y points first second given room) (refused_by (code_of old z new y points))

-- the replay by the acceptance of the old and of the new image
abbrev pub by_acceptance : List ℕ → List ℕ → List ℕ → List ℕ → List ℕ → List ℕ → ℕ → Option Sizes → Option Sizes → Replayed
by_acceptance old new points first second given room None b = refused_by 32
by_acceptance old new points first second given room (Some z) None = refused_by 32
by_acceptance old new points first second given room (Some z) (Some y) = across_by old z new y points first second given room

-- the replay for every two byte strings; `lent` is the number of entries in the caller's table of writes
unfoldable pub across_of : List ℕ → List ℕ → List ℕ → List ℕ → List ℕ → List ℕ → ℕ → Replayed
across_of old new points first second given lent = by_acceptance old new points first second given (room_of lent) (acceptance old)
    (acceptance new)
