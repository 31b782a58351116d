-- How a verdict names an obligation.
use Rattle.logic.specs.Obligations as Logic
use Rattle.logic.specs.Obligations.{Obligation.start, Obligation.step, Obligation.taken, Obligation.interference}
use Rattle.verdict_record.specs.declared.obligation.Obligation.{Obligation}
use Rattle.verdict_record.specs.declared.obligation.Obligation.TheVariants.{Start, Step, Taken, Interference}
use Rattle.verdict_record.specs.declared.obligation.Place.{Place}

-- class, thread, point, other thread, other point; "Class 4 names the asserting side first"
unfoldable pub place_of : Obligation → Place
place_of (Start t) = record { class = 1; thread = t; point = 0; other_thread = 0; other_point = 0 }
place_of (Step t k) = record { class = 2; thread = t; point = k; other_thread = 0; other_point = 0 }
place_of (Taken t k) = record { class = 3; thread = t; point = k; other_thread = 0; other_point = 0 }
place_of (Interference u j t k) = record { class = 4; thread = u; point = j; other_thread = t; other_point = k }

-- an obligation of the logic as the code's enum
abbrev pub obligation : Logic.Obligation → Obligation
obligation (start t) = Start t
obligation (step t k) = Step t k
obligation (taken t k) = Taken t k
obligation (interference u j t k) = Interference u j t k
