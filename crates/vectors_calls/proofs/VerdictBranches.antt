-- A verdict made and counted.
use mathlib.Core.Path.{◌≡◌}
use mathlib.Core.Bool.{Bool}
use mathlib.Core.List.{List}
use Prim.Native.Nat.{ℕ}
use Rattle.checker_spec.specs.Promise.{Promise}
use Rattle.vectors.specs.Counters.{with_case}
use Rattle.vectors.specs.declared.counters.Counters.{Counters}
use Rattle.vectors_calls.specs.VerdictAnswer.{room, same_record}
use Rattle.vectors_calls.specs.Judge.{Checked}

pub verdict_counted : (image s before after : List ℕ) (t r : Counters) (code : ℕ) (same : Bool) → before ≡ room
    → Promise image before code after → same ≡ same_record code after s → r ≡ with_case t code same → Checked image s t r
verdict_counted image s before after t r code same e p q g =
    record { code = code; after = after; called = rw (← e) p; counted = rw (← q) g }
