-- Handovers judged and counted.
use mathlib.Core.Path.{◌≡◌}
use mathlib.Core.Bool.{Bool}
use mathlib.Core.List.{List}
use Prim.Native.Nat.{ℕ}
use lib.Dec.{eqb}
use lib.ListN.{drop}
use Rattle.limits.specs.Numbers.{le16}
use Rattle.handover_spec.specs.Promise.{Promise}
use Rattle.vectors.specs.Counters.{with_case}
use Rattle.vectors.specs.declared.counters.Counters.{Counters}
use Rattle.vectors.specs.Parts.{first_in, second_in, third_on}
use Rattle.vectors_calls.specs.Judge.{same_code, HandedOver}

pub call_stored : (s body old new table : List ℕ) (code : ℕ) → old ≡ first_in s body → new ≡ second_in s body → table ≡ third_on s body
    → Promise old new table code → Promise (first_in s body) (second_in s body) (third_on s body) code
call_stored s body old new table code o n t p = rw (← o, ← n, ← t) p

pub code_compared : (code stored : ℕ) (s : List ℕ) (r : Bool) → stored ≡ le16 (drop 8 s) → r ≡ eqb code stored → r ≡ same_code code s
unfolding same_code
code_compared code stored s r e q = rw (← e) q

pub handover_counted : (s body : List ℕ) (t u : Counters) (code : ℕ) (same : Bool)
    → Promise (first_in s body) (second_in s body) (third_on s body) code
    → same ≡ same_code code s → u ≡ with_case t code same → HandedOver body s t u
handover_counted s body t u code same p e g = record { code = code; called = p; counted = rw (← e) g }
