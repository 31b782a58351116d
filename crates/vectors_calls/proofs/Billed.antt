-- Bills made and counted.
use mathlib.Core.Path.{◌≡◌}
use mathlib.Core.Bool.{Bool}
use mathlib.Core.List.{List, ◌++◌}
use Prim.Native.Nat.{ℕ, ◌≤◌}
use native.Mathlib.Omega.{arith}
use lib.ListN.{length, take, drop, length-append, length-drop}
use lib.Seq.{length-take-le}
use Rattle.bill_spec.specs.Promise.{Written}
use Rattle.bill_spec.specs.declared.tariff.Tariff.{Tariff}
use Rattle.vectors.specs.Counters.{with_case}
use Rattle.vectors.specs.declared.counters.Counters.{Counters}
use Rattle.vectors.specs.BillAnswer.{most, room, tariff_at, billed_at, lent_at, same_answer}
use Rattle.vectors_calls.specs.Judge.{Billed}

pub call_stored : (image s answer after : List ℕ) (f : Tariff) (n code : ℕ) → f ≡ tariff_at s → n ≡ billed_at s
    → Written image f n answer code after → Written image (tariff_at s) (billed_at s) answer code after
call_stored image s answer after f n code e d w = rw (← e, ← d) w

pub lent_within : (s : List ℕ) (n : ℕ) → n ≡ lent_at s → n ≤ most
unfolding lent_at
lent_within s n e = omega arith

room_length : {r : List ℕ} → r ≡ room → length r ≡ most
unfolding room
room_length q = rw q

-- a part of the room is lent, and the rest stays
module _ (s r : List ℕ) (n : ℕ) (e : n ≡ lent_at s) (q : r ≡ room) where
  pub lent_fits : n ≤ length r
  lent_fits = rw (room_length q) (lent_within s n e)

  pub lent_front : n ≡ length (take n r)
  unfolding room
  lent_front = let h = lent_within s n e in rw (q, length-take-le n room h)

  pub lent_back : (after : List ℕ) → length after ≡ length (take n r) → most ≡ length (after ++ drop n r)
  lent_back after l = let h = lent_within s n e in let z : length r ≡ most = room_length q in
      rw (length-append after (drop n r), l, length-drop n r, z, ← lent_front) (omega arith)

  pub bill_counted : (image after : List ℕ) (t u : Counters) (code : ℕ) (same : Bool)
      → Written image (tariff_at s) (billed_at s) (take n r) code after
      → same ≡ same_answer code (after ++ drop n r) s → u ≡ with_case t code same → Billed image s t u
  bill_counted image after t u code same w d g =
      record { code = code; after = after; called = rw (← e, ← q) w; counted = rw (← e, ← q, ← d) g }

pub ruleset with_bill_branches = (lent_fits, lent_front, lent_back, bill_counted)
