-- Replays across a handover made and counted.
use mathlib.Core.Path.{◌≡◌}
use mathlib.Core.Bool.{Bool}
use mathlib.Core.List.{List, ◌++◌}
use Prim.Native.Nat.{ℕ}
use lib.ListN.{take, drop}
use Rattle.handover_replay.specs.Promise.{Written}
use Rattle.vectors.proofs.LentFront.{table_fits, table_front, table_back, numbers_fit, numbers_front, numbers_back}
use Rattle.vectors.specs.Counters.{with_case}
use Rattle.vectors.specs.declared.counters.Counters.{Counters}
use Rattle.vectors.specs.Parts.{first_in, second_in, third_in, fourth_in, fifth_in, sixth_in, seventh_on}
use Rattle.vectors.specs.CallAnswer.{blank_table, blank_numbers, same_answer}
use Rattle.vectors_calls.specs.Judge.{across_table, across_numbers, ReplayedAcross}

pub call_stored : (s body old new points first second given table answer after told : List ℕ) (code : ℕ) → old ≡ first_in s body
    → new ≡ second_in s body → points ≡ third_in s body
    → first ≡ fourth_in s body → second ≡ fifth_in s body → given ≡ sixth_in s body
    → Written old new points first second given table answer code after told
    → Written (first_in s body) (second_in s body) (third_in s body) (fourth_in s body) (fifth_in s body) (sixth_in s body) table answer code
    after told
call_stored s body old new points first second given table answer after told code o n p f g r w = rw (← o, ← n, ← p, ← f, ← g, ← r) w

module _ (s body table numbers : List ℕ) (n m : ℕ) (d : n ≡ across_table s) (e : m ≡ across_numbers s) (p : table ≡ blank_table)
    (q : numbers ≡ blank_numbers) where
  pub across_counted : (after told stored entries : List ℕ) (t u : Counters) (code : ℕ) (same : Bool)
      → Written (first_in s body) (second_in s body) (third_in s body) (fourth_in s body) (fifth_in s body) (sixth_in s body) (take n table)
      (take m numbers) code after told → stored ≡ drop 32 s → entries ≡ seventh_on s body
      → same ≡ same_answer code (after ++ drop n table) (told ++ drop m numbers) stored entries → u ≡ with_case t code same
      → ReplayedAcross body s t u
  across_counted after told stored entries t u code same w z k a g =
      record {
        code = code;
        after = after;
        told = told;
        called = rw (← d, ← e, ← p, ← q) w;
        counted = rw (← d, ← e, ← p, ← q, ← z, ← k, ← a) g;
      }

pub ruleset with_across_branches = (table_fits, table_front, table_back, numbers_fit, numbers_front, numbers_back, across_counted)
