-- Replays made and counted.
use mathlib.Core.Path.{◌≡◌}
use mathlib.Core.Bool.{Bool}
use mathlib.Core.List.{List, ◌++◌}
use Prim.Native.Nat.{ℕ}
use lib.ListN.{take, drop}
use Rattle.replay_spec.specs.Promise.{Written}
use Rattle.vectors.proofs.LentFront.{table_fits, table_front, table_back, numbers_fit, numbers_front, numbers_back}
use Rattle.vectors.specs.Counters.{with_case}
use Rattle.vectors.specs.declared.counters.Counters.{Counters}
use Rattle.vectors.specs.Parts.{first_in, second_in, third_in, fourth_on}
use Rattle.vectors.specs.CallAnswer.{blank_table, blank_numbers, same_answer}
use Rattle.vectors_calls.specs.Judge.{replay_table, replay_numbers, Replayed}

pub call_stored : (s body image trace given table answer after told : List ℕ) (code : ℕ) → image ≡ first_in s body
    → trace ≡ second_in s body → given ≡ third_in s body
    → Written image trace given table answer code after told
    → Written (first_in s body) (second_in s body) (third_in s body) table answer code after told
call_stored s body image trace given table answer after told code i t g w = rw (← i, ← t, ← g) w

module _ (s body table numbers : List ℕ) (n m : ℕ) (d : n ≡ replay_table s) (e : m ≡ replay_numbers s) (p : table ≡ blank_table)
    (q : numbers ≡ blank_numbers) where
  pub replay_counted : (after told stored entries : List ℕ) (t u : Counters) (code : ℕ) (same : Bool)
      → Written (first_in s body) (second_in s body) (third_in s body) (take n table) (take m numbers) code after told → stored ≡ drop 20 s
      → entries ≡ fourth_on s body
      → same ≡ same_answer code (after ++ drop n table) (told ++ drop m numbers) stored entries → u ≡ with_case t code same
      → Replayed body s t u
  replay_counted after told stored entries t u code same w z k a g =
      record {
        code = code;
        after = after;
        told = told;
        called = rw (← d, ← e, ← p, ← q) w;
        counted = rw (← d, ← e, ← p, ← q, ← z, ← k, ← a) g;
      }

pub ruleset with_replay_branches = (table_fits, table_front, table_back, numbers_fit, numbers_front, numbers_back, replay_counted)
