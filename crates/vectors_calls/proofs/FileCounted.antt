-- The calls of a file, case by case.
use mathlib.Core.Path.{◌≡◌}
use mathlib.Core.List.{List, ◌++◌}
use Prim.Native.Nat.{ℕ, ◌+◌, ◌≤◌}
use native.Mathlib.Omega.{arith}
use lib.ListN.{length, take, drop, length-append, length-drop}
use lib.Seq.{length-take-le}
use Rattle.vectors.specs.declared.counters.Counters.{Counters}
use Rattle.vectors.proofs.CounterFacts.{Running, running_none, running_more, running_over}
use Rattle.vectors.specs.CallAnswer.{blank_table, blank_numbers, same_answer}
use Rattle.vectors.specs.Parts.{second_on, fourth_on, seventh_on}
use Rattle.vectors.specs.TrimAnswer as Trims
use Rattle.vectors.specs.BillAnswer as Bills
use Rattle.vectors_calls.specs.VerdictAnswer.{same_record}
use Rattle.vectors_calls.specs.Judge.{replay_table, replay_numbers, across_table, across_numbers, same_code, Counted}
use Rattle.vectors_calls.specs.Kind.{tail_of}
use Rattle.vectors_calls.specs.declared.kind.Kind.{Kind}
use Rattle.vectors_calls.specs.declared.kind.Kind.TheVariants.{Verdicts, Trims, Bills, Replays, Handovers, Across}

-- a call more, of whatever kind
pub running_call : (kind : Kind) (t r : Counters) (n : ℕ) (body s : List ℕ) → Running t n → Counted kind body s t r → Running r (n + 1)
unfolding Counted
running_call Verdicts t r n body s f c = running_more t r n c.code (same_record c.code c.after s) f c.counted
running_call Trims t r n body s f c =
    running_more t r n c.code (Trims.same_answer c.code c.written (c.after ++ drop (Trims.lent_at (drop 4 s)) Trims.room)
    (drop 4 s) (second_on s body)) f c.counted
running_call Bills t r n body s f c =
    running_more t r n c.code (Bills.same_answer c.code (c.after ++ drop (Bills.lent_at s) Bills.room) s) f c.counted
running_call Replays t r n body s f c =
    running_more t r n c.code (same_answer c.code (c.after ++ drop (replay_table s) blank_table)
    (c.told ++ drop (replay_numbers s) blank_numbers) (drop 20 s) (fourth_on s body)) f c.counted
running_call Handovers t r n body s f c = running_more t r n c.code (same_code c.code s) f c.counted
running_call Across t r n body s f c =
    running_more t r n c.code (same_answer c.code (c.after ++ drop (across_table s) blank_table)
    (c.told ++ drop (across_numbers s) blank_numbers) (drop 32 s) (seventh_on s body)) f c.counted

-- the tail of a case is a part of the room for the longest
tail_within : (kind : Kind) → tail_of kind ≤ 118
unfolding tail_of
tail_within Verdicts = omega arith
tail_within Trims = omega arith
tail_within Bills = omega arith
tail_within Replays = omega arith
tail_within Handovers = omega arith
tail_within Across = omega arith

module _ (kind : Kind) (n : ℕ) (e : n ≡ tail_of kind) (room : List ℕ) (q : 118 ≡ length room) where
  pub tail_fits : n ≤ length room
  tail_fits = rw (← q, e) (tail_within kind)

  pub tail_front : n ≡ length (take n room)
  tail_front = rw (length-take-le n room tail_fits)

  pub tail_back : (after : List ℕ) → length after ≡ length (take n room) → 118 ≡ length (after ++ drop n room)
  tail_back after l =
      let h = tail_fits in rw (length-append after (drop n room), l, length-drop n room, ← tail_front) (omega (arith, q))

pub ruleset judge_all_branches = (running_none, running_call, running_over, tail_fits, tail_front, tail_back)
