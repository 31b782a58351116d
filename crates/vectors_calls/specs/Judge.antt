-- Calls counted: by the code returned, and by whether the answer is the stored one.
use Rattle.std.specs.Prelude.{◌≡◌, Bool, List, ◌++◌, ℕ, eqb, take, drop}
use Rattle.limits.specs.Numbers.{le16}
use Rattle.checker_spec.specs.Promise as Check
use Rattle.trim.specs.Promise as Trimming
use Rattle.bill_spec.specs.Promise as Billing
use Rattle.replay_spec.specs.Promise as Replay
use Rattle.handover_spec.specs.Promise as Handover
use Rattle.handover_replay.specs.Promise as Across
use Rattle.vectors.specs.Counters.{with_case}
use Rattle.vectors.specs.declared.counters.Counters.{Counters}
use Rattle.vectors.specs.CallAnswer.{most_bytes, most_numbers, blank_table, blank_numbers, lent_at, same_answer}
use Rattle.vectors.specs.Parts.{first_in, second_on, second_in, third_on, third_in, fourth_on, fourth_in, fifth_in, sixth_in, seventh_on}
use Rattle.vectors.specs.TrimAnswer as Trims
use Rattle.vectors.specs.BillAnswer as Bills
use Rattle.vectors_calls.specs.VerdictAnswer as Verdict
use Rattle.vectors_calls.specs.declared.kind.Kind.{Kind}
use Rattle.vectors_calls.specs.declared.kind.Kind.TheVariants as Kinds

-- how many bytes of table are passed for a replay
abbrev pub replay_table : List ℕ → ℕ
replay_table s = lent_at s 12 most_bytes

-- how many numbers are passed for a replay
abbrev pub replay_numbers : List ℕ → ℕ
replay_numbers s = lent_at s 16 most_numbers

-- how many bytes of table are passed for a replay across a handover
abbrev pub across_table : List ℕ → ℕ
across_table s = lent_at s 24 most_bytes

-- how many numbers are passed for a replay across a handover
abbrev pub across_numbers : List ℕ → ℕ
across_numbers s = lent_at s 28 most_numbers

-- the code of a handover is the stored one
unfoldable pub same_code : ℕ → List ℕ → Bool
same_code code s = eqb code (le16 (drop 8 s))

-- body and s are the body and the tail of a case, t the counters before, r the counters afterwards
module _ (body s : List ℕ) (t : Counters) where
  -- a verdict: code and buffer are compared
  pub record Checked (r : Counters) : Type 0 where
    pub code : ℕ
    pub after : List ℕ
    pub called : Check.Promise body Verdict.room code after
    pub counted : r ≡ with_case t code (Verdict.same_record code after s)

  -- trimming: code, length and buffer are compared
  pub record Trimmed (r : Counters) : Type 0 where
    pub code : ℕ
    pub written : ℕ
    pub after : List ℕ
    pub called : Trimming.Promise (first_in s body) (take (Trims.lent_at (drop 4 s)) Trims.room) code written after
    pub counted : r ≡ with_case t code (Trims.same_answer code written (after ++ drop (Trims.lent_at (drop 4 s)) Trims.room) (drop 4 s)
        (second_on s body))

  -- a bill: code and buffer are compared
  pub record Billed (r : Counters) : Type 0 where
    pub code : ℕ
    pub after : List ℕ
    pub called : Billing.Written body (Bills.tariff_at s) (Bills.billed_at s) (take (Bills.lent_at s) Bills.room) code after
    pub counted : r ≡ with_case t code (Bills.same_answer code (after ++ drop (Bills.lent_at s) Bills.room) s)

  -- a replay: code, table and numbers are compared
  pub record Replayed (r : Counters) : Type 0 where
    pub code : ℕ
    pub after : List ℕ
    pub told : List ℕ
    pub called : Replay.Written (first_in s body) (second_in s body) (third_in s body) (take (replay_table s) blank_table)
        (take (replay_numbers s) blank_numbers) code after told
    pub counted : r ≡ with_case t code (same_answer code (after ++ drop (replay_table s) blank_table)
        (told ++ drop (replay_numbers s) blank_numbers) (drop 20 s) (fourth_on s body))

  -- a handover: the code is compared
  pub record HandedOver (r : Counters) : Type 0 where
    pub code : ℕ
    pub called : Handover.Promise (first_in s body) (second_in s body) (third_on s body) code
    pub counted : r ≡ with_case t code (same_code code s)

  -- a replay across a handover: code, table and numbers are compared
  pub record ReplayedAcross (r : Counters) : Type 0 where
    pub code : ℕ
    pub after : List ℕ
    pub told : List ℕ
    pub called : Across.Written (first_in s body) (second_in s body) (third_in s body) (fourth_in s body) (fifth_in s body) (sixth_in s body)
        (take (across_table s) blank_table) (take (across_numbers s) blank_numbers) code after told
    pub counted : r ≡ with_case t code (same_answer code (after ++ drop (across_table s) blank_table)
        (told ++ drop (across_numbers s) blank_numbers) (drop 32 s) (seventh_on s body))

-- one call more, by the kind of call
unfoldable pub Counted : Kind → List ℕ → List ℕ → Counters → Counters → Type 0
Counted Kinds.Verdicts image s t r = Checked image s t r
Counted Kinds.Trims body s t r = Trimmed body s t r
Counted Kinds.Bills image s t r = Billed image s t r
Counted Kinds.Replays body s t r = Replayed body s t r
Counted Kinds.Handovers body s t r = HandedOver body s t r
Counted Kinds.Across body s t r = ReplayedAcross body s t r
