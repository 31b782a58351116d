-- A turn counted, by what is done.
use Rattle.std.specs.Prelude.{◌≡◌, false, cond, Ok, Err, List, ◌++◌, ℕ, ◌+◌, ltb, leb, length, take, drop, set}
use Rattle.service_spec.specs.Opening.{opening_code, service_for}
use Rattle.service_spec.specs.Promise.{CheckServed, TrimServed, BillServed, HandoverServed, ReplayServed, AcrossServed}
use Rattle.vectors.specs.Counters.{with_case}
use Rattle.vectors.specs.declared.counters.Counters.{Counters}
use Rattle.vectors.specs.Parts.{first_in, second_in, third_in, fourth_in, fifth_in, sixth_on}
use Rattle.vectors.specs.declared.turn.TurnKind.TheVariants.{Open, Set, Check, Trim, Bill, Handover, Replay, ReplayAcross}
use Rattle.vectors.specs.declared.turn.UnknownTurn.{UnknownTurn}
use Rattle.vectors.specs.Turn.{turn_kind_of, caller_at, lengths_at, set_at, bytes, numbers, bytes_at, numbers_at, tariff_at}
use Rattle.vectors.specs.TurnSame.{same_service, same_verdict, same_trimmed, same_bill, same_replay}

-- the service after the host has set the number of a caller to n
unfoldable pub number_set : List ℕ → ℕ → ℕ → List ℕ
number_set service caller n = cond (ltb 8 caller) service (cond (leb (length service) (7 + caller)) service (set service (7 + caller) n))

-- service is the one before, body and s are the body and the tail of a case, t the counters before; left and r are service and counters
-- afterwards
module _ (service body s : List ℕ) (t : Counters) where
  -- the service is opened, with the rights in the body
  pub record Opened (left : List ℕ) (r : Counters) : Type 0 where
    pub opened : left ≡ service_for body service
    pub counted : r ≡ with_case t 0 (same_service (opening_code service) left s)

  -- an image is checked
  pub record Checked (r : Counters) : Type 0 where
    pub code : ℕ
    pub after : List ℕ
    pub served : CheckServed service (caller_at s) body (take (bytes_at s) bytes) code after
    pub counted : r ≡ with_case t 2 (same_verdict code service (after ++ drop (bytes_at s) bytes) s)

  -- an image is trimmed
  pub record Trimmed (r : Counters) : Type 0 where
    pub code : ℕ
    pub written : ℕ
    pub after : List ℕ
    pub served : TrimServed service (caller_at s) body (take (bytes_at s) bytes) code written after
    pub counted : r ≡ with_case t 3 (same_trimmed code service written (after ++ drop (bytes_at s) bytes) s)

  -- an image is billed
  pub record Billed (left : List ℕ) (r : Counters) : Type 0 where
    pub code : ℕ
    pub after : List ℕ
    pub served : BillServed service (caller_at s) body (tariff_at s) (take (numbers_at s) numbers) left code after
    pub counted : r ≡ with_case t 4 (same_bill code left (after ++ drop (numbers_at s) numbers) s)

  -- a handover is asked for; the lengths of the body's parts are stored
  pub record HandedOver (r : Counters) : Type 0 where
    pub code : ℕ
    pub served : HandoverServed service (caller_at s) (first_in (lengths_at s) body) (second_in (lengths_at s) body)
        (third_in (lengths_at s) body) code
    pub counted : r ≡ with_case t 5 (same_service code service s)

  -- a trace is replayed
  pub record Replayed (r : Counters) : Type 0 where
    pub code : ℕ
    pub after : List ℕ
    pub told : List ℕ
    pub served : ReplayServed service (caller_at s) (first_in (lengths_at s) body) (second_in (lengths_at s) body) (third_in (lengths_at s) body)
        (take (bytes_at s) bytes) (take (numbers_at s) numbers) code after told
    pub counted : r ≡ with_case t 6 (same_replay code service (after ++ drop (bytes_at s) bytes) (told ++ drop (numbers_at s) numbers) s)

  -- two traces are replayed across a handover
  pub record ReplayedAcross (r : Counters) : Type 0 where
    pub code : ℕ
    pub after : List ℕ
    pub told : List ℕ
    pub served : AcrossServed service (caller_at s) (first_in (lengths_at s) body) (second_in (lengths_at s) body) (third_in (lengths_at s) body)
        (fourth_in (lengths_at s) body) (fifth_in (lengths_at s) body) (sixth_on (lengths_at s) body)
        (take (bytes_at s) bytes) (take (numbers_at s) numbers) code after told
    pub counted : r ≡ with_case t 7 (same_replay code service (after ++ drop (bytes_at s) bytes) (told ++ drop (numbers_at s) numbers) s)

-- the host sets the number of a caller
pub record Changed (service s : List ℕ) (t : Counters) (left : List ℕ) (r : Counters) : Type 0 where
  pub changed : left ≡ number_set service (caller_at s) (set_at s)
  pub counted : r ≡ with_case t 1 (same_service 0 left s)

-- what a turn counts as, by what is done; an unknown number counts as a difference
pub data Counted (service body s : List ℕ) (t : Counters) (left : List ℕ) (r : Counters) : Type 0 where
  opened : turn_kind_of s ≡ Ok Open → Opened service body s t left r → Counted service body s t left r
  changed : turn_kind_of s ≡ Ok Set → Changed service s t left r → Counted service body s t left r
  checked : turn_kind_of s ≡ Ok Check → left ≡ service → Checked service body s t r → Counted service body s t left r
  trimmed : turn_kind_of s ≡ Ok Trim → left ≡ service → Trimmed service body s t r → Counted service body s t left r
  billed : turn_kind_of s ≡ Ok Bill → Billed service body s t left r → Counted service body s t left r
  handed : turn_kind_of s ≡ Ok Handover → left ≡ service → HandedOver service body s t r → Counted service body s t left r
  replayed : turn_kind_of s ≡ Ok Replay → left ≡ service → Replayed service body s t r → Counted service body s t left r
  across : turn_kind_of s ≡ Ok ReplayAcross → left ≡ service → ReplayedAcross service body s t r → Counted service body s t left r
  other : (x : UnknownTurn) → turn_kind_of s ≡ Err x → left ≡ service → r ≡ with_case t 8 false → Counted service body s t left r
