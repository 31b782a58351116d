-- The turns of a file, one by one.
use mathlib.Core.Path.{◌≡◌, refl, sym}
use Rattle.std.proofs.Common.{Result, Ok, Err}
use mathlib.Core.Bool.{Bool, false}
use mathlib.Core.List.{List, ◌++◌}
use Prim.Native.Nat.{ℕ, ◌+◌, ◌≤◌}
use native.Mathlib.Omega.{arith}
use lib.ListN.{length, take, drop, length-append, length-drop}
use lib.Seq.{length-take-le}
use Rattle.bill_spec.specs.Output.{tariff_of}
use Rattle.bill_spec.specs.declared.tariff.Tariff.{Tariff}
use Rattle.service_spec.specs.Opening.{opening_code, service_for}
use Rattle.service_spec.specs.Promise.{CheckServed, TrimServed, BillServed, HandoverServed, ReplayServed, AcrossServed}
use Rattle.vectors.specs.Counters.{with_case}
use Rattle.vectors.specs.declared.counters.Counters.{Counters}
use Rattle.vectors.proofs.CounterFacts.{Running, running_none, running_more, running_over}
use Rattle.vectors.specs.Parts.{first_in, second_in, third_in, fourth_in, fifth_in, sixth_on}
use Rattle.vectors.specs.declared.turn.TurnKind.{TurnKind}
use Rattle.vectors.specs.declared.turn.TurnKind.TheVariants.{Open, Set, Check, Trim, Bill, Handover, Replay, ReplayAcross}
use Rattle.vectors.specs.declared.turn.UnknownTurn.{UnknownTurn}
use Rattle.vectors.specs.Turn.{most_bytes, most_numbers, bytes, numbers, turn_kind_of, service_at, caller_at, lengths_at, set_at, bytes_at, numbers_at, tariff_at}
use Rattle.vectors.specs.TurnSame.{same_service, same_verdict, same_trimmed, same_bill, same_replay}
use Rattle.vectors_service.specs.Judge.{number_set, Opened, Changed, Checked, Trimmed, Billed, HandedOver, Replayed, ReplayedAcross, Counted, opened, changed, checked, trimmed, billed, handed, replayed, across, other}

-- a front of the room is lent, and the rest stays
module _ (r : List ℕ) (n most : ℕ) (l : length r ≡ most) (h : n ≤ most) where
  front_fits : n ≤ length r
  front_fits = rw l h

  front_length : n ≡ length (take n r)
  front_length = rw (length-take-le n r front_fits)

  whole_length : (after : List ℕ) → length after ≡ length (take n r) → most ≡ length (after ++ drop n r)
  whole_length after q = rw (length-append after (drop n r), q, length-drop n r, l, ← front_length) (omega arith)

bytes_within : (s : List ℕ) (n : ℕ) → n ≡ bytes_at s → n ≤ most_bytes
unfolding bytes_at
bytes_within s n e = omega arith

bytes_length : {r : List ℕ} → r ≡ bytes → length r ≡ most_bytes
unfolding bytes
bytes_length q = rw q

numbers_within : (s : List ℕ) (n : ℕ) → n ≡ numbers_at s → n ≤ most_numbers
unfolding numbers_at
numbers_within s n e = omega arith

numbers_length : {r : List ℕ} → r ≡ numbers → length r ≡ most_numbers
unfolding numbers
numbers_length q = rw q

module _ (s r : List ℕ) (n : ℕ) (e : n ≡ bytes_at s) (q : r ≡ bytes) where
  pub bytes_fit : n ≤ length r
  bytes_fit = front_fits r n most_bytes (bytes_length q) (bytes_within s n e)

  pub bytes_front : n ≡ length (take n r)
  bytes_front = front_length r n most_bytes (bytes_length q) (bytes_within s n e)

  pub bytes_back : (after : List ℕ) → length after ≡ length (take n r) → most_bytes ≡ length (after ++ drop n r)
  bytes_back = whole_length r n most_bytes (bytes_length q) (bytes_within s n e)

  pub checked_counted : (service image after : List ℕ) (t u : Counters) (c code : ℕ) (same : Bool) → c ≡ caller_at s
      → CheckServed service c image (take n r) code after
      → same ≡ same_verdict code service (after ++ drop n r) s → u ≡ with_case t 2 same → Checked service image s t u
  checked_counted service image after t u c code same d w y g =
      record { code = code; after = after; served = rw (← d, ← e, ← q) w; counted = rw (← e, ← q, ← y) g }

  pub trimmed_counted : (service image after : List ℕ) (t u : Counters) (c code written : ℕ) (same : Bool) → c ≡ caller_at s
      → TrimServed service c image (take n r) code written after → same ≡ same_trimmed code service written (after ++ drop n r) s
      → u ≡ with_case t 3 same
      → Trimmed service image s t u
  trimmed_counted service image after t u c code written same d w y g =
      record { code = code; written = written; after = after; served = rw (← d, ← e, ← q) w; counted = rw (← e, ← q, ← y) g }

module _ (s r : List ℕ) (n : ℕ) (e : n ≡ numbers_at s) (q : r ≡ numbers) where
  pub numbers_fit : n ≤ length r
  numbers_fit = front_fits r n most_numbers (numbers_length q) (numbers_within s n e)

  pub numbers_front : n ≡ length (take n r)
  numbers_front = front_length r n most_numbers (numbers_length q) (numbers_within s n e)

  pub numbers_back : (after : List ℕ) → length after ≡ length (take n r) → most_numbers ≡ length (after ++ drop n r)
  numbers_back = whole_length r n most_numbers (numbers_length q) (numbers_within s n e)

  pub billed_counted : (service image left after : List ℕ) (t u : Counters) (code : ℕ) (same : Bool)
      → BillServed service (caller_at s) image (tariff_at s) (take n r) left code after → same ≡ same_bill code left (after ++ drop n r) s
      → u ≡ with_case t 4 same
      → Billed service image s t left u
  billed_counted service image left after t u code same w y g =
      record { code = code; after = after; served = rw (← e, ← q) w; counted = rw (← e, ← q, ← y) g }

service_within : (s : List ℕ) (n : ℕ) → n ≡ service_at s → n ≤ 16
unfolding service_at
service_within s n e = omega arith

-- a front of the service is passed, and the rest stays
module _ (s r : List ℕ) (n : ℕ) (e : n ≡ service_at s) (q : 16 ≡ length r) where
  pub service_fit : n ≤ length r
  service_fit = front_fits r n 16 (sym q) (service_within s n e)

  pub service_front : n ≡ length (take n r)
  service_front = front_length r n 16 (sym q) (service_within s n e)

  pub service_back : (after : List ℕ) → length after ≡ length (take n r) → 16 ≡ length (after ++ drop n r)
  service_back = whole_length r n 16 (sym q) (service_within s n e)

pub bill_called : (service image s answer left after : List ℕ) (f : Tariff) (c code : ℕ) → f ≡ tariff_at s → c ≡ caller_at s
    → BillServed service c image (tariff_of f.start f.step f.taken f.interference f.least) answer left code after
    → BillServed service (caller_at s) image (tariff_at s) answer left code after
bill_called service image s answer left after f c code e d w = rw (← e, ← d) w

-- the parts by the lengths stored
module _ (service body s n : List ℕ) (c : ℕ) (k : n ≡ lengths_at s) (d : c ≡ caller_at s) (x y z : List ℕ) (ex : x ≡ first_in n body)
    (ey : y ≡ second_in n body) (ez : z ≡ third_in n body) where
  pub handover_called : (code : ℕ) → HandoverServed service c x y z code
      → HandoverServed service (caller_at s) (first_in (lengths_at s) body) (second_in (lengths_at s) body) (third_in (lengths_at s) body) code
  handover_called code w = rw (← d, ← k, ← ex, ← ey, ← ez) w

  pub replay_called : (table answer after told : List ℕ) (code : ℕ) → ReplayServed service c x y z table answer code after told
      → ReplayServed service (caller_at s) (first_in (lengths_at s) body) (second_in (lengths_at s) body) (third_in (lengths_at s) body) table
      answer code after told
  replay_called table answer after told code w = rw (← d, ← k, ← ex, ← ey, ← ez) w

  pub across_called : (u v g table answer after told : List ℕ) (code : ℕ) → u ≡ fourth_in n body → v ≡ fifth_in n body → g ≡ sixth_on n body
      → AcrossServed service c x y z u v g table answer code after told
      → AcrossServed service (caller_at s) (first_in (lengths_at s) body) (second_in (lengths_at s) body) (third_in (lengths_at s) body)
      (fourth_in (lengths_at s) body) (fifth_in (lengths_at s) body) (sixth_on (lengths_at s) body) table answer code after told
  across_called u v g table answer after told code eu ev eg w = rw (← d, ← k, ← ex, ← ey, ← ez, ← eu, ← ev, ← eg) w

pub handover_counted : (service body s : List ℕ) (t u : Counters) (code : ℕ) (same : Bool)
    → HandoverServed service (caller_at s) (first_in (lengths_at s) body) (second_in (lengths_at s) body) (third_in (lengths_at s) body) code
    → same ≡ same_service code service s → u ≡ with_case t 5 same → HandedOver service body s t u
handover_counted service body s t u code same w y g = record { code = code; served = w; counted = rw (← y) g }

module _ (s table numbers' : List ℕ) (n m : ℕ) (d : n ≡ bytes_at s) (e : m ≡ numbers_at s) (p : table ≡ bytes) (q : numbers' ≡ numbers) where
  pub replay_counted : (service body after told : List ℕ) (t u : Counters) (code : ℕ) (same : Bool)
      → ReplayServed service (caller_at s) (first_in (lengths_at s) body) (second_in (lengths_at s) body) (third_in (lengths_at s) body)
      (take n table) (take m numbers') code after told
      → same ≡ same_replay code service (after ++ drop n table) (told ++ drop m numbers') s → u ≡ with_case t 6 same
      → Replayed service body s t u
  replay_counted service body after told t u code same w y g =
      record { code = code; after = after; told = told; served = rw (← d, ← e, ← p, ← q) w; counted = rw (← d, ← e, ← p, ← q, ← y) g }

  pub across_counted : (service body after told : List ℕ) (t u : Counters) (code : ℕ) (same : Bool)
      → AcrossServed service (caller_at s) (first_in (lengths_at s) body) (second_in (lengths_at s) body) (third_in (lengths_at s) body)
      (fourth_in (lengths_at s) body) (fifth_in (lengths_at s) body) (sixth_on (lengths_at s) body) (take n table) (take m numbers') code
      after told
      → same ≡ same_replay code service (after ++ drop n table) (told ++ drop m numbers') s → u ≡ with_case t 7 same
      → ReplayedAcross service body s t u
  across_counted service body after told t u code same w y g =
      record { code = code; after = after; told = told; served = rw (← d, ← e, ← p, ← q) w; counted = rw (← d, ← e, ← p, ← q, ← y) g }

pub opened_counted : (service rights s left : List ℕ) (t u : Counters) (code : ℕ) (same : Bool) → code ≡ opening_code service
    → left ≡ service_for rights service
    → same ≡ same_service code left s → u ≡ with_case t 0 same → Opened service rights s t left u
opened_counted service rights s left t u code same d l y g = record { opened = l; counted = rw (← d, ← y) g }

pub changed_counted : (service s left : List ℕ) (t u : Counters) (c n : ℕ) (same : Bool) → c ≡ caller_at s → n ≡ set_at s
    → left ≡ number_set service c n
    → same ≡ same_service 0 left s → u ≡ with_case t 1 same → Changed service s t left u
changed_counted service s left t u c n same d m l y g = record { changed = rw (← d, ← m) l; counted = rw (← y) g }

pub ruleset lending = (bytes_fit, bytes_front, bytes_back, numbers_fit, numbers_front, numbers_back)

-- by what is done
module _ (service body s left : List ℕ) (t u : Counters) (d : Result TurnKind UnknownTurn) (e : d ≡ turn_kind_of s) where
  pub turn_opened : d ≡ Ok Open → Opened service body s t left u → Counted service body s t left u
  turn_opened h c = opened (rw (← e) h) c

  pub turn_changed : d ≡ Ok Set → Changed service s t left u → Counted service body s t left u
  turn_changed h c = changed (rw (← e) h) c

  pub turn_checked : d ≡ Ok Check → Checked service body s t u → Counted service body s t service u
  turn_checked h c = checked (rw (← e) h) refl c

  pub turn_trimmed : d ≡ Ok Trim → Trimmed service body s t u → Counted service body s t service u
  turn_trimmed h c = trimmed (rw (← e) h) refl c

  pub turn_billed : d ≡ Ok Bill → Billed service body s t left u → Counted service body s t left u
  turn_billed h c = billed (rw (← e) h) c

  pub turn_handed : d ≡ Ok Handover → HandedOver service body s t u → Counted service body s t service u
  turn_handed h c = handed (rw (← e) h) refl c

  pub turn_replayed : d ≡ Ok Replay → Replayed service body s t u → Counted service body s t service u
  turn_replayed h c = replayed (rw (← e) h) refl c

  pub turn_across : d ≡ Ok ReplayAcross → ReplayedAcross service body s t u → Counted service body s t service u
  turn_across h c = across (rw (← e) h) refl c

  pub turn_other : (x : UnknownTurn) → d ≡ Err x → u ≡ with_case t 8 false → Counted service body s t service u
  turn_other x h c = other x (rw (← e) h) refl c

pub ruleset with_turn_branches = (
  turn_opened,
  turn_changed,
  turn_checked,
  turn_trimmed,
  turn_billed,
  turn_handed,
  turn_replayed,
  turn_across,
  turn_other,
)

pub running_turn : (t r : Counters) (more : ℕ) (service body s left : List ℕ) → Running t more → Counted service body s t left r
    → Running r (more + 1)
running_turn t r more service body s left f (opened d c) =
    running_more t r more 0 (same_service (opening_code service) left s) f c.counted
running_turn t r more service body s left f (changed d c) = running_more t r more 1 (same_service 0 left s) f c.counted
running_turn t r more service body s left f (checked d k c) =
    running_more t r more 2 (same_verdict c.code service (c.after ++ drop (bytes_at s) bytes) s) f c.counted
running_turn t r more service body s left f (trimmed d k c) =
    running_more t r more 3 (same_trimmed c.code service c.written (c.after ++ drop (bytes_at s) bytes) s) f c.counted
running_turn t r more service body s left f (billed d c) =
    running_more t r more 4 (same_bill c.code left (c.after ++ drop (numbers_at s) numbers) s) f c.counted
running_turn t r more service body s left f (handed d k c) = running_more t r more 5 (same_service c.code service s) f c.counted
running_turn t r more service body s left f (replayed d k c) =
    running_more t r more 6 (same_replay c.code service (c.after ++ drop (bytes_at s) bytes) (c.told ++ drop (numbers_at s) numbers) s)
    f c.counted
running_turn t r more service body s left f (across d k c) =
    running_more t r more 7 (same_replay c.code service (c.after ++ drop (bytes_at s) bytes) (c.told ++ drop (numbers_at s) numbers) s)
    f c.counted
running_turn t r more service body s left f (other x d k c) = running_more t r more 8 false f c

pub ruleset judge_all_branches = (running_none, running_turn, running_over, service_fit, service_front, service_back)
