-- Images trimmed and counted.
use mathlib.Core.Path.{◌≡◌, ap, ◌∙◌}
use mathlib.Core.Bool.{Bool}
use mathlib.Core.List.{List, ◌++◌}
use Prim.Native.Nat.{ℕ, ◌≤◌}
use native.Mathlib.Omega.{arith}
use lib.ListN.{length, take, drop, length-append, length-drop, length-replicate}
use lib.Seq.{length-take-le}
use Rattle.trim.specs.Promise.{Promise}
use Rattle.vectors.specs.Counters.{with_case}
use Rattle.vectors.specs.declared.counters.Counters.{Counters}
use Rattle.vectors.specs.Parts.{first_in, second_on}
use Rattle.vectors.specs.TrimAnswer.{most, blank, room, lent_at, same_answer}
use Rattle.vectors_calls.specs.Judge.{Trimmed}

lent_within : (s : List ℕ) (n : ℕ) → n ≡ lent_at s → n ≤ most
unfolding lent_at
lent_within s n e = omega arith

room_length : {r : List ℕ} → r ≡ room → length r ≡ most
unfolding room
room_length q = ap length q ∙ length-replicate most blank

-- a part of the room is lent, and the rest stays
module _ (s r : List ℕ) (n : ℕ) (e : n ≡ lent_at s) (q : r ≡ room) where
  pub lent_fits : n ≤ length r
  lent_fits = rw (room_length q) (lent_within s n e)

  pub lent_front : n ≡ length (take n r)
  lent_front = rw (length-take-le n r lent_fits)

  pub lent_back : (after : List ℕ) → length after ≡ length (take n r) → most ≡ length (after ++ drop n r)
  lent_back after l =
      let h = lent_within s n e in
      let z : length r ≡ most = room_length q in rw (length-append after (drop n r), l, length-drop n r, z, ← lent_front) (omega arith)

-- by the parts of the body and what is stored behind the first length
pub trimmed_counted : (body s stored r image after trimmed : List ℕ) (t u : Counters) (n code written : ℕ) (same : Bool) → stored ≡ drop 4 s
    → n ≡ lent_at stored → r ≡ room → image ≡ first_in s body → trimmed ≡ second_on s body → Promise image (take n r) code written after
    → same ≡ same_answer code written (after ++ drop n r) stored trimmed → u ≡ with_case t code same → Trimmed body s t u
trimmed_counted body s stored r image after trimmed t u n code written same z e q i v w d g =
    record {
      code = code;
      written = written;
      after = after;
      called = rw (← z, ← e, ← q, ← i) w;
      counted = rw (← z, ← e, ← q, ← v, ← d) g;
    }

pub ruleset with_trimmed_branches = (lent_fits, lent_front, lent_back, trimmed_counted)
