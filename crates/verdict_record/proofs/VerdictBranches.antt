-- The ways through the functions of a verdict, one law for each.
use mathlib.Core.Path.{◌≡◌}
use mathlib.Core.List.{List, ◌++◌}
use Prim.Native.Nat.{ℕ, ◌≤◌, ◌<◌}
use lib.ListN.{length, drop}
use borrow.Author.Tests.{lt-ltb, le-ltb}
use Rattle.image_frames.specs.Fault.{code_of}
use Rattle.image_frames.specs.declared.fault.Fault.{Fault}
use Rattle.verdict_record.specs.ObligationPlace.{place_of}
use Rattle.verdict_record.specs.Fields.{nowhere, gathered, fields_of}
use Rattle.verdict_record.specs.Record.{size, record_bytes}
use Rattle.verdict_record.specs.Output.{code_for, bytes_for}
use Rattle.verdict_record.specs.declared.obligation.Obligation.{Obligation}
use Rattle.verdict_record.specs.declared.obligation.Obligation.TheVariants.{Start, Step, Taken, Interference}
use Rattle.verdict_record.specs.declared.obligation.Place.{Place}
use Rattle.verdict_record.specs.declared.verdict.Verdict.{Verdict}
use Rattle.verdict_record.specs.declared.verdict.Verdict.TheVariants.{Accepted, Refused, Failed, Denied}
use Rattle.verdict_record.specs.declared.verdict.Fields.{Fields}

module _ (o : Obligation) (t k : ℕ) where
  pub place_start : o ≡ Start t → record { class = 1; thread = t; point = 0; other_thread = 0; other_point = 0 } ≡ place_of o
  unfolding place_of
  place_start e = rw e

  pub place_step : o ≡ Step t k → record { class = 2; thread = t; point = k; other_thread = 0; other_point = 0 } ≡ place_of o
  unfolding place_of
  place_step e = rw e

  pub place_taken : o ≡ Taken t k → record { class = 3; thread = t; point = k; other_thread = 0; other_point = 0 } ≡ place_of o
  unfolding place_of
  place_taken e = rw e

  pub place_interference : (u j : ℕ) → o ≡ Interference t k u j
      → record { class = 4; thread = t; point = k; other_thread = u; other_point = j } ≡ place_of o
  unfolding place_of
  place_interference u j e = rw e

pub ruleset place_of_branches = (place_start, place_step, place_taken, place_interference)

module _ (v : Verdict) where
  pub fields_accepted : (n : ℕ) (r : Fields) → v ≡ Accepted n → r ≡ gathered 0 0 nowhere 0 n → r ≡ fields_of v
  unfolding fields_of
  fields_accepted n r e d = rw (d, e)

  pub fields_refused : (f : Fault) (i c : ℕ) (r : Fields) → v ≡ Refused f i → c ≡ code_of f → r ≡ gathered c i nowhere 0 0 → r ≡ fields_of v
  unfolding fields_of
  fields_refused f i c r e h d = rw (d, e, h)

  pub fields_failed : (o : Obligation) (c l n : ℕ) (p : Place) (r : Fields) → v ≡ Failed o c l n → p ≡ place_of o → r ≡ gathered c 0 p l n
      → r ≡ fields_of v
  unfolding fields_of
  fields_failed o c l n p r e h d = rw (d, e, h)

  pub fields_denied : (i : ℕ) (p : Place) (l n : ℕ) (r : Fields) → v ≡ Denied i p l n → r ≡ gathered 26 i p l n → r ≡ fields_of v
  unfolding fields_of
  fields_denied i p l n r e d = rw (d, e)

pub ruleset fields_of_branches = (fields_accepted, fields_refused, fields_failed, fields_denied)

module _ (v : Verdict) (out : List ℕ) where
  pub short_code : length out < size → 1 ≡ code_for v out
  unfolding code_for
  short_code h = rw (lt-ltb _ _ h)

  pub short_bytes : length out < size → out ≡ bytes_for v out
  unfolding bytes_for
  short_bytes h = rw (lt-ltb _ _ h)

  module _ (h : size ≤ length out) (f : Fields) (e : f ≡ fields_of v) where
    pub report_code : f.code ≡ code_for v out
    unfolding code_for
    report_code = rw (le-ltb _ _ h, e)

    pub report_bytes : (b w : List ℕ) → b ≡ record_bytes f → w ≡ b ++ drop size out → w ≡ bytes_for v out
    unfolding bytes_for
    report_bytes b w d q = rw (le-ltb _ _ h, ← e, ← d) q

pub ruleset report_branches = (report_code, report_bytes)
