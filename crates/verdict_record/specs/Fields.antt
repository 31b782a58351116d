-- The nine numbers of a verdict. "Fields that don't apply are 0".
use Rattle.std.specs.Prelude.{ℕ}
use Rattle.image_frames.specs.Fault.{code_of}
use Rattle.verdict_record.specs.ObligationPlace.{place_of}
use Rattle.verdict_record.specs.declared.obligation.Place.{Place}
use Rattle.verdict_record.specs.declared.verdict.Verdict.{Verdict}
use Rattle.verdict_record.specs.declared.verdict.Verdict.TheVariants.{Accepted, Refused, Failed, Denied}
use Rattle.verdict_record.specs.declared.verdict.Fields.{Fields}

-- the place of a verdict that names no obligation and no claim
abbrev pub nowhere : Place
nowhere = record { class = 0; thread = 0; point = 0; other_thread = 0; other_point = 0 }

-- code, record, place, line and count as nine numbers
unfoldable pub gathered : ℕ → ℕ → Place → ℕ → ℕ → Fields
gathered c i p l n =
    record {
      code = c;
      «record» = i;
      class = p.class;
      thread = p.thread;
      point = p.point;
      other_thread = p.other_thread;
      other_point = p.other_point;
      line = l;
      count = n;
    }

-- code 0 for an accepted image; a fault's code and record; an obligation's code, place, line and count; 26 with the record of a claim
unfoldable pub fields_of : Verdict → Fields
fields_of (Accepted n) = gathered 0 0 nowhere 0 n
fields_of (Refused f i) = gathered (code_of f) i nowhere 0 0
fields_of (Failed o c l n) = gathered c 0 (place_of o) l n
fields_of (Denied i p l n) = gathered 26 i p l n
