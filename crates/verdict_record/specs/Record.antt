-- "A record of 22 bytes, kind 7: code, record, class, thread, point, other thread, other point, line, count (16 bits each)".
use Rattle.std.specs.Prelude.{List, [], ◌∷◌, ◌++◌, ℕ, ◌-◌, ◌/◌, ◌%◌}
use Rattle.verdict_record.specs.declared.verdict.Fields.{Fields}

-- how many bytes the record has
abbrev pub size : ℕ
size = 22

-- the kind of the record
abbrev pub kind : ℕ
kind = 7

-- a number of 16 bits, little-endian
abbrev pub two : ℕ → List ℕ
two n = n % 256 ∷ (n / 256) % 256 ∷ []

-- the length, which counts all that follows it, the kind and the nine numbers
unfoldable pub record_bytes : Fields → List ℕ
record_bytes f =
    two (size - 2) ++ two kind ++ two f.code ++ two f.«record» ++ two f.class ++ two f.thread ++ two f.point
    ++ two f.other_thread ++ two f.other_point
    ++ two f.line ++ two f.count
