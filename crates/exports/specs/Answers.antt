-- Results as one number each.
use Rattle.std.specs.Prelude.{ℕ, ◌+◌, ◌*◌, ◌%◌, Bool, cond, Result, Ok, Err}
use Rattle.formula.specs.Reader.{limit, number_of}
use Rattle.formula.specs.declared.reader.Fault.{Fault}
use Rattle.image_frames.specs.Fault.{code_of}
use Rattle.image_frames.specs.declared.fault.Refusal.{Refusal}
use Rattle.image_header.specs.declared.sizes.Sizes.{Sizes}

-- a fault, or a sort behind the numbers of the faults
abbrev pub of_reading : Result ℕ Fault → ℕ
of_reading (Ok sort) = limit + sort
of_reading (Err fault) = number_of fault

-- 0 for a well-formed image, else the code times 65,536, plus the record
abbrev pub of_decoded : Result Sizes Refusal → ℕ
of_decoded (Err r) = code_of r.fault * 65536 + r.record % 65536
of_decoded (Ok z) = 0

-- 1 for true, 0 for false
abbrev pub of_truth : Bool → ℕ
of_truth b = cond b 1 0
