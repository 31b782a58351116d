-- Faults: their codes in the verdict, and checks in sequence.
use Rattle.std.specs.Prelude.{Bool, true, false, ℕ, Result, Ok, Err}
use Rattle.image_frames.specs.declared.fault.Fault.{Fault}
use Rattle.image_frames.specs.declared.fault.Fault.TheVariants.{Size, Length, Kind, Body, Number, Formula, Sort, Owner, Operand}

-- the verdict's code of each fault, as the page's table has it; 23 is "operand names the result register"
unfoldable pub code_of : Fault → ℕ
code_of Size = 2
code_of Length = 3
code_of Kind = 4
code_of Body = 5
code_of Number = 6
code_of Formula = 7
code_of Sort = 8
code_of Owner = 9
code_of Operand = 23

-- what a check of a part of the image finds: nothing, or its first fault
abbrev pub Checked : Type 0
Checked = Result (Unit {0}) Fault

abbrev pub passed : Checked
passed = Ok tt

-- c if the test is passed, else the fault f
unfoldable pub unless : Bool → Fault → Checked → Checked
unless true f c = c
unless false f c = Err f

-- the first fault of two checks
unfoldable pub also : Checked → Checked → Checked
also (Ok _) c = c
also (Err f) c = Err f
