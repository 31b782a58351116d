-- A formula's record: "1 to 255 bytes, prefix form, nesting at most 16".
use Rattle.std.specs.Prelude.{List, ℕ, length, Result, Ok, Err}
use Rattle.limits.specs.Limits as Limits
use Rattle.limits.specs.Numbers.{within}
use Rattle.image_frames.specs.Fault.{unless, Checked, passed}
use Rattle.image_frames.specs.declared.fault.Fault.{Fault}
use Rattle.image_frames.specs.declared.fault.Fault.TheVariants.{Body, Number, Formula}
use Rattle.formula.specs.declared.reader.Counts.{Counts}
use Rattle.formula.specs.declared.reader.Fault.{Fault as ReaderFault}
use Rattle.formula.specs.declared.reader.Fault.TheVariants.{Range, Malformed}
use Rattle.formula.specs.Reader.{reading_of}
use Rattle.image_header.specs.declared.sizes.Sizes.{Sizes}

-- the counts that bound a formula's numbers
unfoldable pub counts_of : Sizes → Counts
counts_of z = record { threads = z.threads; words = z.words; registers = z.registers; values = z.range }

-- the reader's fault as one of the image: 6 for a number outside its range, else 7
unfoldable pub fault_of : ReaderFault → Fault
fault_of Range = Number
fault_of Malformed = Formula

-- what the reader returns, as a check
unfoldable pub read : Result ℕ ReaderFault → Checked
read (Ok s) = passed
read (Err e) = Err (fault_of e)

-- code 5; then "inside a formula the first fault from the left", 6 or 7
unfoldable pub formula : Sizes → List ℕ → Checked
formula z b = unless (within 1 Limits.formula_bytes (length b)) Body (read (reading_of b (counts_of z)))
