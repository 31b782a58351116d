-- The line of text for what was read from the input.
use Rattle.std.specs.Prelude.{◌≡◌, List, ℕ, ◌≤◌, take, Result, Ok, Err}
use Rattle.std.specs.declared.io.Error.{Error}
use Rattle.limits.specs.Limits as Limits
use Rattle.input.specs.Filled.{Fits}
use Rattle.input.specs.declared.Filled.{Filled}
use Rattle.input.specs.declared.Filled.TheVariants.{Full, Ended}
use Rattle.verdict_record.specs.Fields.{fields_of}
use Rattle.verdict_record.specs.Text.{text_of, room}
use Rattle.verdict_record.specs.declared.text.Text.{Text}
use Rattle.checker_spec.specs.ImageVerdict.{verdict_within}

-- the line of the verdict on the image; "the program still refuses above 65,535" bytes
unfoldable pub line_of : List ℕ → List ℕ
line_of image = text_of (fields_of (verdict_within Limits.program_bytes image))

-- the line for exactly what came: all of the buffer, or what precedes the end of the input
unfoldable pub line_for : Filled → List ℕ → List ℕ
line_for Full buffer = line_of buffer
line_for (Ended n) buffer = line_of (take n buffer)

-- the line is the one for what filled the buffer, whatever that was
pub record Answers (buffer line : List ℕ) : Type 0 where
  pub filled : Filled
  pub fits : Fits (Ok filled) buffer
  pub is : line ≡ line_for filled buffer

-- the text holds the line, within its room
abbrev pub Holds : Text → List ℕ → Type 0
Holds text line = (take text.len text.bytes ≡ line) × (text.len ≤ room)

-- what is told of a buffer that was filled so: the line for what came; where a read failed its error, and no line
unfoldable pub Told : Result Filled Error → List ℕ → Result Text Error → Type 0
Told (Ok filled) buffer answer = (text : Text) × (answer ≡ Ok text) × Holds text (line_for filled buffer)
Told (Err e) buffer answer = answer ≡ Err e

-- the answer is the one for what filled the buffer, whatever that was
pub record Answered (answer : Result Text Error) (buffer : List ℕ) : Type 0 where
  pub filled : Result Filled Error
  pub fits : Fits filled buffer
  pub told : Told filled buffer answer
