-- An image as typed records: numbers where a record names formulas or lines, bytes where it names none.
use Rattle.std.specs.Prelude.{List, ℕ}
use Rattle.image_header.specs.declared.instruction.Instruction.{Instruction}

-- a line of the certificate; left and right are numbers of formulas, premises numbers of lines
pub record LineRecord : Type 0 where
  pub rule : ℕ
  pub thread : ℕ
  pub point : ℕ
  pub left : ℕ
  pub right : ℕ
  pub premises : List ℕ

-- a claim, "two threads are never at named points together", and the line that it rests on
pub record ClaimRecord : Type 0 where
  pub thread : ℕ
  pub point : ℕ
  pub other : ℕ
  pub other_point : ℕ
  pub line : ℕ

-- the records of an image in the order of their kinds
pub record Document : Type 0 where
  -- the body of the header record
  pub header : List ℕ
  -- the bodies of the formula records
  pub formulas : List (List ℕ)
  -- the instructions of each thread; a thread has one point more than instructions
  pub threads : List (List Instruction)
  -- "a formula per point, threads in order"
  pub outline : List ℕ
  pub lines : List LineRecord
  -- "a line number per obligation, 0 for none"
  pub obligations : List ℕ
  pub claims : List ClaimRecord
