-- Canonical documents: every number fits the one or two bytes that the encoding has for it.
use Rattle.std.specs.Prelude.{◌≡◌, false, List, [], ℕ, ◌+◌, ◌<◌, length, get_or}
use Rattle.image_header.specs.Instruction.{twofold, no_half}
use Rattle.image_header.specs.Thread.{nothing}
use Rattle.image_header.specs.declared.instruction.Half.{Half}
use Rattle.image_header.specs.declared.instruction.Instruction.{Instruction}
use Rattle.trim_spec.specs.Document.{Document, LineRecord, ClaimRecord}

-- a number that fits in one byte
abbrev pub Byte : ℕ → Type 0
Byte n = n < 256

-- a number that fits in two bytes
abbrev pub Short : ℕ → Type 0
Short n = n < 65536

-- every member of a list, by its index; d is the value past its end, which is never asked for
abbrev pub Each : {A : Type 0} → (A → Type 0) → A → List A → Type 0
Each F d l = (i : ℕ) → i < length l → F (get_or l i d)

-- a list of bytes
abbrev pub Bytes : List ℕ → Type 0
Bytes l = Each Byte 0 l

-- a list of 16-bit numbers
abbrev pub Shorts : List ℕ → Type 0
Shorts l = Each Short 0 l

-- the numbers of a pair's second half fit its five bytes
pub record HalfFits (h : Half) : Type 0 where
  pub operation : Byte h.operation
  pub a : Byte h.a
  pub b : Byte h.b
  pub formula : Short h.formula

-- the numbers of an instruction fit its bytes; an operation without a second half has zeros for one
pub record InstructionFits (i : Instruction) : Type 0 where
  pub operation : Byte i.operation
  pub a : Byte i.a
  pub b : Byte i.b
  pub formula : Short i.formula
  pub second : HalfFits i.second
  pub single : twofold i.operation ≡ false → i.second ≡ no_half

-- the number of points, one more than there are instructions, fits in a byte, and so does every instruction in its bytes
pub record ThreadFits (l : List Instruction) : Type 0 where
  pub points : Byte (length l + 1)
  pub each : Each InstructionFits nothing l

-- the numbers of a certificate line fit its bytes
pub record LineFits (v : LineRecord) : Type 0 where
  pub rule : Byte v.rule
  pub thread : Byte v.thread
  pub point : Byte v.point
  pub left : Short v.left
  pub right : Short v.right
  pub count : Byte (length v.premises)
  pub premises : Shorts v.premises

-- the numbers of a claim fit its bytes
pub record ClaimFits (c : ClaimRecord) : Type 0 where
  pub thread : Byte c.thread
  pub point : Byte c.point
  pub other : Byte c.other
  pub other_point : Byte c.other_point
  pub line : Short c.line

-- the line at an index that a list does not have
abbrev pub no_line : LineRecord
no_line = record { rule = 0; thread = 0; point = 0; left = 0; right = 0; premises = [] }

-- the claim at an index that a list does not have
abbrev pub no_claim : ClaimRecord
no_claim = record { thread = 0; point = 0; other = 0; other_point = 0; line = 0 }

-- every number of a document fits its bytes, so that its encoding can be read back
pub record Canonical (D : Document) : Type 0 where
  pub header : Bytes D.header
  pub formulas : Each Bytes [] D.formulas
  pub threads : Each ThreadFits [] D.threads
  pub outline : Shorts D.outline
  pub lines : Each LineFits no_line D.lines
  pub obligations : Shorts D.obligations
  pub claims : Each ClaimFits no_claim D.claims
