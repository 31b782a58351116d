-- The numbers of a verdict fit the 16 bits that each has in its record and in its line of text.
use Rattle.std.specs.Prelude.{ℕ, ◌<◌}
use Rattle.verdict_record.specs.declared.verdict.Fields.{Fields}

-- the least number that 16 bits do not hold
abbrev pub beyond : ℕ
beyond = 65536

-- each of the nine numbers has at most 16 bits
pub record Uncut (f : Fields) : Type 0 where
  pub code : f.code < beyond
  pub «record» : f.«record» < beyond
  pub class : f.class < beyond
  pub thread : f.thread < beyond
  pub point : f.point < beyond
  pub other_thread : f.other_thread < beyond
  pub other_point : f.other_point < beyond
  pub line : f.line < beyond
  pub count : f.count < beyond
