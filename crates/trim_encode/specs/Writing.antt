-- What a writer writes.
use Rattle.std.specs.Prelude.{◌≡◌, List, ◌++◌, ℕ, ◌+◌, ◌-◌, ◌≤◌, length, take, drop}
use Rattle.verdict_record.specs.Record.{two}
use Rattle.trim_encode.specs.declared.writer.Writer.{Writer}

-- the buffer o with the bytes x at position p; the bytes before and after them stay
unfoldable pub overwritten : List ℕ → ℕ → List ℕ → List ℕ
overwritten o p x = take p o ++ (x ++ drop (p + length x) o)

-- there is room for n bytes
abbrev pub Room : Writer → ℕ → Type 0
Room w n = w.at + n ≤ length w.out.now

-- the writer w has written x, and is v now
pub record Puts (w v : Writer) (x : List ℕ) : Type 0 where
  -- it has the same buffer
  pub same : v.out.ghost_name ≡ w.out.ghost_name
  -- x is written behind what was written before; the bytes behind x stay
  pub written : take v.at v.out.now ≡ take w.at w.out.now ++ x
  pub behind : drop v.at v.out.now ≡ drop (w.at + length x) w.out.now
  pub end : v.at ≡ w.at + length x
  pub long : length v.out.now ≡ length w.out.now

-- the writer w has left the place of a record's length and kind, and is v now
pub record Begun (w v : Writer) : Type 0 where
  pub same : v.out.ghost_name ≡ w.out.ghost_name
  pub bytes : v.out.now ≡ w.out.now
  pub at : v.at ≡ w.at + 4

-- the writer w has written length and kind of the record of kind k that begins at p, and is v now
pub record Finished (w v : Writer) (p k : ℕ) : Type 0 where
  pub same : v.out.ghost_name ≡ w.out.ghost_name
  pub bytes : v.out.now ≡ overwritten w.out.now p (two (w.at - p - 2) ++ two k)
  pub at : v.at ≡ w.at
