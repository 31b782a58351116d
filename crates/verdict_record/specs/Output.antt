-- The code returned and the bytes written for a verdict v, with the buffer `out`.
use Rattle.std.specs.Prelude.{cond, List, ◌++◌, ℕ, ltb, length, drop}
use Rattle.verdict_record.specs.Fields.{fields_of}
use Rattle.verdict_record.specs.Record.{size, record_bytes}
use Rattle.verdict_record.specs.declared.verdict.Verdict.{Verdict}

-- 1 for a buffer "shorter than 22 bytes", else the verdict's own code
unfoldable pub code_for : Verdict → List ℕ → ℕ
code_for v out = cond (ltb (length out) size) 1 (fields_of v).code

-- the record, and after it the bytes that were there; a buffer that is too short stays as it is
unfoldable pub bytes_for : Verdict → List ℕ → List ℕ
bytes_for v out = cond (ltb (length out) size) out (record_bytes (fields_of v) ++ drop size out)
