-- The answer of trimming and the buffer afterwards, for every byte string and every buffer.
use Rattle.std.specs.Prelude.{cond, List, ◌++◌, ℕ, ltb, length, drop, Option, Some, None, Result, Ok, Err}
use Rattle.image_header.specs.declared.sizes.Sizes.{Sizes}
use Rattle.checker_spec.specs.Acceptance.{acceptance}
use Rattle.trim_encode.specs.declared.answer.Untrimmed.{Untrimmed}
use Rattle.trim_encode.specs.declared.answer.Untrimmed.TheVariants.{NotAccepted, Short}
use Rattle.trim_encode.specs.Trimmed.{trimmed_bytes}

-- the length of the trimmed image, or why there is none
abbrev pub Answer : Type 0
Answer = Result ℕ Untrimmed

-- "24 image not accepted", "25 output too short"
abbrev pub code_number : Untrimmed → ℕ
code_number NotAccepted = 24
code_number Short = 25

-- the code that is told: 0 for a trimmed image
abbrev pub code_of : Answer → ℕ
code_of (Ok n) = 0
code_of (Err e) = code_number e

-- "The answer gives the length written, 0 with an error."
abbrev pub length_of : Answer → ℕ
length_of (Ok n) = n
length_of (Err e) = 0

-- the answer for the trimmed image t: its length, or "25 output too short"
unfoldable pub answered_by : List ℕ → List ℕ → Answer
answered_by t buffer = cond (ltb (length buffer) (length t)) (Err Short) (Ok (length t))

-- "The output buffer is written only on success; bytes behind the image stay."
unfoldable pub buffer_by : List ℕ → List ℕ → List ℕ
buffer_by t buffer = cond (ltb (length buffer) (length t)) buffer (t ++ drop (length t) buffer)

-- the answer by the acceptance of s: "24 image not accepted, first"
abbrev pub answer_with : List ℕ → List ℕ → Option Sizes → Answer
answer_with s buffer (Some z) = answered_by (trimmed_bytes z s) buffer
answer_with s buffer None = Err NotAccepted

-- the buffer afterwards, by the acceptance of s
abbrev pub buffer_with : List ℕ → List ℕ → Option Sizes → List ℕ
buffer_with s buffer (Some z) = buffer_by (trimmed_bytes z s) buffer
buffer_with s buffer None = buffer

-- the answer for every byte string s
unfoldable pub answer_for : List ℕ → List ℕ → Answer
answer_for s buffer = answer_with s buffer (acceptance s)

-- the buffer afterwards, for every byte string s
unfoldable pub buffer_for : List ℕ → List ℕ → List ℕ
buffer_for s buffer = buffer_with s buffer (acceptance s)
