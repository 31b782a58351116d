-- Images put together from their records: a thread of one point, its assertion, and the lines that prove it.
use Rattle.std.specs.Prelude.{List, [], ◌∷◌, ◌++◌, ℕ, zero, suc, ◌+◌, ◌-◌, ◌/◌, ◌%◌, length, replicate}
use Rattle.image_frames.specs.Kinds as Kinds
use Rattle.verdict_record.specs.Record.{two}

-- a record: "length (16 bits, counts all that follows in the record), kind (16 bits), body"
abbrev pub framed : ℕ → List ℕ → List ℕ
framed kind body = two (2 + length body) ++ (two kind ++ body)

-- a formula record
abbrev pub formula : List ℕ → List ℕ
formula body = framed Kinds.formula body

-- a thread record with one point, and so no instruction
abbrev pub thread : List ℕ
thread = framed Kinds.thread (1 ∷ [])

-- an outline record with one formula number
abbrev pub outline : ℕ → List ℕ
outline n = framed Kinds.outline (two n)

-- a line record: an implication by a rule from formula to formula; then the count of its premises and their numbers
abbrev pub line : ℕ → ℕ → ℕ → List ℕ → List ℕ
line rule left right premises = framed Kinds.line (rule ∷ 0 ∷ 0 ∷ two left ++ (two right ++ premises))

-- an obligations record with one line number
abbrev pub obligation : ℕ → List ℕ
obligation n = framed Kinds.obligations (two n)

-- an image whose assertion f is proved by truth table
abbrev pub entailed_by_table : List ℕ → List ℕ
entailed_by_table f = framed Kinds.header (1 ∷ 1 ∷ 0 ∷ 8 ∷ 0 ∷ [])
    ++ (formula f ++ (formula (27 ∷ []) ++ (thread ++ (outline 1 ++ (line 20 2 1 (0 ∷ []) ++ obligation 1)))))

-- an image with this range and these counts of words and registers, whose assertion is `1 sees [e]`; line 1 proves it by rows from
-- `holds not false`, and line 2 has line 1 as premise
abbrev pub entailed_by_rows : ℕ → ℕ → ℕ → List ℕ → List ℕ
entailed_by_rows range words registers e =
    framed Kinds.header (1 ∷ words ∷ registers ∷ range ∷ replicate words 0 ++ (replicate registers 1 ++ replicate registers 1))
    ++ (formula (28 ∷ 11 ∷ 8 ∷ []) ++ (formula (27 ∷ [])
    ++ (formula (24 ∷ 1 ∷ 16 ∷ e) ++ (thread ++ (outline 3 ++ (line 24 1 3 (0 ∷ []) ++ (line 20 2 3 (1 ∷ two 1) ++ obligation 2)))))))

-- an assertion of nesting k: `holds`, negations, `false and false`
abbrev pub nested : ℕ → List ℕ
nested k = 28 ∷ replicate (k - 3) 11 ++ (12 ∷ 8 ∷ 8 ∷ [])

-- a test: one of k different comparisons, or `not false`
abbrev pub compared : ℕ → List ℕ
compared zero = 11 ∷ 8 ∷ []
compared (suc k) = 13 ∷ 9 ∷ 0 ∷ k / 8 ∷ 0 ∷ k % 8 ∷ compared k

-- a value: the sum of the names 1 to n with this code, and 0
abbrev pub summed : ℕ → ℕ → List ℕ
summed code zero = 0 ∷ 0 ∷ []
summed code (suc n) = 3 ∷ code ∷ suc n ∷ summed code n

-- a test with all names 1 to `words` and 1 to `registers`: neither sum is less than 0
abbrev pub named : ℕ → ℕ → List ℕ
named words registers = 12 ∷ 11 ∷ 10 ∷ summed 2 words ++ (0 ∷ 0 ∷ 11 ∷ 10 ∷ summed 1 registers ++ (0 ∷ 0 ∷ []))

-- a test with a flag more: unsync of word 1, or e
abbrev pub flagged : List ℕ → List ℕ
flagged e = 13 ∷ 14 ∷ 1 ∷ e
