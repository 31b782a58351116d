-- The encoding of a document: its records in the order of their kinds, each with its length, its kind and its body.
use Rattle.std.specs.Prelude.{cond, List, [], ◌∷◌, ◌++◌, map, ℕ, ◌+◌, length}
use Rattle.logic.specs.Obligations.{flat}
use Rattle.image_frames.specs.Kinds as Kinds
use Rattle.image_header.specs.Instruction.{twofold}
use Rattle.image_header.specs.declared.instruction.Half.{Half}
use Rattle.image_header.specs.declared.instruction.Instruction.{Instruction}
use Rattle.verdict_record.specs.Record.{two}
use Rattle.trim_spec.specs.Document.{Document, LineRecord, ClaimRecord}

-- a record's kind and body
pub record Entry : Type 0 where
  pub kind : ℕ
  pub body : List ℕ

-- "length (16 bits, counts all that follows in the record), kind (16 bits), body"
unfoldable pub framed : Entry → List ℕ
framed e = two (2 + length e.body) ++ (two e.kind ++ e.body)

-- the five bytes of a pair's second half
unfoldable pub half_bytes : Half → List ℕ
half_bytes h = h.operation ∷ h.a ∷ h.b ∷ two h.formula

-- "operation, a, b (bytes), formula (16 bits)"; operations 9 to 12 have five bytes more
unfoldable pub instruction_bytes : Instruction → List ℕ
instruction_bytes i = i.operation ∷ i.a ∷ i.b ∷ two i.formula ++ cond (twofold i.operation) (half_bytes i.second) []

-- "points n", then n - 1 instructions
unfoldable pub thread_bytes : List Instruction → List ℕ
thread_bytes l = (length l + 1) ∷ flat instruction_bytes l

-- a list of 16-bit numbers, little-endian
unfoldable pub number_bytes : List ℕ → List ℕ
number_bytes l = flat two l

-- rule, thread, point (bytes), left and right formula (16 bits), premise count (byte), premises (16 bits)
unfoldable pub line_bytes : LineRecord → List ℕ
line_bytes v = v.rule ∷ v.thread ∷ v.point ∷ two v.left ++ (two v.right ++ (length v.premises ∷ number_bytes v.premises))

-- thread, point, other thread, other point (bytes), line (16 bits)
unfoldable pub claim_bytes : ClaimRecord → List ℕ
claim_bytes c = c.thread ∷ c.point ∷ c.other ∷ c.other_point ∷ two c.line

-- the record of kind k with body b
abbrev pub entry : ℕ → List ℕ → Entry
entry k b = record { kind = k; body = b }

-- records of kind k, whose bodies f makes
abbrev pub entries : {A : Type 0} → ℕ → (A → List ℕ) → List A → List Entry
entries k f l = map (λ x. entry k (f x)) l

-- the body of a formula is its bytes as they are
abbrev pub itself : List ℕ → List ℕ
itself b = b

-- the records of a document in the order of their kinds
unfoldable pub entries_of : Document → List Entry
entries_of D =
    entry Kinds.header D.header
    ∷ (entries Kinds.formula itself D.formulas
    ++ (entries Kinds.thread thread_bytes D.threads
    ++ (entry Kinds.outline (number_bytes D.outline)
    ∷ (entries Kinds.line line_bytes D.lines
    ++ (entry Kinds.obligations (number_bytes D.obligations)
    ∷ entries Kinds.claim claim_bytes D.claims)))))

-- the bodies of all records
unfoldable pub bodies_of : Document → List (List ℕ)
bodies_of D = map (λ e. e.body) (entries_of D)

-- the bytes of a document's image
unfoldable pub encode : Document → List ℕ
encode D = flat framed (entries_of D)
