-- The verdict as a line of text: "the nine fields in the order above, decimal, one space between, a newline".
use Rattle.std.specs.Prelude.{cond, List, [], ◌∷◌, ◌++◌, ℕ, zero, suc, ◌+◌, ◌/◌, ◌%◌, ltb, take}
use Rattle.verdict_record.specs.declared.verdict.Fields.{Fields}
use Rattle.verdict_record.specs.declared.text.Text.{Text}

-- how many bytes a text may have
abbrev pub room : ℕ
room = 64

-- the bytes of a text
unfoldable pub written : Text → List ℕ
written t = take t.len t.bytes

-- m appended to l, as far as there is room
unfoldable pub added : List ℕ → List ℕ → List ℕ
added l m = take room (l ++ m)

-- the byte of a digit
abbrev pub digit : ℕ → ℕ
digit d = 48 + d

-- the last k decimal digits of n, without zeros in front if it has fewer
unfoldable pub digits : ℕ → ℕ → List ℕ
digits zero n = []
digits (suc k) n = cond (ltb n 10) (digit n ∷ []) (digits k (n / 10) ++ (digit (n % 10) ∷ []))

-- a number of 16 bits in decimal
abbrev pub decimal : ℕ → List ℕ
decimal n = digits 5 (n % 65536)

-- a number in decimal and the byte after it
unfoldable pub numbered : ℕ → ℕ → List ℕ
numbered n behind = decimal n ++ (behind ∷ [])

abbrev pub space : ℕ
space = 32

abbrev pub newline : ℕ
newline = 10

-- the five numbers from the class to the other point
unfoldable pub place_text : Fields → List ℕ
place_text f = numbered f.class space ++ (numbered f.thread space
    ++ (numbered f.point space ++ (numbered f.other_thread space ++ numbered f.other_point space)))

-- the line of text
unfoldable pub text_of : Fields → List ℕ
text_of f = numbered f.code space ++ (numbered f.«record» space
    ++ (place_text f ++ (numbered f.line space ++ numbered f.count newline)))
