-- Which calls a file holds.
use Rattle.std.specs.Prelude.{Bool, cond, List, [], ◌∷◌, ℕ, nat_eq}
use Rattle.std.specs.List.{starts_with}
use Rattle.vectors_calls.specs.declared.kind.Kind.{Kind}
use Rattle.vectors_calls.specs.declared.kind.Kind.TheVariants.{Verdicts, Trims, Bills, Replays, Handovers, Across}

-- the name begins with this word
abbrev pub begins : List ℕ → List ℕ → Bool
begins name word = starts_with nat_eq name word

-- the bytes of "trim"
abbrev pub trim_word : List ℕ
trim_word = 116 ∷ 114 ∷ 105 ∷ 109 ∷ []

-- the bytes of "bills"
abbrev pub bills_word : List ℕ
bills_word = 98 ∷ 105 ∷ 108 ∷ 108 ∷ 115 ∷ []

-- the bytes of "replay"
abbrev pub replay_word : List ℕ
replay_word = 114 ∷ 101 ∷ 112 ∷ 108 ∷ 97 ∷ 121 ∷ []

-- the bytes of "handover"
abbrev pub handover_word : List ℕ
handover_word = 104 ∷ 97 ∷ 110 ∷ 100 ∷ 111 ∷ 118 ∷ 101 ∷ 114 ∷ []

-- the bytes of "across"
abbrev pub across_word : List ℕ
across_word = 97 ∷ 99 ∷ 114 ∷ 111 ∷ 115 ∷ 115 ∷ []

-- the calls of a file, by the front of its name
unfoldable pub kind_of : List ℕ → Kind
kind_of name =
    cond (begins name trim_word) Trims
    (cond (begins name bills_word) Bills
    (cond (begins name replay_word) Replays (cond (begins name handover_word) Handovers (cond (begins name across_word) Across Verdicts))))

-- the length of each case's tail
unfoldable pub tail_of : Kind → ℕ
tail_of Verdicts = 18
tail_of Trims = 10
tail_of Bills = 44
tail_of Replays = 106
tail_of Handovers = 10
tail_of Across = 118
