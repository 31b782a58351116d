-- Stored verdicts, and records of verdicts compared with them; s is what is stored, nine numbers of 16 bits.
use Rattle.std.specs.Prelude.{Bool, ◌&&◌, List, [], ◌∷◌, ℕ, eqb, take, drop, replicate}
use Rattle.limits.specs.Numbers.{le16}
use Rattle.vectors.specs.Room.{holds}

-- how many bytes the buffer has: the 22 of the record, and four more
abbrev pub most : ℕ
most = 26

-- every byte of the buffer before the call
abbrev pub blank : ℕ
blank = 170

-- the buffer before the call
unfoldable pub room : List ℕ
room = replicate most blank

-- the length and the kind in front of the nine numbers: "a record of 22 bytes, kind 7"
abbrev pub frame : List ℕ
frame = 20 ∷ 0 ∷ 7 ∷ 0 ∷ []

-- the buffer begins with that frame
unfoldable pub is_framed : List ℕ → Bool
is_framed after = holds (take 4 after) frame 0

-- the code is the stored one; the buffer holds the frame, the stored numbers byte by byte, and behind them what stood there before
unfoldable pub same_record : ℕ → List ℕ → List ℕ → Bool
same_record code after s = eqb code (le16 s) && (is_framed after && holds (drop 4 after) s blank)
