-- Stored trimmed images, and answers compared with them; s is what is stored.
use Rattle.std.specs.Prelude.{ℕ, ◌+◌, min, Bool, ◌&&◌, List, length, drop, replicate, ◌==◌}
use Rattle.limits.specs.Limits.{image_bytes}
use Rattle.limits.specs.Numbers.{le16}
use Rattle.vectors.specs.Number.{long}
use Rattle.vectors.specs.Room.{holds}

-- how many bytes the buffer has
abbrev pub most : ℕ
most = image_bytes + 1

-- every byte of the buffer before the call
abbrev pub blank : ℕ
blank = 170

-- the buffer before the call
unfoldable pub room : List ℕ
room = replicate most blank

-- how many bytes of the buffer are passed
unfoldable pub lent_at : List ℕ → ℕ
lent_at s = min (long (drop 0 s)) most

-- the code
abbrev pub code_at : List ℕ → ℕ
code_at s = le16 (drop 4 s)

-- the code, the length written and the whole buffer afterwards are as stored; with an error `trimmed` is empty
unfoldable pub same_answer : ℕ → ℕ → List ℕ → List ℕ → List ℕ → Bool
same_answer code written after s trimmed = code == code_at s && (written == length trimmed && holds after trimmed blank)
