-- What a turn left, compared with what is stored of it; s is what is stored.
use Rattle.std.specs.Prelude.{ℕ, Bool, true, ◌&&◌, List, [], ◌∷◌, take, drop, ◌==◌}
use Rattle.limits.specs.Numbers.{le16}
use Rattle.vectors.specs.Number.{long}
use Rattle.vectors.specs.Room.{holds}
use Rattle.vectors.specs.Turn.{blank, most_bytes}

-- the numbers, read by f, are those in front of s, 32 bits each
unfoldable pub same_longs_by : {A : Type 0} → (A → ℕ) → List A → List ℕ → Bool
same_longs_by f [] s = true
same_longs_by f (n ∷ l) s = f n == long s && same_longs_by f l (drop 4 s)

-- the numbers are those in front of s, 32 bits each
abbrev pub same_longs : List ℕ → List ℕ → Bool
same_longs l s = same_longs_by (λ n. n) l s

-- the code and the service afterwards are as stored
unfoldable pub same_service : ℕ → List ℕ → List ℕ → Bool
same_service code service s = code == le16 (drop 44 s) && same_longs service (drop 50 s)

-- the whole buffer of bytes, of which the front was passed, is as stored
unfoldable pub same_bytes : List ℕ → List ℕ → Bool
same_bytes after s = holds after (take most_bytes (drop 210 s)) blank

-- the whole buffer of numbers, read by f, of which the front was passed, is as stored
unfoldable pub same_numbers_by : {A : Type 0} → (A → ℕ) → List A → List ℕ → Bool
same_numbers_by f after s = same_longs_by f after (drop 114 s)

-- the whole buffer of numbers, of which the front was passed, is as stored
abbrev pub same_numbers : List ℕ → List ℕ → Bool
same_numbers after s = same_numbers_by (λ n. n) after s

-- the length written and the whole buffer of bytes are as stored
unfoldable pub same_written : ℕ → List ℕ → List ℕ → Bool
same_written written after s = written == long (drop 46 s) && same_bytes after s

-- a check left what is stored
unfoldable pub same_verdict : ℕ → List ℕ → List ℕ → List ℕ → Bool
same_verdict code service after s = same_service code service s && same_bytes after s

-- trimming left what is stored
unfoldable pub same_trimmed : ℕ → List ℕ → ℕ → List ℕ → List ℕ → Bool
same_trimmed code service written after s = same_service code service s && same_written written after s

-- a bill left what is stored
unfoldable pub same_bill : ℕ → List ℕ → List ℕ → List ℕ → Bool
same_bill code service after s = same_service code service s && same_numbers after s

-- a replay left what is stored
unfoldable pub same_replay : ℕ → List ℕ → List ℕ → List ℕ → List ℕ → Bool
same_replay code service after told s = same_service code service s && (same_bytes after s && same_numbers told s)
