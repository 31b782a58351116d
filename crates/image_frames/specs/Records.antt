-- The bodies of an image's records, and where the records start.
use Rattle.std.specs.Prelude.{List, [], ◌∷◌, ℕ, zero, suc, ◌+◌, ◌-◌, min, length, take, drop}
use Rattle.limits.specs.Limits as Limits
use Rattle.limits.specs.Numbers.{le16}

-- the body of the first record of l: the bytes after its length and its kind
unfoldable pub body : List ℕ → List ℕ
body l = take (le16 l - 2) (drop 4 l)

-- the bodies of the first k records; fewer where the bytes end before
unfoldable pub cut : ℕ → List ℕ → List (List ℕ)
cut zero l = []
cut (suc k) [] = []
cut (suc k) (x ∷ l) = body (x ∷ l) ∷ cut k (drop (2 + le16 (x ∷ l)) (x ∷ l))

-- the bodies of all records of an image
unfoldable pub bodies : List ℕ → List (List ℕ)
bodies s = cut Limits.records s

-- the position of the record that has i records before it; the image's end where there is none
unfoldable pub start_of : List ℕ → ℕ → ℕ
start_of s zero = 0
start_of s (suc i) = min (length s) (start_of s i + 2 + le16 (drop (start_of s i) s))
