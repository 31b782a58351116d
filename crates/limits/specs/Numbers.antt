-- Numbers in bytes, and tests on them.
use Rattle.std.specs.Prelude.{Bool, true, false, ◌&&◌, List, [], ◌∷◌, ℕ, zero, suc, ◌+◌, ◌*◌, leb, get_or, drop}

-- the number in the first two bytes; "all 16-bit numbers are little-endian"
unfoldable pub le16 : List ℕ → ℕ
le16 l = get_or l 0 0 + 256 * get_or l 1 0

-- the list has at least n bytes
unfoldable pub has : ℕ → List ℕ → Bool
has zero l = true
has (suc n) [] = false
has (suc n) (x ∷ l) = has n l

-- the first n 16-bit numbers of the list
unfoldable pub numbers : ℕ → List ℕ → List ℕ
numbers zero l = []
numbers (suc n) l = le16 l ∷ numbers n (drop 2 l)

-- x is from lo to hi, both included
unfoldable pub within : ℕ → ℕ → ℕ → Bool
within lo hi x = leb lo x && leb x hi

-- every member of the list passes the test f
unfoldable pub every : {A : Type 0} → (A → Bool) → List A → Bool
every f [] = true
every f (x ∷ l) = f x && every f l

-- member number k, counted from 1; d where there is none
unfoldable pub nth : {A : Type 0} → List A → ℕ → A → A
nth l zero d = d
nth l (suc k) d = get_or l k d
