-- The parts of a case's body, one after the other; their lengths are at the front of s, 32 bits each.
use Rattle.std.specs.Prelude.{ℕ, zero, suc, ◌*◌, List, take, drop}
use Rattle.vectors.specs.Number.{long}

-- the body from part n on, counted from 0
unfoldable pub part_on : ℕ → List ℕ → List ℕ → List ℕ
part_on zero s body = body
part_on (suc n) s body = drop (long (drop (4 * n) s)) (part_on n s body)

-- part n, counted from 0
unfoldable pub part_in : ℕ → List ℕ → List ℕ → List ℕ
part_in n s body = take (long (drop (4 * n) s)) (drop 0 (part_on n s body))

-- the first part
abbrev pub first_in : List ℕ → List ℕ → List ℕ
first_in s body = part_in 0 s body

-- the body from the second part on
abbrev pub second_on : List ℕ → List ℕ → List ℕ
second_on s body = part_on 1 s body

-- the second part
abbrev pub second_in : List ℕ → List ℕ → List ℕ
second_in s body = part_in 1 s body

-- the body from the third part on
abbrev pub third_on : List ℕ → List ℕ → List ℕ
third_on s body = part_on 2 s body

-- the third part
abbrev pub third_in : List ℕ → List ℕ → List ℕ
third_in s body = part_in 2 s body

-- the body from the fourth part on
abbrev pub fourth_on : List ℕ → List ℕ → List ℕ
fourth_on s body = part_on 3 s body

-- the fourth part
abbrev pub fourth_in : List ℕ → List ℕ → List ℕ
fourth_in s body = part_in 3 s body

-- the fifth part
abbrev pub fifth_in : List ℕ → List ℕ → List ℕ
fifth_in s body = part_in 4 s body

-- the body from the sixth part on
abbrev pub sixth_on : List ℕ → List ℕ → List ℕ
sixth_on s body = part_on 5 s body

-- the sixth part
abbrev pub sixth_in : List ℕ → List ℕ → List ℕ
sixth_in s body = part_in 5 s body

-- the body from the seventh part on
abbrev pub seventh_on : List ℕ → List ℕ → List ℕ
seventh_on s body = part_on 6 s body
