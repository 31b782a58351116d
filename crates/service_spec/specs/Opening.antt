-- The opening of a service, with the rights that are given: a byte for each caller.
use Rattle.std.specs.Prelude.{cond, List, [], ◌∷◌, ◌++◌, ℕ, zero, suc, ◌*◌, ◌%◌, ltb, length, get_or, drop, replicate}
use Rattle.service_spec.specs.Account.{callers}

-- how many numbers a service has
abbrev pub places : ℕ
places = 2 * callers

-- the rights of the caller at index i: three bits of its byte, none if the byte is missing
abbrev pub rights_given : List ℕ → ℕ → ℕ
rights_given r i = get_or r i 0 % 8

-- the rights of n callers, from the one at index i on
abbrev pub given_from : List ℕ → ℕ → ℕ → List ℕ
given_from r i zero = []
given_from r i (suc n) = rights_given r i ∷ given_from r (suc i) n

-- the rights of all callers, then their numbers, "starting at 0"
unfoldable pub opened : List ℕ → List ℕ
opened r = given_from r 0 callers ++ replicate callers 0

-- 1 if the buffer is too short for the numbers, else 0
unfoldable pub opening_code : List ℕ → ℕ
opening_code room = cond (ltb (length room) places) 1 0

-- the buffer afterwards: one that is too short stays, and so do the numbers behind
unfoldable pub service_for : List ℕ → List ℕ → List ℕ
service_for r room = cond (ltb (length room) places) room (opened r ++ drop places room)
