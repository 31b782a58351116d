-- The body from one part on.
use Rattle.std.proofs.Common.{◌≡◌, ℕ, ◌+◌, ◌*◌, List, drop, refl, add-one}
use Rattle.vectors.specs.Number.{long}
use Rattle.vectors.specs.Parts.{part_on}

pub part_none : (s body : List ℕ) → body ≡ part_on 0 s body
unfolding part_on
part_none s body = refl

pub part_more : (n k : ℕ) (s body left r : List ℕ) → left ≡ part_on n s body → k ≡ long (drop (4 * n) s) → r ≡ drop k left → r ≡ part_on (n + 1) s body
unfolding part_on
part_more n k s body left r e d q = rw (add-one n, ← e, ← d) q

pub ruleset parts = (part_none, part_more)
