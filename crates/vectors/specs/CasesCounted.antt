-- The counters of cases that are judged one after the other.
use Rattle.std.specs.Prelude.{◌≡◌, ℕ, suc, ◌^◌, ◌<◌, Bool, cond, List, [], ◌∷◌, length}
use Rattle.vectors.specs.Counters.{no_case, with_case}
use Rattle.vectors.specs.declared.counters.Counters.{Counters}

-- the kind of an answer, and whether it is the stored one
pub record Case : Type 0 where
  pub kind : ℕ
  pub same : Bool

-- the counters of these cases, the last of which is first in the list
unfoldable pub counted : List Case → Counters
counted [] = no_case
counted (c ∷ l) = with_case (counted l) c.kind c.same

-- how many of the cases differ
unfoldable pub differing : List Case → ℕ
differing [] = 0
differing (c ∷ l) = cond c.same (differing l) (suc (differing l))

-- counters that come from cases alone, too few for a count to wrap
pub record FromCases (t : Counters) : Type 0 where
  pub judged : List Case
  pub tells : t ≡ counted judged
  pub few : length judged < 2 ^ 64
