-- Tallies that come from cases, and what their numbers say of them.
use Rattle.std.proofs.Common.{◌≡◌, ℕ, ◌+◌, ◌^◌, ◌<◌, ◌≤◌, Bool, true, false, List, [], ◌∷◌, length, refl, ap, ◌∙◌, arith}
use Rattle.vectors.specs.Counters.{no_case, with_kind, with_difference, with_case}
use Rattle.vectors.specs.CasesCounted.{Case, counted, differing, FromCases}
use Rattle.vectors.specs.declared.counters.Counters.{Counters}

-- one more than the cases that a file may have
abbrev turns : ℕ
turns = 100001

-- within a loop that has judged at most n cases
pub record Running (t : Counters) (n : ℕ) : Type 0 where
  judged : List Case
  tells : t ≡ counted judged
  few : length judged ≤ n

pub running_none : (t : Counters) → t ≡ no_case → Running t 0
unfolding counted
running_none t e = record { judged = []; tells = e; few = omega arith }

pub running_more : (t r : Counters) (n k : ℕ) (same : Bool) → Running t n → r ≡ with_case t k same → Running r (n + 1)
unfolding counted
running_more t r n k same f e =
    record {
      judged = record { kind = k; same = same } ∷ f.judged;
      tells = e
          ∙ ap (λ x. with_case x k same) f.tells;
      few = omega (arith, f.few);
    }

pub running_over : (t : Counters) (n : ℕ) → n ≤ turns → Running t n → FromCases t
running_over t n h f = record { judged = f.judged; tells = f.tells; few = omega (arith, f.few) }

cases_counted : (l : List Case) → length l < 2 ^ 64 → (counted l).cases ≡ length l
unfolding counted no_case with_case with_kind with_difference
cases_counted [] h = refl
cases_counted (c ∷ l) h = go c.same (cases_counted l (omega arith))
  where
    go : (b : Bool) → (counted l).cases ≡ length l → (with_case (counted l) c.kind b).cases ≡ length (c ∷ l)
    go true e = omega arith
    go false e = omega arith

differing_most : (l : List Case) → differing l ≤ length l
unfolding differing
differing_most [] = omega arith
differing_most (c ∷ l) = go c.same (differing_most l)
  where
    go : (b : Bool) → differing l ≤ length l → differing (record { kind = 0; same = b } ∷ l) ≤ length (c ∷ l)
    go true h = omega arith
    go false h = omega arith

differing_counted : (l : List Case) → length l < 2 ^ 64 → (counted l).differ ≡ differing l
unfolding counted no_case with_case with_kind with_difference differing
differing_counted [] h = refl
differing_counted (c ∷ l) h = go c.same (differing_counted l (omega arith)) (differing_most l)
  where
    go : (b : Bool) → (counted l).differ ≡ differing l → differing l ≤ length l
        → (with_case (counted l) c.kind b).differ ≡ differing (record { kind = c.kind; same = b } ∷ l)
    go true e m = e
    go false e m = omega arith

-- how many cases there are and how many of them differ is what the tally says
pub all_counted : (t : Counters) (f : FromCases t) → (t.cases ≡ length f.judged) × (t.differ ≡ differing f.judged)
all_counted t f = (
  ap (λ x. x.cases) f.tells ∙ cases_counted f.judged f.few,
  ap (λ x. x.differ) f.tells
      ∙ differing_counted f.judged f.few,
)
