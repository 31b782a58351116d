-- The tally of a file, case by case.
use mathlib.Core.Path.{◌≡◌}
use mathlib.Core.List.{List}
use Prim.Native.Nat.{ℕ, ◌+◌}
use lib.ListN.{drop}
use Rattle.limits.specs.Numbers.{le16}
use Rattle.formula.specs.Reader.{reading_of}
use Rattle.vectors.specs.declared.counters.Counters.{Counters}
use Rattle.vectors.proofs.CounterFacts.{Running, running_none, running_more, running_over}
use Rattle.vectors_formulas.specs.Answer.{numbered, kind_of, is_answer}
use Rattle.vectors_formulas.specs.Judge.{counts_at, with_formula}

pub running_formula : (t q : Counters) (n : ℕ) (body s : List ℕ) → Running t n → q ≡ with_formula t body s → Running q (n + 1)
unfolding with_formula
running_formula t q n body s f e =
    running_more t q n (kind_of (numbered (reading_of body (counts_at s))))
    (is_answer (numbered (reading_of body (counts_at s))) (le16 (drop 4 s)) (le16 (drop 6 s))) f e

pub ruleset judge_all_branches = (running_none, running_formula, running_over)
