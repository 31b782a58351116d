-- The ways through the functions that compare a reading with the stored answer, one law for each.
use mathlib.Core.Path.{◌≡◌}
use mathlib.Core.Bool.{Bool}
use mathlib.Core.List.{List}
use Prim.Native.Nat.{ℕ}
use lib.ListN.{drop}
use Rattle.limits.specs.Numbers.{le16}
use Rattle.formula.specs.Reader.{reading_of}
use Rattle.formula.specs.declared.reader.Counts.{Counts}
use Rattle.std.proofs.Common.{Result}
use Rattle.formula.specs.declared.reader.Fault.{Fault}
use Rattle.vectors.specs.Counters.{with_case}
use Rattle.vectors.specs.declared.counters.Counters.{Counters}
use Rattle.vectors_formulas.specs.Answer.{numbered, kind_of, is_answer}
use Rattle.vectors_formulas.specs.Judge.{counts_at, with_formula}

pub formula_counted : (t q : Counters) (body s : List ℕ) (n : Counts) (f : Result ℕ Fault) (r : Result ℕ ℕ) (a b k : ℕ) (same : Bool)
    → n ≡ counts_at s → f ≡ reading_of body n → r ≡ numbered f → a ≡ le16 (drop 4 s)
    → b ≡ le16 (drop 6 s) → same ≡ is_answer r a b → k ≡ kind_of r → q ≡ with_case t k same → q ≡ with_formula t body s
unfolding with_formula
formula_counted t q body s n f r a b k same en ef er ea eb es ek eq = rw (← en, ← ef, ← er, ← ea, ← eb, ← es, ← ek) eq
