-- What the reader passes is within the counts and the nesting, and has registers alone where it must.
use mathlib.Core.Path.{◌≡◌, sym, subst}
use mathlib.Core.Bool.{◌&&◌}
use mathlib.Core.List.{List}
use Prim.Native.Nat.{ℕ, ◌≤◌}
use lib.Dec.{T}
use Rattle.semantics.specs.Formula.{Sort, Formula, nesting, Formula.const, Formula.reg, Formula.word, Formula.sum, Formula.equal, Formula.less, Formula.not, Formula.and, Formula.or, Formula.unsync, Formula.cov, Formula.box, Formula.one, Formula.chop, Formula.both, Formula.either, Formula.sees, Formula.both_a, Formula.either_a, Formula.start, Formula.holds}
use Rattle.semantics.specs.Base.{within}
use Rattle.semantics.specs.Names.{plain}
use Rattle.semantics.specs.Eval.{bounded}
use Rattle.semantics.proofs.Base.{and_left, and_right, and_both}
use Rattle.formula.specs.Codes.{assertion}
use Rattle.formula.specs.Reader.{fault_at}
use Rattle.formula.specs.declared.reader.Counts.{Counts}
use Rattle.formula_trees.specs.Place.{sort_at, formula_at, over_regs, alone, in_counts}
use Rattle.formula_trees.proofs.ReadFormula.{Passed, passed, is_formula}

-- a formula within the counts has constants that are values
both_bounded : {s r : Sort} (n : Counts) (f : Formula s) (g : Formula r) → (T (in_counts n f) → T (bounded n.values f))
    → (T (in_counts n g) → T (bounded n.values g))
    → T (in_counts n f && in_counts n g) → T (bounded n.values f && bounded n.values g)
both_bounded n f g a b h = and_both (bounded n.values f) (bounded n.values g) (a (and_left (in_counts n f) (in_counts n g) h))
    (b (and_right (in_counts n f) (in_counts n g) h))

counts_bounded : {s : Sort} (n : Counts) (f : Formula s) → T (in_counts n f) → T (bounded n.values f)
counts_bounded n (const v) = λ h. h
counts_bounded n (reg r) = λ h. tt
counts_bounded n (word x) = λ h. tt
counts_bounded n (sum f g) = both_bounded n f g (counts_bounded n f) (counts_bounded n g)
counts_bounded n Formula.false = λ h. tt
counts_bounded n (equal f g) = both_bounded n f g (counts_bounded n f) (counts_bounded n g)
counts_bounded n (less f g) = both_bounded n f g (counts_bounded n f) (counts_bounded n g)
counts_bounded n (not f) = counts_bounded n f
counts_bounded n (and f g) = both_bounded n f g (counts_bounded n f) (counts_bounded n g)
counts_bounded n (or f g) = both_bounded n f g (counts_bounded n f) (counts_bounded n g)
counts_bounded n (unsync x) = λ h. tt
counts_bounded n (cov x) = λ h. tt
counts_bounded n (box f) = counts_bounded n f
counts_bounded n (one x) = λ h. tt
counts_bounded n (chop f g) = both_bounded n f g (counts_bounded n f) (counts_bounded n g)
counts_bounded n (both f g) = both_bounded n f g (counts_bounded n f) (counts_bounded n g)
counts_bounded n (either f g) = both_bounded n f g (counts_bounded n f) (counts_bounded n g)
counts_bounded n (sees t f) = λ h. counts_bounded n f (and_right (within n.threads t) (in_counts n f) h)
counts_bounded n (both_a f g) = both_bounded n f g (counts_bounded n f) (counts_bounded n g)
counts_bounded n (either_a f g) = both_bounded n f g (counts_bounded n f) (counts_bounded n g)
counts_bounded n start = λ h. tt
counts_bounded n (holds f) = counts_bounded n f

module _ (s : List ℕ) (n : Counts) (k at : ℕ) where
  -- what is true of the formula passed is true of the one that stands there
  there : (p : ℕ) (P : Formula (sort_at p) → Type 0) → fault_at s n k p at ≡ 0 → ((q : Passed s n k p at) → P q.formula)
      → P (formula_at s k p at)
  there p P h f = subst P (sym (is_formula s n k p at (passed s n k p at h))) (f (passed s n k p at h))

  pub reads_counts : (p : ℕ) → fault_at s n k p at ≡ 0 → T (in_counts n (formula_at s k p at))
  reads_counts p h = there p (λ f. T (in_counts n f)) h (λ q. q.counted)

  pub reads_nesting : (p : ℕ) → fault_at s n k p at ≡ 0 → nesting (formula_at s k p at) ≤ k
  reads_nesting p h = there p (λ f. nesting f ≤ k) h (λ q. q.deep)

  pub reads_alone : (p : ℕ) → fault_at s n k p at ≡ 0 → T (alone (over_regs p) (formula_at s k p at))
  reads_alone p h = there p (λ f. T (alone (over_regs p) f)) h (λ q. q.lone)

  pub reads_bounded : (p : ℕ) → fault_at s n k p at ≡ 0 → T (bounded n.values (formula_at s k p at))
  reads_bounded p h = counts_bounded n (formula_at s k p at) (reads_counts p h)

  -- assertions
  pub reads_plain : fault_at s n k assertion at ≡ 0 → T (plain (formula_at s k assertion at))
  reads_plain h = reads_alone assertion h
