-- What a formula is at a place of the reader: its sort, its numbers within the counts, registers alone where they must be.
use Rattle.std.specs.Prelude.{◌≡◌, Bool, true, false, ◌&&◌, cond, List, [], ℕ, ◌≤◌, ◌<◌, T, eqb, ltb}
use Rattle.std.proofs.Math.Seq.{slice}
use Rattle.semantics.specs.Base.{within}
use Rattle.semantics.specs.Formula.{Sort, Formula, encode, nesting, Formula.const, Formula.reg, Formula.word, Formula.sum, Formula.equal, Formula.less, Formula.and, Formula.or, Formula.unsync, Formula.cov, Formula.box, Formula.one, Formula.chop, Formula.both, Formula.either, Formula.sees, Formula.both_a, Formula.either_a, Formula.start, Formula.holds}
use Rattle.semantics.specs.Names.{only, is_reg, plain}
use Rattle.limits.specs.Limits.{nesting as most}
use Rattle.formula.specs.Codes.{value, test, interval, assertion, reg_value, reg_test}
use Rattle.formula.specs.Tree.{parse_tree}
use Rattle.formula.specs.declared.reader.Counts.{Counts}
use Rattle.formula_trees.specs.ToTree.{of_tree}

-- the sort of a place; where no code fits, any sort will do
abbrev pub sort_at : ℕ → Sort
sort_at p =
    cond (eqb p value) Sort.value (cond (eqb p test) Sort.test
    (cond (eqb p interval) Sort.interval (cond (eqb p assertion) Sort.assertion (cond (eqb p reg_value) Sort.value Sort.test))))

-- the place of a sort, over registers alone if r
abbrev pub place : Bool → Sort → ℕ
place r Sort.value = cond r reg_value value
place r Sort.test = cond r reg_test test
place r Sort.interval = interval
place r Sort.assertion = assertion

-- the formula of the place's sort at a position, down to the nesting k
abbrev pub formula_at : List ℕ → ℕ → (p : ℕ) → ℕ → Formula (sort_at p)
formula_at s k p at = of_tree (sort_at p) (parse_tree s k at).tree

-- the bytes of what is at a position
abbrev pub bytes_at : List ℕ → ℕ → ℕ → List ℕ
bytes_at s k at = slice at (parse_tree s k at).end s

-- a place over registers alone
abbrev pub over_regs : ℕ → Bool
over_regs p = cond (eqb p reg_value) true (eqb p reg_test)

-- registers alone: in a value or test if r, in an assertion under holds ("test without 2, 14, 15")
abbrev pub alone : {s : Sort} → Bool → Formula s → Bool
alone {s = Sort.value} r f = cond r (only is_reg f) true
alone {s = Sort.test} r f = cond r (only is_reg f) true
alone {s = Sort.interval} r f = true
alone {s = Sort.assertion} r f = plain f

-- constants are values; registers, words and threads are from 1 to their counts
abbrev pub in_counts : {s : Sort} → Counts → Formula s → Bool
in_counts n (const v) = ltb v n.values
in_counts n (reg r) = within n.registers r
in_counts n (word x) = within n.words x
in_counts n (sum f g) = in_counts n f && in_counts n g
in_counts n Formula.false = true
in_counts n (equal f g) = in_counts n f && in_counts n g
in_counts n (less f g) = in_counts n f && in_counts n g
in_counts n (Formula.not f) = in_counts n f
in_counts n (and f g) = in_counts n f && in_counts n g
in_counts n (or f g) = in_counts n f && in_counts n g
in_counts n (unsync x) = within n.words x
in_counts n (cov x) = within n.words x
in_counts n (box f) = in_counts n f
in_counts n (one x) = within n.words x
in_counts n (chop f g) = in_counts n f && in_counts n g
in_counts n (both f g) = in_counts n f && in_counts n g
in_counts n (either f g) = in_counts n f && in_counts n g
in_counts n (sees t f) = within n.threads t && in_counts n f
in_counts n (both_a f g) = in_counts n f && in_counts n g
in_counts n (either_a f g) = in_counts n f && in_counts n g
in_counts n start = true
in_counts n (holds f) = in_counts n f

-- a body that is the bytes of a formula of the place's sort, within the counts and the nesting
pub record Readable (b : List ℕ) (n : Counts) (p : ℕ) : Type 0 where
  pub sort : p < 4
  pub formula : Formula (sort_at p)
  pub bytes : b ≡ encode formula []
  pub counted : T (in_counts n formula)
  pub lone : T (alone false formula)
  pub deep : nesting formula ≤ most
