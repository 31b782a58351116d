-- Further rules, in the style of `Inference` and over the same statements. Their numbers go on from the published ones. t is the acting
-- thread, k its point, x the word, f the formula; u is any thread, t too.
use Rattle.std.specs.Prelude.{◌≡◌, Bool, true, false, not, ◌&&◌, List, [], ◌∷◌, ℕ, T, eqb}
use Rattle.semantics.specs.Formula.{Formula, Value, Test, Interval, Assertion, Formula.word, Formula.sum, Formula.and, Formula.or, Formula.cov, Formula.box, Formula.one, Formula.chop, Formula.both, Formula.either, Formula.sees, Formula.both_a, Formula.either_a, Formula.holds}
use Rattle.semantics.specs.Names.{Name, n_reg, n_word, n_unsync, n_cov, only, not_flag, not_reg}
use Rattle.semantics.specs.Replace.{replace, word_by}
use Rattle.semantics.specs.Machine.{Program, Mode.store, Mode.exchange, Mode.fetch_add, Access.write, Instr.act}
use Rattle.logic.specs.Rows.{entailed_by_rows}
use Rattle.logic.specs.Statement.{Statement, inside, implies, triple, half}
use Rattle.logic.specs.Inference.{newest}

-- the numbers of the further rules
pub data FurtherRule : Type 0 where
  r51 r52 r53 r54 r55 r56 r57 r58 r59 r60 r61 : FurtherRule

-- the name is a register, or the word x in a role that the view's position in x decides: its value, `one x`, cov x
abbrev pub along : ℕ → Name → Bool
along x (n_reg r) = true
along x (n_word y) = eqb y x
along x (n_unsync y) = false
along x (n_cov y) = eqb y x

-- of an exchange: neither a flag of x nor the result register
abbrev pub steady_exchange : ℕ → ℕ → Name → Bool
steady_exchange r x n = not_flag x n && not_reg r n

-- of a fetch-add: the value of x, or a register other than the result register
abbrev pub steady_add : ℕ → ℕ → Name → Bool
steady_add r x (n_reg q) = not (eqb q r)
steady_add r x (n_word y) = eqb y x
steady_add r x (n_unsync y) = false
steady_add r x (n_cov y) = false

-- what an interval says of a list of a single view, as a test at that view
abbrev pub at_last : Interval → Test
at_last (box e) = e
at_last (one x) = Formula.not Formula.false
at_last (chop i j) = or (at_last i) (at_last j)
at_last (both i j) = and (at_last i) (at_last j)
at_last (either i j) = or (at_last i) (at_last j)

-- the rule gives the statement from the premises
pub data Further (P : Program) : FurtherRule → List Statement → Statement → Type 0 where
  -- rule 9 for exchange
  i51 : {t k r x u : ℕ} {f : Value} {e : Test} → half P t k ≡ act (write (exchange r) x f) [] → T (only (steady_exchange r x) e)
      → Further P r51 [] (triple t k (both_a (sees u (box e)) (sees u (box (replace (word_by x f) e)))) (sees u (box e)))
  -- rule 9 for fetch-add: the test holds of each sum that may be stored
  i52 : {t k r x u : ℕ} {f : Value} {e : Test} → half P t k ≡ act (write (fetch_add r) x f) [] → T (only (steady_add r x) e)
      → Further P r52 []
      (triple t k (both_a (sees u (box e)) (sees t (chop (box (cov x)) (box (replace (word_by x (sum (word x) f)) e))))) (sees u (box e)))
  -- what two threads see together: both of them see the view of the last writes
  i53 : {t u : ℕ} {i j : Interval} {e : Test} → T (entailed_by_rows P.range (and (at_last i) (at_last j)) e)
      → Further P r53 [] (implies (both_a (sees t i) (sees u j)) (holds e))
  -- where a store lands: a thread that saw one write of x sees the new one behind it, or not at all
  i54 : {t k x u : ℕ} {rel : Bool} {f : Value} {i : Interval} → half P t k ≡ act (write (store rel) x f) []
      → Further P r54 [] (triple t k (sees u (both (one x) i)) (sees u (chop i (newest x f))))
  -- where a store lands: behind the first write that a thread sees, or further on
  i55 : {t k x u : ℕ} {rel : Bool} {f : Value} {i j l : Interval} → half P t k ≡ act (write (store rel) x f) []
      → Further P r55 (triple t k (sees u j) (sees u l) ∷ [])
      (triple t k (sees u (chop (both i (one x)) j)) (sees u (either (chop i (chop (newest x f) j)) (chop i l))))
  -- along one word a thread's prospects are parts of one list
  i56 : (x : ℕ) {u : ℕ} {i j : Interval} → T (only (along x) i) → T (only (along x) j)
      → Further P r56 [] (implies (sees u (either i j)) (either_a (sees u i) (sees u j)))
  -- [false] holds of the empty list alone
  i57 : {a : Interval} → Further P r57 [] (inside (chop a (box Formula.false)) a)
  i58 : {a : Interval} → Further P r58 [] (inside (chop (box Formula.false) a) a)
  -- both over either
  i59 : {a b c : Interval} → Further P r59 [] (inside (both a (either b c)) (either (both a b) (both a c)))
  -- a conjunct is dropped, however many leaves there are
  i60 : {a b : Assertion} → Further P r60 [] (implies (both_a a b) a)
  i61 : {a b : Assertion} → Further P r61 [] (implies (both_a a b) b)
