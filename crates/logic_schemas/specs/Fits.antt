-- Whether a line is an instance of its rule's schema, as a test that computes: the holes' contents are found by matching, and the schema so
-- filled is compared. That this is what the rules say is proved (proofs/Rules.antt), so nothing here has to be believed.
use Rattle.std.specs.Prelude.{Bool, true, false, ◌&&◌, ◌||◌, List, [], ◌∷◌, map, ℕ, eqb, leb, length}
use Rattle.semantics.specs.Base.{upd, all}
use Rattle.semantics.specs.Limits
use Rattle.logic.specs.Opcode
use Rattle.semantics.specs.Formula.{Sort, Formula, Value, Test, Interval, Assertion, Formula.const, Formula.reg, Formula.word, Formula.sum, Formula.equal, Formula.less, Formula.and, Formula.or, Formula.unsync, Formula.cov, Formula.box, Formula.one, Formula.chop, Formula.both, Formula.either, Formula.sees, Formula.both_a, Formula.either_a, Formula.start, Formula.holds, same}
use Rattle.semantics.specs.Names.{Name, only, not_word, not_flag}
use Rattle.semantics.specs.Replace.{Note, Sub, replace, notes, reg_by, word_by}
use Rattle.logic.specs.Rows.{entailed_by_rows}
use Rattle.logic.specs.Table.{entailed_by_table}
use Rattle.semantics.specs.Machine.{Program, Mode.store, Mode.swap, Mode.exchange, Mode.fetch_add, result_of, Access.none, Access.load, Access.write, Instr, Instr.act, Instr.branch}
use Rattle.logic.specs.Statement.{Statement, inside, implies, triple, pair, half, is_imp, imp_of}
use Rattle.logic_schemas.specs.Pattern
use Rattle.logic_schemas.specs.Pattern.{Num, Pattern, Given, Fill, number, inst}
use Rattle.logic.specs.Rule.{Rule}
use Rattle.logic_schemas.specs.Rules.{Shape, Premises, these, implications, By, by_notes, r_by_x, x_by_f, Side, ◌is◌with◌, start_of, starts_at_0, is_new, kept, lacks_x, no_flag, by_rows, by_table, Row, row}
use Rattle.logic.specs.Inference.{fresh_value, apart, keeps}

-- the number in a value; 0 where there is none. The definitions that follow take a formula apart; where it has no such part, any will do
abbrev pub number_v : Value → ℕ
number_v (const n) = n
number_v (reg n) = n
number_v (word n) = n
number_v (sum a b) = 0

-- the word of a flag
abbrev pub number_t : Test → ℕ
number_t Formula.false = 0
number_t (equal a b) = 0
number_t (less a b) = 0
number_t (Formula.not e) = 0
number_t (and a b) = 0
number_t (or a b) = 0
number_t (unsync n) = n
number_t (cov n) = n

-- the two values of a comparison
abbrev pub values : Test → Value × Value
values Formula.false = (const 0, const 0)
values (equal a b) = (a, b)
values (less a b) = (a, b)
values (Formula.not e) = (const 0, const 0)
values (and a b) = (const 0, const 0)
values (or a b) = (const 0, const 0)
values (unsync n) = (const 0, const 0)
values (cov n) = (const 0, const 0)

-- the tests that a test is made of
abbrev pub tests : Test → Test × Test
tests Formula.false = (Formula.false, Formula.false)
tests (equal a b) = (Formula.false, Formula.false)
tests (less a b) = (Formula.false, Formula.false)
tests (Formula.not e) = (e, Formula.false)
tests (and a b) = (a, b)
tests (or a b) = (a, b)
tests (unsync n) = (Formula.false, Formula.false)
tests (cov n) = (Formula.false, Formula.false)

-- the word of `one`
abbrev pub number_i : Interval → ℕ
number_i (box e) = 0
number_i (one n) = n
number_i (chop i j) = 0
number_i (both i j) = 0
number_i (either i j) = 0

-- the test of a box
abbrev pub boxed : Interval → Test
boxed (box e) = e
boxed (one n) = Formula.false
boxed (chop i j) = Formula.false
boxed (both i j) = Formula.false
boxed (either i j) = Formula.false

-- the intervals that an interval is made of
abbrev pub intervals : Interval → Interval × Interval
intervals (box e) = (one 0, one 0)
intervals (one n) = (one 0, one 0)
intervals (chop i j) = (i, j)
intervals (both i j) = (i, j)
intervals (either i j) = (i, j)

-- the thread of `sees`
abbrev pub number_a : Assertion → ℕ
number_a (sees n i) = n
number_a (both_a a b) = 0
number_a (either_a a b) = 0
number_a start = 0
number_a (holds e) = 0

-- the interval of `sees`
abbrev pub seen : Assertion → Interval
seen (sees n i) = i
seen (both_a a b) = one 0
seen (either_a a b) = one 0
seen start = one 0
seen (holds e) = one 0

-- the assertions that an assertion is made of
abbrev pub assertions : Assertion → Assertion × Assertion
assertions (sees n i) = (start, start)
assertions (both_a a b) = (a, b)
assertions (either_a a b) = (a, b)
assertions start = (start, start)
assertions (holds e) = (start, start)

-- the test of `holds`
abbrev pub held : Assertion → Test
held (sees n i) = Formula.false
held (both_a a b) = Formula.false
held (either_a a b) = Formula.false
held start = Formula.false
held (holds e) = e

-- the contents of the holes before matching: arbitrary
abbrev pub empty : Fill
empty = record { u = 0; y = 0; assertion = λ k. start; interval = λ k. one 0; test = λ k. Formula.false; value = λ k. const 0 }

-- σ with the number n in the hole for it; t, x and r are given by the instruction
abbrev pub find_n : Num → ℕ → Fill → Fill
find_n Pattern.t n σ = σ
find_n Pattern.x n σ = σ
find_n Pattern.r n σ = σ
find_n Pattern.u n σ = record { u = n; y = σ.y; assertion = σ.assertion; interval = σ.interval; test = σ.test; value = σ.value }
find_n Pattern.y n σ = record { u = σ.u; y = n; assertion = σ.assertion; interval = σ.interval; test = σ.test; value = σ.value }

-- σ with the holes of the pattern filled by what the formula has at their places
abbrev pub find : {s : Sort} → Pattern s → Formula s → Fill → Fill
find (Pattern.any_a k) a σ = record {
  u = σ.u;
  y = σ.y;
  assertion = upd σ.assertion k a;
  interval = σ.interval;
  test = σ.test;
  value = σ.value;
}
find (Pattern.any_i k) a σ = record {
  u = σ.u;
  y = σ.y;
  assertion = σ.assertion;
  interval = upd σ.interval k a;
  test = σ.test;
  value = σ.value;
}
find (Pattern.any_e k) a σ = record {
  u = σ.u;
  y = σ.y;
  assertion = σ.assertion;
  interval = σ.interval;
  test = upd σ.test k a;
  value = σ.value;
}
find (Pattern.any_v k) a σ = record {
  u = σ.u;
  y = σ.y;
  assertion = σ.assertion;
  interval = σ.interval;
  test = σ.test;
  value = upd σ.value k a;
}
find Pattern.f a σ = σ
find (Pattern.const n) a σ = σ
find (Pattern.reg n) a σ = find_n n (number_v a) σ
find (Pattern.word n) a σ = find_n n (number_v a) σ
find (Pattern.equal p q) a σ = find q (values a).1 (find p (values a).0 σ)
find (Pattern.and p q) a σ = find q (tests a).1 (find p (tests a).0 σ)
find (Pattern.unsync n) a σ = find_n n (number_t a) σ
find (Pattern.cov n) a σ = find_n n (number_t a) σ
find (Pattern.box p) a σ = find p (boxed a) σ
find (Pattern.one n) a σ = find_n n (number_i a) σ
find (Pattern.chop p q) a σ = find q (intervals a).1 (find p (intervals a).0 σ)
find (Pattern.both p q) a σ = find q (intervals a).1 (find p (intervals a).0 σ)
find (Pattern.either p q) a σ = find q (intervals a).1 (find p (intervals a).0 σ)
find (Pattern.sees n p) a σ = find p (seen a) (find_n n (number_a a) σ)
find (Pattern.both_a p q) a σ = find q (assertions a).1 (find p (assertions a).0 σ)
find (Pattern.either_a p q) a σ = find q (assertions a).1 (find p (assertions a).0 σ)
find Pattern.start a σ = σ
find (Pattern.holds p) a σ = find p (held a) σ

-- σ with the holes of a line's schema filled from a statement of its form
abbrev pub find_line : Shape → Statement → Fill → Fill
find_line (Shape.inside p q) (inside i j) σ = find q j (find p i σ)
find_line (Shape.inside p q) (implies a b) σ = σ
find_line (Shape.inside p q) (triple t k a b) σ = σ
find_line (Shape.inside p q) (pair t k a b) σ = σ
find_line (Shape.implies p q) (inside i j) σ = σ
find_line (Shape.implies p q) (implies a b) σ = find q b (find p a σ)
find_line (Shape.implies p q) (triple t k a b) σ = σ
find_line (Shape.implies p q) (pair t k a b) σ = σ
find_line (Shape.triple p q) (inside i j) σ = σ
find_line (Shape.triple p q) (implies a b) σ = σ
find_line (Shape.triple p q) (triple t k a b) σ = find q b (find p a σ)
find_line (Shape.triple p q) (pair t k a b) σ = σ
find_line (Shape.pair p q) (inside i j) σ = σ
find_line (Shape.pair p q) (implies a b) σ = σ
find_line (Shape.pair p q) (triple t k a b) σ = σ
find_line (Shape.pair p q) (pair t k a b) σ = find q b (find p a σ)

-- σ with the holes of the premises' schemas filled from their statements, in order
abbrev pub find_all : List Shape → List Statement → Fill → Fill
find_all [] ps σ = σ
find_all (p ∷ l) [] σ = σ
find_all (p ∷ l) (s ∷ ps) σ = find_all l ps (find_line p s σ)

-- σ with the holes of a rule's premises filled; implications of rule 20 have no holes
abbrev pub find_premises : Premises → List Statement → Fill → Fill
find_premises (these l) ps σ = find_all l ps σ
find_premises implications ps σ = σ

-- the contents of the row's holes, found in the line and its premises
abbrev pub found : Row → Statement → List Statement → Fill
found R s ps = find_premises R.premises ps (find_line R.says s empty)

-- two statements are the same, "formulas compared by bytes"
abbrev pub same_statement : Statement → Statement → Bool
same_statement (inside i j) (inside k l) = same i k && same j l
same_statement (inside i j) (implies c d) = false
same_statement (inside i j) (triple t k c d) = false
same_statement (inside i j) (pair t k c d) = false
same_statement (implies a b) (inside k l) = false
same_statement (implies a b) (implies c d) = same a c && same b d
same_statement (implies a b) (triple u j c d) = false
same_statement (implies a b) (pair u j c d) = false
same_statement (triple t k a b) (inside i j) = false
same_statement (triple t k a b) (implies c d) = false
same_statement (triple t k a b) (triple u j c d) = (eqb t u && eqb k j) && (same a c && same b d)
same_statement (triple t k a b) (pair u j c d) = false
same_statement (pair t k a b) (inside i j) = false
same_statement (pair t k a b) (implies c d) = false
same_statement (pair t k a b) (triple u j c d) = false
same_statement (pair t k a b) (pair u j c d) = (eqb t u && eqb k j) && (same a c && same b d)

-- two lists of statements are the same
abbrev pub same_all : List Statement → List Statement → Bool
same_all [] [] = true
same_all [] (s ∷ l) = false
same_all (s ∷ l) [] = false
same_all (s ∷ l) (r ∷ m) = same_statement s r && same_all l m

-- the number is in the list
abbrev pub is_among : ℕ → List ℕ → Bool
is_among n [] = false
is_among n (m ∷ l) = eqb n m || is_among n l

-- the first number for an instruction without a note, the second for one with a note
abbrev pub or_noted : ℕ → ℕ → List Note → ℕ
or_noted alone noted [] = alone
or_noted alone noted (n ∷ ns) = noted

-- the operation of an instruction
abbrev pub opcode : Instr → ℕ
opcode (act none []) = Opcode.assign
opcode (act none (n ∷ ns)) = or_noted Opcode.assign Opcode.assign_two ns
opcode (act (load false r x) ns) = Opcode.load
opcode (act (load true r x) ns) = Opcode.acquire
opcode (act (write (store false) x f) ns) = or_noted Opcode.store Opcode.pair_store ns
opcode (act (write (store true) x f) ns) = or_noted Opcode.release Opcode.pair_release ns
opcode (act (write swap x f) ns) = or_noted Opcode.swap Opcode.pair_swap ns
opcode (act (write (exchange r) x f) ns) = Opcode.exchange
opcode (act (write (fetch_add r) x f) ns) = Opcode.fetch_add
opcode (branch e a) = Opcode.branch

-- the instruction's word; 0 where it has none
abbrev pub word_of : Instr → ℕ
word_of (act none ns) = 0
word_of (act (load acquires r x) ns) = x
word_of (act (write m x f) ns) = x
word_of (branch e a) = 0

-- the instruction's register: that of an assignment (of two the first), of a load, or the result register; 0 where it has none
abbrev pub reg_of : Instr → ℕ
reg_of (act none []) = 0
reg_of (act none (n ∷ ns)) = n.to
reg_of (act (load acquires r x) ns) = r
reg_of (act (write m x f) ns) = result_of m
reg_of (branch e a) = 0

-- the instruction's formula, of two assignments the first one's; where it has none, any
abbrev pub formula_of : Instr → Value
formula_of (act none []) = const 0
formula_of (act none (n ∷ ns)) = n.by
formula_of (act (load acquires r x) ns) = const 0
formula_of (act (write m x f) ns) = f
formula_of (branch e a) = const 0

-- the name is neither the instruction's word, in any role, nor the result register
abbrev pub apart_of : Instr → Name → Bool
apart_of (act none ns) n = not_word 0 n
apart_of (act (load acquires r x) ns) n = not_word x n
apart_of (act (write m x f) ns) n = apart m x n
apart_of (branch e a) n = not_word 0 n

-- the value of the instruction's new write, as it reads after the step
abbrev pub fresh_of : Instr → Value
fresh_of (act none ns) = formula_of (act none ns)
fresh_of (act (load acquires r x) ns) = const 0
fresh_of (act (write m x f) ns) = fresh_value m f
fresh_of (branch e a) = const 0

-- the instruction's notes (auxiliary assignments)
abbrev pub notes_of : Instr → List Note
notes_of (act A ns) = ns
notes_of (branch e a) = []

-- the thread of a triple; other statements have 0
abbrev pub thread_of : Statement → ℕ
thread_of (inside i j) = 0
thread_of (implies a b) = 0
thread_of (triple t k a b) = t
thread_of (pair t k a b) = t

-- the point of a triple; other statements have 0
abbrev pub point_of : Statement → ℕ
point_of (inside i j) = 0
point_of (implies a b) = 0
point_of (triple t k a b) = k
point_of (pair t k a b) = k

module _ (P : Program) where
  module _ (t k : ℕ) where
    -- thread, word, register and formula of the instruction at point k of t
    abbrev pub given : Given
    given = record { t = t; x = word_of (half P t k); r = reg_of (half P t k); f = formula_of (half P t k) }

    -- the instance of a line's schema: the statement with its holes filled by σ
    abbrev pub filled : Fill → Shape → Statement
    filled σ (Shape.inside p q) = inside (inst given σ p) (inst given σ q)
    filled σ (Shape.implies p q) = implies (inst given σ p) (inst given σ q)
    filled σ (Shape.triple p q) = triple t k (inst given σ p) (inst given σ q)
    filled σ (Shape.pair p q) = pair t k (inst given σ p) (inst given σ q)

    -- the instances of the premises' schemas
    abbrev pub filled_all : Fill → List Shape → List Statement
    filled_all σ [] = []
    filled_all σ (p ∷ l) = filled σ p ∷ filled_all σ l

    -- the premises are instances of the rule's schemas; of rule 20 at most four implications
    abbrev pub premises_fit : Fill → Premises → List Statement → Bool
    premises_fit σ (these l) ps = same_all (filled_all σ l) ps
    premises_fit σ implications ps = leb (length ps) Limits.premises && all is_imp ps

    -- the substitution that a rule names
    abbrev pub by : By → Sub
    by by_notes = notes (notes_of (P.code t k))
    by r_by_x = reg_by given.r (word given.x)
    by x_by_f = word_by given.x given.f

    -- the side condition holds of what is in the holes
    abbrev pub side_holds : Fill → Statement → List Statement → Side → Bool
    side_holds σ s ps (p is q with b) = same (inst given σ p) (replace (by b) (inst given σ q))
    side_holds σ s ps (start_of n p) = same (inst given σ p) (const (P.init (number given σ n)))
    side_holds σ s ps (starts_at_0 n) = P.cleared (number given σ n)
    side_holds σ s ps (is_new p) = same (inst given σ p) (fresh_of (half P t k))
    side_holds σ s ps (kept p) = keeps (half P t k) (inst given σ p)
    side_holds σ s ps (lacks_x p) = only (apart_of (half P t k)) (inst given σ p)
    side_holds σ s ps (no_flag p) = only (not_flag (word_of (half P t k))) (inst given σ p)
    side_holds σ s ps (by_rows p q) = entailed_by_rows P.range (inst given σ p) (inst given σ q)
    side_holds σ s ps by_table = entailed_by_table (map imp_of ps) (imp_of s)

    -- the operation is among those that the rule allows; only triples have one
    abbrev pub operation_fits : Shape → List ℕ → Bool
    operation_fits (Shape.inside p q) ops = true
    operation_fits (Shape.implies p q) ops = true
    operation_fits (Shape.triple p q) ops = is_among (opcode (half P t k)) ops
    operation_fits (Shape.pair p q) ops = is_among (opcode (P.code t k)) ops

    -- the line and its premises are the schemas filled by σ, and the operation and the side conditions are right
    abbrev pub fits_by : Fill → Row → Statement → List Statement → Bool
    fits_by σ R s ps =
        (same_statement (filled σ R.says) s && premises_fit σ R.premises ps)
        && (operation_fits R.says R.operations && all (side_holds σ s ps) R.sides)

  -- the statement, with these premises, is an instance of the rule
  abbrev pub fits : Rule → Statement → List Statement → Bool
  fits n s ps = fits_by (thread_of s) (point_of s) (found (row n) s ps) (row n) s ps
