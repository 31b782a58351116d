-- Formulas: one family of trees, by sort, with a constructor for each formula code; their bytes in prefix form; nesting; comparison.
use Rattle.std.specs.Prelude.{Bool, ◌&&◌, List, [], ◌∷◌, ℕ, suc, max, eqb}
use Rattle.semantics.specs.Code
use Rattle.semantics.specs.Code.{byte}

-- the sorts of the scope page: values, tests, intervals, assertions
pub data Sort : Type 0 where
  value test interval assertion : Sort

-- a register, a word or a thread by its number; `box e` is [e]; `bothA`, `eitherA` join assertions, `both`, `either` intervals
pub data Formula : Sort → Type 0 where
  const reg word : ℕ → Formula value
  sum : Formula value → Formula value → Formula value
  false : Formula test
  equal less : Formula value → Formula value → Formula test
  not : Formula test → Formula test
  and or : Formula test → Formula test → Formula test
  unsync cov : ℕ → Formula test
  box : Formula test → Formula interval
  one : ℕ → Formula interval
  chop both either : Formula interval → Formula interval → Formula interval
  sees : ℕ → Formula interval → Formula assertion
  both_a either_a : Formula assertion → Formula assertion → Formula assertion
  start : Formula assertion
  holds : Formula test → Formula assertion

-- the four sorts by name
abbrev pub Value : Type 0
Value = Formula value

abbrev pub Test : Type 0
Test = Formula test

abbrev pub Interval : Type 0
Interval = Formula interval

abbrev pub Assertion : Type 0
Assertion = Formula assertion

-- the formula's bytes in prefix form, before the bytes l
abbrev pub encode : {s : Sort} → Formula s → List ℕ → List ℕ
encode (const n) l = byte Code.const ∷ n ∷ l
encode (reg r) l = byte Code.reg ∷ r ∷ l
encode (word x) l = byte Code.word ∷ x ∷ l
encode (sum a b) l = byte Code.sum ∷ encode a (encode b l)
encode false l = byte Code.false ∷ l
encode (equal a b) l = byte Code.equal ∷ encode a (encode b l)
encode (less a b) l = byte Code.less ∷ encode a (encode b l)
encode (not e) l = byte Code.not ∷ encode e l
encode (and e f) l = byte Code.and ∷ encode e (encode f l)
encode (or e f) l = byte Code.or ∷ encode e (encode f l)
encode (unsync x) l = byte Code.unsync ∷ x ∷ l
encode (cov x) l = byte Code.cov ∷ x ∷ l
encode (box e) l = byte Code.box ∷ encode e l
encode (one x) l = byte Code.one ∷ x ∷ l
encode (chop i j) l = byte Code.chop ∷ encode i (encode j l)
encode (both i j) l = byte Code.both ∷ encode i (encode j l)
encode (either i j) l = byte Code.either ∷ encode i (encode j l)
encode (sees t i) l = byte Code.sees ∷ t ∷ encode i l
encode (both_a a b) l = byte Code.both_a ∷ encode a (encode b l)
encode (either_a a b) l = byte Code.either_a ∷ encode a (encode b l)
encode start l = byte Code.start ∷ l
encode (holds e) l = byte Code.holds ∷ encode e l

-- the nesting of a formula: "a formula without a sub-formula has 1"
abbrev pub nesting : {s : Sort} → Formula s → ℕ
nesting (const n) = 1
nesting (reg r) = 1
nesting (word x) = 1
nesting (sum a b) = suc (max (nesting a) (nesting b))
nesting false = 1
nesting (equal a b) = suc (max (nesting a) (nesting b))
nesting (less a b) = suc (max (nesting a) (nesting b))
nesting (not e) = suc (nesting e)
nesting (and e f) = suc (max (nesting e) (nesting f))
nesting (or e f) = suc (max (nesting e) (nesting f))
nesting (unsync x) = 1
nesting (cov x) = 1
nesting (box e) = suc (nesting e)
nesting (one x) = 1
nesting (chop i j) = suc (max (nesting i) (nesting j))
nesting (both i j) = suc (max (nesting i) (nesting j))
nesting (either i j) = suc (max (nesting i) (nesting j))
nesting (sees t i) = suc (nesting i)
nesting (both_a a b) = suc (max (nesting a) (nesting b))
nesting (either_a a b) = suc (max (nesting a) (nesting b))
nesting start = 1
nesting (holds e) = suc (nesting e)

-- two lists of bytes are equal
abbrev pub same_bytes : List ℕ → List ℕ → Bool
same_bytes [] [] = Bool.true
same_bytes [] (y ∷ m) = Bool.false
same_bytes (x ∷ l) [] = Bool.false
same_bytes (x ∷ l) (y ∷ m) = eqb x y && same_bytes l m

-- two formulas are the same: "formulas compared by bytes"
unfoldable pub same : {s : Sort} → Formula s → Formula s → Bool
same f g = same_bytes (encode f []) (encode g [])
