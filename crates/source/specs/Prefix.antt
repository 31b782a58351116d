-- A FORMULA'S BYTES, "prefix form": its nodes from the left, each with its byte and the number that it names, if it names one.
use Rattle.std.specs.Prelude.{List, [], ◌∷◌, ◌++◌, ℕ}
use Rattle.semantics.specs.Formula.{Sort, Formula, Formula.const, Formula.reg, Formula.word, Formula.sum, Formula.equal, Formula.less, Formula.and, Formula.or, Formula.unsync, Formula.cov, Formula.box, Formula.one, Formula.chop, Formula.both, Formula.either, Formula.sees, Formula.both_a, Formula.either_a, Formula.start, Formula.holds}

-- a node: its byte alone, or its byte and the number that it names: a constant, a register, a word or a thread
pub data Node : Type 0 where
  bare : ℕ → Node
  naming : ℕ → ℕ → Node

-- "Formula bytes (decimal). Values: 0 constant (next byte), 1 register, 2 word, 3 sum. Tests: 8 false, 9 equal, 10 less, 11 not, 12 and,
-- 13 or, 14 unsync word, 15 cov word. Intervals: 16 [test], 17 one word, 18 chop, 19 both, 20 either. Assertions: 24 sees (thread byte,
-- interval), 25 both, 26 either, 27 start .., 28 holds"
unfoldable pub nodes : {s : Sort} → Formula s → List Node
nodes (const n) = naming 0 n ∷ []
nodes (reg r) = naming 1 r ∷ []
nodes (word x) = naming 2 x ∷ []
nodes (sum a b) = bare 3 ∷ nodes a ++ nodes b
nodes Formula.false = bare 8 ∷ []
nodes (equal a b) = bare 9 ∷ nodes a ++ nodes b
nodes (less a b) = bare 10 ∷ nodes a ++ nodes b
nodes (Formula.not e) = bare 11 ∷ nodes e
nodes (and e f) = bare 12 ∷ nodes e ++ nodes f
nodes (or e f) = bare 13 ∷ nodes e ++ nodes f
nodes (unsync x) = naming 14 x ∷ []
nodes (cov x) = naming 15 x ∷ []
nodes (box e) = bare 16 ∷ nodes e
nodes (one x) = naming 17 x ∷ []
nodes (chop i j) = bare 18 ∷ nodes i ++ nodes j
nodes (both i j) = bare 19 ∷ nodes i ++ nodes j
nodes (either i j) = bare 20 ∷ nodes i ++ nodes j
nodes (sees t i) = naming 24 t ∷ nodes i
nodes (both_a a b) = bare 25 ∷ nodes a ++ nodes b
nodes (either_a a b) = bare 26 ∷ nodes a ++ nodes b
nodes start = bare 27 ∷ []
nodes (holds e) = bare 28 ∷ nodes e

-- the bytes of a node
unfoldable pub node_bytes : Node → List ℕ
node_bytes (bare c) = c ∷ []
node_bytes (naming c n) = c ∷ n ∷ []
