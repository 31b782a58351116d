-- What a formula must be where it is used.
use Rattle.std.specs.Prelude.{Bool, not, ◌&&◌, List, [], ℕ, eqb}
use Rattle.formula.specs.Codes as Codes
use Rattle.limits.specs.Limits.{nesting}
use Rattle.formula.specs.Reader.{sort_of}
use Rattle.formula.specs.Tree.{Tree, parse_tree}
use Rattle.formula_compare.specs.Occurs.{occurs, start, shared}

-- the tree of the formula in a body
abbrev pub tree_of : List ℕ → Tree
tree_of b = (parse_tree b nesting 0).tree

-- start (27) does not occur in the formula
unfoldable pub startless : List ℕ → Bool
startless b = not (occurs start [] (tree_of b))

-- 2, 14 and 15 do not occur in the formula; nor does 17, which no value or test has
unfoldable pub plain : List ℕ → Bool
plain b = not (occurs shared [] (tree_of b))

-- fit for an outline or a triple: an assertion without start
unfoldable pub outlined : List ℕ → Bool
outlined b = eqb (sort_of b) Codes.assertion && startless b

-- fit for an instruction: of the sort s, "without 2, 14, 15"
unfoldable pub plain_of : ℕ → List ℕ → Bool
plain_of s b = eqb (sort_of b) s && plain b
