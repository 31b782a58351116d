-- What occurs in a tree.
use Rattle.std.specs.Prelude.{ℕ, ◌-◌, List, [], ◌∷◌, Bool, true, false, not, cond, get_or, eqb, Option, Some, None}
use Rattle.semantics.specs.Code
use Rattle.formula.specs.Codes.{member, set_of}
use Rattle.formula.specs.Tree.{Tree, none, node, ParsedTree}
use Rattle.formula_compare.specs.declared.occurs.Query.{Query}
use Rattle.formula_compare.specs.declared.occurs.Operand.{Operand}
use Rattle.formula_compare.specs.declared.occurs.Operand.TheVariants.{Any, Equal, Foreign}

-- the owner of register r; registers count from 1
unfoldable pub owner_of : List ℕ → ℕ → ℕ
owner_of owners r = cond (eqb r 0) 0 (get_or owners (r - 1) 0)

-- what is sought, by the number of its kind and a number or thread: 0 any operand, 1 an equal one, each other number a register that the
-- thread does not own
unfoldable pub operand_numbered : ℕ → ℕ → Operand
operand_numbered k n = cond (eqb k 0) Any (cond (eqb k 1) (Equal n) (Foreign n))

-- an operand that is sought: any, an equal one, or a register that a thread does not own
abbrev pub is_sought : Operand → List ℕ → ℕ → Bool
is_sought Any owners o = true
is_sought (Equal n) owners o = eqb o n
is_sought (Foreign t) owners o = not (eqb (owner_of owners o) t)

-- the query w looks for a node with the code c and the operand o
unfoldable pub is_queried : Query → List ℕ → ℕ → ℕ → Bool
is_queried w owners c o = cond (member w.codes c) (is_sought w.operand owners o) false

-- some node of the tree is one that the query looks for
unfoldable pub occurs : Query → List ℕ → Tree → Bool
occurs w owners none = false
occurs w owners (node c o l r) = cond (is_queried w owners c o) true (cond (occurs w owners l) true (occurs w owners r))

-- the position past the tree, if it does not occur
abbrev pub past_without : Query → List ℕ → ParsedTree → Option ℕ
past_without w owners u = cond (occurs w owners u.tree) None (Some u.end)

-- the register r
abbrev pub register : ℕ → Query
register r = record { codes = set_of (Code.reg ∷ []); operand = Equal r }

-- the word x in any role
abbrev pub word_any_role : ℕ → Query
word_any_role x = record { codes = set_of (Code.word ∷ Code.unsync ∷ Code.cov ∷ Code.one ∷ []); operand = Equal x }

-- a flag of x: unsync or cov
abbrev pub flag : ℕ → Query
flag x = record { codes = set_of (Code.unsync ∷ Code.cov ∷ []); operand = Equal x }

-- start (27)
abbrev pub start : Query
start = record { codes = set_of (Code.start ∷ []); operand = Any }

-- a word in any role
abbrev pub shared : Query
shared = record { codes = set_of (Code.word ∷ Code.unsync ∷ Code.cov ∷ Code.one ∷ []); operand = Any }

-- a register that the thread t does not own
abbrev pub foreign : ℕ → Query
foreign t = record { codes = set_of (Code.reg ∷ []); operand = Foreign t }
