-- What a line of a certificate states, and which statements an image may have.
use Rattle.std.specs.Prelude.{Bool, true, false, not, ◌&&◌, [], ◌∷◌, ℕ, suc, ltb}
use Rattle.semantics.specs.Base.{within}
use Rattle.semantics.specs.Formula.{Interval, Assertion, Formula.start}
use Rattle.semantics.specs.Names.{startless, plain}
use Rattle.logic.specs.Table.{Imp}
use Rattle.semantics.specs.Machine.{Program, Access.none, Access.load, Access.write, Instr, Instr.act, Instr.branch}

-- I in J; P to Q; a Hoare triple of the instruction at a point of a thread, of a pair its first half alone; a Hoare triple of a whole pair
pub data Statement : Type 0 where
  inside : Interval → Interval → Statement
  implies : Assertion → Assertion → Statement
  triple pair : ℕ → ℕ → Assertion → Assertion → Statement

-- the instruction is a branch
abbrev pub is_branch : Instr → Bool
is_branch (act A ns) = false
is_branch (branch e a) = true

-- the instruction is a pair: an access together with a note, in one step
abbrev pub is_pair : Instr → Bool
is_pair (act none ns) = false
is_pair (act (load acquires r x) []) = false
is_pair (act (load acquires r x) (n ∷ ns)) = true
is_pair (act (write m x f) []) = false
is_pair (act (write m x f) (n ∷ ns)) = true
is_pair (branch e a) = false

-- the instruction as a triple reads it: an access without its notes, "read as for the first half alone"
abbrev pub first : Instr → Instr
first (act none ns) = act none ns
first (act (load acquires r x) ns) = act (load acquires r x) []
first (act (write m x f) ns) = act (write m x f) []
first (branch e a) = branch e a

-- the first half of the instruction at point k of t
abbrev pub half : Program → ℕ → ℕ → Instr
half P t k = first (P.code t k)

-- the statement that the instruction c at point k of t takes a to b: for a pair it is about the whole pair
abbrev pub taking : ℕ → ℕ → Instr → Assertion → Assertion → Statement
taking t k c a b = elim (is_pair c) [ true ↦ pair t k a b | false ↦ triple t k a b ]

-- a triple as an image may have it: "Triples name an instruction that is no branch" (code 6); registers alone under holds (7); no start (8)
abbrev pub admitted_at : Program → ℕ → ℕ → Assertion → Assertion → Bool
admitted_at P t k a b =
    ((within P.threads t && ltb (suc k) (P.points t)) && not (is_branch (P.code t k)))
    && ((plain a && plain b) && (startless a && startless b))

-- the statement is one that an image may have
abbrev pub admitted : Program → Statement → Bool
admitted P (inside i j) = true
admitted P (implies a b) = plain a && plain b
admitted P (triple t k a b) = admitted_at P t k a b
admitted P (pair t k a b) = admitted_at P t k a b

-- the statement is an implication
abbrev pub is_imp : Statement → Bool
is_imp (inside i j) = false
is_imp (implies a b) = true
is_imp (triple t k a b) = false
is_imp (pair t k a b) = false

-- the implication that the statement is; for the others, any
abbrev pub imp_of : Statement → Imp
imp_of (inside i j) = record { left = start; right = start }
imp_of (implies a b) = record { left = a; right = b }
imp_of (triple t k a b) = record { left = start; right = start }
imp_of (pair t k a b) = record { left = start; right = start }
