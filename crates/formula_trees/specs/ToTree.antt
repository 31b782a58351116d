-- Formulas as trees, and trees read as formulas of a sort, whatever they are: the link between the logic and what the code's contracts
-- speak of.
use Rattle.std.specs.Prelude.{◌≡◌, true, false, ℕ, eqb}
use Rattle.semantics.specs.Code
use Rattle.semantics.specs.Code.{byte}
use Rattle.semantics.specs.Formula.{Sort, Formula, Formula.const, Formula.reg, Formula.word, Formula.sum, Formula.equal, Formula.less, Formula.and, Formula.or, Formula.unsync, Formula.cov, Formula.box, Formula.one, Formula.chop, Formula.both, Formula.either, Formula.sees, Formula.both_a, Formula.either_a, Formula.start, Formula.holds}
use Rattle.semantics.specs.Replace.{Note}
use Rattle.formula.specs.Tree.{Tree, none, node}
use Rattle.formula_compare.specs.Replace.{NoteT}

-- a formula as a tree: its code, its operand (0 for none), its parts
abbrev pub to_tree : {s : Sort} → Formula s → Tree
to_tree (const n) = node (byte Code.const) n none none
to_tree (reg n) = node (byte Code.reg) n none none
to_tree (word n) = node (byte Code.word) n none none
to_tree (sum f g) = node (byte Code.sum) 0 (to_tree f) (to_tree g)
to_tree Formula.false = node (byte Code.false) 0 none none
to_tree (equal f g) = node (byte Code.equal) 0 (to_tree f) (to_tree g)
to_tree (less f g) = node (byte Code.less) 0 (to_tree f) (to_tree g)
to_tree (Formula.not f) = node (byte Code.not) 0 (to_tree f) none
to_tree (and f g) = node (byte Code.and) 0 (to_tree f) (to_tree g)
to_tree (or f g) = node (byte Code.or) 0 (to_tree f) (to_tree g)
to_tree (unsync n) = node (byte Code.unsync) n none none
to_tree (cov n) = node (byte Code.cov) n none none
to_tree (box f) = node (byte Code.box) 0 (to_tree f) none
to_tree (one n) = node (byte Code.one) n none none
to_tree (chop f g) = node (byte Code.chop) 0 (to_tree f) (to_tree g)
to_tree (both f g) = node (byte Code.both) 0 (to_tree f) (to_tree g)
to_tree (either f g) = node (byte Code.either) 0 (to_tree f) (to_tree g)
to_tree (sees n f) = node (byte Code.sees) n (to_tree f) none
to_tree (both_a f g) = node (byte Code.both_a) 0 (to_tree f) (to_tree g)
to_tree (either_a f g) = node (byte Code.either_a) 0 (to_tree f) (to_tree g)
to_tree start = node (byte Code.start) 0 none none
to_tree (holds f) = node (byte Code.holds) 0 (to_tree f) none

-- a if the code is k, else b
abbrev pub case : {A : Type 0} → ℕ → ℕ → A → A → A
case c k a b = elim (eqb c k) [ true ↦ a | false ↦ b ]

-- a tree read as a formula of a sort. It is total: what does not fit is a constant, false, one or start
abbrev pub of_tree : (s : Sort) → Tree → Formula s
of_tree Sort.value none = const 0
of_tree Sort.test none = Formula.false
of_tree Sort.interval none = one 0
of_tree Sort.assertion none = start
of_tree Sort.value (node c o l r) =
    case c (byte Code.reg) (reg o) (case c (byte Code.word) (word o)
    (case c (byte Code.sum) (sum (of_tree Sort.value l) (of_tree Sort.value r)) (const o)))
of_tree Sort.test (node c o l r) =
    case c (byte Code.equal) (equal (of_tree Sort.value l) (of_tree Sort.value r))
    (case c (byte Code.less) (less (of_tree Sort.value l) (of_tree Sort.value r))
    (case c (byte Code.not) (Formula.not (of_tree Sort.test l)) (case c (byte Code.and) (and (of_tree Sort.test l) (of_tree Sort.test r))
    (case c (byte Code.or) (or (of_tree Sort.test l) (of_tree Sort.test r))
    (case c (byte Code.unsync) (unsync o) (case c (byte Code.cov) (cov o) Formula.false))))))
of_tree Sort.interval (node c o l r) =
    case c (byte Code.box) (box (of_tree Sort.test l)) (case c (byte Code.chop) (chop (of_tree Sort.interval l) (of_tree Sort.interval r))
    (case c (byte Code.both) (both (of_tree Sort.interval l) (of_tree Sort.interval r))
    (case c (byte Code.either) (either (of_tree Sort.interval l) (of_tree Sort.interval r)) (one o))))
of_tree Sort.assertion (node c o l r) =
    case c (byte Code.sees) (sees o (of_tree Sort.interval l))
    (case c (byte Code.both_a) (both_a (of_tree Sort.assertion l) (of_tree Sort.assertion r))
    (case c (byte Code.either_a) (either_a (of_tree Sort.assertion l) (of_tree Sort.assertion r))
    (case c (byte Code.holds) (holds (of_tree Sort.test l)) start)))

-- the tree is a formula of the sort
abbrev pub Sorted : Sort → Tree → Type 0
Sorted s t = to_tree (of_tree s t) ≡ t

-- an assignment, on trees
abbrev pub note_t : Note → NoteT
note_t n = record { to = n.to; by = to_tree n.by }
