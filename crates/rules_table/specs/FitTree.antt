-- Whether a line is an instance of its rule, on trees: what the code works out.
use Rattle.std.specs.Prelude.{Bool, true, false, not, cond, ◌&&◌, ◌||◌, List, [], ◌∷◌, map, ℕ, eqb, leb, length}
use Rattle.std.proofs.Math.Option.{Option, none, some}
use Rattle.semantics.specs.Base.{all}
use Rattle.semantics.specs.Limits
use Rattle.semantics.specs.Code
use Rattle.semantics.specs.Code.{byte}
use Rattle.logic.specs.Opcode
use Rattle.semantics.specs.Machine.{Program}
use Rattle.logic_schemas.specs.Pattern
use Rattle.logic_schemas.specs.Rules
use Rattle.logic.specs.Rule.{Rule}
use Rattle.logic_schemas.specs.Rules.{Shape, Shape.inside, Shape.implies, Shape.triple, Shape.pair, Premises, these, implications, By, by_notes, r_by_x, x_by_f, Side, ◌is◌with◌, start_of, starts_at_0, is_new, kept, lacks_x, no_flag, by_rows, by_table, Row, row}
use Rattle.logic_schemas.specs.Fits.{is_among}
use Rattle.formula.specs.Tree.{Tree, Tree.node}
use Rattle.formula_compare.specs.Same.{same_tree}
use Rattle.formula_compare.specs.Replace.{replace_t, one_name, named}
use Rattle.formula_compare.specs.declared.replace.Name.{Name}
use Rattle.formula_compare.specs.Occurs.{occurs, register, word_any_role, flag}
use Rattle.formula_trees.specs.StatementTree.{implication, hoare, paired, TreeConclusion, Acting, form_of, placed}
use Rattle.tables_rows.specs.Entailment.{ImpT}
use Rattle.tables_rows.specs.ByRows.{rows_t, table_t}
use Rattle.formula_match.specs.Template.{num_hole, formula_hole, pattern_to_tree, Holes, inst_t}
use Rattle.formula_match.specs.Match.{Taken, and_then, when, match_t}

-- the tree of a schema's left side
abbrev pub left_of : Shape → Tree
left_of (inside p q) = pattern_to_tree p
left_of (implies p q) = pattern_to_tree p
left_of (triple p q) = pattern_to_tree p
left_of (pair p q) = pattern_to_tree p

-- the tree of a schema's right side
abbrev pub right_of : Shape → Tree
right_of (inside p q) = pattern_to_tree q
right_of (implies p q) = pattern_to_tree q
right_of (triple p q) = pattern_to_tree q
right_of (pair p q) = pattern_to_tree q

-- the conclusion v has the form f, for thread i and point k if it is a triple, and its sides match the templates p and q
abbrev pub match_sides : ℕ → ℕ → ℕ → Tree → Tree → TreeConclusion → Taken → Option Taken
match_sides i k f p q v b = and_then (when (placed f i k v) b) (λ b₀. and_then (match_t p v.left b₀) (match_t q v.right))

-- the conclusion v matches the schema m
abbrev pub match_line : ℕ → ℕ → Shape → TreeConclusion → Taken → Option Taken
match_line i k m v b = match_sides i k (form_of m) (left_of m) (right_of m) v b

-- the conclusions match the schemas, one for one
abbrev pub match_all : ℕ → ℕ → List Shape → List TreeConclusion → Taken → Option Taken
match_all i k [] [] b = some b
match_all i k [] (v ∷ vs) b = none
match_all i k (p ∷ l) [] b = none
match_all i k (p ∷ l) (v ∷ vs) b = and_then (match_line i k p v b) (match_all i k l vs)

-- the conclusion is an implication
abbrev pub is_implication : TreeConclusion → Bool
is_implication v = eqb v.form implication

-- the conclusions of the premises match the rule's; of rule 20 they are at most four implications
abbrev pub match_premises : ℕ → ℕ → Premises → List TreeConclusion → Taken → Option Taken
match_premises i k (these l) vs b = match_all i k l vs b
match_premises i k implications vs b = when (leb (length vs) Limits.premises && all is_implication vs) b

-- the holes before the match: thread, word, register and formula of the instruction are set
abbrev pub preset : ℕ → Acting → Taken
preset t c = record {
  num = λ j. elim (eqb j (num_hole Pattern.t)) [
    | true ↦ some t
    | false ↦ elim (eqb j (num_hole Pattern.x))
        [ true ↦ some c.word | false ↦ elim (eqb j (num_hole Pattern.r)) [ true ↦ some c.register | false ↦ none ] ]
  ];
  tree = λ j. elim (eqb j formula_hole) [ true ↦ some c.formula | false ↦ none ];
}

-- the value, or d where there is none
abbrev pub or_else : {A : Type 0} → A → Option A → A
or_else d none = d
or_else d (some a) = a

-- the contents of the holes after the match; where a hole took nothing, 0 or no tree
abbrev pub holes_from : Taken → Holes
holes_from b = record { num = λ j. or_else 0 (b.num j); tree = λ j. or_else Tree.none (b.tree j) }

-- the conclusion as an implication
abbrev pub imp_of : TreeConclusion → ImpT
imp_of v = record { left = v.left; right = v.right }

-- what side conditions ask of the program besides its instructions: the range, the start values of words, which registers start at 0
pub record Setup : Type 0 where
  pub range : ℕ
  pub init : ℕ → ℕ
  pub cleared : ℕ → Bool

-- the setup of a program
abbrev pub setup : Program → Setup
setup P = record { range = P.range; init = P.init; cleared = P.cleared }

-- the match succeeds, and its holes pass the test
abbrev pub answer : Option Taken → (Taken → Bool) → Bool
answer none f = false
answer (some b) f = f b

-- a: the instruction
module _ (a : Acting) where
  -- the substitution that a rule names, on trees
  abbrev pub replacing : By → ℕ → ℕ → Tree
  replacing by_notes = named a.notes
  replacing r_by_x = one_name (Name.Register a.register) (node (byte Code.word) a.word Tree.none Tree.none)
  replacing x_by_f = one_name (Name.Word a.word) a.formula

  -- neither the word, in any role, nor the result register of an exchange or a fetch-add occurs in the tree
  abbrev pub apart_t : Tree → Bool
  apart_t u = not (occurs (word_any_role a.word) [] u)
      && (not (is_among a.operation Rules.returning) || not (occurs (register a.register) [] u))

  -- rule 1's side condition: the instruction preserves the assertion
  abbrev pub keeps_t : Tree → Bool
  keeps_t u = elim (is_among a.operation Rules.loads) [
    | true ↦ not (occurs (register a.register) [] u)
    | false ↦ elim (is_among a.operation Rules.writes) [ true ↦ apart_t u | false ↦ false ]
  ]

  -- the value of the new write, as it reads after the step
  abbrev pub fresh_t : Tree
  fresh_t = elim (eqb a.operation Opcode.fetch_add) [
    | true ↦ node (byte Code.sum) 0 (node (byte Code.reg) a.register Tree.none Tree.none) a.formula
    | false ↦ a.formula
  ]

  -- the operation is among those allowed: of a triple that of the first half, of a triple of a whole pair that of the whole
  abbrev pub operation_t : ℕ → List ℕ → Bool
  operation_t f ops = cond (eqb f hoare) (is_among a.operation ops) (cond (eqb f paired) (is_among a.whole ops) true)

module _ (h : Setup) (a : Acting) where
  -- the side condition holds
  abbrev pub side_t : Holes → TreeConclusion → List TreeConclusion → Side → Bool
  side_t c v vs (p is q with b) = same_tree (replace_t (replacing a b) (inst_t c (pattern_to_tree q))) (inst_t c (pattern_to_tree p))
  side_t c v vs (start_of n p) = same_tree (inst_t c (pattern_to_tree p))
      (node (byte Code.const) (h.init (c.num (num_hole n))) Tree.none Tree.none)
  side_t c v vs (starts_at_0 n) = h.cleared (c.num (num_hole n))
  side_t c v vs (is_new p) = same_tree (inst_t c (pattern_to_tree p)) (fresh_t a)
  side_t c v vs (kept p) = keeps_t a (inst_t c (pattern_to_tree p))
  side_t c v vs (lacks_x p) = apart_t a (inst_t c (pattern_to_tree p))
  side_t c v vs (no_flag p) = not (occurs (flag a.word) [] (inst_t c (pattern_to_tree p)))
  side_t c v vs (by_rows p q) = rows_t h.range (inst_t c (pattern_to_tree p)) (inst_t c (pattern_to_tree q))
  side_t c v vs by_table = table_t (map imp_of vs) (imp_of v)

  -- what remains once the templates match: the operation and the side conditions
  abbrev pub rest_t : Row → TreeConclusion → List TreeConclusion → Taken → Bool
  rest_t W v vs b = operation_t a (form_of W.says) W.operations && all (side_t (holes_from b) v vs) W.sides

  -- the conclusion, with these premises, is an instance of the row, for the instruction at point k of thread i
  abbrev pub fits_at : ℕ → ℕ → Row → TreeConclusion → List TreeConclusion → Bool
  fits_at i k W v vs = answer (and_then (match_line i k W.says v (preset i a)) (match_premises i k W.premises vs)) (rest_t W v vs)

  -- the conclusion, with these premises, is an instance of the rule
  abbrev pub fits_t : Rule → TreeConclusion → List TreeConclusion → Bool
  fits_t n v vs = fits_at v.thread v.point (row n) v vs
