-- What a line says, and the instruction that it is about, on trees.
use Rattle.std.specs.Prelude.{Bool, not, ◌&&◌, ◌||◌, List, map, ℕ, eqb, leb}
use Rattle.semantics.specs.Machine.{Instr}
use Rattle.logic.specs.Statement.{Statement, first}
use Rattle.logic_schemas.specs.Rules.{Shape, Shape.inside, Shape.implies, Shape.triple, Shape.pair}
use Rattle.logic_schemas.specs.Fits.{opcode, word_of, reg_of, formula_of, notes_of}
use Rattle.formula.specs.Tree.{Tree}
use Rattle.formula_compare.specs.Replace.{NoteT}
use Rattle.formula_trees.specs.ToTree.{to_tree, note_t}

-- the form of a line, as a number
abbrev pub inclusion : ℕ
inclusion = 0

abbrev pub implication : ℕ
implication = 1

abbrev pub hoare : ℕ
hoare = 2

-- a Hoare triple of a whole pair
abbrev pub paired : ℕ
paired = 3

-- the form is about an instruction
abbrev pub acted : ℕ → Bool
acted f = leb hoare f

-- what a line says: its form, the thread and point of a triple, its two formulas
pub record TreeConclusion : Type 0 where
  pub form : ℕ
  pub thread : ℕ
  pub point : ℕ
  pub left : Tree
  pub right : Tree

-- a statement of the logic, on trees
abbrev pub concluded : Statement → TreeConclusion
concluded (Statement.inside i j) = record { form = inclusion; thread = 0; point = 0; left = to_tree i; right = to_tree j }
concluded (Statement.implies a b) = record { form = implication; thread = 0; point = 0; left = to_tree a; right = to_tree b }
concluded (Statement.triple t k a b) = record { form = hoare; thread = t; point = k; left = to_tree a; right = to_tree b }
concluded (Statement.pair t k a b) = record { form = paired; thread = t; point = k; left = to_tree a; right = to_tree b }

-- the instruction of a line: `operation` is the first half's of a pair, `whole` the pair's; `notes` are the assignments that rules 2 and
-- 50 substitute
pub record Acting : Type 0 where
  pub operation : ℕ
  pub whole : ℕ
  pub word : ℕ
  pub register : ℕ
  pub formula : Tree
  pub notes : List NoteT

-- an instruction of the logic, on trees
abbrev pub acting : Instr → Acting
acting c = record {
  operation = opcode (first c);
  whole = opcode c;
  word = word_of (first c);
  register = reg_of (first c);
  formula = to_tree (formula_of (first c));
  notes = map note_t (notes_of c);
}

-- the form of a rule schema's shape
abbrev pub form_of : Shape → ℕ
form_of (inside p q) = inclusion
form_of (implies p q) = implication
form_of (triple p q) = hoare
form_of (pair p q) = paired

-- a line has the form f; if it is a triple, it is for thread i and point k ("premise triples are for c too")
abbrev pub placed : ℕ → ℕ → ℕ → TreeConclusion → Bool
placed f i k v = eqb v.form f && (not (acted f) || (eqb v.thread i && eqb v.point k))
