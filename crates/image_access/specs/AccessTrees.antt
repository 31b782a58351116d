-- What the code's lines and instructions say, with the trees at their positions in the image.
use Rattle.std.specs.Prelude.{cond, List, [], ◌∷◌, ℕ, eqb}
use Rattle.logic.specs.Opcode as Opcode
use Rattle.limits.specs.Limits.{nesting}
use Rattle.formula.specs.Tree.{Tree, parse_tree}
use Rattle.formula_compare.specs.Replace.{NoteT}
use Rattle.image_frames.specs.Records.{bodies}
use Rattle.image_header.specs.declared.sizes.Sizes.{Sizes}
use Rattle.image_header.specs.Instruction.{pair_operation}
use Rattle.image_bodies.specs.declared.line.Form.{Form}
use Rattle.image_bodies.specs.declared.line.Form.TheVariants.{Triple, Implication, Inclusion, Pair, Unlisted}
use Rattle.image_bodies.specs.Line.{form_of}
use Rattle.image_bodies.specs.RecordPlaces.{instruction_of}
use Rattle.formula_trees.specs.StatementTree as Said
use Rattle.formula_trees.specs.StatementTree.{TreeConclusion, inclusion, implication, hoare, paired}
use Rattle.image_access.specs.declared.line.Line.{Line}
use Rattle.image_access.specs.declared.acting_instruction.Acting.{Acting}

-- the tree of the formula at position p
abbrev pub tree_at : List ℕ → ℕ → Tree
tree_at s p = (parse_tree s nesting p).tree

-- the form of a line as a number; as in `saying`, an unlisted rule counts as an inclusion
abbrev pub form_number : Form → ℕ
form_number Triple = hoare
form_number Implication = implication
form_number Inclusion = inclusion
form_number Pair = paired
form_number Unlisted = inclusion

-- the form of a line at an instruction with the operation op: a rule 50 line where there is no pair is an ordinary triple
abbrev pub spoken : Form → ℕ → ℕ
spoken Triple op = form_number Triple
spoken Implication op = form_number Implication
spoken Inclusion op = form_number Inclusion
spoken Pair op = cond (pair_operation op) paired hoare
spoken Unlisted op = form_number Unlisted

-- what a line concludes, on trees
abbrev pub concluded_at : List ℕ → Sizes → Line → TreeConclusion
concluded_at s z v = record {
  form = spoken (form_of v.rule) (instruction_of z (bodies s) v.thread v.point).operation;
  thread = v.thread;
  point = v.point;
  left = tree_at s v.left;
  right = tree_at s v.right;
}

-- the assignment of f to the register r, on trees
abbrev pub gives_t : ℕ → Tree → NoteT
gives_t r f = record { to = r; by = f }

-- the assignments of an instruction: of an assignment its own, of operation 12 both, of a pair the second half's
unfoldable pub notes_by : ℕ → NoteT → NoteT → List NoteT
notes_by op n m = cond (eqb op Opcode.assign) (n ∷ []) (cond (eqb op Opcode.assign_two) (n ∷ m ∷ []) (cond (pair_operation op) (m ∷ []) []))

-- the assignments of an instruction, on trees
abbrev pub notes_at : List ℕ → Acting → List NoteT
notes_at s a = notes_by a.whole (gives_t a.register (tree_at s a.formula)) (gives_t a.noted (tree_at s a.note))

-- an instruction of a line, on trees
abbrev pub acting_at : List ℕ → Acting → Said.Acting
acting_at s a = record {
  operation = a.operation;
  whole = a.whole;
  word = a.word;
  register = a.register;
  formula = tree_at s a.formula;
  notes = notes_at s a;
}
