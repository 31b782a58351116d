-- One whole image decoded: two threads, words that start at 3 and 5, marks 1 and 0, six values, an exchange, a pair, a branch, a claim.
use mathlib.Core.Path.{◌≡◌, refl}
use mathlib.Core.Bool.{true, false}
use mathlib.Core.List.{List, [], ◌∷◌, map}
use Prim.Native.Nat.{ℕ}
use Rattle.semantics.specs.Base.{up_to, below}
use Rattle.semantics.specs.Formula.{Formula, Assertion, Formula.const, Formula.reg, Formula.word, Formula.sum, Formula.equal, Formula.box, Formula.one, Formula.both, Formula.sees, Formula.start, Formula.holds}
use Rattle.semantics.specs.Machine.{Mode.store, Mode.exchange, Access.load, Access.write, Instr.act, Instr.branch}
use Rattle.logic.specs.Statement.{implies, triple}
use Rattle.logic.specs.RuleNumbers.{rule_of}
use Rattle.logic_outline.specs.Verdict.{Image}
use Rattle.image_frames.specs.Records.{bodies}
use Rattle.limits.specs.Numbers as Numbers
use Rattle.image_frames.specs.Fault as Fault
use Rattle.image_frames.specs.Frames as Frames
use Rattle.image_frames.specs.Kinds as Kinds
use Rattle.image_frames.specs.Records as Records
use Rattle.image_header.specs.Header as Header
use Rattle.image_header.specs.Instruction as Instruction
use Rattle.image_header.specs.Thread as Thread
use Rattle.image_bodies.specs.Claim as ClaimBody
use Rattle.image_bodies.specs.FormulaBody as FormulaBody
use Rattle.image_bodies.specs.FormulaUse as FormulaUse
use Rattle.image_bodies.specs.Line as Line
use Rattle.image_bodies.specs.LineBody as LineBody
use Rattle.image_bodies.specs.ListBody as ListBody
use Rattle.image_bodies.specs.NumberList as NumberList
use Rattle.image_bodies.specs.PointCounts as PointCounts
use Rattle.image_bodies.specs.RecordPlaces as RecordPlaces
use Rattle.image_bodies.specs.ThreadBody as ThreadBody
use Rattle.image.specs.Decode as Decode
use Rattle.image.specs.Body as Body
use Rattle.formula.specs.Codes as Codes
use Rattle.formula.specs.Reader as Reader
use Rattle.formula.specs.Tree as Tree
use Rattle.formula_compare.specs.Occurs as Occurs
use Rattle.image_meaning.specs.Program as Program
use Rattle.image_meaning.specs.Certificate as Certificate
use Rattle.image_meaning.specs.Formulas as FormulasOf
use Rattle.image_meaning.specs.Image as Images
use Rattle.semantics.specs.Base as Semantics
use Rattle.image_header.specs.declared.sizes.Sizes.{Sizes}
use Rattle.image_meaning.specs.Image.{Result, read, image_of, decode}

-- the image, a record to a line: header; six formulas; two threads; the outline; three lines; obligations; a claim
abbrev image : List ℕ
image =
    12 ∷ 0 ∷ 1 ∷ 0 ∷ 2 ∷ 2 ∷ 2 ∷ 6 ∷ 3 ∷ 5 ∷ 1 ∷ 2 ∷ 1 ∷ 0
    ∷ 4 ∷ 0 ∷ 2 ∷ 0 ∷ 0 ∷ 2
    ∷ 7 ∷ 0 ∷ 2 ∷ 0 ∷ 3 ∷ 1 ∷ 1 ∷ 0 ∷ 1
    ∷ 5 ∷ 0 ∷ 2 ∷ 0 ∷ 28 ∷ 11 ∷ 8
    ∷ 3 ∷ 0 ∷ 2 ∷ 0 ∷ 27
    ∷ 13 ∷ 0 ∷ 2 ∷ 0 ∷ 24 ∷ 1 ∷ 19 ∷ 17 ∷ 1 ∷ 16 ∷ 9 ∷ 2 ∷ 1 ∷ 0 ∷ 3
    ∷ 7 ∷ 0 ∷ 2 ∷ 0 ∷ 9 ∷ 1 ∷ 2 ∷ 0 ∷ 0
    ∷ 18 ∷ 0 ∷ 3 ∷ 0 ∷ 3 ∷ 7 ∷ 1 ∷ 1 ∷ 1 ∷ 0 ∷ 10 ∷ 2 ∷ 0 ∷ 1 ∷ 0 ∷ 0 ∷ 1 ∷ 0 ∷ 2 ∷ 0
    ∷ 13 ∷ 0 ∷ 3 ∷ 0 ∷ 3 ∷ 2 ∷ 2 ∷ 2 ∷ 0 ∷ 0 ∷ 6 ∷ 0 ∷ 0 ∷ 6 ∷ 0
    ∷ 14 ∷ 0 ∷ 4 ∷ 0 ∷ 3 ∷ 0 ∷ 3 ∷ 0 ∷ 5 ∷ 0 ∷ 3 ∷ 0 ∷ 3 ∷ 0 ∷ 3 ∷ 0
    ∷ 10 ∷ 0 ∷ 5 ∷ 0 ∷ 20 ∷ 0 ∷ 0 ∷ 4 ∷ 0 ∷ 3 ∷ 0 ∷ 0
    ∷ 10 ∷ 0 ∷ 5 ∷ 0 ∷ 1 ∷ 1 ∷ 0 ∷ 3 ∷ 0 ∷ 5 ∷ 0 ∷ 0
    ∷ 14 ∷ 0 ∷ 5 ∷ 0 ∷ 20 ∷ 0 ∷ 0 ∷ 3 ∷ 0 ∷ 3 ∷ 0 ∷ 2 ∷ 1 ∷ 0 ∷ 2 ∷ 0
    ∷ 34 ∷ 0 ∷ 6 ∷ 0 ∷ 1 ∷ 0 ∷ 1 ∷ 0 ∷ 2 ∷ 0 ∷ 0 ∷ 0 ∷ 0 ∷ 0 ∷ 0 ∷ 0 ∷ 0 ∷ 0
    ∷ 2 ∷ 0 ∷ 2 ∷ 0 ∷ 3 ∷ 0 ∷ 0 ∷ 0 ∷ 0 ∷ 0 ∷ 0 ∷ 0 ∷ 0 ∷ 0 ∷ 0 ∷ 0 ∷ 0 ∷ 0
    ∷ 8 ∷ 0 ∷ 8 ∷ 0 ∷ 1 ∷ 2 ∷ 2 ∷ 1 ∷ 3 ∷ 0 ∷ []

-- its sizes
abbrev sizes : Sizes
sizes = record { threads = 2; words = 2; registers = 2; range = 6; formulas = 6; lines = 3; claims = 1 }

-- formulas 3 and 5
abbrev always : Assertion
always = holds (Formula.not Formula.false)

abbrev seen : Assertion
seen = sees 1 (both (one 1) (box (equal (word 1) (const 3))))

-- what it says
abbrev said : Image
said = image_of sizes (bodies image)

-- what is read of it
record Reads (r : Result) (D : Image) : Type 0 where
  well-formed : r ≡ read D
  -- program
  range : D.program.range ≡ 6
  start-values : map D.program.init (up_to 2) ≡ 3 ∷ 5 ∷ []
  start_marks : map D.program.cleared (up_to 3) ≡ true ∷ false ∷ true ∷ []
  points : map D.program.points (up_to 2) ≡ 3 ∷ 3 ∷ []
  thread_1 : map (D.program.code 1) (below 2)
      ≡ act (write (exchange 1) 1 (const 2)) []
      ∷ act (write (store true) 2 (const 2)) (record { to = 1; by = sum (reg 1) (const 1) } ∷ [])
      ∷ []
  thread_2 : map (D.program.code 2) (below 2) ≡ act (load true 2 2) [] ∷ branch (equal (reg 2) (const 0)) 0 ∷ []
  -- outline: `holds not false` but at the last point of thread 1
  outline_1 : map (D.outline 1) (below 3) ≡ always ∷ always ∷ seen ∷ []
  outline_2 : map (D.outline 2) (below 3) ≡ always ∷ always ∷ always ∷ []
  -- certificate
  lines : map D.certificate.line (up_to 3)
      ≡ record { rule = rule_of 20; says = implies start always; premises = [] }
      ∷ record { rule = rule_of 1; says = triple 1 0 always seen; premises = [] }
      ∷ record { rule = rule_of 20; says = implies always always; premises = 1 ∷ 2 ∷ [] }
      ∷ []
  -- the line that each of 16 obligations names
  named : map D.named (below 16) ≡ 1 ∷ 1 ∷ 2 ∷ 0 ∷ 0 ∷ 0 ∷ 0 ∷ 2 ∷ 2 ∷ 3 ∷ 0 ∷ 0 ∷ 0 ∷ 0 ∷ 0 ∷ 0 ∷ []
  -- thread 1 at point 2, thread 2 at point 1, by line 3; the claim is record 15
  claims : D.claims.count ≡ 1
  claim : D.claims.claim 0 ≡ record { thread = 1; point = 2; other = 2; other_point = 1 }
  claim_line : D.claims.line 0 ≡ 3
  claim-record : D.claims.place 0 ≡ 15

whole-image : Reads (decode image) said
unfolding Numbers.le16 Numbers.has Numbers.numbers Numbers.within Numbers.every Numbers.nth Fault.code_of Fault.unless Fault.also Frames.admit Frames.frame Frames.ended Frames.walk Frames.frames Frames.whole_image Kinds.order Kinds.most Records.body Records.cut Records.bodies Header.counted Header.start_values Header.owners Header.marks Header.cleared Header.headed Header.header_size Header.header Instruction.twofold Instruction.pair_operation Instruction.first_operation Instruction.instruction_size Instruction.half Instruction.second_half Instruction.instruction Instruction.fields_of Instruction.fields_fit Instruction.half_fits Instruction.second_fits Instruction.ranged Thread.last_point Thread.cut Thread.begins Thread.instructions Thread.thread_size Thread.numbered Thread.thread_numbers ClaimBody.point_there ClaimBody.different ClaimBody.claimed ClaimBody.claim FormulaBody.counts_of FormulaBody.fault_of FormulaBody.read FormulaBody.formula FormulaUse.startless FormulaUse.plain FormulaUse.outlined FormulaUse.plain_of Line.form_of Line.premises Line.line_size Line.triple_at Line.nowhere Line.placed Line.numbered Line.line_numbers LineBody.sort_at LineBody.sorted_by LineBody.line_sorted LineBody.line ListBody.outlined_at ListBody.outline ListBody.obligations NumberList.exactly PointCounts.is_branch PointCounts.branches PointCounts.thread_counts PointCounts.point_counts_to PointCounts.point_counts PointCounts.obligation_count RecordPlaces.thread_body RecordPlaces.instruction_of ThreadBody.wanted ThreadBody.formula_sorted ThreadBody.sorted ThreadBody.target ThreadBody.register_owned ThreadBody.formula_owned ThreadBody.owned ThreadBody.result_absent ThreadBody.thread_registers ThreadBody.thread Decode.record_count Decode.sizes_of Decode.first_fault Decode.decoded Body.place_of Body.check Codes.fits_at Codes.has_operand Codes.part_count Codes.part_place Codes.member Reader.in_range Reader.operand_fault Reader.head_fault Reader.fault_at Reader.reading_of Tree.node_at Tree.parse_tree Occurs.owner_of Occurs.is_queried Occurs.occurs Program.instr Program.point_count Program.outline_number Certificate.saying Certificate.line_body FormulasOf.formula Images.claim_place Images.named_line Images.claim_body Images.decode Semantics.upd
whole-image = record {
  well-formed = refl;
  range = refl;
  start-values = refl;
  start_marks = refl;
  points = refl;
  thread_1 = refl;
  thread_2 = refl;
  outline_1 = refl;
  outline_2 = refl;
  lines = refl;
  named = refl;
  claims = refl;
  claim = refl;
  claim_line = refl;
  claim-record = refl;
}
