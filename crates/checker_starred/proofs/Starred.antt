-- The starred cases hold of the definitions.
use native.Mathlib.Decide.{ℕ_discrete}
use lib.Dec.{T}
use Rattle.semantics.specs.Formula.{same}
use Rattle.semantics.specs.Base.{upd, all}
use Rattle.logic.specs.Rows.{same_name, choose, is_in, distinct}
use Rattle.logic.specs.Table.{same_leaf}
use Rattle.limits.specs.Numbers.{le16, has, numbers, within, every}
use Rattle.image_frames.specs.Records.{body, cut, bodies}
use Rattle.image_frames.specs.Frames.{admit, frame, ended, walk, frames, whole_image}
use Rattle.image_frames.specs.Kinds.{order, most}
use Rattle.image_frames.specs.Fault.{code_of, unless, also}
use Rattle.image.specs.Decode.{record_count, sizes_of, first_fault, decoded}
use Rattle.image.specs.Body.{place_of, check}
use Rattle.image_bodies.specs.FormulaBody as Formulas
use Rattle.image_bodies.specs.FormulaBody.{counts_of, read}
use Rattle.image_bodies.specs.ThreadBody.{thread_registers, thread}
use Rattle.image_bodies.specs.ListBody.{outlined_at, outline, obligations}
use Rattle.image_bodies.specs.LineBody.{sort_at, sorted_by, line_sorted, line}
use Rattle.image_bodies.specs.FormulaUse as Use
use Rattle.image_bodies.specs.FormulaUse.{startless}
use Rattle.formula_compare.specs.Occurs.{is_queried, occurs}
use Rattle.formula.specs.Reader.{in_range, operand_fault, head_fault, fault_at, reading_of}
use Rattle.image_header.specs.Header as Header
use Rattle.image_header.specs.Header.{start_values, owners, marks, cleared, header_size, headed, header}
use Rattle.image_bodies.specs.NumberList.{exactly}
use Rattle.image_bodies.specs.Line as Line
use Rattle.image_header.specs.Thread as Thread
use Rattle.image_header.specs.Thread.{last_point, begins, instructions, thread_size, thread_numbers}
use Rattle.image_bodies.specs.RecordPlaces.{thread_body}
use Rattle.image_bodies.specs.PointCounts.{branches, thread_counts, point_counts_to, point_counts, obligation_count}
use Rattle.image_bodies.specs.Line.{form_of, premises, line_size, nowhere, placed, line_numbers}
use Rattle.formula.specs.Codes.{has_operand, part_count, part_place, fits_at, member}
use Rattle.formula.specs.Tree.{node_at, parse_tree}
use Rattle.logic_outline.specs.Verdict.{line_code, judge, judge_claims}
use Rattle.logic_outline.specs.Lines.{marked}
use Rattle.image_meaning.specs.Formulas.{formula}
use Rattle.logic.specs.RuleNumbers.{rule_of}
use Rattle.image_meaning.specs.Program.{point_count, outline_number}
use Rattle.image_meaning.specs.Certificate.{saying, line_body}
use Rattle.image_meaning.specs.Image.{named_line, decode}
use Rattle.verdict_record.specs.ObligationPlace as Place
use Rattle.verdict_record.specs.Fields.{gathered, fields_of}
use Rattle.verdict_record.specs.Record.{record_bytes}
use Rattle.verdict_record.specs.Output.{code_for, bytes_for}
use Rattle.checker_spec.specs.ImageVerdict.{verdict}
use Rattle.checker_starred.specs.StarredCases.{holds, table}

pub starred : T (all holds table)
unfolding verdict code_for bytes_for begins fields_of gathered Place.place_of record_bytes code_of Formulas.formula Formulas.fault_of
    Header.counted Line.numbered Thread.cut Thread.numbered Use.outlined admit also bodies body branches check choose cleared counts_of cut
    decode decoded distinct ended every exactly fault_at first_fault fits_at form_of formula frame frames has has_operand head_fault headed
    header header_size in_range instructions is_in is_queried judge last_point line line_body line_code judge_claims line_numbers line_size
    line_sorted marked member most named_line node_at nowhere numbers obligation_count obligations occurs order operand_fault outline
    outline_number outlined_at owners marks part_count part_place place_of placed point_count premises read reading_of record_count rule_of same
    same_leaf saying sizes_of parse_tree sort_at sorted_by start_values startless point_counts point_counts_to thread thread_body thread_numbers thread_registers
    thread_size thread_counts unless upd walk whole_image within le16 same_name ℕ_discrete
starred = tt
