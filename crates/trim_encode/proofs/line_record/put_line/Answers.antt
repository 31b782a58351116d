use Rattle.trim_encode.proofs.RecordPieces.{line_size, premises_room, line_put}
use Rattle.limits.proofs.BranchTests.{tests}
use native.Mathlib.Omega.{arith}
use Rattle.trim_encode.proofs.line_record.put_line.Goals as goal

pub put_five-requires : goal.put_five-requires
put_five-requires c =
    let e = line_size c.args.formulas.now c.args.lines.now c.args.body.now in
    omega (arith, e, c.requires)

pub put_u16-requires : goal.put_u16-requires
put_u16-requires c =
    let e = line_size c.args.formulas.now c.args.lines.now c.args.body.now in
    omega (arith, e, c.requires, c.put_five.ensures.end, c.put_five.ensures.long)

pub put_byte-requires : goal.put_byte-requires
put_byte-requires c =
    let e = line_size c.args.formulas.now c.args.lines.now c.args.body.now in
    omega (arith, e, c.requires, c.put_five.ensures.end, c.put_five.ensures.long, c.put_u16.ensures.end, c.put_u16.ensures.long)

pub put_numbers-requires : goal.put_numbers-requires
put_numbers-requires c = search (premises_room, tests)

pub returns : goal.returns
returns c = search (line_put, tests)
