use native.Mathlib.Omega.{arith}
use Rattle.trim_encode.proofs.TrimBranches.{lengths, records_all, room, trimmed_room, trimmed_written, done_answer}
use Rattle.trim_encode.proofs.trim_accepted.trim_accepted.Goals as goal

pub invariant_of-records : goal.invariant_of-records
invariant_of-records c = record {
  records = records_all _ _ c.requires;
  in_range = record { formulas = omega arith; threads = omega arith; lines = omega arith; claims = omega arith };
}

pub invariant_of-image : goal.invariant_of-image
invariant_of-image c = record {
  lengths = lengths _ _ c.requires;
  in_range = record { formulas = omega arith; threads = omega arith; lines = omega arith; claims = omega arith };
}

pub write-requires : goal.write-requires
write-requires c =
    let h = room c.args.image.now c.args.sizes _ _ c.trimmed_length-length.ensures c.if-out-length.false in
    rw (c.new-trimming.ensures.formulas_are, c.new-trimming.ensures.lines_are, c.new-trimming.ensures.image_is)
    (trimmed_room c.args.image.now c.args.sizes _ _ c.mark_live_formulas.ensures c.mark_live_lines.ensures _ h)

pub returns : goal.returns
returns c =
    let h = room c.args.image.now c.args.sizes _ _ c.trimmed_length-length.ensures c.if-out-length.false in (
      done_answer c.args.image.now c.args.sizes _ _ c.trimmed_length-length.ensures c.if-out-length.false,
      trimmed_written c.args.image.now c.args.sizes _ _ c.mark_live_formulas.ensures c.mark_live_lines.ensures _ _ h
          (rw (c.new-trimming.ensures.formulas_are, c.new-trimming.ensures.lines_are, c.new-trimming.ensures.image_is) at c.write.ensures),
    )
