use Rattle.trim_encode.proofs.RecordPieces.{writing_thread, points_are}
use Rattle.limits.proofs.BranchTests.{tests}
use Rattle.trim_encode.proofs.thread_record.put_thread.Goals as goal

pub put_byte-requires : goal.put_byte-requires
put_byte-requires c = search (writing_thread, tests)

pub loop-point-init : goal.loop-point-init
loop-point-init c = search (writing_thread, tests)

pub put_instruction-requires : goal.put_instruction-requires
put_instruction-requires c = search (writing_thread, tests)

pub loop-point-preserved : goal.loop-point-preserved
loop-point-preserved c = search (writing_thread, tests)

pub returns : goal.returns
returns c = search (writing_thread, points_are, tests)
