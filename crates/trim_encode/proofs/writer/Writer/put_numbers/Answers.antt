use Rattle.trim_encode.proofs.RecordPieces.{writing_numbers}
use Rattle.limits.proofs.BranchTests.{tests}
use Rattle.trim_encode.proofs.writer.Writer.put_numbers.Goals as goal

pub loop-i-init : goal.loop-i-init
loop-i-init c = search (writing_numbers, tests)

pub put_u16-requires : goal.put_u16-requires
put_u16-requires c = search (writing_numbers, tests)

pub loop-i-preserved : goal.loop-i-preserved
loop-i-preserved c = search (writing_numbers, tests)

pub returns : goal.returns
returns c = search (writing_numbers, tests)
