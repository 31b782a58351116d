use Rattle.trim_encode.proofs.RecordsWritten.{writing_records}
use Rattle.limits.proofs.BranchTests.{tests}
use Rattle.trim_encode.proofs.Writes.{join_none}
use Rattle.trim_encode.proofs.trimming.Trimming.put_records.Goals as goal

pub loop-i-init : goal.loop-i-init
loop-i-init c = search (join_none, tests)

pub put_record-requires : goal.put_record-requires
put_record-requires c = search (writing_records, tests)

pub loop-i-preserved : goal.loop-i-preserved
loop-i-preserved c = search (writing_records, tests)
