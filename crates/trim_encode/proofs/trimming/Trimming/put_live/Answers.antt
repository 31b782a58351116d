use Rattle.trim_encode.proofs.Writes.{join_none}
use Rattle.trim_encode.proofs.RecordsWritten.{writing_live}
use Rattle.limits.proofs.BranchTests.{tests}
use Rattle.trim_encode.proofs.trimming.Trimming.put_live.Goals.{then-is_marked, else-is_marked}
use Rattle.trim_encode.proofs.trimming.Trimming.put_live.Goals as goal

pub loop-i-init : goal.loop-i-init
loop-i-init c = search (join_none, tests)

pub put_record-requires : goal.put_record-requires
put_record-requires c = search (writing_live, tests)

pub loop-i-preserved : goal.loop-i-preserved
loop-i-preserved c = elim c.if-is_marked.branch [
  | then-is_marked w ↦ rw w.writer-is (search (writing_live, tests))
  | else-is_marked w ↦ rw w.writer-is (search (writing_live, tests))
]
