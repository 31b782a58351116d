use Rattle.trim_encode.proofs.RecordPieces.{writing_instruction}
use Rattle.limits.proofs.BranchTests.{tests}
use Rattle.trim_encode.proofs.thread_record.put_instruction.Goals as goal

pub put_five-requires : goal.put_five-requires
put_five-requires c = search (writing_instruction, tests)

pub put_five-requires-then-is_twofold : goal.put_five-requires-then-is_twofold
put_five-requires-then-is_twofold c = search (writing_instruction, tests)

pub returns-then-is_twofold : goal.returns-then-is_twofold
returns-then-is_twofold c = search (writing_instruction, tests)

pub returns-else-is_twofold : goal.returns-else-is_twofold
returns-else-is_twofold c = search (writing_instruction, tests)
