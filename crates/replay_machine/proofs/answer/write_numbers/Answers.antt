use Rattle.std.proofs.Common.{rules}
use Rattle.limits.proofs.BranchTests.{tests}
use Rattle.verdict_record.proofs.Copies.{copy_all}
use Rattle.replay_machine.specs.Answer.{size, numbers_of}
use Rattle.replay_machine.proofs.OutputBranches.{numbers_length}
use Rattle.replay_machine.proofs.answer.write_numbers.Goals as goal

pub returns : goal.returns
returns c =
    copy_all size (numbers_of c.args.answer) c.args.room.now c.loop-i.room
    c.loop-i.i
    (numbers_length c.args.answer) (search tests) (search tests) (search tests)
