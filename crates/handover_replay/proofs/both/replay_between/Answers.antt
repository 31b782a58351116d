-- `replay_between`: a handover that is refused.
use Rattle.replay_machine.specs.Refusal.{number}
use Rattle.replay_machine.specs.Replayed.{told}
use Rattle.handover_replay.proofs.AcrossBranches.{between_refused}
use Rattle.handover_replay.proofs.both.replay_between.Goals as goal

pub returns-in-Err : goal.returns-in-Err
returns-in-Err c =
    between_refused c.args.old.now c.args.old_sizes c.args.new.now c.args.new_sizes c.args.given.now.points.now
    c.args.given.now.first.now c.args.given.now.second.now c.args.given.now.registers.now c.args.room c.handover_code.result
    (told c.refuse.result) c.handover_code.ensures c.in-Err.refusal (number c.refusal_of.result) c.in-Err.is c.refusal_of.ensures
    c.refuse.ensures
