use Rattle.replay_run.specs.Course.{told}
use Rattle.replay_run.proofs.TurnBranches.{attempt_refused}
use Rattle.replay_run.proofs.turn.attempt.Goals as goal

pub returns-in-Err : goal.returns-in-Err
returns-in-Err c =
    attempt_refused (told c.args.course) (told c.stop.result) c.args.turn c.args.picked c.pick_refusal.result c.pick_refusal.ensures
    c.in-Err.refusal c.in-Err.is c.stop.ensures
