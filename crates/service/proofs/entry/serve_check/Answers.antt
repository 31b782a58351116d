use Rattle.service_spec.proofs.ReplyBranches.{check_refused, check_served}
use Rattle.service.proofs.entry.serve_check.Goals as goal

pub returns-in-Ok : goal.returns-in-Ok
returns-in-Ok c = check_served _ _ _ _ _ _ c.in-Ok.ensures c.check_image.ensures

pub returns-in-Err : goal.returns-in-Err
returns-in-Err c = check_refused _ _ _ _ c.in-Err.denied _ c.code.ensures c.in-Err.ensures
