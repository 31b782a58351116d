use Rattle.service_spec.proofs.ReplyBranches.{handover_refused}
use Rattle.service.proofs.entry.serve_handover.Goals as goal

pub returns-in-Err : goal.returns-in-Err
returns-in-Err c = handover_refused _ _ _ _ _ c.in-Err.denied _ c.code.ensures c.in-Err.ensures
