use Rattle.service_spec.proofs.ReplyBranches.{trim_refused}
use Rattle.service.proofs.entry.serve_trim.Goals as goal

pub returns-in-Err : goal.returns-in-Err
returns-in-Err c = trim_refused _ _ _ _ c.in-Err.denied _ c.code.ensures c.in-Err.ensures
