use Rattle.service_spec.proofs.ReplyBranches.{bill_refused}
use Rattle.service.proofs.entry.serve_bill.Goals as goal

pub returns-in-Err : goal.returns-in-Err
returns-in-Err c = bill_refused _ _ _ _ _ _ c.in-Err.denied _ c.code.ensures c.in-Err.ensures c.clear_bill.ensures
