use Rattle.vectors_service.proofs.FileCounted.{bill_called}
use Rattle.vectors_service.proofs.judge.bill_stored.Goals as goal

pub returns : goal.returns
returns c =
    bill_called c.args.service.now c.args.image.now c.args.bytes.now c.args.answer.now _ _ c.tariff_at-f.result _ _ c.tariff_at-f.ensures
    c.caller_at-caller.ensures c.serve_bill.ensures
