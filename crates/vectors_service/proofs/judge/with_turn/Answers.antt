use Rattle.vectors_service.proofs.FileCounted.{turn_other}
use Rattle.vectors_service.proofs.judge.with_turn.Goals as goal

pub returns-in-Err : goal.returns-in-Err
returns-in-Err c = turn_other c.args.service.now c.args.body.now c.args.bytes.now c.args.service.now c.args.counters _ _ c.turn_kind_at.ensures c.in-Err.field-0 c.in-Err.is c.with_case.ensures
