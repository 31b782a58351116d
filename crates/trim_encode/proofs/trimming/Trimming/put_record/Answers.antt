use Rattle.trim_encode.proofs.Writes.{begin_room, body_room, finish_room, framed_put}
use Rattle.trim_encode.proofs.RecordsWritten.{record_room, record_put}
use Rattle.trim_encode.proofs.trimming.Trimming.put_record.Goals as goal

pub begin-start-requires : goal.begin-start-requires
begin-start-requires c = begin_room c.args.writer.now _ _ (record_room _ _ _ _ _ _ c.body_of-body.ensures c.args.writer.now c.requires)

pub put_body-requires : goal.put_body-requires
put_body-requires c =
    let room = record_room _ _ _ _ _ _ c.body_of-body.ensures c.args.writer.now c.requires in
    body_room c.args.writer.now _ _ room c.begin-start.new.self c.begin-start.ensures.0

pub finish-requires : goal.finish-requires
finish-requires c =
    let room = record_room _ _ _ _ _ _ c.body_of-body.ensures c.args.writer.now c.requires in
    finish_room c.args.writer.now _ _ room c.begin-start.new.self c.begin-start.ensures.0 c.put_body.new.writer c.begin-start.result
    c.begin-start.ensures.1 c.put_body.ensures

pub returns : goal.returns
returns c =
    let room = record_room _ _ _ _ _ _ c.body_of-body.ensures c.args.writer.now c.requires in
    record_put _ _ _ _ _ _ c.body_of-body.ensures _ _
    (framed_put c.args.writer.now _ _ room c.begin-start.new.self c.begin-start.ensures.0 c.put_body.new.writer c.begin-start.result
    c.begin-start.ensures.1 c.put_body.ensures _ c.finish.ensures)
