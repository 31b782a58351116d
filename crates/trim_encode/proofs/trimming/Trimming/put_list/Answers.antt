use Rattle.trim_encode.proofs.Writes.{begin_room, body_room, finish_room, framed_put}
use Rattle.trim_encode.proofs.RecordsWritten.{list_room, list_put}
use Rattle.trim_encode.proofs.trimming.Trimming.put_list.Goals as goal

pub begin-start-requires : goal.begin-start-requires
begin-start-requires c = begin_room c.args.writer.now _ _ (list_room _ _ _ _ _ _ c.body_of-body.ensures c.args.writer.now c.requires)

pub put_numbers-requires : goal.put_numbers-requires
put_numbers-requires c =
    let room = list_room _ _ _ _ _ _ c.body_of-body.ensures c.args.writer.now c.requires in
    body_room c.args.writer.now _ _ room c.begin-start.new.self c.begin-start.ensures.0

pub finish-requires : goal.finish-requires
finish-requires c =
    let room = list_room _ _ _ _ _ _ c.body_of-body.ensures c.args.writer.now c.requires in
    finish_room c.args.writer.now _ _ room c.begin-start.new.self c.begin-start.ensures.0 c.put_numbers.new.self c.begin-start.result
    c.begin-start.ensures.1 c.put_numbers.ensures

pub returns : goal.returns
returns c =
    let room = list_room _ _ _ _ _ _ c.body_of-body.ensures c.args.writer.now c.requires in
    list_put _ _ _ _ _ _ c.body_of-body.ensures _ _
    (framed_put c.args.writer.now _ _ room c.begin-start.new.self c.begin-start.ensures.0 c.put_numbers.new.self c.begin-start.result
    c.begin-start.ensures.1 c.put_numbers.ensures _ c.finish.ensures)
