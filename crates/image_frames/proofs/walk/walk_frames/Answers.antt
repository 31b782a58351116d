use Rattle.std.proofs.Common.{rules, tests}
use Rattle.std.proofs.lemmas.Result.{err_from_is_err_and}
use Rattle.image_frames.proofs.Branches.Checks.{refused_by}
use Rattle.image_frames.proofs.Branches.Walk.{walk_stop}
use Rattle.image_frames.proofs.walk.walk_frames.Goals as goal

pub returns-in_err-map_err : goal.returns-in_err-map_err
returns-in_err-map_err c =
    let v = c.loop-at.invariant in
    let p = err_from_is_err_and c.from_residual.result c.from_residual.ensures.1 in
    let r = refused_by c.frame_at.result c.map_err.result c.in_err-map_err.field-0.0 c.loop-at.i c.map_err.ensures.cases c.in_err-map_err.was
    (λ e d k. search (rules, tests)) in
    rw (p.1, p.2, r.2)
    (walk_stop c.args.image.now c.loop-at.at c.loop-at.i c.loop-at.seen c.frame_at.result c.loop-at-test.true v.0 v.1 c.frame_at.ensures r.0
    v.3 r.1)
