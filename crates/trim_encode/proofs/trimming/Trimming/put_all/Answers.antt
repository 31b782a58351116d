use Rattle.trim_encode.proofs.WholeWritten.{points_are, header_room, formulas_room, threads_room, outline_room, lines_room, obligations_room, claims_room, whole_put}
use Rattle.limits.proofs.BranchTests.{tests}
use Rattle.trim_encode.proofs.trimming.Trimming.put_all.Goals as goal

pub put_record-requires : goal.put_record-requires
put_record-requires c = search (header_room, points_are, tests)

pub put_live-requires : goal.put_live-requires
put_live-requires c = (search tests, search (formulas_room, points_are, tests))

pub put_records-requires : goal.put_records-requires
put_records-requires c = (search tests, search (threads_room, points_are, tests))

pub put_list-requires : goal.put_list-requires
put_list-requires c = search (outline_room, points_are, tests)

pub put_live-requires-2 : goal.put_live-requires-2
put_live-requires-2 c = (search tests, search (lines_room, points_are, tests))

pub put_list-requires-2 : goal.put_list-requires-2
put_list-requires-2 c = search (obligations_room, points_are, tests)

pub put_records-requires-2 : goal.put_records-requires-2
put_records-requires-2 c = (
  search tests,
  claims_room _ _ _ _ _ _ _ _ _ _ _ _ c.from-formulas.ensures c.from-threads.ensures (points_are _ _ _ c.point_counts_of-points.ensures.0)
      c.from-lines.ensures c.count_obligations-obligations.ensures c.from-claims.ensures _ c.requires _ c.put_record.ensures _
      c.put_live.ensures _ c.put_records.ensures _ c.put_list.ensures _ c.put_live-2.ensures _ c.put_list-2.ensures,
)

pub returns : goal.returns
returns c = search (whole_put, points_are, tests)
