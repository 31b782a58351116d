use Rattle.std.proofs.Common.{◌≡◌, ◌+◌, ◌*◌, length}
use Rattle.replay_memory.specs.Bytes.{put_view}
use Rattle.replay_memory.proofs.bytes.put_view.Given as goal

abbrev pub invariant-loop-k : goal.invariant-loop-k
invariant-loop-k l =
    (l.b ≡ l.i * 11 + 3) × ((l.table ≡ put_view l.fn.table l.i l.view l.k) × ((length l.table ≡ 792) × (length l.view.at ≡ 8)))
