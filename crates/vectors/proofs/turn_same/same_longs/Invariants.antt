use Rattle.vectors.proofs.LongsSame.{Left}
use Rattle.vectors.proofs.turn_same.same_longs.Given as goal

abbrev pub invariant-loop-n : goal.invariant-loop-n
invariant-loop-n g l = Left g.T.Wide.number l.numbers l.bytes l.n-index l.stored
