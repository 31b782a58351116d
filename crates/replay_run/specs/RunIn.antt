-- A run over a table of writes: in each turn one entry is read and at most one write is inserted.
use Rattle.std.specs.Prelude.{true, false, List, ℕ, zero, suc, eqb, get_or}
use Rattle.replay_memory.specs.Write.{start_write}
use Rattle.replay_memory.specs.declared.write.Write.{Write}
use Rattle.replay_table.specs.Sweep.{swept_of}
use Rattle.replay_run.specs.NextTurn.{entry_of, next_turn}
use Rattle.replay_run.specs.Turn.{turn_by}
use Rattle.replay_run.specs.Course.{Course}

module _ (s trace : List ℕ) where
  -- the state after the turn that reads its entry of the table l
  abbrev pub turned : List Write → Course → Course
  turned l c = turn_by c (next_turn s trace c) (get_or l (entry_of (next_turn s trace c)) (start_write 0))

  -- the table and the state after a turn
  abbrev pub turn_on : List Write × Course → List Write × Course
  turn_on y = (swept_of (turned y.0 y.1).order y.0, turned y.0 y.1)

  -- at most n turns, until nothing is left
  unfoldable pub run_to : ℕ → List Write × Course → List Write × Course
  run_to zero y = y
  run_to (suc n) y = elim (eqb y.1.left 0) [ true ↦ y | false ↦ run_to n (turn_on y) ]
