-- `insert`: the first `e` entries are swept.
use Rattle.std.proofs.Common.{◌≡◌, ◌≤◌, length}
use Rattle.replay_table.specs.Sweep.{visits, sweep_to}
use Rattle.replay_table.proofs.table.insert.Given as goal

abbrev pub invariant-loop-e : goal.invariant-loop-e
invariant-loop-e l = record {
  all : l.n ≡ visits l.fn.order (length l.fn.table);
  swept : (l.table, l.carried) ≡ sweep_to l.fn.order l.e l.fn.table;
  few : l.n ≤ length l.table;
  kept : length l.table ≡ length l.fn.table;
}
