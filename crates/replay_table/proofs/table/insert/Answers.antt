-- `insert`: each turn sweeps one entry more.
use Rattle.std.proofs.Common.{◌≡◌, slice_set, ◌∙◌, refl, sym, arith, length}
use native.Mathlib.Numerals.{add-one}
use lib.ListN.{length-set}
use Rattle.replay_table.proofs.SweepBranches.{sweep_none, sweep_next, swept, visits_few}
use Rattle.replay_table.proofs.table.insert.Goals as goal

pub loop-e-init : goal.loop-e-init
loop-e-init c = record {
  all = c.visited-n.ensures;
  swept = sym (sweep_none c.args.order c.args.table.now);
  few = let f = visits_few c.args.order (length c.args.table.now) in omega arith;
  kept = refl;
}

pub loop-e-preserved : goal.loop-e-preserved
loop-e-preserved c =
    let o = c.args.order in let e = c.loop-e.e in let l = c.loop-e.table in let t = c.turn_at-t.result in
    let same : length (slice_set l e t.put) ≡ length l = length-set l e t.put in
    record {
      all = c.visited-n.ensures;
      swept = rw (add-one e) (sweep_next o e c.args.table.now l c.loop-e.carried t c.loop-e.invariant.swept c.turn_at-t.ensures);
      few = omega arith;
      kept = omega arith;
    }

pub returns : goal.returns
returns c =
    let e : c.loop-e.e ≡ c.visited-n.result = omega arith in
    swept c.args.order c.args.table.now c.loop-e.e (c.loop-e.table, c.loop-e.carried) (e ∙ c.loop-e.invariant.all)
    c.loop-e.invariant.swept
