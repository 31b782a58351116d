use Rattle.std.proofs.Common.{arith, sym, ◌∙◌, refl}
use Rattle.tables_columns.proofs.LeafEqualBranches.{due_begin, due_end, due_differ, due_next, due_bound}
use Rattle.tables_columns.proofs.leaf_equal.same_leaf.Goals as goal

pub loop-walked-init : goal.loop-walked-init
loop-walked-init c = record {
  parts = due_begin _ _ _ _ _ _ (omega arith) (omega arith);
  some = omega arith;
  few = omega arith;
  within = omega arith;
}

pub step_after-requires : goal.step_after-requires
step_after-requires c = omega arith

pub loop-walked-preserved : goal.loop-walked-preserved
loop-walked-preserved c =
    let w = c.loop-walked.invariant in
    let few = due_bound _ _ _ (sym c.in-Some.is ∙ c.step_after.ensures) in
    record {
      parts = due_next _ _ _ _ _ _ _ _ _ w.parts _ w.some (λ e. omega arith) c.step_after.ensures _ c.in-Some.is _ (omega arith);
      some = omega arith;
      few = omega arith;
      within = w.within;
    }

pub returns-in_default : goal.returns-in_default
returns-in_default c =
    let w = c.loop-walked.invariant in
    due_differ _ _ _ _ _ _ _ _ _ w.parts _ w.some (λ e. omega arith) c.step_after.ensures c.in_default.not-Some

pub returns-then-next-eq0 : goal.returns-then-next-eq0
returns-then-next-eq0 c =
    let w = c.loop-walked.invariant in
    due_end _ _ _ _ _ _ _ _ _
    (due_next _ _ _ _ _ _ _ _ _ w.parts _ w.some (λ e. omega arith) c.step_after.ensures _ c.in-Some.is _ refl) (omega arith)
