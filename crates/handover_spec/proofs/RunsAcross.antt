-- What a run of the old code keeps gives what the new code keeps from there on. Demand 3's induction serves both runs.
use mathlib.Core.Path.{◌≡◌, sym, subst}
use mathlib.Core.Logic.{inl, inr}
use Prim.Native.Nat.{ℕ, ◌<◌}
use lib.Dec.{T}
use Rattle.semantics.specs.Base.{Within}
use Rattle.semantics.specs.Names.{startless}
use Rattle.semantics.specs.Formula.{Assertion, Formula.sees, Formula.both_a, Formula.either_a, Formula.start, Formula.holds}
use Rattle.semantics.specs.Machine.{State, Program, run}
use Rattle.semantics.specs.Truth.{True}
use Rattle.semantics.specs.EveryRun.{Outline}
use Rattle.logic.specs.WellFormed.{WellFormed}
use Rattle.logic.specs.Derivation.{Proved}
use Rattle.semantics.proofs.Base.{and_left, and_right}
use Rattle.semantics.proofs.Invariant.{Wf}
use Rattle.logic.proofs.Runs.{Inv, derived_valid, run_keeps, start_inv}
use Rattle.handover_spec.specs.Handover.{NewPoint, Alike, Handover, handed, EveryRunAcross}

-- P with other words and range: all that truth reads of a program, but for start
abbrev sized : Program → ℕ → ℕ → Program
sized P w r = record {
  threads = P.threads;
  words = w;
  range = r;
  init = P.init;
  cleared = P.cleared;
  points = P.points;
  code = P.code;
}

module _ {P Q : Program} (A : Alike P Q) (to : NewPoint) (s : State) where
  abbrev Old : Program
  Old = sized P Q.words Q.range

  same_sized : P ≡ Old
  same_sized = λ i. sized P (A.words i) (A.range i)

  read_so : (a : Assertion) → T (startless a) → True Old s a → True Q (handed to s) a
  read_so (sees t i) z h = h
  read_so (both_a a b) z h = (read_so a (search and_left) h.0, read_so b (search and_right) h.1)
  read_so (either_a a b) z (inl h) = inl (read_so a (search and_left) h)
  read_so (either_a a b) z (inr h) = inr (read_so b (search and_right) h)
  read_so start z h = absurd z
  read_so (holds e) z h = h

  true_handed : (a : Assertion) → T (startless a) → True P s a → True Q (handed to s) a
  true_handed a z h = read_so a z (subst (λ (p : Program). True p s a) same_sized h)

  pub wf_handed : Wf P s → Wf Q (handed to s)
  wf_handed wf = go (subst (λ (p : Program). Wf p s) same_sized wf)
    where
      go : Wf Old s → Wf Q (handed to s)
      go w = record {
        outer = w.outer;
        view_in = w.view_in;
        stored_in = w.stored_in;
        own = w.own;
        small = w.small;
        reg_small = w.reg_small;
      }

module _ (P Q : Program) (O N : Outline) (to : NewPoint) (old_wf : WellFormed P O) (new_wf : WellFormed Q N)
    (H : Handover P Q O N to) where
  old_in : (t : ℕ) → Within Q.threads t → Within P.threads t
  old_in t b = subst (λ (n : ℕ). Within n t) (sym H.alike.threads) b

  module _ (s : State) (inv : Inv P O s) where
    -- a thread's old assertion is true as the new program reads it, so the new one is
    new_true : (t : ℕ) → Within P.threads t → s.point t < P.points t → True Q (handed to s) (N t (to t (s.point t)))
    new_true t b k =
        derived_valid Q new_wf.instructions (H.follows t (s.point t) b k) (handed to s) (wf_handed H.alike to s inv.wf)
        (true_handed H.alike to s (O t (s.point t)) (old_wf.no_start t (s.point t) b k) (inv.true_there t b))

    handed_inv : Inv Q N (handed to s)
    handed_inv = record {
      wf = wf_handed H.alike to s inv.wf;
      point = λ t b. H.there t (s.point t) (old_in t b) (inv.point t (old_in t b));
      true_there = λ t b. new_true t (old_in t b) (inv.point t (old_in t b));
    }

  -- the theorem
  pub every_run_across : Proved P O → Proved Q N → EveryRunAcross P Q N to
  every_run_across D E = record {
    holds = λ s st l m. (run_keeps Q N new_wf E m (handed to (run P s l))
        (handed_inv (run P s l) (run_keeps P O old_wf D l s (start_inv P O old_wf D s st)))).true_there;
  }
