-- The turns of a run over a table.
use Prim.Native.Nat.{ℕ, zero, suc, ◌≤◌, ◌<◌}
use mathlib.Core.Path.{◌≡◌, refl, ap, sym, ◌∙◌}
use mathlib.Core.Bool.{Bool, true, false, cond}
use mathlib.Core.List.{List}
use mathlib.Core.Logic.{◌≢◌}
use native.Mathlib.Omega.{arith}
use lib.Dec.{eqb}
use lib.ListN.{get_or}
use borrow.Author.Tests.{eq-eqb, ne_eqb}
use Rattle.replay_memory.specs.Write.{start_write}
use Rattle.replay_memory.specs.declared.write.Write.{Write}
use Rattle.replay_table.specs.Sweep.{swept_of}
use Rattle.replay_run.specs.NextTurn.{entry_of, next_turn}
use Rattle.replay_run.specs.Turn.{begun_by, stopped, performed_by, code_by, attempted_by, turn_by}
use Rattle.replay_run.specs.RunIn.{turn_on, run_to}
use Rattle.replay_run.specs.Course.{Course}
use Rattle.replay_run.specs.declared.next_turn.NextTurn.{NextTurn}
use Rattle.replay_run.specs.declared.next_turn.NextTurn.TheVariants.{Start, Step, Refused}

-- it has ended, or goes on
module _ (s trace : List ℕ) where
  pub run_done : (f : ℕ) (y : List Write × Course) → y.1.left ≡ 0 → run_to s trace f y ≡ y
  unfolding run_to
  run_done zero y e = refl
  run_done (suc f) y e = rw (run_to, eq-eqb _ _ e)

  pub run_next : (f : ℕ) (y : List Write × Course) → (y.1.left ≡ 0 → ⊥) → run_to s trace (suc f) y ≡ run_to s trace f (turn_on s trace y)
  unfolding run_to
  run_next f y e = rw (run_to, ne_eqb _ _ e)

  -- a turn, from what was read
  pub turn_made : (l m : List Write) (a c : Course) (v : NextTurn) (p : Write) → v ≡ next_turn s trace a
      → p ≡ get_or l (entry_of v) (start_write 0) → c ≡ turn_by a v p → m ≡ swept_of c.order l → (m, c) ≡ turn_on s trace (l, a)
  turn_made l m a c v p ev ep ec em = rw (em, ec, ep, ev)

-- each turn leaves less
pub turn_less : (a : Course) (x : NextTurn) (w : Write) → a.left ≢ 0 → (turn_by a x w).left < a.left
unfolding turn_by begun_by attempted_by performed_by stopped
turn_less a (Start v) w h = omega arith
turn_less a Refused w h = omega arith
turn_less a (Step x) w h = go (eqb (code_by a x w) 0)
  where
    go : (k : Bool) → (cond k (performed_by a x w) (stopped a (code_by a x w))).left < a.left
    go true = omega arith
    go false = omega arith

-- y is on the way from z: the turns that are left of the run from z are enough for y
module _ (s trace : List ℕ) (z : List Write × Course) where
  pub record OnTheWay (y : List Write × Course) : Type 0 where
    pub turns : ℕ
    pub enough : y.1.left ≤ turns
    pub same : run_to s trace turns y ≡ run_to s trace z.1.left z

  -- a turn later
  pub turn_later : (y x : List Write × Course) → OnTheWay y → 0 < y.1.left → x ≡ turn_on s trace y → OnTheWay x
  turn_later y x h g e = go h.turns h.enough h.same
    where
      some : y.1.left ≡ 0 → ⊥
      some d = omega (arith, d, g)

      go : (t : ℕ) → y.1.left ≤ t → run_to s trace t y ≡ run_to s trace z.1.left z → OnTheWay x
      go zero k d = absurd (omega arith)
      go (suc t) k d = record {
        turns = t;
        enough = omega (
          arith,
          ap (λ (u : List Write × Course). u.1.left) e,
          turn_less y.1 (next_turn s trace y.1) (get_or y.0 (entry_of (next_turn s trace y.1)) (start_write 0)) some,
        );
        same = ap (run_to s trace t) e ∙ sym (run_next s trace t y some) ∙ d;
      }

  -- at the end
  pub way_done : (y : List Write × Course) → OnTheWay y → y.1.left ≡ 0 → y ≡ run_to s trace z.1.left z
  way_done y h e = sym (run_done s trace h.turns y e) ∙ h.same
