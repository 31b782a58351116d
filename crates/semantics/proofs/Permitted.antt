-- The steps that are not refused, in the scope page's sentences: they are the permitted ones, for every program, state and step.
use mathlib.Core.Path.{◌≡◌, refl}
use mathlib.Core.Bool.{Bool, true, false, not, ◌&&◌}
use mathlib.Core.List.{List, []}
use Prim.Native.Nat.{ℕ, suc, ◌≤◌, ◌<◌}
use lib.Dec.{T, ltb, leb, eqb→eq, ltb→lt, lt→ltb, leb→le, le→leb}
use Rattle.semantics.specs.Base.{Within, within}
use Rattle.semantics.specs.Formula.{Value, Test, Formula.const}
use Rattle.semantics.specs.Replace.{Note}
use Rattle.semantics.specs.Machine.{State, Program, Mode, Mode.store, Mode.swap, Access.none, Access.load, Access.write, Instr, Instr.act, Instr.branch, Step, instr_at, reachable, allowed, permitted, step, exec}
use Rattle.semantics.proofs.Base.{and_left, and_right, and_both, not-true, holds_true}

-- a write of x that the thread t may reach: it is there, and it is at or after the thread's own in that row
pub record Reached (s : State) (t x p : ℕ) : Type 0 where
  pub there : p < s.size x
  pub at_or_after : s.view t x ≤ p

-- the positions of an instruction by t, whatever it notes: a pair picks as its first half does
pub data Picked (s : State) (t p : ℕ) : Instr → Type 0 where
  -- assignment, two at once too, and branch: 0
  by_assignment : {ns : List Note} → p ≡ 0 → Picked s t p (act none ns)
  by_branch : {e : Test} {a : ℕ} → p ≡ 0 → Picked s t p (branch e a)
  -- a load: any write at or after the thread's own, covered or not, releasing or not
  by_load : {acquires : Bool} {r x : ℕ} {ns : List Note} → Reached s t x p → Picked s t p (act (load acquires r x) ns)
  -- a store, a swap, an exchange or a fetch-add: an uncovered one
  by_write : {m : Mode} {x : ℕ} {f : Value} {ns : List Note} → Reached s t x p → (s.row x p).covered ≡ false
      → Picked s t p (act (write m x f) ns)

-- a step that is not refused: its thread is there and not at its last point, and its position is one of its instruction
pub record Permitted (P : Program) (m : Step) (s : State) : Type 0 where
  pub thread_there : Within P.threads m.thread
  pub not_at_last : suc (s.point m.thread) < P.points m.thread
  pub position : Picked s m.thread m.position (P.code m.thread (s.point m.thread))

module _ (s : State) (t : ℕ) where
  reachable_reached : (x p : ℕ) → T (reachable s t x p) → Reached s t x p
  reachable_reached x p h = record {
    there = ltb→lt p (s.size x) (and_left (ltb p (s.size x)) (leb (s.view t x) p) h);
    at_or_after = leb→le (s.view t x) p (and_right (ltb p (s.size x)) (leb (s.view t x) p) h);
  }

  reached_reachable : (x p : ℕ) → Reached s t x p → T (reachable s t x p)
  reached_reachable x p h = and_both (ltb p (s.size x)) (leb (s.view t x) p) (lt→ltb p (s.size x) h.there)
      (le→leb (s.view t x) p h.at_or_after)

  pub allowed_picked : (c : Instr) (p : ℕ) → T (allowed c t p s) → Picked s t p c
  allowed_picked (act none ns) p h = by_assignment (eqb→eq p 0 h)
  allowed_picked (act (load acquires r x) ns) p h = by_load (reachable_reached x p h)
  allowed_picked (act (write m x f) ns) p h =
      by_write (reachable_reached x p (and_left (reachable s t x p) (not (s.row x p).covered) h))
      (not-true (s.row x p).covered (and_right (reachable s t x p) (not (s.row x p).covered) h))
  allowed_picked (branch e a) p h = by_branch (eqb→eq p 0 h)

  pub picked_allowed : (c : Instr) (p : ℕ) → Picked s t p c → T (allowed c t p s)
  picked_allowed (act none ns) p (by_assignment e) = rw e tt
  picked_allowed (act (load acquires r x) ns) p (by_load h) = reached_reachable x p h
  picked_allowed (act (write m x f) ns) p (by_write h e) =
      and_both (reachable s t x p) (not (s.row x p).covered) (reached_reachable x p h) (rw e tt)
  picked_allowed (branch e a) p (by_branch q) = rw q tt

module _ (P : Program) (m : Step) (s : State) where
  abbrev present : Bool
  present = within P.threads m.thread

  abbrev moving : Bool
  moving = ltb (suc (s.point m.thread)) (P.points m.thread)

  abbrev fitting : Bool
  fitting = allowed (instr_at P s m.thread) m.thread m.position s

  pub permitted_sound : T (permitted P m s) → Permitted P m s
  permitted_sound h =
      let a : T (present && moving) = and_left (present && moving) fitting h in
      let w : T present = and_left present moving a in
      record {
        thread_there = (
          leb→le 1 m.thread (and_left (leb 1 m.thread) (leb m.thread P.threads) w),
          leb→le m.thread P.threads (and_right (leb 1 m.thread) (leb m.thread P.threads) w),
        );
        not_at_last = ltb→lt (suc (s.point m.thread)) (P.points m.thread) (and_right present moving a);
        position = allowed_picked s m.thread (instr_at P s m.thread) m.position (and_right (present && moving) fitting h);
      }

  pub permitted_whole : Permitted P m s → T (permitted P m s)
  permitted_whole h =
      and_both (present && moving) fitting
      (and_both present moving
      (and_both (leb 1 m.thread) (leb m.thread P.threads) (le→leb 1 m.thread h.thread_there.0)
      (le→leb m.thread P.threads h.thread_there.1))
      (lt→ltb (suc (s.point m.thread)) (P.points m.thread) h.not_at_last))
      (picked_allowed s m.thread (instr_at P s m.thread) m.position h.position)

  -- a permitted step does what its instruction does; every other one is refused, and the state stays as it was
  pub step_permitted : Permitted P m s → step P s m ≡ exec P (instr_at P s m.thread) m.thread m.position s
  step_permitted h = rw (holds_true (permitted P m s) (permitted_whole h))

  pub step_refused : (Permitted P m s → ⊥) → step P s m ≡ s
  step_refused h = go (permitted P m s) refl
    where
      go : (b : Bool) → permitted P m s ≡ b → step P s m ≡ s
      go true e = absurd (h (permitted_sound (rw e tt)))
      go false e = rw e

-- no row is too long and no position too far: computed at the position 4,000 of rows of 5,000 writes
wide : State
wide = record {
  size = λ x. 5000;
  row = λ x i. record { value = 0; releasing = true; covered = false; stored = λ y. 0 };
  view = λ t x. 0;
  reg = λ r. 0;
  point = λ t. 0;
}

far : allowed (act (load false 1 1) []) 1 4000 wide
    && (allowed (act (write (store true) 1 (const 0)) []) 1 4000 wide && allowed (act (write swap 1 (const 0)) []) 1 4000 wide) ≡ true
unfolding wide
far = refl
