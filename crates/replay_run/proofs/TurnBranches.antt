-- The ways through the functions on values, one law for each that is not a chain of tests.
use mathlib.Core.Path.{◌≡◌, refl, ◌∙◌, ap}
use Prim.Native.Nat.{ℕ, ◌+◌, ◌-◌, ◌%◌, ◌≤◌, ◌<◌}
use mathlib.Core.Bool.{Bool, true, false, not, cond}
use mathlib.Core.List.{List, []}
use lib.Dec.{eqb}
use lib.ListN.{length, get_or, set, replicate}
use borrow.Author.Tests.{lt-ltb, le-ltb, eq-eqb, ne_eqb}
use Rattle.limits.specs.Numbers.{nth}
use Rattle.image_frames.specs.Records.{bodies}
use Rattle.image_header.specs.Header.{start_values}
use Rattle.image_header.specs.declared.sizes.Sizes.{Sizes}
use Rattle.tables_columns.specs.Combine.{sum_of}
use Rattle.replay_memory.specs.View.{start_view, next}
use Rattle.replay_memory.specs.Memory.{first, index_of}
use Rattle.replay_memory.specs.declared.view.View.{View}
use Rattle.replay_memory.specs.declared.write.Write.{Write}
use Rattle.replay_memory.specs.declared.memory.MemoryShape.{MemoryShape}
use Rattle.replay_table.specs.Sweep.{no_order, start_order}
use Rattle.replay_table.specs.Change.{swapped_by}
use Rattle.replay_table.specs.declared.order.Order.{Order}
use Rattle.replay_table.specs.declared.access.Change.{Change}
use Rattle.replay_machine.specs.Refusal.{number, code_of}
use Rattle.replay_machine.specs.Locals.{registers_after, point_after}
use Rattle.replay_machine.specs.Step.{effect_at, last_of}
use Rattle.replay_machine.specs.Start.{start_registers}
use Rattle.replay_machine.specs.declared.effect.Effect.{Effect}
use Rattle.replay_machine.specs.declared.locals.Registers.{Registers}
use Rattle.replay_machine.specs.declared.state.Threads.{Threads}
use Rattle.replay_run.specs.Shared.{fetch_added_by}
use Rattle.replay_run.specs.Course.{Course, start_threads, opened_on, told}
use Rattle.replay_run.specs.NextTurn.{numbered, try_turn, step_turn, next_turn}
use Rattle.replay_run.specs.Turn.{counted, begun_by, stopped, threads_after, change_by, performed_by, code_by, attempted_by, turn_by}
use Rattle.replay_run.specs.declared.course.Course as Code
use Rattle.replay_run.specs.declared.next_turn.StepTurn.{StepTurn}
use Rattle.replay_run.specs.declared.next_turn.NextTurn.{NextTurn}
use Rattle.replay_run.specs.declared.next_turn.NextTurn.TheVariants.{Start, Step, Refused}
use Rattle.replay_machine.proofs.StepBranches.{refused_some}
use Rattle.replay_machine.specs.declared.pick.Refusal.{Refusal}
use Rattle.replay_machine.specs.declared.pick.Refusal.TheVariants.{Room}
use Rattle.std.specs.declared.result.Result.{Result}
use Rattle.std.specs.declared.result.Result.TheVariants.{Ok, Err}

-- every number of a kind is a turn: 0 a start write, 1 the step, each other one a refusal
pub turn_numbered : (c : Course) (x : StepTurn) (w : Write) (k : ℕ)
    → turn_by c (numbered k x) w ≡ cond (eqb k 0) (begun_by c x.effect.value) (cond (eqb k 1) (attempted_by c x w) (stopped c 27))
unfolding numbered turn_by
turn_numbered c x w k = go (eqb k 0) (eqb k 1)
  where
    go : (a b : Bool) → turn_by c (cond a (Start x.effect.value) (cond b (Step x) Refused)) w
        ≡ cond a (begun_by c x.effect.value) (cond b (attempted_by c x w) (stopped c 27))
    go true b = refl
    go false true = refl
    go false false = refl

pub add_made : (g : MemoryShape) (words R t p c : ℕ) (w : Write) (d : Effect) (r : Change) → c ≡ sum_of R w.value d.value
    → r ≡ swapped_by g words w d.word c t p → r ≡ fetch_added_by g words R w d t p
unfolding fetch_added_by
add_made g words R t p c w d r e h = rw (← e) h

-- THE COURSE

pub threads_made : (b : List ℕ) (R : ℕ) (given : List ℕ) (v : View) (h : Registers) → v ≡ start_view → h ≡ start_registers b R given
    → record {
      shape = record { sizes = replicate 8 1; views = replicate 4 v };
      registers = h;
      points = replicate 4 0;
    } ≡ start_threads b R given
unfolding start_threads
threads_made b R given v h e d = rw (e, d)

module _ (s : List ℕ) (z : Sizes) (n : ℕ) (given : List ℕ) (room : ℕ) (b : List ℕ) (h : Threads) (o : Order)
    (eb : b ≡ get_or (bodies s) 0 []) (eh : h ≡ start_threads b z.range given) (eo : o ≡ no_order) where
  pub open_full : room < z.words
      → told (record { sizes = z; room = room; ended = Err Room; steps = 0; left = 0; begun = 0; threads = h; order = o }) ≡ opened_on s z n given room
  unfolding opened_on
  open_full i = rw (lt-ltb _ _ i, eo, eh, eb)

  pub open_there : z.words ≤ room
      → told (record { sizes = z; room = room; ended = Ok tt; steps = 0; left = z.words + n; begun = 0; threads = h; order = o })
      ≡ opened_on s z n given room
  unfolding opened_on
  open_there i = rw (le-ltb _ _ i, eo, eh, eb)

pub ruleset open_on_branches = (open_full, open_there)

-- THE NEXT TURN

pub try_made : (h : Threads) (d : Effect) (t p i : ℕ) → i ≡ index_of h.shape.sizes d.word p
    → record { t = t; position = p; effect = d; entry = i } ≡ try_turn h d t p
unfolding try_turn
try_made h d t p i e = rw e

module _ (s : List ℕ) (z : Sizes) (h : Threads) (t p : ℕ) (x : NextTurn) where
  pub step_none : x ≡ Refused → t ≡ 0 → x ≡ step_turn s z h t p
  unfolding step_turn
  step_none e a = rw (eq-eqb _ _ a) e

  module _ (a : t ≡ 0 → ⊥) where
    pub step_absent : x ≡ Refused → z.threads < t → x ≡ step_turn s z h t p
    unfolding step_turn
    step_absent e i = rw (ne_eqb _ _ a, lt-ltb _ _ i) e

    module _ (c : t ≤ z.threads) (u k last : ℕ) (eu : u ≡ t - 1) (ek : k ≡ get_or h.points (u % 4) 0) (el : last ≡ last_of s z t) where
      pub step_last : x ≡ Refused → last ≤ k → x ≡ step_turn s z h t p
      unfolding step_turn
      step_last e i = rw (ne_eqb _ _ a, le-ltb _ _ c, ← eu, ← ek, ← el, le-ltb _ _ i) e

      pub step_tried : (d : Effect) (y : StepTurn) → k < last → d ≡ effect_at s z h.registers t k → y ≡ try_turn h d u p → x ≡ Step y
          → x ≡ step_turn s z h t p
      unfolding step_turn
      step_tried d y i ed e q = rw (ne_eqb _ _ a, le-ltb _ _ c, ← eu, ← ek, ← el, lt-ltb _ _ i, ← ed) (q ∙ ap Step e)

pub ruleset step_turn_branches = (step_none, step_absent, step_last, step_tried)

module _ (s trace : List ℕ) (c : Course) (x : NextTurn) where
  pub next_start : (b : List ℕ) (v : ℕ) → c.begun < c.sizes.words → b ≡ get_or (bodies s) 0 []
      → v ≡ nth (start_values b) (c.begun + 1) 0 → x ≡ Start v → x ≡ next_turn s trace c
  unfolding next_turn
  next_start b v h eb ev e = rw (lt-ltb _ _ h, ← eb, ← ev) e

  module _ (h : c.sizes.words ≤ c.begun) where
    pub next_half : c.left < 2 → x ≡ Refused → x ≡ next_turn s trace c
    unfolding next_turn
    next_half i e = rw (le-ltb _ _ h, lt-ltb _ _ i) e

    pub next_step : (n m at on t p : ℕ) → 2 ≤ c.left → n ≡ length trace → m ≡ length trace → at ≡ n - c.left → on ≡ m - (c.left - 1)
        → t ≡ get_or trace at 0 → p ≡ get_or trace on 0 → x ≡ step_turn s c.sizes c.threads t p → x ≡ next_turn s trace c
    unfolding next_turn
    next_step n m at on t p i en em ea eo et ep e =
        let f : at ≡ length trace - c.left = ea ∙ ap (λ (j : ℕ). j - c.left) en in
        let g : on ≡ length trace - (c.left - 1) = eo ∙ ap (λ (j : ℕ). j - (c.left - 1)) em in
        rw (le-ltb _ _ h, le-ltb _ _ i, ← f, ← g, ← et, ← ep) e

    pub next_here : (at on t p : ℕ) → 2 ≤ c.left → at ≡ length trace - c.left → on ≡ length trace - (c.left - 1)
        → t ≡ get_or trace at 0 → p ≡ get_or trace on 0 → x ≡ step_turn s c.sizes c.threads t p → x ≡ next_turn s trace c
    unfolding next_turn
    next_here at on t p i f g et ep e = rw (le-ltb _ _ h, le-ltb _ _ i, ← f, ← g, ← et, ← ep) e

pub ruleset next_turn_branches = (next_start, next_half, next_here, next_step)

-- THE TURN

pub begin_made : (c : Code.Course) (v n k : ℕ) (o : Order) → n ≡ c.left - 1 → k ≡ next c.begun → o ≡ start_order c.begun v
    → told (record {
      sizes = c.sizes;
      room = c.room;
      ended = c.ended;
      steps = c.steps;
      left = n;
      begun = k;
      threads = c.threads;
      order = o;
    }) ≡ begun_by (told c) v
unfolding begun_by
begin_made c v n k o en ek eo = rw (en, ek, eo)

pub stop_made : (c : Code.Course) (e : Refusal) (o : Order) → o ≡ no_order
    → told (record {
      sizes = c.sizes;
      room = c.room;
      ended = Err e;
      steps = c.steps;
      left = 0;
      begun = c.begun;
      threads = c.threads;
      order = o;
    }) ≡ stopped (told c) (number e)
unfolding stopped
stop_made c e o q = rw q

pub after_made : (h : Threads) (x : StepTurn) (w : Write) (a : Change) (k : ℕ) (r : Registers)
    → k ≡ point_after (get_or h.points (x.t % 4) 0) x.effect → r ≡ registers_after h.registers w.value x.effect
    → record { shape = a.shape; registers = r; points = set h.points (x.t % 4) k } ≡ threads_after h x w a
unfolding threads_after
after_made h x w a k r ek er = rw (ek, er)

pub perform_made : (c : Code.Course) (x : StepTurn) (w : Write) (a : Change) (m n : ℕ) (h : Threads) → a ≡ change_by (told c) x w
    → m ≡ counted c.steps → n ≡ c.left - 2 → h ≡ threads_after c.threads x w a
    → told (record {
      sizes = c.sizes;
      room = c.room;
      ended = c.ended;
      steps = m;
      left = n;
      begun = c.begun;
      threads = h;
      order = a.order;
    }) ≡ performed_by (told c) x w
unfolding performed_by
perform_made c x w a m n h ea em en eh = rw (em, en, eh, ea)

module _ (c r : Course) (x : StepTurn) (w : Write) (q : Result (Unit {0}) Refusal) (e : code_of q ≡ code_by c x w) where
  pub attempt_taken : q ≡ Ok tt → r ≡ performed_by c x w → r ≡ attempted_by c x w
  unfolding attempted_by
  attempt_taken h k = rw (← e, h) k

  pub attempt_refused : (y : Refusal) → q ≡ Err y → r ≡ stopped c (number y) → r ≡ attempted_by c x w
  unfolding attempted_by
  attempt_refused y h k = rw (← e, h, refused_some y) k

pub ruleset attempt_branches = (attempt_taken, attempt_refused)
