-- The machine: a modification order for each word (the page's row of writes), views, threads with registers and points; what each
-- instruction does; steps, refused ones among them; runs.
use Rattle.std.specs.Prelude.{◌≡◌, Bool, true, false, cond, not, ◌&&◌, List, [], ◌∷◌, ℕ, suc, ◌+◌, ◌-◌, ◌%◌, ◌<◌, max, T, eqb, ltb, leb}
use Rattle.semantics.specs.Base.{upd, some, within}
use Rattle.semantics.specs.Formula.{Value, Test}
use Rattle.semantics.specs.Replace.{Note}
use Rattle.semantics.specs.Eval.{Env, on_regs, value, test}

-- STATES

-- "A view names one write of each word": by its position, from 0, in the word's modification order
abbrev pub View : Type 0
View = ℕ → ℕ

-- "A write has a value, a releasing mark, a covered mark and a stored view". A covered write is one that a swap (read-modify-write) has
-- picked: no other write may come directly behind it. The stored view is what an acquiring load joins in
pub record Write : Type 0 where
  pub value : ℕ
  pub releasing : Bool
  pub covered : Bool
  pub stored : View

-- a configuration: shared memory, each thread's view, the registers, each thread's point
pub record State : Type 0 where
  -- a word's row is its modification order: how many writes it has, and the write at a position, which has no meaning from `size` on
  pub size : ℕ → ℕ
  pub row : ℕ → ℕ → Write
  -- each thread's view; each register's value; each thread's point
  pub view : ℕ → View
  pub reg : ℕ → ℕ
  pub point : ℕ → ℕ

-- INSTRUCTIONS

-- how a word is written: by a store, with true the releasing one, or by a swap; exchange r and fetch_add r are swaps that put the old value
-- into the register r, and fetch_add stores old value plus formula
pub data Mode : Type 0 where
  store : Bool → Mode
  swap : Mode
  exchange fetch_add : ℕ → Mode

-- the mode covers the write that it picks: it is a read-modify-write
abbrev pub covers : Mode → Bool
covers (store releasing) = false
covers swap = true
covers (exchange r) = true
covers (fetch_add r) = true

-- the mode puts the old value into a register
abbrev pub returns : Mode → Bool
returns (store releasing) = false
returns swap = false
returns (exchange r) = true
returns (fetch_add r) = true

-- the register that the old value is put into; 0 for a mode that returns none
abbrev pub result_of : Mode → ℕ
result_of (store releasing) = 0
result_of swap = 0
result_of (exchange r) = r
result_of (fetch_add r) = r

-- what an instruction does with a shared word: nothing; load acquires r x: a load of x into r; write mode x f: a write of f to x
pub data Access : Type 0 where
  none : Access
  load : Bool → ℕ → ℕ → Access
  write : Mode → ℕ → Value → Access

-- an access with notes (auxiliary assignments) in one step, or a branch on a test to a point; an assignment is a note without an access
pub data Instr : Type 0 where
  act : Access → List Note → Instr
  branch : Test → ℕ → Instr

-- a program; its threads, words and registers count from 1, the points of a thread from 0
pub record Program : Type 0 where
  pub threads : ℕ
  pub words : ℕ
  -- how many values there are
  pub range : ℕ
  -- a word's start value; whether a register starts at 0, or anywhere; how many points a thread has; the instruction at a point of a thread
  pub init : ℕ → ℕ
  pub cleared : ℕ → Bool
  pub points : ℕ → ℕ
  pub code : ℕ → ℕ → Instr

-- VIEWS

-- the join of two views: "word by word, the later"
abbrev pub join : View → View → View
join v w y = max (v y) (w y)

-- v is later than w in some word of the program
abbrev pub later : ℕ → View → View → Bool
later words v w = some words (λ y. ltb (w y) (v y))

-- the environment of a state at a view. unsync(x): "the view's write of x is releasing and its stored view is later than this
-- view in some word"; cov(x): "that write is covered"
abbrev pub at : Program → State → View → Env
at P s v = record {
  reg = s.reg;
  word = λ x. (s.row x (v x)).value;
  unsync = λ x. (s.row x (v x)).releasing && later P.words (s.row x (v x)).stored v;
  cov = λ x. (s.row x (v x)).covered;
}

-- INSERTION: "inserts the new write directly behind" the picked one: behind position p of a row, at position p + 1

-- where the write at position i stands after the insertion: one further if it is after p
unfoldable pub up : ℕ → ℕ → ℕ
up p i = cond (leb i p) i (suc i)

-- where the write at position i after the insertion was before: one back if it is after p. (The new one, p + 1, is taken for p)
unfoldable pub down : ℕ → ℕ → ℕ
down p i = cond (leb i p) i (i - 1)

-- the view v after an insertion behind position p of x: "a view keeps its write when others are inserted"
abbrev pub up_view : ℕ → ℕ → View → View
up_view x p v = upd v x (up p (v x))

-- the write w after an insertion behind position p of x: its stored view keeps its writes
abbrev pub up_write : ℕ → ℕ → Write → Write
up_write x p w = record { value = w.value; releasing = w.releasing; covered = w.covered; stored = up_view x p w.stored }

-- the rows after the write w is inserted behind position p of x
abbrev pub inserted : (ℕ → ℕ → Write) → ℕ → ℕ → Write → ℕ → ℕ → Write
inserted row x p w = upd (λ y i. up_write x p (row y i)) x (upd (λ i. up_write x p (row x (down p i))) (suc p) w)

-- the view v, moved to the new write behind position p of x
abbrev pub move_to : ℕ → ℕ → View → View
move_to x p v = upd (up_view x p v) x (suc p)

-- the thread t writes the value n behind position p of x, from the view v: "The thread's view moves to it; that view is stored with it"
abbrev pub insert : Bool → ℕ → ℕ → ℕ → ℕ → View → State → State
insert releasing x n t p v s = record {
  size = upd s.size x (suc (s.size x));
  row = inserted s.row x p (record { value = n; releasing = releasing; covered = false; stored = move_to x p v });
  view = upd (λ u. up_view x p (s.view u)) t (move_to x p v);
  reg = s.reg;
  point = s.point;
}

-- the state with the write at position p of x covered
abbrev pub cover : ℕ → ℕ → State → State
cover x p s = record {
  size = s.size;
  row =
      upd s.row x
      (upd (s.row x) p
      (record { value = (s.row x p).value; releasing = (s.row x p).releasing; covered = true; stored = (s.row x p).stored }));
  view = s.view;
  reg = s.reg;
  point = s.point;
}

-- A STEP of the thread t that picks position p

-- the state with the view v for thread t
abbrev pub with_view : State → ℕ → View → State
with_view s t v = record { size = s.size; row = s.row; view = upd s.view t v; reg = s.reg; point = s.point }

-- the state with the registers g
abbrev pub with_regs : State → (ℕ → ℕ) → State
with_regs s g = record { size = s.size; row = s.row; view = s.view; reg = g; point = s.point }

-- the state with thread t at point k
abbrev pub with_point : State → ℕ → ℕ → State
with_point s t k = record { size = s.size; row = s.row; view = s.view; reg = s.reg; point = upd s.point t k }

-- the view after a load: "If the load acquires and the write is releasing, the thread's view becomes, word by word, the later of it
-- and the stored view. Otherwise only that word moves"
abbrev pub read_view : State → Bool → ℕ → ℕ → ℕ → View
read_view s acquires t x p = cond (acquires && (s.row x p).releasing) (join (s.view t) (s.row x p).stored) (upd (s.view t) x p)

-- the view from which a swap writes: "If the picked write is releasing, its stored view is joined in before the view is stored"
abbrev pub swap_view : State → ℕ → ℕ → ℕ → View
swap_view s t x p = cond (s.row x p).releasing (join (s.view t) (s.row x p).stored) (s.view t)

-- the value of an instruction's formula, which "is worked out before the step", over the registers
abbrev pub worked : Program → State → Value → ℕ
worked P s f = value P.range (on_regs s.reg) f

-- the thread t swaps n into x: "a releasing store that also covers the picked write"
abbrev pub swapped : ℕ → ℕ → ℕ → ℕ → State → State
swapped x n t p s = insert true x n t p (swap_view s t x p) (cover x p s)

-- the state after an access, the registers and the points left as they were
abbrev pub shared : Program → Access → ℕ → ℕ → State → State
shared P none t p s = s
shared P (load acquires r x) t p s = with_view s t (read_view s acquires t x p)
shared P (write (store releasing) x f) t p s = insert releasing x (worked P s f) t p (s.view t) s
shared P (write swap x f) t p s = swapped x (worked P s f) t p s
shared P (write (exchange r) x f) t p s = swapped x (worked P s f) t p s
shared P (write (fetch_add r) x f) t p s = swapped x (((s.row x p).value + worked P s f) % P.range) t p s

-- the registers g after the notes (auxiliary assignments), each worked out in the state s, before the step
abbrev pub given : Program → State → List Note → (ℕ → ℕ) → ℕ → ℕ
given P s [] g = g
given P s (n ∷ l) g = upd (given P s l g) n.to (worked P s n.by)

-- the registers g after what an access puts into its register: the value read, or the old value
abbrev pub returned : Access → ℕ → State → (ℕ → ℕ) → ℕ → ℕ
returned none p s g = g
returned (load acquires r x) p s g = upd g r (s.row x p).value
returned (write (store releasing) x f) p s g = g
returned (write swap x f) p s g = g
returned (write (exchange r) x f) p s g = upd g r (s.row x p).value
returned (write (fetch_add r) x f) p s g = upd g r (s.row x p).value

-- the state after an access and its notes, in one step; the point is left as it was
abbrev pub done : Program → Access → List Note → ℕ → ℕ → State → State
done P A ns t p s = with_regs (shared P A t p s) (returned A p s (given P s ns s.reg))

-- "Every step but a branch leads to the next point"; "A branch goes to its target if its test is true, else to the next point"
abbrev pub exec : Program → Instr → ℕ → ℕ → State → State
exec P (act A ns) t p s = with_point (done P A ns t p s) t (suc (s.point t))
exec P (branch e a) t p s = with_point s t (cond (test P.range (on_regs s.reg) e) a (suc (s.point t)))

-- the position p is in the row of x, "at or after" the write that the thread's view names
abbrev pub reachable : State → ℕ → ℕ → ℕ → Bool
reachable s t x p = ltb p (s.size x) && leb (s.view t x) p

-- a load "reads any write at or after the thread's own in that row, covered or not"; a store or swap "picks an uncovered
-- write"; the position is "0 for assignment and branch"
abbrev pub allowed : Instr → ℕ → ℕ → State → Bool
allowed (act none ns) t p s = eqb p 0
allowed (act (load acquires r x) ns) t p s = reachable s t x p
allowed (act (write m x f) ns) t p s = reachable s t x p && not (s.row x p).covered
allowed (branch e a) t p s = eqb p 0

-- RUNS

-- "At start each row has one write with the given value, neither releasing nor covered; all views name these"; a register that starts at 0
-- holds 0, any other any value below the range (Change 4); "every thread is at point 0"
pub record Start (P : Program) (s : State) : Type 0 where
  pub one_write : (x : ℕ) → s.size x ≡ 1
  pub given_value : (x : ℕ) → (s.row x 0).value ≡ P.init x
  pub not_releasing : (x : ℕ) → (s.row x 0).releasing ≡ false
  pub not_covered : (x : ℕ) → (s.row x 0).covered ≡ false
  pub stored_views : (x y : ℕ) → (s.row x 0).stored y ≡ 0
  pub views : (t x : ℕ) → s.view t x ≡ 0
  pub registers : (r : ℕ) → T (P.cleared r) → s.reg r ≡ 0
  pub values : (r : ℕ) → s.reg r < P.range
  pub points : (t : ℕ) → s.point t ≡ 0

-- the start state in which the registers that start anywhere hold the values given, modulo the range
abbrev pub begin : Program → (ℕ → ℕ) → State
begin P given = record {
  size = λ x. 1;
  row = λ x i. record { value = P.init x; releasing = false; covered = false; stored = λ y. 0 };
  view = λ t x. 0;
  reg = λ r. cond (P.cleared r) 0 (given r % P.range);
  point = λ t. 0;
}

-- "A step is a thread number and a position, from 0, in the row of the instruction's word: the write it picks"
pub record Step : Type 0 where
  pub thread : ℕ
  pub position : ℕ

-- the instruction at the thread's point
abbrev pub instr_at : Program → State → ℕ → Instr
instr_at P s t = P.code t (s.point t)

-- "Refused are a thread that is absent or at its last point and a position that is absent or not allowed above"
abbrev pub permitted : Program → Step → State → Bool
permitted P m s =
    (within P.threads m.thread && ltb (suc (s.point m.thread)) (P.points m.thread))
    && allowed (instr_at P s m.thread) m.thread m.position s

-- the state after a step; after a refused one "the state stays as it was"
abbrev pub step : Program → State → Step → State
step P s m = cond (permitted P m s) (exec P (instr_at P s m.thread) m.thread m.position s) s

-- the state after a list of steps, "each on the state that the last one left"
abbrev pub run : Program → State → List Step → State
run P s [] = s
run P s (m ∷ l) = run P (step P s m) l
