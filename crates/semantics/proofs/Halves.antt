-- A step in two halves, as the proofs use it: first the thread's view moves to the write that it picks, then shared words and registers
-- change.
-- What is done to shared words is a touch; what the registers are given, the result register among them, is notes, all at a time,
-- worked out where the thread has arrived: a load into r of x gives r the value of the word x.
use mathlib.Core.Bool.{Bool, true, cond, not, ◌&&◌}
use mathlib.Core.List.{List, ◌∷◌}
use Prim.Native.Nat.{ℕ, suc}
use lib.Dec.{T, eqb}
use Rattle.semantics.specs.Base.{upd, all, Within}
use Rattle.semantics.specs.Formula.{Value, Formula.word, Formula.sum}
use Rattle.semantics.specs.Names.{Name, regs_in, not_word}
use Rattle.semantics.specs.Replace.{Note, noted}
use Rattle.semantics.specs.Eval.{value, bounded}
use Rattle.semantics.specs.Machine
use Rattle.semantics.specs.Machine.{View, State, Program, Mode, Mode.store, Mode.swap, Mode.exchange, Mode.fetch_add, covers, at, down, insert, cover, with_view, with_regs, read_view, reachable}

-- nothing; load acquires x; write releasing swaps x f
pub data Touch : Type 0 where
  none : Touch
  load : Bool → ℕ → Touch
  write : Bool → Bool → ℕ → Value → Touch

abbrev pub releases : Mode → Bool
releases (store releasing) = releasing
releases swap = true
releases (exchange r) = true
releases (fetch_add r) = true

-- the value of the new write, where the thread has arrived: fetch-add adds to the value that the word has there
abbrev pub new_value : Mode → ℕ → Value → Value
new_value (store releasing) x f = f
new_value swap x f = f
new_value (exchange r) x f = f
new_value (fetch_add r) x f = sum (word x) f

abbrev pub touch : Machine.Access → Touch
touch Machine.none = none
touch (Machine.load acquires r x) = load acquires x
touch (Machine.write m x f) = write (releases m) (covers m) x (new_value m x f)

-- the register r is given what the word x has
abbrev pub into : ℕ → ℕ → List Note → List Note
into r x ns = record { to = r; by = word x } ∷ ns

-- the result register first, then the notes
abbrev pub all_notes : Machine.Access → List Note → List Note
all_notes Machine.none ns = ns
all_notes (Machine.load acquires r x) ns = into r x ns
all_notes (Machine.write (store releasing) x f) ns = ns
all_notes (Machine.write swap x f) ns = ns
all_notes (Machine.write (exchange r) x f) ns = into r x ns
all_notes (Machine.write (fetch_add r) x f) ns = into r x ns

-- the position that a new position stands for, in a view
abbrev pub down_view : ℕ → ℕ → View → View
down_view x p v = upd v x (down p (v x))

abbrev pub with_points : State → (ℕ → ℕ) → State
with_points s point = record { size = s.size; row = s.row; view = s.view; reg = s.reg; point = point }

-- a formula worked out where t is
abbrev pub worked_at : Program → State → ℕ → Value → ℕ
worked_at P s t f = value P.range (at P s (s.view t)) f

-- the first half
abbrev pub pick : Touch → ℕ → ℕ → State → State
pick none t p s = s
pick (load acquires x) t p s = with_view s t (read_view s acquires t x p)
pick (write rel swaps x f) t p s = with_view s t (read_view s swaps t x p)

abbrev pub may_pick : Touch → ℕ → ℕ → State → Bool
may_pick none t p s = eqb p 0
may_pick (load acquires x) t p s = reachable s t x p
may_pick (write rel swaps x f) t p s = reachable s t x p && not (s.row x p).covered

-- a write inserted from the thread's own view
abbrev pub put : Bool → ℕ → ℕ → ℕ → ℕ → State → State
put releasing x n t p s = insert releasing x n t p (s.view t) s

-- the write at p of x, covered if b says so
abbrev pub cover_if : Bool → ℕ → ℕ → State → State
cover_if b x p s = record { size = s.size; row = cond b (cover x p s).row s.row; view = s.view; reg = s.reg; point = s.point }

-- the second half: shared words, registers, point
abbrev pub memory : Program → Touch → ℕ → ℕ → State → State
memory P none t p s = s
memory P (load acquires x) t p s = s
memory P (write rel swaps x f) t p s = put rel x (worked_at P s t f) t p (cover_if swaps x p s)

abbrev pub finish : Program → Touch → List Note → ℕ → ℕ → State → State
finish P A ns t p s = with_points (with_regs (memory P A t p s) (λ r. worked_at P s t (noted ns r))) (upd s.point t (suc (s.point t)))

-- a register that is given no value; a name that the action leaves alone
abbrev pub kept : List Note → ℕ → Bool
kept ns r = all (λ (n : Note). not (eqb r n.to)) ns

abbrev pub untouched : Touch → List Note → Name → Bool
untouched none ns n = regs_in (kept ns) n
untouched (load a x) ns n = regs_in (kept ns) n
untouched (write rel swaps x f) ns n = regs_in (kept ns) n && not_word x n

-- constants in it are values, and the word that it writes is there
abbrev pub Good : Program → Touch → List Note → Type 0
Good P none ns = T (all (λ (n : Note). bounded P.range n.by) ns)
Good P (load a x) ns = T (all (λ (n : Note). bounded P.range n.by) ns)
Good P (write rel swaps x f) ns = Within P.words x × T (bounded P.range f) × T (all (λ (n : Note). bounded P.range n.by) ns)
