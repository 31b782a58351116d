-- Computed runs, worked out by hand from the scope page: message passing; a swap, a write in the middle of a row, a covered write that is
-- read; exchange and fetch-add;
-- marks and views handed on; a register that starts anywhere.
use mathlib.Core.Path.{◌≡◌, refl}
use mathlib.Core.Bool.{Bool, true, false, not, cond}
use mathlib.Core.List.{List, [], ◌∷◌, map}
use Prim.Native.Nat.{ℕ, zero, suc}
use lib.Dec.{eqb}
use Rattle.semantics.specs.Base.{upd, below, up_to}
use Rattle.semantics.specs.Formula.{Formula.const, Formula.reg, Formula.sum, Formula.equal}
use Rattle.semantics.specs.Machine.{Write, State, Program, Mode.store, Mode.swap, Mode.exchange, Mode.fetch_add, Access.none, Access.load, Access.write, Instr, Instr.act, Instr.branch, Step, begin, run, up, down}

-- the start with 0 in every register
abbrev pub begun : Program → State
begun P = begin P (λ r. 0)

-- a write as it is drawn: value, releasing, covered (1 for yes), the positions that its stored view names of words 1 and 2
pub record Drawn : Type 0 where
  pub value : ℕ
  pub releasing : ℕ
  pub covered : ℕ
  pub stored : List ℕ

unfoldable pub yes_no : Bool → ℕ
yes_no b = cond b 1 0

unfoldable pub draw : Write → Drawn
draw w = record { value = w.value; releasing = yes_no w.releasing; covered = yes_no w.covered; stored = map w.stored (up_to 2) }

-- a state as it is drawn, of a program with three threads, two words and three registers
pub record Picture : Type 0 where
  pub rows : List (List Drawn)
  pub views : List (List ℕ)
  pub registers : List ℕ
  pub points : List ℕ

unfoldable pub picture : State → Picture
picture s = record {
  rows = map (λ x. map (λ i. draw (s.row x i)) (below (s.size x))) (up_to 2);
  views = map (λ t. map (s.view t) (up_to 2)) (up_to 3);
  registers = map s.reg (up_to 3);
  points = map s.point (up_to 3);
}

unfoldable pub write_of : ℕ → ℕ → ℕ → List ℕ → Drawn
write_of v r c l = record { value = v; releasing = r; covered = c; stored = l }

-- the thread, and the position that it picks
unfoldable pub by : ℕ → ℕ → Step
by t p = record { thread = t; position = p }

-- what stands where a thread has no instruction
unfoldable pub nothing : Instr
nothing = act none (record { to = 1; by = const 0 } ∷ [])

-- the instructions of a thread, from point 0
unfoldable pub at_points : List Instr → ℕ → Instr
at_points [] k = nothing
at_points (c ∷ l) zero = c
at_points (c ∷ l) (suc k) = at_points l k

-- MESSAGE PASSING. Word 1 is the message, word 2 the flag. Thread 1 stores 1 to the message and, releasing, 1 to the flag;
-- thread 2 polls the flag by acquiring loads into register 1 until it is not 0, then loads the message into register 2
unfoldable pub sender : List Instr
sender = act (write (store false) 1 (const 1)) [] ∷ act (write (store true) 2 (const 1)) [] ∷ []

unfoldable pub receiver : List Instr
receiver = act (load true 1 2) [] ∷ branch (equal (reg 1) (const 0)) 0 ∷ act (load false 2 1) [] ∷ []

unfoldable pub message_passing : Program
message_passing = record {
  threads = 2;
  words = 2;
  range = 8;
  init = λ x. 0;
  cleared = λ r. true;
  points = upd (upd (λ t. 1) 1 3) 2 4;
  code = upd (upd (λ t k. nothing) 1 (at_points sender)) 2 (at_points receiver);
}

polled : List Step
polled =
    by 2 0  -- reads the flag's first write: 0
    ∷ by 2 1  -- refused: a branch picks 0
    ∷ by 2 0  -- the branch goes back
    ∷ by 3 0  -- refused: no thread 3
    ∷ by 1 1  -- refused: the message has no write at 1 yet
    ∷ by 1 0  -- stores the message behind its first write
    ∷ by 1 0  -- stores the flag behind its first write, with the view that names both new writes
    ∷ by 1 0  -- refused: thread 1 is at its last point
    ∷ by 2 0  -- the old flag may still be read
    ∷ by 2 0  -- the branch goes back
    ∷ []

-- the flag is there, and thread 2 has not seen it
before : picture (run message_passing (begun message_passing) polled) ≡ record {
  rows =
      (write_of 0 0 0 (0 ∷ 0 ∷ []) ∷ write_of 1 0 0 (1 ∷ 0 ∷ []) ∷ [])
      ∷ (write_of 0 0 0 (0 ∷ 0 ∷ []) ∷ write_of 1 1 0 (1 ∷ 1 ∷ []) ∷ [])
      ∷ [];
  views = (1 ∷ 1 ∷ []) ∷ (0 ∷ 0 ∷ []) ∷ (0 ∷ 0 ∷ []) ∷ [];
  registers = 0 ∷ 0 ∷ 0 ∷ [];
  points = 2 ∷ 0 ∷ 0 ∷ [];
}
unfolding draw yes_no picture write_of by nothing at_points sender receiver message_passing polled upd up down
before = refl

received : List Step
received =
    by 2 1  -- acquires the flag: its stored view is joined in
    ∷ by 2 0  -- the branch goes on
    ∷ by 2 0  -- refused: the message's first write is before the view now
    ∷ by 2 1  -- reads the message
    ∷ []

after : picture (run message_passing (run message_passing (begun message_passing) polled) received) ≡ record {
  rows =
      (write_of 0 0 0 (0 ∷ 0 ∷ []) ∷ write_of 1 0 0 (1 ∷ 0 ∷ []) ∷ [])
      ∷ (write_of 0 0 0 (0 ∷ 0 ∷ []) ∷ write_of 1 1 0 (1 ∷ 1 ∷ []) ∷ [])
      ∷ [];
  views = (1 ∷ 1 ∷ []) ∷ (1 ∷ 1 ∷ []) ∷ (0 ∷ 0 ∷ []) ∷ [];
  registers = 1 ∷ 1 ∷ 0 ∷ [];
  points = 2 ∷ 3 ∷ 0 ∷ [];
}
unfolding draw yes_no picture write_of by nothing at_points sender receiver message_passing polled received upd up down
after = refl

-- ONE WORD, three threads: 1 stores 1; 2 swaps 2 in; 3 loads into register 3 and stores 3
unfoldable pub mixed : Program
mixed = record {
  threads = 3;
  words = 1;
  range = 8;
  init = λ x. 0;
  cleared = λ r. true;
  points = upd (λ t. 2) 3 3;
  code = upd (upd (upd (λ t k. nothing) 1 (at_points (act (write (store false) 1 (const 1)) [] ∷ []))) 2
      (at_points (act (write swap 1 (const 2)) [] ∷ [])))
      3 (at_points (act (load false 3 1) [] ∷ act (write (store false) 1 (const 3)) [] ∷ []));
}

middle : List Step
middle =
    by 1 0  -- 0, 1
    ∷ by 2 0  -- 0 covered, 2, 1: in the middle of the row, and the view of thread 1 keeps its write
    ∷ by 3 0  -- the covered write may be read
    ∷ by 3 0  -- refused: no store behind a covered write
    ∷ by 3 1  -- 0 covered, 2, 3, 1: in the middle again
    ∷ []

covered_read : picture (run mixed (begun mixed) middle) ≡ record {
  rows =
      (write_of 0 0 1 (0 ∷ 0 ∷ []) ∷ write_of 2 1 0 (1 ∷ 0 ∷ []) ∷ write_of 3 0 0 (2 ∷ 0 ∷ []) ∷ write_of 1 0 0 (3 ∷ 0 ∷ []) ∷ [])
      ∷ (write_of 0 0 0 (0 ∷ 0 ∷ []) ∷ [])
      ∷ [];
  views = (3 ∷ 0 ∷ []) ∷ (1 ∷ 0 ∷ []) ∷ (2 ∷ 0 ∷ []) ∷ [];
  registers = 0 ∷ 0 ∷ 0 ∷ [];
  points = 1 ∷ 1 ∷ 2 ∷ [];
}
unfolding draw yes_no picture write_of by nothing at_points mixed middle upd up down
covered_read = refl

-- MARKS AND MIDDLES, two words. Thread 1 stores 1 to word 1, releasing 1 to word 2, then releasing 5 to word 2; thread 2 swaps 2 into
-- word 2;
-- thread 3 loads word 2, relaxed and then acquiring, assigns, and stores 3 to word 2, releasing
unfoldable pub handed : Program
handed = record {
  threads = 3;
  words = 2;
  range = 8;
  init = λ x. 0;
  cleared = λ r. true;
  points = upd (upd (λ t. 2) 1 4) 3 5;
  code =
      upd
      (upd
      (upd (λ t k. nothing) 1
      (at_points (act (write (store false) 1 (const 1)) [] ∷ act (write (store true) 2 (const 1)) []
      ∷ act (write (store true) 2 (const 5)) [] ∷ [])))
      2 (at_points (act (write swap 2 (const 2)) [] ∷ [])))
      3
      (at_points (act (load false 1 2) [] ∷ act (load true 2 2) []
      ∷ act none (record { to = 3; by = sum (reg 2) (sum (reg 2) (const 7)) } ∷ []) ∷ act (write (store true) 2 (const 3)) [] ∷ []));
}

hand_over : List Step
hand_over =
    by 1 0
    ∷ by 1 0
    ∷ by 2 1  -- swaps behind the releasing write: its stored view is joined in, and it keeps its mark
    ∷ by 3 1  -- a relaxed load of a covered, releasing write in the middle of its row: only that word moves
    ∷ by 3 1  -- an acquiring load of it: its stored view is joined in
    ∷ by 3 2  -- refused: an assignment picks 0
    ∷ by 3 2  -- refused again
    ∷ by 1 2  -- a releasing store behind a releasing write
    ∷ by 3 0
    ∷ by 3 2  -- a releasing store in the middle of a row
    ∷ by 4 0  -- refused: no thread 4, though it has an instruction, which would set register 1
    ∷ []

handed-over : picture (run handed (begun handed) hand_over) ≡ record {
  rows =
      (write_of 0 0 0 (0 ∷ 0 ∷ []) ∷ write_of 1 0 0 (1 ∷ 0 ∷ []) ∷ [])
      ∷ (write_of 0 0 0 (0 ∷ 0 ∷ []) ∷ write_of 1 1 1 (1 ∷ 1 ∷ []) ∷ write_of 2 1 0 (1 ∷ 2 ∷ []) ∷ write_of 3 1 0 (1 ∷ 3 ∷ [])
      ∷ write_of 5 1 0 (1 ∷ 4 ∷ []) ∷ [])
      ∷ [];
  views = (1 ∷ 4 ∷ []) ∷ (1 ∷ 2 ∷ []) ∷ (1 ∷ 3 ∷ []) ∷ [];
  registers = 1 ∷ 1 ∷ 1 ∷ [];
  points = 3 ∷ 1 ∷ 4 ∷ [];
}
unfolding draw yes_no picture write_of by nothing at_points handed hand_over upd up down
handed-over = refl

-- after the relaxed load alone
seen_relaxed : map ((run handed (begun handed) (by 1 0 ∷ by 1 0 ∷ by 2 1 ∷ by 3 1 ∷ [])).view 3) (up_to 2) ≡ 0 ∷ 1 ∷ []
unfolding by nothing at_points handed upd up down
seen_relaxed = refl

-- a swap behind a write that is not releasing joins no view
unfoldable pub dropped : Program
dropped = record {
  threads = 2;
  words = 2;
  range = 8;
  init = λ x. 0;
  cleared = λ r. true;
  points = upd (λ t. 2) 1 3;
  code =
      upd (upd (λ t k. nothing) 1 (at_points (act (write (store false) 2 (const 1)) [] ∷ act (write (store false) 1 (const 1)) [] ∷ [])))
      2 (at_points (act (write swap 1 (const 4)) [] ∷ []));
}

not_joined : map ((run dropped (begun dropped) (by 1 0 ∷ by 1 0 ∷ by 2 1 ∷ [])).view 2) (up_to 2) ≡ 2 ∷ 0 ∷ []
unfolding by nothing at_points dropped upd up down
not_joined = refl

-- TICKETS. Word 1 counts, word 2 is a desk. Thread 1 takes 3 by fetch-add into register 1 and stores 4 to the desk, releasing.
-- Thread 2 exchanges the count for 7, the desk for 1, and adds 6 to the count, each time into register 3.
-- R: how many values there are
unfoldable pub tickets : ℕ → Program
tickets R = record {
  threads = 2;
  words = 2;
  range = R;
  init = λ x. 0;
  cleared = λ r. true;
  points = upd (λ t. 4) 1 3;
  code = upd (upd (λ t k. nothing) 1 (at_points (act (write (fetch_add 1) 1 (const 3)) [] ∷ act (write (store true) 2 (const 4)) [] ∷ [])))
      2
      (at_points (act (write (exchange 3) 1 (const 7)) [] ∷ act (write (exchange 3) 2 (const 1)) []
      ∷ act (write (fetch_add 3) 1 (const 6)) [] ∷ []));
}

ticket_steps : List Step
ticket_steps =
    by 2 0  -- exchanges 0 for 7, and covers it
    ∷ by 1 0  -- refused: the first write is covered
    ∷ by 1 1  -- takes 7, stores 7 + 3: of 8 values that is 2
    ∷ by 1 1  -- refused: the desk has no write at 1 yet
    ∷ by 1 0  -- stores 4
    ∷ by 2 1  -- exchanges 4 for 1: its stored view is joined in, the one of the count too
    ∷ by 2 1  -- refused: the write at 1 of the count is before the view now
    ∷ by 2 2  -- takes that, stores it plus 6: of 8 values that is 0
    ∷ []

tickets_taken : picture (run (tickets 8) (begun (tickets 8)) ticket_steps) ≡ record {
  rows =
      (write_of 0 0 1 (0 ∷ 0 ∷ []) ∷ write_of 7 1 1 (1 ∷ 0 ∷ []) ∷ write_of 2 1 1 (2 ∷ 0 ∷ []) ∷ write_of 0 1 0 (3 ∷ 2 ∷ []) ∷ [])
      ∷ (write_of 0 0 0 (0 ∷ 0 ∷ []) ∷ write_of 4 1 1 (2 ∷ 1 ∷ []) ∷ write_of 1 1 0 (2 ∷ 2 ∷ []) ∷ [])
      ∷ [];
  views = (2 ∷ 1 ∷ []) ∷ (3 ∷ 2 ∷ []) ∷ (0 ∷ 0 ∷ []) ∷ [];
  registers = 7 ∷ 0 ∷ 2 ∷ [];
  points = 2 ∷ 3 ∷ 0 ∷ [];
}
unfolding draw yes_no picture write_of by nothing at_points tickets ticket_steps upd up down
tickets_taken = refl

-- before the last step: the exchange of the desk has put the old value, 4, into register 3
exchanged : (run (tickets 8) (begun (tickets 8)) (by 2 0 ∷ by 1 1 ∷ by 1 0 ∷ by 2 1 ∷ [])).reg 3 ≡ 4
unfolding by nothing at_points tickets upd up down
exchanged = refl

-- the count's values after the same steps, of 16 values and of 11
counted_to : ℕ → List ℕ
counted_to R = map (λ i. ((run (tickets R) (begun (tickets R)) ticket_steps).row 1 i).value) (below 4)

of_16 : counted_to 16 ≡ 0 ∷ 7 ∷ 10 ∷ 0 ∷ []
unfolding by nothing at_points tickets ticket_steps counted_to upd up down
of_16 = refl

of_11 : counted_to 11 ≡ 0 ∷ 7 ∷ 10 ∷ 5 ∷ []
unfolding by nothing at_points tickets ticket_steps counted_to upd up down
of_11 = refl

-- A REGISTER THAT STARTS ANYWHERE: register 1 does, registers 2 and 3 start at 0. Thread 1 stores the sum of registers 1 and 2
unfoldable pub uncleared : Program
uncleared = record {
  threads = 1;
  words = 1;
  range = 8;
  init = λ x. 0;
  cleared = λ r. not (eqb r 1);
  points = λ t. 2;
  code = λ t. at_points (act (write (store false) 1 (sum (reg 1) (reg 2))) [] ∷ []);
}

-- 5 or 13 in register 1, modulo 8; what is given for the others does not count
stored_from : ℕ → List ℕ
stored_from v = map (λ i. ((run uncleared (begin uncleared (λ r. v)) (by 1 0 ∷ [])).row 1 i).value) (below 2)

from_5 : stored_from 5 ≡ 0 ∷ 5 ∷ []
unfolding by nothing at_points uncleared stored_from upd up down
from_5 = refl

from_13 : stored_from 13 ≡ 0 ∷ 5 ∷ []
unfolding by nothing at_points uncleared stored_from upd up down
from_13 = refl
