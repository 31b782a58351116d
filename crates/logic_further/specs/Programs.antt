-- The programs of the gallery that are true in every state and beyond the published rules (examples/README.md), with their outlines.
-- Threads, words and registers have their numbers in the order in which the example declares them.
use Rattle.std.specs.Prelude.{true, false, List, [], ◌∷◌, ℕ, suc}
use Rattle.semantics.specs.Formula.{Formula, Test, Interval, Assertion, Formula.const, Formula.reg, Formula.word, Formula.sum, Formula.equal, Formula.less, Formula.and, Formula.or, Formula.unsync, Formula.cov, Formula.box, Formula.one, Formula.chop, Formula.both, Formula.sees, Formula.both_a, Formula.either_a, Formula.holds}
use Rattle.semantics.specs.Machine.{Mode.store, Mode.swap, Mode.fetch_add, Access.load, Access.write, Instr, Instr.act, Instr.branch}
use Rattle.logic.specs.Claims.{Claim}
use Rattle.logic.specs.Inference.{newest}
use Rattle.logic_further.specs.Example.{Example, true_assertion}

-- the register r has the value n, or not
abbrev pub has : ℕ → ℕ → Test
has r n = equal (reg r) (const n)

abbrev pub has_not : ℕ → ℕ → Test
has_not r n = Formula.not (has r n)

-- `one x = n` of the word 1
abbrev pub only : ℕ → Interval
only n = newest 1 (const n)

-- TWO WRITERS, one reader (thread 3; registers 1, 2 are a, b): examples/rrc-two-writers.outline
abbrev pub rrc_two_writers : Example
rrc_two_writers = record {
  range = 8;
  start = 0 ∷ [];
  threads =
      (act (write (store false) 1 (const 1)) [] ∷ [])
      ∷ (act (write (store false) 1 (const 2)) [] ∷ [])
      ∷ (act (load false 1 1) [] ∷ act (load false 2 1) [] ∷ [])
      ∷ [];
  assertions =
      (both_a (holds (has_not 1 1)) (sees 3 (chop (only 0) (only 2))) ∷ true_assertion ∷ [])
      ∷ (sees 3 (chop (only 0) (only 1)) ∷ true_assertion ∷ [])
      ∷ (either_a (sees 3 (chop (only 0) (chop (only 1) (only 2)))) (sees 3 (chop (only 0) (chop (only 2) (only 1))))
      ∷ either_a (holds (has_not 1 1)) (sees 3 (chop (only 1) (only 2)))
      ∷ either_a (holds (Formula.not (and (has 1 1) (has 2 2)))) (sees 3 (only 2))
      ∷ [])
      ∷ [];
}

-- A THREAD THAT WAITS through fetch-adds (thread 3; registers 1, 2, 3 are a, b, s): examples/ticket-wait.outline

-- `t sees [cov display] ; one display = n` of the two threads that move the display
abbrev pub last_is : ℕ → Assertion
last_is n = both_a (sees 1 (chop (box (cov 1)) (only n))) (sees 2 (chop (box (cov 1)) (only n)))

-- a + b = 3: both have moved it
abbrev pub both_moved : Assertion
both_moved = holds (equal (sum (reg 1) (reg 2)) (const 3))

-- the assertions of a thread that moves it, of which r is the own register and q the other one's
abbrev pub mover : ℕ → ℕ → Assertion
mover r q =
    both_a (holds (has r 0)) (either_a (both_a (holds (has q 0)) (last_is 1)) (both_a (holds (has q 1)) (last_is 2)))

abbrev pub moved : ℕ → ℕ → Assertion
moved r q = either_a (both_a (holds (has r 1)) (both_a (holds (has q 0)) (last_is 2))) both_moved

abbrev pub ticket_wait : Example
ticket_wait = record {
  range = 8;
  start = 1 ∷ [];
  threads =
      (act (write (fetch_add 1) 1 (const 1)) [] ∷ [])
      ∷ (act (write (fetch_add 2) 1 (const 1)) [] ∷ [])
      ∷ (act (load true 3 1) [] ∷ [])
      ∷ [];
  assertions =
      (mover 1 2 ∷ moved 1 2 ∷ [])
      ∷ (mover 2 1 ∷ moved 2 1 ∷ [])
      ∷ (either_a (sees 3 (box (less (word 1) (const 3)))) both_moved ∷ either_a (holds (less (reg 3) (const 3))) both_moved ∷ [])
      ∷ [];
}

-- PETERSON'S ALGORITHM: examples/peterson-joint.outline. Words 1, 2 are the flags, 3 the turn. The thread t, whose registers are a, a + 1
-- and a + 2 (a1, fl1, tu1), gives the turn to the other one, u, whose first register is b

-- swaps go behind the last write of turn only
abbrev pub swaps_last : Assertion
swaps_last = both_a (sees 1 (chop (box (cov 3)) (one 3))) (sees 2 (chop (box (cov 3)) (one 3)))

-- the last write of turn is the other's, and a swap would bring the other's flag, up
abbrev pub shown : ℕ → ℕ → Assertion
shown t u =
    both_a
    (sees t (both (chop (box (cov 3)) (newest 3 (const t))) (chop (box (cov 3)) (chop (box (unsync 3)) (box (equal (word u) (const 1)))))))
    (sees u (chop (box (cov 3)) (newest 3 (const t))))

-- before the swap
abbrev pub outside : ℕ → ℕ → ℕ → ℕ → Interval → Assertion
outside t u a b flag =
    both_a (holds (has a 0)) (both_a (sees t flag) (both_a swaps_last (either_a (holds (has b 0)) (shown t u))))

-- after it: the other has not swapped, or has swapped later and waits, or t waits
abbrev pub waits : ℕ → ℕ → ℕ → ℕ → Test → Assertion
waits t u a b e =
    both_a (holds (has_not a 0))
    (either_a (holds (has b 0)) (either_a (sees u (newest 3 (const t))) (sees t (box (and (equal (word u) (const 1)) e)))))

-- inside
abbrev pub entered : ℕ → ℕ → ℕ → ℕ → Assertion
entered t u a b = both_a (holds (has_not a 0)) (either_a (holds (has b 0)) (sees u (newest 3 (const t))))

-- the instructions and the assertions of t
abbrev pub peterson_thread : ℕ → ℕ → ℕ → List Instr
peterson_thread t u a =
    act (write (store false) t (const 1)) []
    ∷ act (write swap 3 (const u)) (record { to = a; by = const 1 } ∷ [])
    ∷ act (load true (suc a) u) []
    ∷ act (load false (suc (suc a)) 3) []
    ∷ branch (and (has (suc a) 1) (has_not (suc (suc a)) t)) 2
    ∷ act (write (store true) t (const 0)) (record { to = a; by = const 0 } ∷ [])
    ∷ []

abbrev pub peterson_assertions : ℕ → ℕ → ℕ → ℕ → List Assertion
peterson_assertions t u a b =
    outside t u a b (one t)
    ∷ outside t u a b (box (equal (word t) (const 1)))
    ∷ waits t u a b (Formula.not (equal (word 3) (const t)))
    ∷ waits t u a b (and (Formula.not (equal (word 3) (const t))) (has (suc a) 1))
    ∷ waits t u a b (and (Formula.not (equal (word 3) (const t))) (and (has (suc a) 1) (has_not (suc (suc a)) t)))
    ∷ entered t u a b
    ∷ true_assertion
    ∷ []

abbrev pub peterson_joint : Example
peterson_joint = record {
  range = 8;
  start = 0 ∷ 0 ∷ 0 ∷ [];
  threads = peterson_thread 1 2 1 ∷ peterson_thread 2 1 4 ∷ [];
  assertions = peterson_assertions 1 2 1 4 ∷ peterson_assertions 2 1 4 1 ∷ [];
}

-- both are inside
abbrev pub both_inside : Claim
both_inside = record { thread = 1; point = 5; other = 2; other_point = 5 }

-- TWO WRITERS, TWO READERS (threads 3 and 4; registers 1 to 4 are a, b, c, d): examples/corr2.outline

-- a writer's first assertion: registers r, q do not have the values m, n, and both readers see 0 and then f
abbrev pub writes : ℕ → ℕ → ℕ → ℕ → ℕ → Assertion
writes r m q n f =
    both_a (holds (has_not r m))
    (both_a (holds (has_not q n)) (both_a (sees 3 (chop (only 0) (only f))) (sees 4 (chop (only 0) (only f)))))

-- the order of x in which a reader sees the two writes is one or the other
abbrev pub ordered : ℕ → Assertion
ordered t = either_a (sees t (chop (only 0) (chop (only 1) (only 2)))) (sees t (chop (only 0) (chop (only 2) (only 1))))

-- if r has m, and q has n, then t sees n alone from now on
abbrev pub first_read : ℕ → ℕ → ℕ → ℕ → Assertion
first_read t r m n = either_a (holds (has_not r m)) (sees t (chop (only m) (only n)))

abbrev pub both_read : ℕ → ℕ → ℕ → ℕ → ℕ → Assertion
both_read t r m q n = either_a (holds (Formula.not (and (has r m) (has q n)))) (sees t (only n))

-- the readers do not see the writes in two orders
abbrev pub agreed : Assertion
agreed = holds (or (has_not 1 1) (or (has_not 2 2) (or (has_not 3 2) (has_not 4 1))))

-- the threads
abbrev pub corr2_threads : List (List Instr)
corr2_threads =
    (act (write (store false) 1 (const 1)) [] ∷ [])
    ∷ (act (write (store false) 1 (const 2)) [] ∷ [])
    ∷ (act (load false 1 1) [] ∷ act (load false 2 1) [] ∷ [])
    ∷ (act (load false 3 1) [] ∷ act (load false 4 1) [] ∷ [])
    ∷ []

abbrev pub corr2 : Example
corr2 = record {
  range = 8;
  start = 0 ∷ [];
  threads = corr2_threads;
  assertions =
      (writes 1 1 4 1 2 ∷ true_assertion ∷ [])
      ∷ (writes 2 2 3 2 1 ∷ true_assertion ∷ [])
      ∷ (ordered 3 ∷ first_read 3 1 1 2 ∷ both_a (both_read 3 1 1 2 2) agreed ∷ [])
      ∷ (ordered 4 ∷ first_read 4 3 2 1 ∷ both_read 4 3 2 4 1 ∷ [])
      ∷ [];
}

-- the same with more said: the step of the left reader (3) needs what the right one (4) knows
abbrev pub right_knows : Assertion
right_knows = either_a (holds (has_not 3 2)) (either_a (holds (has_not 4 1)) (sees 4 (only 1)))

abbrev pub corr2_stronger : Example
corr2_stronger = record {
  range = 8;
  start = 0 ∷ [];
  threads = corr2_threads;
  assertions =
      (writes 1 1 4 1 2 ∷ true_assertion ∷ [])
      ∷ (writes 2 2 3 2 1 ∷ true_assertion ∷ [])
      ∷ (both_a (ordered 3) right_knows ∷ both_a (first_read 3 1 1 2) right_knows ∷ both_a (both_read 3 1 1 2 2) agreed ∷ [])
      ∷ (both_a (ordered 4) (holds (has_not 4 1)) ∷ both_a (first_read 4 3 2 1) (holds (has_not 4 1)) ∷ both_read 4 3 2 4 1 ∷ [])
      ∷ [];
}
