-- Rules that look like the further ones and are not sound: for each, a run of a small program in which what it would give is false. Each
-- row of the table has the registers 1 to 3 and the points of threads 1 and 2 after the run; all rows are one computed fact. Of those that
-- are about one word, below, the left side is true in a state of a run and, one step later or at once, the right side is false.
use mathlib.Core.Path.{◌≡◌, refl}
use mathlib.Core.Bool.{Bool, false, not, ◌&&◌}
use mathlib.Core.List.{List, [], ◌∷◌, ◌++◌, map}
use Prim.Native.Nat.{ℕ}
use lib.Dec.{T}
use Rattle.semantics.specs.Base.{All, upd, up_to}
use Rattle.semantics.specs.Formula.{Formula, Test, Interval, Assertion, Formula.const, Formula.reg, Formula.word, Formula.sum, Formula.equal, Formula.less, Formula.cov, Formula.box, Formula.one, Formula.chop, Formula.both, Formula.either, Formula.sees, Formula.both_a, Formula.either_a, Formula.holds}
use Rattle.semantics.specs.Machine.{State, Instr, Instr.act, Mode.store, Mode.exchange, Mode.fetch_add, Access.load, Access.write, Step, begin, run, up, down}
use Rattle.semantics.specs.Truth.{True}
use Rattle.semantics.proofs.Base.{and_left, and_right, all_All}
use Rattle.logic.specs.Inference.{newest}
use Rattle.logic_further.specs.Example.{Example, program_of, well_formed}
use Rattle.logic_further.proofs.Divided.{climb}
use Rattle.logic_further.proofs.Worked.{along_word, truth_along, worked_true, worked_false, reached_well}

-- a program by start values and threads, steps by thread and position, and what is read off the last state
record Row : Type 0 where
  start : List ℕ
  threads : List (List Instr)
  steps : List Step
  shown : List ℕ

abbrev example_of : Row → Example
example_of r = record { range = 8; start = r.start; threads = r.threads; assertions = [] }

abbrev after : Row → State
after r = run (program_of (example_of r)) (begin (program_of (example_of r)) (λ q. 0)) r.steps

abbrev read_off : Row → List ℕ
read_off r = map (after r).reg (up_to 3) ++ map (after r).point (up_to 2)

-- thread t picks position p
abbrev at_position : ℕ → ℕ → Step
at_position t p = record { thread = t; position = p }

abbrev stores : ℕ → ℕ → Instr
stores x n = act (write (store false) x (const n)) []

abbrev loads : ℕ → ℕ → Instr
loads r x = act (load false r x) []

-- two writers of word 1, and a reader of it
abbrev writers : List (List Instr)
writers = (stores 1 1 ∷ []) ∷ (stores 1 2 ∷ []) ∷ (loads 1 1 ∷ loads 2 1 ∷ []) ∷ []

rows : List Row
rows =
    -- rule 51 of a test with a flag: thread 2 saw [not cov x], and now its store behind the first write is refused
    record {
      start = 1 ∷ [];
      threads = (act (write (exchange 1) 1 (const 1)) [] ∷ []) ∷ (stores 1 5 ∷ []) ∷ [];
      steps = at_position 1 0 ∷ at_position 2 0 ∷ [];
      shown = 1 ∷ 0 ∷ 0 ∷ 1 ∷ 0 ∷ [];
    }
    -- rule 51 of a test with the result register: x + r1 = 1 before, 2 after
    ∷ record {
      start = 1 ∷ [];
      threads = (act (write (exchange 1) 1 (const 1)) [] ∷ []) ∷ (loads 2 1 ∷ []) ∷ [];
      steps = at_position 1 0 ∷ at_position 2 1 ∷ [];
      shown = 1 ∷ 1 ∷ 0 ∷ 1 ∷ 1 ∷ [];
    }
    -- rule 52 with the operand for x, as rule 9 has it: [x < 2] and 1 < 2, and thread 2 reads 2
    ∷ record {
      start = 1 ∷ [];
      threads = (act (write (fetch_add 1) 1 (const 1)) [] ∷ []) ∷ (loads 2 1 ∷ []) ∷ [];
      steps = at_position 1 0 ∷ at_position 2 1 ∷ [];
      shown = 1 ∷ 2 ∷ 0 ∷ 1 ∷ 1 ∷ [];
    }
    -- rule 52 of a test with another word: x = 0 or y = 1 holds of the sum where thread 1 is, and thread 2 reads x = 1 and y = 0
    ∷ record {
      start = 0 ∷ 0 ∷ [];
      threads = (stores 2 1 ∷ act (write (fetch_add 1) 1 (const 1)) [] ∷ []) ∷ (loads 2 1 ∷ loads 3 2 ∷ []) ∷ [];
      steps = at_position 1 0 ∷ at_position 1 0 ∷ at_position 2 1 ∷ at_position 2 0 ∷ [];
      shown = 0 ∷ 1 ∷ 0 ∷ 2 ∷ 2 ∷ [];
    }
    -- rule 53 by the last part of I;J alone, or with false for one x: at the start both threads see [x = 0];[x = 1] and one x, and a run goes on
    ∷ record {
      start = 0 ∷ [];
      threads = (loads 1 1 ∷ []) ∷ (loads 2 1 ∷ []) ∷ [];
      steps = at_position 1 0 ∷ at_position 2 0 ∷ [];
      shown = 0 ∷ 0 ∷ 0 ∷ 1 ∷ 1 ∷ [];
    }
    -- rules 54 and 55 without one x, or with one of another word: thread 3 saw 0 and 1, the store of 2 lands between, and it reads 2 and then 1
    ∷ record {
      start = 0 ∷ [];
      threads = writers;
      steps = at_position 1 0 ∷ at_position 2 0 ∷ at_position 3 1 ∷ at_position 3 2 ∷ [];
      shown = 2 ∷ 1 ∷ 0 ∷ 1 ∷ 1 ∷ [];
    }
    -- rule 55 with the new write before the first part, rules 57 and 58 of any part: thread 3 reads 0 and then 1
    ∷ record {
      start = 0 ∷ [];
      threads = writers;
      steps = at_position 1 0 ∷ at_position 3 0 ∷ at_position 3 1 ∷ [];
      shown = 0 ∷ 1 ∷ 0 ∷ 1 ∷ 0 ∷ [];
    }
    -- rule 56 of two words: no prospect has both x = 1 with y = 0 and x = 0 with y = 1, and from one state thread 3 may read either
    ∷ record {
      start = 0 ∷ 0 ∷ [];
      threads = (stores 1 1 ∷ []) ∷ (stores 2 1 ∷ []) ∷ (loads 1 1 ∷ loads 2 2 ∷ []) ∷ [];
      steps = at_position 1 0 ∷ at_position 2 0 ∷ at_position 3 1 ∷ at_position 3 0 ∷ [];
      shown = 1 ∷ 0 ∷ 0 ∷ 1 ∷ 1 ∷ [];
    }
    ∷ record {
      start = 0 ∷ 0 ∷ [];
      threads = (stores 1 1 ∷ []) ∷ (stores 2 1 ∷ []) ∷ (loads 1 1 ∷ loads 2 2 ∷ []) ∷ [];
      steps = at_position 1 0 ∷ at_position 2 0 ∷ at_position 3 0 ∷ at_position 3 1 ∷ [];
      shown = 0 ∷ 1 ∷ 0 ∷ 1 ∷ 1 ∷ [];
    }
    ∷ []

-- every row is as it says
each_breaks : map read_off rows ≡ map (λ (r : Row). r.shown) rows
unfolding rows upd up down
each_breaks = refl

-- OF ONE WORD, by both sides: a run after which the left side is true and, one step later or at once, the right side false. All of them are
-- one computed fact

-- word 1 has the value n, or one below n; one write of it with the value n
abbrev is : ℕ → Test
is n = equal (word 1) (const n)

abbrev below_value : ℕ → Test
below_value n = less (word 1) (const n)

abbrev single : ℕ → Interval
single n = newest 1 (const n)

abbrev truth : Interval
truth = box (Formula.not Formula.false)

-- a program by start values and threads; steps to a state; what a wrong rule has on its left, true there; steps on, one for a triple and
-- none for an implication or an inclusion; what it has on its right, false then. Assertions name word 1 alone
record Neighbour : Type 0 where
  start : List ℕ
  threads : List (List Instr)
  steps : List Step
  left : Assertion
  next : List Step
  right : Assertion

abbrev its_example : Neighbour → Example
its_example n = record { range = 8; start = n.start; threads = n.threads; assertions = [] }

abbrev reached : Neighbour → List Step → State
reached n l = run (program_of (its_example n)) (begin (program_of (its_example n)) (λ q. 0)) l

abbrev Broken : Neighbour → Type 0
Broken n =
    True (program_of (its_example n)) (reached n n.steps) n.left
    × (True (program_of (its_example n)) (reached n (n.steps ++ n.next)) n.right → ⊥)

-- the same, worked out
abbrev broken : Neighbour → Bool
broken n =
    (well_formed (its_example n) && (along_word 1 n.left && along_word 1 n.right))
    && (truth_along 1 (program_of (its_example n)) (reached n n.steps) n.left
    && not (truth_along 1 (program_of (its_example n)) (reached n (n.steps ++ n.next)) n.right))

broken_is : (n : Neighbour) → T (broken n) → Broken n
broken_is n h = (
  worked_true 1 (reached_well (its_example n) (search (and_left, and_right)) n.steps) n.left (search (and_left, and_right))
      (search (and_left, and_right)),
  worked_false 1 (reached_well (its_example n) (search (and_left, and_right)) (n.steps ++ n.next)) n.right
      (search (and_left, and_right)) (search (and_left, and_right)),
)

-- an exchange of 1 for the 1 of word 1 by thread 1, whose result register is 1; thread 2 stores
abbrev exchanging : Assertion → Assertion → Neighbour
exchanging a b = record {
  start = 1 ∷ [];
  threads = (act (write (exchange 1) 1 (const 1)) [] ∷ []) ∷ (stores 1 5 ∷ []) ∷ [];
  steps = [];
  left = a;
  next = at_position 1 0 ∷ [];
  right = b;
}

-- a fetch-add of 1 to the 1 of word 1 by thread 1, whose result register is 1; thread 2 loads
abbrev adding : Assertion → Assertion → Neighbour
adding a b = record {
  start = 1 ∷ [];
  threads = (act (write (fetch_add 1) 1 (const 1)) [] ∷ []) ∷ (loads 2 1 ∷ []) ∷ [];
  steps = [];
  left = a;
  next = at_position 1 0 ∷ [];
  right = b;
}

-- two threads at the start, where word 1 is 0; or after the store of 1 by the first, which the second has read
abbrev at_start : Assertion → Assertion → Neighbour
at_start a b = record {
  start = 0 ∷ [];
  threads = (stores 1 1 ∷ []) ∷ (loads 2 1 ∷ []) ∷ [];
  steps = [];
  left = a;
  next = [];
  right = b;
}

abbrev after_store : Assertion → Assertion → Neighbour
after_store a b = record {
  start = 0 ∷ [];
  threads = (stores 1 1 ∷ []) ∷ (loads 2 1 ∷ []) ∷ [];
  steps = at_position 1 0 ∷ at_position 2 1 ∷ [];
  left = a;
  next = [];
  right = b;
}

-- thread 3 may see 0 and then 1; at once, or after the store of 2 between them
abbrev risen : List Step → Assertion → Assertion → Neighbour
risen l a b = record {
  start = 0 ∷ [];
  threads = writers;
  steps = at_position 1 0 ∷ [];
  left = a;
  next = l;
  right = b;
}

abbrev between : Assertion → Assertion → Neighbour
between = risen (at_position 2 0 ∷ [])

abbrev at_once : Assertion → Assertion → Neighbour
at_once = risen []

-- [cov x];[e]
abbrev behind_covered : Test → Interval
behind_covered e = chop (box (cov 1)) (box e)

neighbours : List Neighbour
neighbours =
    -- 51 of a test with a flag
    exchanging (both_a (sees 2 (box (Formula.not (cov 1)))) (sees 2 (box (Formula.not (cov 1))))) (sees 2 (box (Formula.not (cov 1))))
    -- 51 of a test with the result register
    ∷ exchanging
    (both_a (sees 2 (box (equal (sum (word 1) (reg 1)) (const 1)))) (sees 2 (box (equal (sum (const 1) (reg 1)) (const 1)))))
    (sees 2 (box (equal (sum (word 1) (reg 1)) (const 1))))
    -- 52 with the operand for x, as rule 9 has it
    ∷ adding (both_a (sees 2 (box (below_value 2))) (sees 1 (behind_covered (less (const 1) (const 2))))) (sees 2 (box (below_value 2)))
    -- 52 of a test with the result register
    ∷ adding (both_a (sees 2 (box (equal (reg 1) (const 0)))) (sees 1 (behind_covered (equal (reg 1) (const 0)))))
    (sees 2 (box (equal (reg 1) (const 0))))
    -- 53 by the last part of I;J alone, and by the first
    ∷ at_start (both_a (sees 1 (chop (box (is 0)) (box (is 1)))) (sees 2 (box (is 0)))) (holds Formula.false)
    ∷ after_store (both_a (sees 1 (chop (box (is 0)) (box (is 1)))) (sees 2 (box (is 1)))) (holds Formula.false)
    -- 53 with false for one x, and with "and" for either
    ∷ at_start (both_a (sees 1 (one 1)) (sees 2 (one 1))) (holds Formula.false)
    ∷ at_start (both_a (sees 1 (either (box (is 0)) (box (is 1)))) (sees 2 (box (is 0)))) (holds Formula.false)
    -- 54 without one x
    ∷ between (sees 3 (chop (single 0) (single 1))) (sees 3 (chop (chop (single 0) (single 1)) (single 2)))
    -- 54 with the new write in front
    ∷ risen (at_position 2 1 ∷ []) (sees 3 (chop (single 0) (single 1))) (sees 3 (chop (single 2) (chop (single 0) (single 1))))
    -- 55 without one x; its premise, from sees [false] to sees [false], is valid
    ∷ between (sees 3 (chop (box (below_value 2)) (box Formula.false)))
    (sees 3 (either (chop (box (below_value 2)) (chop (single 2) (box Formula.false))) (chop (box (below_value 2)) (box Formula.false))))
    -- 55 with the new write before the first part; its premise, from one x = 1 to one x = 1 ; one x = 2, is by 54
    ∷ between (sees 3 (chop (both (single 0) (one 1)) (single 1)))
    (sees 3 (either (chop (single 2) (chop (single 0) (single 1))) (chop (single 0) (chop (single 1) (single 2)))))
    -- 57 and 58 of any part
    ∷ at_once (sees 3 (chop (box (is 0)) truth)) (sees 3 (box (is 0)))
    ∷ at_once (sees 3 (chop truth (box (is 1)))) (sees 3 (box (is 1)))
    -- 59 to one side alone, and over a chop
    ∷ at_once (sees 3 (both (box (below_value 2)) (either (chop (single 0) (single 1)) (single 1))))
    (sees 3 (both (box (below_value 2)) (single 1)))
    ∷ at_once (sees 3 (chop (both (one 1) (single 0)) (both (one 1) (single 1)))) (sees 3 (both (one 1) (chop (single 0) (single 1))))
    -- 60 the other way round, and 61 of either
    ∷ at_once (sees 3 (chop (single 0) (single 1))) (both_a (sees 3 (chop (single 0) (single 1))) (sees 3 (single 0)))
    ∷ at_once (either_a (sees 3 (chop (single 0) (single 1))) (sees 3 (single 1))) (sees 3 (single 1))
    ∷ []

each_of : (l : List Neighbour) → All (λ n. T (broken n)) l → All Broken l
each_of [] h = tt
each_of (n ∷ l) h = (broken_is n h.0, each_of l h.1)

-- every one of them has its left side and then not its right one
each_broken : All Broken neighbours
unfolding neighbours upd up down climb
each_broken = each_of neighbours (all_All broken neighbours tt)
