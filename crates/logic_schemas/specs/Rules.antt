-- The table of rules: for each rule number the schema of its lines, its premises, the operations allowed and its side conditions.
use Rattle.std.specs.Prelude.{List, [], ◌∷◌, ℕ}
use Rattle.semantics.specs.Formula.{Sort}
use Rattle.logic.specs.Opcode
use Rattle.logic.specs.Rule.{Rule, r1, r2, r3, r4, r5, r6, r7, r8, r9, r10, r11, r12, r13, r14, r15, r16, r20, r21, r22, r23, r24, r25, r26, r27, r30, r31, r32, r33, r34, r35, r36, r37, r38, r39, r40, r41, r42, r43, r44, r45, r46, r47, r48, r49, r50}
use Rattle.logic_schemas.specs.Pattern.{Num, Pattern, t, x, u, y, any_a, any_i, any_e, any_v, f, const, reg, word, equal, and, unsync, cov, box, one, chop, both, either, sees, both_a, either_a, start, holds}

-- the schema of a line: its form, its left and its right side
pub data Shape : Type 0 where
  inside : Pattern Sort.interval → Pattern Sort.interval → Shape
  implies triple pair : Pattern Sort.assertion → Pattern Sort.assertion → Shape

-- the schemas of the premises, in order, triples for the same instruction; rule 20: "0 to 4 implications as premises"
pub data Premises : Type 0 where
  these : List Shape → Premises
  implications : Premises

-- the substitutions that rules name: by-notes replaces each noted register by its formula, all at once; r-by-x the instruction's
-- register by its word; x-by-f its word by its formula
pub data By : Type 0 where
  by_notes r_by_x x_by_f : By

infix 30 ◌is◌with◌
-- side conditions. p is q with b: p is q after the substitution; start_of: it is the start value of the word; starts_at_0: the register
-- starts at 0; is_new: it is the new write's value (fresh_value);
-- kept: rule 1's condition (keeps); lacks_x: it has neither the word x, in any role, nor the result register; no_flag: it has neither
-- unsync x nor cov x; by_rows: wherever the left test is true the right one is; by_table: rule 20's truth table
pub data Side : Type 0 where
  ◌is◌with◌ : {s : Sort} → Pattern s → Pattern s → By → Side
  start_of : Num → Pattern Sort.value → Side
  starts_at_0 : Num → Side
  is_new : Pattern Sort.value → Side
  kept : Pattern Sort.assertion → Side
  lacks_x : Pattern Sort.interval → Side
  no_flag : Pattern Sort.test → Side
  by_rows : Pattern Sort.test → Pattern Sort.test → Side
  by_table : Side

-- "Each table row is fixed per rule": the schema of a line, its premises, the allowed operations, the side conditions
pub record Row : Type 0 where
  pub says : Shape
  pub premises : Premises
  pub operations : List ℕ
  pub sides : List Side

-- the operations that rules allow, at a pair's point those of its first half; rule 2: assignments
abbrev pub assigns : List ℕ
assigns = Opcode.assign ∷ Opcode.assign_two ∷ []

-- "load" covers 1 and 2
abbrev pub loads : List ℕ
loads = Opcode.load ∷ Opcode.acquire ∷ []

-- "Store" covers 3 and 4
abbrev pub stores : List ℕ
stores = Opcode.store ∷ Opcode.release ∷ []

-- rules 11 and 12: swap alone
abbrev pub swaps : List ℕ
swaps = Opcode.swap ∷ []

-- the operations that return the old value in a register (rules 47 to 49)
abbrev pub returning : List ℕ
returning = Opcode.exchange ∷ Opcode.fetch_add ∷ []

-- the operations that cover the write they pick: the read-modify-writes (rule 13)
abbrev pub covering : List ℕ
covering = Opcode.swap ∷ returning

-- the operations that acquire (rule 5)
abbrev pub acquiring : List ℕ
acquiring = Opcode.acquire ∷ covering

-- rule 8: releasing store
abbrev pub releasing : List ℕ
releasing = Opcode.release ∷ []

-- rule 9: stores and swap, which return no old value
abbrev pub stores_swaps : List ℕ
stores_swaps = Opcode.store ∷ Opcode.release ∷ Opcode.swap ∷ []

-- the operations that add a write (rule 10)
abbrev pub writes : List ℕ
writes = Opcode.store ∷ Opcode.release ∷ covering

-- the operations that touch a shared word (rule 1)
abbrev pub accesses : List ℕ
accesses = Opcode.load ∷ Opcode.acquire ∷ writes

-- the pairs (rule 50)
abbrev pub pairs : List ℕ
pairs = Opcode.pair_store ∷ Opcode.pair_release ∷ Opcode.pair_swap ∷ []

-- all but branches (rules 14 to 16)
abbrev pub actions : List ℕ
actions = Opcode.assign ∷ Opcode.assign_two ∷ accesses

-- a row whose lines are triples for these operations
abbrev pub tri : List ℕ → Pattern Sort.assertion → Pattern Sort.assertion → List Shape → List Side → Row
tri ops p q l sides = record { says = triple p q; premises = these l; operations = ops; sides = sides }

-- a row whose lines are implications
abbrev pub imp : Pattern Sort.assertion → Pattern Sort.assertion → List Shape → List Side → Row
imp p q l sides = record { says = implies p q; premises = these l; operations = []; sides = sides }

-- a row whose lines state an interval in an interval
abbrev pub inc : Pattern Sort.interval → Pattern Sort.interval → List Shape → List Side → Row
inc p q l sides = record { says = inside p q; premises = these l; operations = []; sides = sides }

-- holes for any assertions, intervals, tests, values. No two holes of one rule, of whatever sorts, have one number
abbrev pub P : Pattern Sort.assertion
P = any_a 0

abbrev pub Q : Pattern Sort.assertion
Q = any_a 1

abbrev pub R : Pattern Sort.assertion
R = any_a 2

abbrev pub S : Pattern Sort.assertion
S = any_a 3

abbrev pub I : Pattern Sort.interval
I = any_i 0

abbrev pub J : Pattern Sort.interval
J = any_i 1

abbrev pub K : Pattern Sort.interval
K = any_i 2

abbrev pub L : Pattern Sort.interval
L = any_i 3

abbrev pub E : Pattern Sort.test
E = any_e 2

abbrev pub F : Pattern Sort.test
F = any_e 3

abbrev pub N : Pattern Sort.value
N = any_v 0

-- both(one x, [x = f]): the new write is the only one seen, with the instruction's formula as its value
abbrev pub newest : Pattern Sort.interval
newest = both (one x) (box (equal (word x) f))

-- both(one x, [x = N]): the same with any value N, which a side condition fixes (rules 48 and 49)
abbrev pub newest_n : Pattern Sort.interval
newest_n = both (one x) (box (equal (word x) N))

-- rules 11 to 13, 48 and 49: "C = [cov x];one x"
abbrev pub C : Pattern Sort.interval
C = chop (box (cov x)) (one x)

-- the row of each rule
abbrev pub row : Rule → Row
row r1 = tri accesses P P [] (kept P ∷ [])
row r2 = tri assigns P Q [] ((P is Q with by_notes) ∷ [])
row r3 = tri loads (sees t (box F)) (holds E) [] ((F is E with r_by_x) ∷ [])
row r4 = tri loads (sees t (chop (box F) I)) (either_a (holds E) Q) (triple (sees t I) Q ∷ []) ((F is E with r_by_x) ∷ [])
row r5 = tri acquiring (sees t (chop (box (unsync x)) I)) Q (triple (sees t I) Q ∷ []) []
row r6 = tri stores (sees t (one x)) (sees t newest) [] []
row r7 = tri stores (both_a (sees t (one x)) (sees u I)) (sees u (chop I newest)) [] []
row r8 = tri releasing (both_a (sees t (one x)) (both_a (sees u I) (sees t J))) (sees u (chop I (chop (box (unsync x)) J))) []
    (lacks_x J ∷ [])
row r9 = tri stores_swaps (both_a (sees u (box E)) (sees u (box F))) (sees u (box E)) [] ((F is E with x_by_f) ∷ no_flag E ∷ [])
row r10 = tri writes (sees t (chop (box (cov x)) I)) Q (triple (sees t I) Q ∷ []) []
row r11 = tri swaps (sees t C) (sees t newest) [] []
row r12 = tri swaps (both_a (sees t C) (sees u C)) (sees u (chop (box (cov x)) newest)) [] []
row r13 = tri covering (both_a (sees t C) (both_a (sees u C) (sees t J))) (sees u (chop (box (cov x)) (chop (box (unsync x)) J))) []
    (lacks_x J ∷ [])
row r14 = tri actions (both_a P Q) (both_a R S) (triple P R ∷ triple Q S ∷ []) []
row r15 = tri actions (either_a P Q) (either_a R S) (triple P R ∷ triple Q S ∷ []) []
row r16 = tri actions P S (implies P Q ∷ triple Q R ∷ implies R S ∷ []) []
row r20 = record { says = implies P Q; premises = implications; operations = []; sides = by_table ∷ [] }
row r21 = imp (holds E) (holds F) [] (by_rows E F ∷ [])
row r22 = imp (sees u I) (sees u J) (inside I J ∷ []) []
row r23 = imp (sees u (box E)) (holds F) [] (by_rows E F ∷ [])
row r24 = imp (holds E) (sees u (box F)) [] (by_rows E F ∷ [])
row r25 = imp (both_a (sees u I) (sees u J)) (sees u (both I J)) [] []
row r26 = imp start (sees u (both (one y) (box (equal (word y) N)))) [] (start_of y N ∷ [])
row r27 = imp start (holds (equal (reg y) (const 0))) [] (starts_at_0 y ∷ [])
row r30 = inc (box E) (box F) [] (by_rows E F ∷ [])
row r31 = inc I K (inside I J ∷ inside J K ∷ []) []
row r32 = inc (chop I K) (chop J L) (inside I J ∷ inside K L ∷ []) []
row r33 = inc (chop (chop I J) K) (chop I (chop J K)) [] []
row r34 = inc (chop I (chop J K)) (chop (chop I J) K) [] []
row r35 = inc J (chop I J) [] []
row r36 = inc I (chop I J) [] []
row r37 = inc (chop (box E) (box E)) (box E) [] []
row r38 = inc (both K (chop I J)) (chop (both K I) (both K J)) [] []
row r39 = inc (both I J) I [] []
row r40 = inc (both I J) J [] []
row r41 = inc I (both J K) (inside I J ∷ inside I K ∷ []) []
row r42 = inc I (either I J) [] []
row r43 = inc J (either I J) [] []
row r44 = inc (either I J) K (inside I K ∷ inside J K ∷ []) []
row r45 = inc (both (box E) (box F)) (box (and E F)) [] []
row r46 = inc I I [] []
row r47 = tri returning (sees t (box F)) (holds E) [] ((F is E with r_by_x) ∷ [])
row r48 = tri returning (sees t C) (sees t newest_n) [] (is_new N ∷ [])
row r49 = tri returning (both_a (sees t C) (sees u C)) (sees u (chop (box (cov x)) newest_n)) [] (is_new N ∷ [])
row r50 = record { says = pair R Q; premises = these (triple R P ∷ []); operations = pairs; sides = (P is Q with by_notes) ∷ [] }
