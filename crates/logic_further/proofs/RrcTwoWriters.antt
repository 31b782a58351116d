-- Two writers that know nothing of each other: a reader that has read 1 and then 2 sees 2 from then on.
use mathlib.Core.Path.{refl}
use mathlib.Core.List.{List, [], ◌∷◌}
use Prim.Native.Nat.{ℕ}
use Rattle.semantics.specs.Formula.{Formula, Assertion, Interval, Formula.const, Formula.reg, Formula.word, Formula.equal, Formula.and, Formula.or, Formula.box, Formula.one, Formula.chop, Formula.both, Formula.either, Formula.sees, Formula.both_a, Formula.either_a, Formula.start, Formula.holds}
use Rattle.semantics.specs.EveryRun.{EveryRun}
use Rattle.semantics.specs.Formula.{same}
use Rattle.logic.specs.Rows.{choose, is_in, distinct, same_name}
use Rattle.logic.specs.Table.{same_leaf}
use Rattle.semantics.specs.Base.{upd}
use native.Mathlib.Decide.{ℕ_discrete}
use Rattle.logic.specs.Statement.{inside, implies, triple}
use Rattle.logic.specs.Rule.{r1, r3, r4, r14, r15, r16, r20, r21, r22, r23, r24, r25, r26, r27, r30, r31, r32, r36, r37, r38, r39, r40, r41, r45, r46}
use Rattle.logic.specs.Inference.{newest}
use Rattle.logic_further.specs.Further.{i54, i55, i56, i57}
use Rattle.logic_further.specs.Example.{program_of, outline_of}
use Rattle.logic_further.specs.Certificate.{Line, by, further}
use Rattle.logic_further.specs.Programs.{rrc_two_writers}
use Rattle.logic_further.proofs.Certified.{certified_run}

-- FORMULAS of the lines
abbrev g1 : Assertion
g1 = holds (equal (reg 1) (const 0))

abbrev g2 : Assertion
g2 = holds (Formula.not (equal (reg 1) (const 1)))

abbrev g3 : Interval
g3 = newest 1 (const 0)

abbrev g4 : Assertion
g4 = sees 3 g3

abbrev g5 : Interval
g5 = newest 1 (const 2)

abbrev g6 : Interval
g6 = chop g3 g5

abbrev g7 : Assertion
g7 = sees 3 g6

abbrev g8 : Assertion
g8 = both_a g2 g7

abbrev g9 : Interval
g9 = newest 1 (const 1)

abbrev g10 : Interval
g10 = chop g3 g9

abbrev g11 : Assertion
g11 = sees 3 g10

abbrev g12 : Interval
g12 = chop g9 g5

abbrev g13 : Interval
g13 = chop g3 g12

abbrev g14 : Assertion
g14 = sees 3 g13

abbrev g15 : Interval
g15 = chop g5 g9

abbrev g16 : Interval
g16 = chop g3 g15

abbrev g17 : Assertion
g17 = sees 3 g16

abbrev g18 : Assertion
g18 = either_a g14 g17

abbrev g19 : Assertion
g19 = holds (Formula.not Formula.false)

abbrev g20 : Interval
g20 = box (Formula.not (equal (word 1) (const 1)))

abbrev g21 : Assertion
g21 = sees 3 g20

abbrev g22 : Interval
g22 = box (equal (word 1) (const 0))

abbrev g23 : Interval
g23 = box (equal (word 1) (const 2))

abbrev g24 : Assertion
g24 = sees 3 g12

abbrev g25 : Assertion
g25 = either_a g2 g24

abbrev g26 : Interval
g26 = chop g20 g12

abbrev g27 : Assertion
g27 = sees 3 g26

abbrev g28 : Assertion
g28 = either_a g2 g25

abbrev g29 : Assertion
g29 = sees 3 g9

abbrev g30 : Interval
g30 = chop g20 g9

abbrev g31 : Assertion
g31 = sees 3 g30

abbrev g32 : Assertion
g32 = sees 3 g15

abbrev g33 : Interval
g33 = chop g20 g15

abbrev g34 : Assertion
g34 = sees 3 g33

abbrev g35 : Interval
g35 = box (equal (word 1) (const 1))

abbrev g36 : Interval
g36 = chop g20 g20

abbrev g37 : Assertion
g37 = either_a g25 g25

abbrev g38 : Interval
g38 = box (Formula.not (and (equal (reg 1) (const 1)) (equal (word 1) (const 2))))

abbrev g39 : Assertion
g39 = sees 3 g38

abbrev g40 : Assertion
g40 = holds (Formula.not (and (equal (reg 1) (const 1)) (equal (reg 2) (const 2))))

abbrev g41 : Assertion
g41 = sees 3 g5

abbrev g42 : Assertion
g42 = either_a g40 g41

abbrev g43 : Interval
g43 = chop g38 g5

abbrev g44 : Assertion
g44 = sees 3 g43

abbrev g45 : Assertion
g45 = either_a g40 g42

abbrev g46 : Assertion
g46 = either_a g39 g24

abbrev g47 : Assertion
g47 = either_a g42 g42

abbrev g48 : Assertion
g48 = both_a g19 g8

abbrev g49 : Assertion
g49 = both_a g25 g8

abbrev g50 : Assertion
g50 = both_a g42 g8

abbrev g51 : Assertion
g51 = both_a g19 g11

abbrev g52 : Assertion
g52 = both_a g41 g11

abbrev g53 : Interval
g53 = both g5 g10

abbrev g54 : Assertion
g54 = sees 3 g53

abbrev g55 : Interval
g55 = box (or (equal (word 1) (const 0)) (equal (word 1) (const 1)))

abbrev g56 : Interval
g56 = chop g55 g55

abbrev g57 : Interval
g57 = both g23 g55

abbrev g58 : Interval
g58 = box (and (equal (word 1) (const 2)) (or (equal (word 1) (const 0)) (equal (word 1) (const 1))))

abbrev g59 : Assertion
g59 = sees 3 g58

abbrev g60 : Assertion
g60 = both_a g42 g11

abbrev g61 : Assertion
g61 = both_a g21 g7

abbrev g62 : Assertion
g62 = both_a g8 g18

abbrev g63 : Assertion
g63 = both_a g19 g18

abbrev g64 : Assertion
g64 = both_a g11 g18

abbrev g65 : Assertion
g65 = both_a g8 g25

abbrev g66 : Assertion
g66 = both_a g19 g25

abbrev g67 : Assertion
g67 = both_a g11 g25

abbrev g68 : Assertion
g68 = both_a g11 g7

abbrev g69 : Interval
g69 = both g10 g6

abbrev g70 : Assertion
g70 = sees 3 g69

abbrev g71 : Interval
g71 = both g10 g5

abbrev g72 : Interval
g72 = both g55 g23

abbrev g73 : Interval
g73 = box (and (or (equal (word 1) (const 0)) (equal (word 1) (const 1))) (equal (word 1) (const 2)))

abbrev g74 : Interval
g74 = both g10 g3

abbrev g75 : Interval
g75 = chop g74 g71

abbrev g76 : Interval
g76 = chop g3 (box Formula.false)

abbrev g77 : Interval
g77 = both (one 1) g3

abbrev g78 : Assertion
g78 = sees 3 g77

abbrev g79 : Assertion
g79 = both_a g11 g8

abbrev g80 : Assertion
g80 = both_a g2 g78

abbrev g81 : Assertion
g81 = both_a g8 g11

abbrev g82 : Interval
g82 = both (one 1) g5

abbrev g83 : Assertion
g83 = sees 3 g82

abbrev g84 : Interval
g84 = both g3 (one 1)

abbrev g85 : Interval
g85 = chop g84 g5

abbrev g86 : Assertion
g86 = sees 3 g85

abbrev g87 : Interval
g87 = either g13 g16

abbrev g88 : Assertion
g88 = sees 3 g87

abbrev g89 : Assertion
g89 = both_a g18 g8

abbrev g90 : Interval
g90 = both (one 1) g9

abbrev g91 : Assertion
g91 = sees 3 g90

abbrev g92 : Interval
g92 = chop g84 g9

abbrev g93 : Assertion
g93 = sees 3 g92

abbrev g94 : Interval
g94 = either g16 g13

abbrev g95 : Assertion
g95 = sees 3 g94

abbrev g96 : Assertion
g96 = either_a g17 g14

abbrev g97 : Assertion
g97 = both_a g18 g11

abbrev g98 : Assertion
g98 = either_a g2 g91

abbrev g99 : Assertion
g99 = both_a g11 g24

abbrev g100 : Interval
g100 = both g10 g12

abbrev g101 : Assertion
g101 = sees 3 g100

abbrev g102 : Interval
g102 = both g10 g9

abbrev g103 : Interval
g103 = chop g102 g71

abbrev g104 : Interval
g104 = chop g9 (box Formula.false)

abbrev g105 : Assertion
g105 = both_a g25 g11

-- the lines, from 1
lines : List (Line (program_of rrc_two_writers))
lines =
    by r27 (implies start g1) []
    ∷ by r21 (implies g1 g2) []
    ∷ by r20 (implies start g2) (1 ∷ 2 ∷ [])
    ∷ by r26 (implies start g4) []
    ∷ by r36 (inside g3 g6) []
    ∷ by r22 (implies g4 g7) (5 ∷ [])
    ∷ by r20 (implies start g7) (4 ∷ 6 ∷ [])
    ∷ by r20 (implies start g8) (3 ∷ 7 ∷ [])
    ∷ by r36 (inside g3 g10) []
    ∷ by r22 (implies g4 g11) (9 ∷ [])
    ∷ by r20 (implies start g11) (4 ∷ 10 ∷ [])
    ∷ by r36 (inside g3 g13) []
    ∷ by r22 (implies g4 g14) (12 ∷ [])
    ∷ by r20 (implies start g14) (4 ∷ 13 ∷ [])
    ∷ by r20 (implies start g18) (14 ∷ [])
    ∷ by r1 (triple 1 0 g19 g19) []
    ∷ by r20 (implies g8 g19) []
    ∷ by r20 (implies g19 g19) []
    ∷ by r16 (triple 1 0 g8 g19) (17 ∷ 16 ∷ 18 ∷ [])
    ∷ by r1 (triple 2 0 g19 g19) []
    ∷ by r20 (implies g11 g19) []
    ∷ by r16 (triple 2 0 g11 g19) (21 ∷ 20 ∷ 18 ∷ [])
    ∷ by r3 (triple 3 0 g21 g2) []
    ∷ by r30 (inside g22 g20) []
    ∷ by r40 (inside g3 g22) []
    ∷ by r31 (inside g3 g20) (25 ∷ 24 ∷ [])
    ∷ by r30 (inside g23 g20) []
    ∷ by r40 (inside g5 g23) []
    ∷ by r31 (inside g5 g20) (28 ∷ 27 ∷ [])
    ∷ by r1 (triple 3 0 g24 g24) []
    ∷ by r20 (implies g24 g25) []
    ∷ by r20 (implies g24 g24) []
    ∷ by r16 (triple 3 0 g24 g25) (32 ∷ 30 ∷ 31 ∷ [])
    ∷ by r4 (triple 3 0 g27 g28) (33 ∷ [])
    ∷ by r20 (implies g28 g25) []
    ∷ by r46 (inside g12 g12) []
    ∷ by r32 (inside g13 g26) (26 ∷ 36 ∷ [])
    ∷ by r22 (implies g14 g27) (37 ∷ [])
    ∷ by r16 (triple 3 0 g14 g25) (38 ∷ 34 ∷ 35 ∷ [])
    ∷ by r46 (inside g9 g9) []
    ∷ by r36 (inside g9 g12) []
    ∷ by r22 (implies g29 g24) (41 ∷ [])
    ∷ by r20 (implies g29 g25) (42 ∷ [])
    ∷ by r1 (triple 3 0 g29 g29) []
    ∷ by r20 (implies g29 g29) []
    ∷ by r16 (triple 3 0 g29 g25) (45 ∷ 44 ∷ 43 ∷ [])
    ∷ by r4 (triple 3 0 g31 g28) (46 ∷ [])
    ∷ by r32 (inside g15 g30) (29 ∷ 40 ∷ [])
    ∷ by r22 (implies g32 g31) (48 ∷ [])
    ∷ by r16 (triple 3 0 g32 g25) (49 ∷ 47 ∷ 35 ∷ [])
    ∷ by r4 (triple 3 0 g34 g28) (50 ∷ [])
    ∷ by r46 (inside g15 g15) []
    ∷ by r32 (inside g16 g33) (26 ∷ 52 ∷ [])
    ∷ by r22 (implies g17 g34) (53 ∷ [])
    ∷ by r16 (triple 3 0 g17 g25) (54 ∷ 51 ∷ 35 ∷ [])
    ∷ by r40 (inside g9 g35) []
    ∷ by r37 (inside g36 g20) []
    ∷ by r15 (triple 3 0 g18 g37) (39 ∷ 55 ∷ [])
    ∷ by r20 (implies g37 g25) []
    ∷ by r20 (implies g18 g18) []
    ∷ by r16 (triple 3 0 g18 g25) (60 ∷ 58 ∷ 59 ∷ [])
    ∷ by r3 (triple 3 1 g39 g40) []
    ∷ by r30 (inside g35 g38) []
    ∷ by r31 (inside g9 g38) (56 ∷ 63 ∷ [])
    ∷ by r1 (triple 3 1 g41 g41) []
    ∷ by r46 (inside g5 g5) []
    ∷ by r22 (implies g41 g41) (66 ∷ [])
    ∷ by r20 (implies g41 g42) []
    ∷ by r16 (triple 3 1 g41 g42) (67 ∷ 65 ∷ 68 ∷ [])
    ∷ by r4 (triple 3 1 g44 g45) (69 ∷ [])
    ∷ by r20 (implies g45 g42) []
    ∷ by r32 (inside g12 g43) (64 ∷ 66 ∷ [])
    ∷ by r22 (implies g24 g44) (72 ∷ [])
    ∷ by r16 (triple 3 1 g24 g42) (73 ∷ 70 ∷ 71 ∷ [])
    ∷ by r24 (implies g2 g39) []
    ∷ by r20 (implies g40 g42) []
    ∷ by r20 (implies g39 g39) []
    ∷ by r16 (triple 3 1 g39 g42) (77 ∷ 62 ∷ 76 ∷ [])
    ∷ by r15 (triple 3 1 g46 g47) (78 ∷ 74 ∷ [])
    ∷ by r20 (implies g47 g42) []
    ∷ by r20 (implies g25 g46) (75 ∷ [])
    ∷ by r16 (triple 3 1 g25 g42) (81 ∷ 79 ∷ 80 ∷ [])
    ∷ by r46 (inside g10 g10) []
    ∷ by r22 (implies g11 g11) (83 ∷ [])
    ∷ by r20 (implies g48 g19) []
    ∷ by r16 (triple 1 0 g48 g19) (85 ∷ 16 ∷ 18 ∷ [])
    ∷ by r1 (triple 1 0 g2 g2) []
    ∷ by r20 (implies g2 g25) []
    ∷ by r20 (implies g49 g2) []
    ∷ by r16 (triple 1 0 g49 g25) (89 ∷ 87 ∷ 88 ∷ [])
    ∷ by r1 (triple 1 0 g40 g40) []
    ∷ by r20 (implies g50 g40) []
    ∷ by r16 (triple 1 0 g50 g42) (92 ∷ 91 ∷ 76 ∷ [])
    ∷ by r20 (implies g51 g19) []
    ∷ by r16 (triple 2 0 g51 g19) (94 ∷ 20 ∷ 18 ∷ [])
    ∷ by r25 (implies g52 g54) []
    ∷ by r39 (inside g53 g5) []
    ∷ by r31 (inside g53 g23) (97 ∷ 28 ∷ [])
    ∷ by r30 (inside g22 g55) []
    ∷ by r31 (inside g3 g55) (25 ∷ 99 ∷ [])
    ∷ by r30 (inside g35 g55) []
    ∷ by r31 (inside g9 g55) (56 ∷ 101 ∷ [])
    ∷ by r32 (inside g10 g56) (100 ∷ 102 ∷ [])
    ∷ by r37 (inside g56 g55) []
    ∷ by r31 (inside g10 g55) (103 ∷ 104 ∷ [])
    ∷ by r40 (inside g53 g10) []
    ∷ by r31 (inside g53 g55) (106 ∷ 105 ∷ [])
    ∷ by r41 (inside g53 g57) (98 ∷ 107 ∷ [])
    ∷ by r45 (inside g57 g58) []
    ∷ by r31 (inside g53 g58) (108 ∷ 109 ∷ [])
    ∷ by r22 (implies g54 g59) (110 ∷ [])
    ∷ by r23 (implies g59 (holds Formula.false)) []
    ∷ by r20 (implies g54 (holds Formula.false)) (111 ∷ 112 ∷ [])
    ∷ by r20 (implies g52 (holds Formula.false)) (96 ∷ 113 ∷ [])
    ∷ by r1 (triple 2 0 g40 g40) []
    ∷ by r20 (implies g60 g40) (114 ∷ [])
    ∷ by r16 (triple 2 0 g60 g42) (116 ∷ 115 ∷ 76 ∷ [])
    ∷ by r32 (inside g6 g36) (26 ∷ 29 ∷ [])
    ∷ by r31 (inside g6 g20) (118 ∷ 57 ∷ [])
    ∷ by r22 (implies g7 g21) (119 ∷ [])
    ∷ by r1 (triple 3 0 g7 g7) []
    ∷ by r14 (triple 3 0 g61 g8) (23 ∷ 121 ∷ [])
    ∷ by r20 (implies g62 g61) (120 ∷ [])
    ∷ by r20 (implies g8 g8) []
    ∷ by r16 (triple 3 0 g62 g8) (123 ∷ 122 ∷ 124 ∷ [])
    ∷ by r1 (triple 3 0 g19 g19) []
    ∷ by r20 (implies g63 g19) []
    ∷ by r16 (triple 3 0 g63 g19) (127 ∷ 126 ∷ 18 ∷ [])
    ∷ by r1 (triple 3 0 g11 g11) []
    ∷ by r20 (implies g64 g11) []
    ∷ by r16 (triple 3 0 g64 g11) (130 ∷ 129 ∷ 84 ∷ [])
    ∷ by r1 (triple 3 1 g8 g8) []
    ∷ by r20 (implies g65 g8) []
    ∷ by r16 (triple 3 1 g65 g8) (133 ∷ 132 ∷ 124 ∷ [])
    ∷ by r1 (triple 3 1 g19 g19) []
    ∷ by r20 (implies g66 g19) []
    ∷ by r16 (triple 3 1 g66 g19) (136 ∷ 135 ∷ 18 ∷ [])
    ∷ by r1 (triple 3 1 g11 g11) []
    ∷ by r20 (implies g67 g11) []
    ∷ by r16 (triple 3 1 g67 g11) (139 ∷ 138 ∷ 84 ∷ [])
    ∷ by r25 (implies g68 g70) []
    ∷ by r39 (inside g71 g10) []
    ∷ by r31 (inside g71 g55) (142 ∷ 105 ∷ [])
    ∷ by r40 (inside g71 g5) []
    ∷ by r31 (inside g71 g23) (144 ∷ 28 ∷ [])
    ∷ by r41 (inside g71 g72) (143 ∷ 145 ∷ [])
    ∷ by r45 (inside g72 g73) []
    ∷ by r30 (inside g73 (box Formula.false)) []
    ∷ by r31 (inside g71 g73) (146 ∷ 147 ∷ [])
    ∷ by r31 (inside g71 (box Formula.false)) (149 ∷ 148 ∷ [])
    ∷ by r38 (inside g69 g75) []
    ∷ by r40 (inside g74 g3) []
    ∷ by r32 (inside g75 g76) (152 ∷ 150 ∷ [])
    ∷ further [] (inside g76 g3) i57 []
    ∷ by r31 (inside g69 g76) (151 ∷ 153 ∷ [])
    ∷ by r31 (inside g69 g3) (155 ∷ 154 ∷ [])
    ∷ by r39 (inside g3 (one 1)) []
    ∷ by r46 (inside g3 g3) []
    ∷ by r41 (inside g3 g77) (157 ∷ 158 ∷ [])
    ∷ by r31 (inside g69 g77) (156 ∷ 159 ∷ [])
    ∷ by r22 (implies g70 g78) (160 ∷ [])
    ∷ by r20 (implies g79 g78) (141 ∷ 161 ∷ [])
    ∷ further [] (triple 1 0 g78 g11) (i54 refl) []
    ∷ by r16 (triple 1 0 g79 g11) (162 ∷ 163 ∷ 84 ∷ [])
    ∷ by r1 (triple 2 0 g2 g2) []
    ∷ further [] (triple 2 0 g78 g7) (i54 refl) []
    ∷ by r14 (triple 2 0 g80 g8) (165 ∷ 166 ∷ [])
    ∷ by r20 (implies g81 g80) (141 ∷ 161 ∷ [])
    ∷ by r16 (triple 2 0 g81 g8) (168 ∷ 167 ∷ 124 ∷ [])
    ∷ by r39 (inside g5 (one 1)) []
    ∷ by r41 (inside g5 g82) (170 ∷ 66 ∷ [])
    ∷ by r22 (implies g41 g83) (171 ∷ [])
    ∷ further [] (triple 1 0 g83 g32) (i54 refl) []
    ∷ by r20 (implies g32 g32) []
    ∷ by r16 (triple 1 0 g41 g32) (172 ∷ 173 ∷ 174 ∷ [])
    ∷ further (triple 1 0 g41 g32 ∷ []) (triple 1 0 g86 g88) (i55 refl) (175 ∷ [])
    ∷ by r41 (inside g3 g84) (158 ∷ 157 ∷ [])
    ∷ by r32 (inside g6 g85) (177 ∷ 66 ∷ [])
    ∷ further [] (implies g88 g18) (i56 1 tt tt) []
    ∷ by r22 (implies g7 g86) (178 ∷ [])
    ∷ by r20 (implies g89 g86) (180 ∷ [])
    ∷ by r16 (triple 1 0 g89 g18) (181 ∷ 176 ∷ 179 ∷ [])
    ∷ by r39 (inside g9 (one 1)) []
    ∷ by r41 (inside g9 g90) (183 ∷ 40 ∷ [])
    ∷ by r22 (implies g29 g91) (184 ∷ [])
    ∷ further [] (triple 2 0 g91 g24) (i54 refl) []
    ∷ by r16 (triple 2 0 g29 g24) (185 ∷ 186 ∷ 32 ∷ [])
    ∷ further (triple 2 0 g29 g24 ∷ []) (triple 2 0 g93 g95) (i55 refl) (187 ∷ [])
    ∷ by r32 (inside g10 g92) (177 ∷ 40 ∷ [])
    ∷ further [] (implies g95 g96) (i56 1 tt tt) []
    ∷ by r22 (implies g11 g93) (189 ∷ [])
    ∷ by r20 (implies g97 g93) (191 ∷ [])
    ∷ by r20 (implies g95 g18) (190 ∷ [])
    ∷ by r16 (triple 2 0 g97 g18) (192 ∷ 188 ∷ 193 ∷ [])
    ∷ by r15 (triple 2 0 g98 g25) (165 ∷ 186 ∷ [])
    ∷ by r25 (implies g99 g101) []
    ∷ by r38 (inside g100 g103) []
    ∷ by r40 (inside g102 g9) []
    ∷ by r32 (inside g103 g104) (198 ∷ 150 ∷ [])
    ∷ further [] (inside g104 g9) i57 []
    ∷ by r31 (inside g100 g104) (197 ∷ 199 ∷ [])
    ∷ by r31 (inside g100 g9) (201 ∷ 200 ∷ [])
    ∷ by r31 (inside g100 g90) (202 ∷ 184 ∷ [])
    ∷ by r22 (implies g101 g91) (203 ∷ [])
    ∷ by r20 (implies g105 g98) (196 ∷ 204 ∷ [])
    ∷ by r20 (implies g25 g25) []
    ∷ by r16 (triple 2 0 g105 g25) (205 ∷ 195 ∷ 206 ∷ [])
    ∷ []

-- the line that meets each obligation, in order
met_by : List ℕ
met_by = 8 ∷ 11 ∷ 15 ∷ 19 ∷ 22 ∷ 61 ∷ 82 ∷ 164 ∷ 86 ∷ 182 ∷ 90 ∷ 93 ∷ 169 ∷ 95 ∷ 194 ∷ 207 ∷ 117 ∷ 125 ∷ 128 ∷ 131 ∷ 128 ∷ 134 ∷ 137 ∷ 140 ∷ 137 ∷ []

-- THE THEOREM
pub rrc_two_writers_run : EveryRun (program_of rrc_two_writers) (outline_of rrc_two_writers)
unfolding lines met_by upd same choose is_in distinct same_name same_leaf ℕ_discrete
rrc_two_writers_run = certified_run rrc_two_writers lines met_by tt tt
