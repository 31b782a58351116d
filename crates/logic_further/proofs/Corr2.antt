-- Read-read coherence with two writers and two readers: by an outline that says more, so the one of the gallery.
use mathlib.Core.Path.{refl}
use mathlib.Core.List.{List, [], ◌∷◌}
use Prim.Native.Nat.{ℕ}
use Rattle.semantics.specs.Formula.{Formula, Assertion, Interval, Formula.const, Formula.reg, Formula.word, Formula.equal, Formula.and, Formula.or, Formula.box, Formula.one, Formula.chop, Formula.both, Formula.either, Formula.sees, Formula.both_a, Formula.either_a, Formula.start, Formula.holds}
use Rattle.semantics.specs.EveryRun.{EveryRun}
use Rattle.semantics.specs.Formula.{same}
use Rattle.logic.specs.Rows.{choose, is_in, distinct, same_name}
use Rattle.logic.specs.Table.{same_leaf}
use Rattle.semantics.specs.Base.{upd}
use native.Mathlib.Decide.{ℕ_discrete}
use Rattle.logic.specs.Statement.{inside, implies, triple}
use Rattle.logic.specs.Rule.{r1, r3, r4, r14, r15, r16, r20, r21, r22, r24, r25, r26, r27, r30, r31, r32, r36, r37, r38, r39, r40, r41, r45, r46}
use Rattle.logic.specs.Inference.{newest}
use Rattle.logic_further.specs.Further.{i53, i54, i55, i56, i57}
use Rattle.logic_further.specs.Example.{program_of, outline_of}
use Rattle.logic_further.specs.Certificate.{Line, by, further}
use Rattle.logic_further.specs.Programs.{corr2_stronger}
use Rattle.logic_further.proofs.Certified.{certified_run}

-- FORMULAS of the lines
abbrev g1 : Assertion
g1 = holds (equal (reg 1) (const 0))

abbrev g2 : Assertion
g2 = holds (Formula.not (equal (reg 1) (const 1)))

abbrev g3 : Assertion
g3 = holds (equal (reg 4) (const 0))

abbrev g4 : Assertion
g4 = holds (Formula.not (equal (reg 4) (const 1)))

abbrev g5 : Interval
g5 = newest 1 (const 0)

abbrev g6 : Assertion
g6 = sees 3 g5

abbrev g7 : Interval
g7 = newest 1 (const 2)

abbrev g8 : Interval
g8 = chop g5 g7

abbrev g9 : Assertion
g9 = sees 3 g8

abbrev g10 : Assertion
g10 = sees 4 g5

abbrev g11 : Assertion
g11 = sees 4 g8

abbrev g12 : Assertion
g12 = both_a g9 g11

abbrev g13 : Assertion
g13 = both_a g4 g12

abbrev g14 : Assertion
g14 = both_a g2 g13

abbrev g15 : Assertion
g15 = holds (equal (reg 2) (const 0))

abbrev g16 : Assertion
g16 = holds (Formula.not (equal (reg 2) (const 2)))

abbrev g17 : Assertion
g17 = holds (equal (reg 3) (const 0))

abbrev g18 : Assertion
g18 = holds (Formula.not (equal (reg 3) (const 2)))

abbrev g19 : Interval
g19 = newest 1 (const 1)

abbrev g20 : Interval
g20 = chop g5 g19

abbrev g21 : Assertion
g21 = sees 3 g20

abbrev g22 : Assertion
g22 = sees 4 g20

abbrev g23 : Assertion
g23 = both_a g21 g22

abbrev g24 : Assertion
g24 = both_a g18 g23

abbrev g25 : Assertion
g25 = both_a g16 g24

abbrev g26 : Interval
g26 = chop g19 g7

abbrev g27 : Interval
g27 = chop g5 g26

abbrev g28 : Assertion
g28 = sees 3 g27

abbrev g29 : Interval
g29 = chop g7 g19

abbrev g30 : Interval
g30 = chop g5 g29

abbrev g31 : Assertion
g31 = sees 3 g30

abbrev g32 : Assertion
g32 = either_a g28 g31

abbrev g33 : Assertion
g33 = sees 4 g19

abbrev g34 : Assertion
g34 = either_a g4 g33

abbrev g35 : Assertion
g35 = either_a g18 g34

abbrev g36 : Assertion
g36 = both_a g32 g35

abbrev g37 : Assertion
g37 = sees 4 g27

abbrev g38 : Assertion
g38 = sees 4 g30

abbrev g39 : Assertion
g39 = either_a g37 g38

abbrev g40 : Assertion
g40 = both_a g39 g4

abbrev g41 : Assertion
g41 = holds (Formula.not Formula.false)

abbrev g42 : Interval
g42 = box (Formula.not (equal (word 1) (const 1)))

abbrev g43 : Assertion
g43 = sees 3 g42

abbrev g44 : Interval
g44 = box (equal (word 1) (const 0))

abbrev g45 : Interval
g45 = box (equal (word 1) (const 2))

abbrev g46 : Assertion
g46 = sees 3 g26

abbrev g47 : Assertion
g47 = either_a g2 g46

abbrev g48 : Interval
g48 = chop g42 g26

abbrev g49 : Assertion
g49 = sees 3 g48

abbrev g50 : Assertion
g50 = either_a g2 g47

abbrev g51 : Assertion
g51 = sees 3 g19

abbrev g52 : Interval
g52 = chop g42 g19

abbrev g53 : Assertion
g53 = sees 3 g52

abbrev g54 : Assertion
g54 = sees 3 g29

abbrev g55 : Interval
g55 = chop g42 g29

abbrev g56 : Assertion
g56 = sees 3 g55

abbrev g57 : Interval
g57 = box (equal (word 1) (const 1))

abbrev g58 : Interval
g58 = chop g42 g42

abbrev g59 : Assertion
g59 = either_a g47 g47

abbrev g60 : Assertion
g60 = both_a g47 g35

abbrev g61 : Interval
g61 = box (Formula.not (equal (word 1) (const 2)))

abbrev g62 : Assertion
g62 = sees 3 g61

abbrev g63 : Assertion
g63 = sees 4 g61

abbrev g64 : Assertion
g64 = sees 4 g29

abbrev g65 : Assertion
g65 = sees 4 g7

abbrev g66 : Assertion
g66 = either_a g18 g64

abbrev g67 : Interval
g67 = chop g61 g7

abbrev g68 : Assertion
g68 = sees 4 g67

abbrev g69 : Assertion
g69 = either_a g18 g66

abbrev g70 : Assertion
g70 = sees 4 g26

abbrev g71 : Interval
g71 = chop g61 g26

abbrev g72 : Assertion
g72 = sees 4 g71

abbrev g73 : Interval
g73 = chop g61 g29

abbrev g74 : Assertion
g74 = sees 4 g73

abbrev g75 : Interval
g75 = chop g61 g61

abbrev g76 : Assertion
g76 = either_a g66 g66

abbrev g77 : Assertion
g77 = both_a g66 g4

abbrev g78 : Interval
g78 = box (Formula.not (and (equal (reg 3) (const 2)) (equal (word 1) (const 1))))

abbrev g79 : Assertion
g79 = sees 4 g78

abbrev g80 : Assertion
g80 = holds (Formula.not (and (equal (reg 3) (const 2)) (equal (reg 4) (const 1))))

abbrev g81 : Assertion
g81 = sees 4 g42

abbrev g82 : Assertion
g82 = either_a g80 g33

abbrev g83 : Interval
g83 = chop g78 g19

abbrev g84 : Assertion
g84 = sees 4 g83

abbrev g85 : Assertion
g85 = either_a g80 g82

abbrev g86 : Assertion
g86 = either_a g79 g64

abbrev g87 : Assertion
g87 = either_a g82 g82

abbrev g88 : Assertion
g88 = both_a g41 g14

abbrev g89 : Assertion
g89 = either_a g18 g4

abbrev g90 : Assertion
g90 = both_a g2 g89

abbrev g91 : Assertion
g91 = both_a g60 g14

abbrev g92 : Assertion
g92 = holds (Formula.not (and (equal (reg 1) (const 1)) (equal (reg 2) (const 2))))

abbrev g93 : Assertion
g93 = holds (or (Formula.not (equal (reg 1) (const 1))) (or (Formula.not (equal (reg 2) (const 2))) (or (Formula.not (equal (reg 3) (const 2))) (Formula.not (equal (reg 4) (const 1))))))

abbrev g94 : Assertion
g94 = sees 3 g7

abbrev g95 : Assertion
g95 = either_a g92 g94

abbrev g96 : Assertion
g96 = both_a g92 g93

abbrev g97 : Assertion
g97 = both_a g95 g93

abbrev g98 : Assertion
g98 = both_a g97 g14

abbrev g99 : Assertion
g99 = both_a g82 g14

abbrev g100 : Assertion
g100 = both_a g41 g25

abbrev g101 : Assertion
g101 = both_a g97 g25

abbrev g102 : Assertion
g102 = both_a g18 g4

abbrev g103 : Assertion
g103 = both_a g77 g25

abbrev g104 : Assertion
g104 = both_a g82 g25

abbrev g105 : Assertion
g105 = both_a g43 g13

abbrev g106 : Assertion
g106 = both_a g14 g36

abbrev g107 : Assertion
g107 = both_a g41 g36

abbrev g108 : Assertion
g108 = both_a g25 g36

abbrev g109 : Assertion
g109 = both_a g40 g36

abbrev g110 : Assertion
g110 = both_a g77 g36

abbrev g111 : Assertion
g111 = both_a g82 g36

abbrev g112 : Assertion
g112 = both_a g14 g60

abbrev g113 : Assertion
g113 = both_a g41 g60

abbrev g114 : Assertion
g114 = both_a g62 g24

abbrev g115 : Assertion
g115 = both_a g25 g60

abbrev g116 : Assertion
g116 = both_a g40 g60

abbrev g117 : Assertion
g117 = both_a g77 g60

abbrev g118 : Assertion
g118 = both_a g82 g60

abbrev g119 : Assertion
g119 = both_a g14 g40

abbrev g120 : Assertion
g120 = both_a g41 g40

abbrev g121 : Assertion
g121 = both_a g63 g23

abbrev g122 : Assertion
g122 = both_a g16 g121

abbrev g123 : Assertion
g123 = both_a g25 g40

abbrev g124 : Assertion
g124 = both_a g32 g34

abbrev g125 : Assertion
g125 = both_a g36 g40

abbrev g126 : Assertion
g126 = both_a g47 g34

abbrev g127 : Assertion
g127 = both_a g60 g40

abbrev g128 : Interval
g128 = box (or (Formula.not (equal (reg 1) (const 1))) (or (Formula.not (equal (reg 2) (const 2))) (or (Formula.not (equal (word 1) (const 2))) (Formula.not (equal (reg 4) (const 1))))))

abbrev g129 : Assertion
g129 = sees 4 g128

abbrev g130 : Assertion
g130 = holds (and (Formula.not (equal (reg 1) (const 1))) (and (Formula.not (equal (reg 2) (const 2))) (Formula.not (equal (reg 4) (const 1)))))

abbrev g131 : Assertion
g131 = holds (and (equal (reg 1) (const 1)) (and (Formula.not (equal (reg 2) (const 2))) (Formula.not (equal (reg 4) (const 1)))))

abbrev g132 : Assertion
g132 = holds (and (Formula.not (equal (reg 1) (const 1))) (and (equal (reg 2) (const 2)) (Formula.not (equal (reg 4) (const 1)))))

abbrev g133 : Assertion
g133 = holds (and (equal (reg 1) (const 1)) (and (equal (reg 2) (const 2)) (Formula.not (equal (reg 4) (const 1)))))

abbrev g134 : Assertion
g134 = both_a g95 g129

abbrev g135 : Assertion
g135 = both_a g97 g40

abbrev g136 : Assertion
g136 = both_a g81 g12

abbrev g137 : Assertion
g137 = both_a g2 g136

abbrev g138 : Assertion
g138 = both_a g14 g77

abbrev g139 : Assertion
g139 = both_a g41 g77

abbrev g140 : Assertion
g140 = both_a g25 g77

abbrev g141 : Assertion
g141 = sees 4 g52

abbrev g142 : Assertion
g142 = either_a g4 g34

abbrev g143 : Assertion
g143 = both_a g32 g66

abbrev g144 : Assertion
g144 = both_a g36 g77

abbrev g145 : Assertion
g145 = both_a g47 g66

abbrev g146 : Assertion
g146 = both_a g60 g77

abbrev g147 : Assertion
g147 = both_a g21 g9

abbrev g148 : Interval
g148 = both g20 g8

abbrev g149 : Assertion
g149 = sees 3 g148

abbrev g150 : Interval
g150 = box (or (equal (word 1) (const 0)) (equal (word 1) (const 1)))

abbrev g151 : Interval
g151 = chop g150 g150

abbrev g152 : Interval
g152 = both g20 g7

abbrev g153 : Interval
g153 = both g150 g45

abbrev g154 : Interval
g154 = box (and (or (equal (word 1) (const 0)) (equal (word 1) (const 1))) (equal (word 1) (const 2)))

abbrev g155 : Interval
g155 = both g20 g5

abbrev g156 : Interval
g156 = chop g155 g152

abbrev g157 : Interval
g157 = chop g5 (box Formula.false)

abbrev g158 : Interval
g158 = both (one 1) g5

abbrev g159 : Assertion
g159 = sees 3 g158

abbrev g160 : Assertion
g160 = both_a g22 g11

abbrev g161 : Assertion
g161 = sees 4 g148

abbrev g162 : Assertion
g162 = sees 4 g158

abbrev g163 : Assertion
g163 = both_a g159 g162

abbrev g164 : Assertion
g164 = both_a g18 g163

abbrev g165 : Assertion
g165 = both_a g16 g164

abbrev g166 : Assertion
g166 = both_a g147 g160

abbrev g167 : Assertion
g167 = both_a g18 g166

abbrev g168 : Assertion
g168 = both_a g16 g167

abbrev g169 : Assertion
g169 = both_a g25 g14

abbrev g170 : Assertion
g170 = both_a g4 g163

abbrev g171 : Assertion
g171 = both_a g2 g170

abbrev g172 : Assertion
g172 = both_a g4 g166

abbrev g173 : Assertion
g173 = both_a g2 g172

abbrev g174 : Assertion
g174 = both_a g14 g25

abbrev g175 : Interval
g175 = both (one 1) g7

abbrev g176 : Assertion
g176 = sees 3 g175

abbrev g177 : Interval
g177 = both g5 (one 1)

abbrev g178 : Interval
g178 = chop g177 g7

abbrev g179 : Assertion
g179 = sees 3 g178

abbrev g180 : Interval
g180 = either g27 g30

abbrev g181 : Assertion
g181 = sees 3 g180

abbrev g182 : Assertion
g182 = both_a g179 g4

abbrev g183 : Assertion
g183 = both_a g181 g4

abbrev g184 : Assertion
g184 = both_a g36 g14

abbrev g185 : Interval
g185 = both (one 1) g19

abbrev g186 : Assertion
g186 = sees 3 g185

abbrev g187 : Interval
g187 = chop g177 g19

abbrev g188 : Assertion
g188 = sees 3 g187

abbrev g189 : Interval
g189 = either g30 g27

abbrev g190 : Assertion
g190 = sees 3 g189

abbrev g191 : Assertion
g191 = either_a g31 g28

abbrev g192 : Assertion
g192 = both_a g188 g18

abbrev g193 : Assertion
g193 = both_a g190 g18

abbrev g194 : Assertion
g194 = both_a g36 g25

abbrev g195 : Assertion
g195 = sees 4 g175

abbrev g196 : Assertion
g196 = sees 4 g178

abbrev g197 : Assertion
g197 = sees 4 g180

abbrev g198 : Assertion
g198 = both_a g196 g4

abbrev g199 : Assertion
g199 = both_a g197 g4

abbrev g200 : Assertion
g200 = both_a g40 g14

abbrev g201 : Assertion
g201 = sees 4 g185

abbrev g202 : Assertion
g202 = sees 4 g187

abbrev g203 : Assertion
g203 = sees 4 g189

abbrev g204 : Assertion
g204 = either_a g38 g37

abbrev g205 : Assertion
g205 = both_a g202 g4

abbrev g206 : Assertion
g206 = both_a g203 g4

abbrev g207 : Assertion
g207 = both_a g40 g25

abbrev g208 : Assertion
g208 = either_a g18 g195

abbrev g209 : Assertion
g209 = both_a g208 g4

abbrev g210 : Assertion
g210 = both_a g11 g64

abbrev g211 : Interval
g211 = both g8 g29

abbrev g212 : Assertion
g212 = sees 4 g211

abbrev g213 : Interval
g213 = box (or (equal (word 1) (const 0)) (equal (word 1) (const 2)))

abbrev g214 : Interval
g214 = chop g213 g213

abbrev g215 : Interval
g215 = both g8 g19

abbrev g216 : Interval
g216 = both g213 g57

abbrev g217 : Interval
g217 = box (and (or (equal (word 1) (const 0)) (equal (word 1) (const 2))) (equal (word 1) (const 1)))

abbrev g218 : Interval
g218 = both g8 g7

abbrev g219 : Interval
g219 = chop g218 g215

abbrev g220 : Interval
g220 = chop g7 (box Formula.false)

abbrev g221 : Assertion
g221 = both_a g77 g14

abbrev g222 : Assertion
g222 = either_a g2 g186

abbrev g223 : Assertion
g223 = both_a g222 g18

abbrev g224 : Assertion
g224 = both_a g47 g18

abbrev g225 : Assertion
g225 = both_a g21 g46

abbrev g226 : Interval
g226 = both g20 g26

abbrev g227 : Assertion
g227 = sees 3 g226

abbrev g228 : Interval
g228 = both g20 g19

abbrev g229 : Interval
g229 = chop g228 g152

abbrev g230 : Interval
g230 = chop g19 (box Formula.false)

abbrev g231 : Assertion
g231 = both_a g60 g25

abbrev g232 : Assertion
g232 = both_a g94 g33

abbrev g233 : Interval
g233 = box (Formula.not (and (equal (reg 1) (const 1)) (equal (word 1) (const 2))))

abbrev g234 : Interval
g234 = chop g233 g7

abbrev g235 : Assertion
g235 = sees 3 g234

abbrev g236 : Assertion
g236 = either_a g2 g95

abbrev g237 : Assertion
g237 = both_a g236 g35

abbrev g238 : Assertion
g238 = both_a g95 g66

abbrev g239 : Assertion
g239 = both_a g95 g35

abbrev g240 : Assertion
g240 = both_a g97 g77

-- the lines, from 1
lines : List (Line (program_of corr2_stronger))
unfolding upd distinct is_in same_name ℕ_discrete choose
lines =
    by r27 (implies start g1) []
    ∷ by r21 (implies g1 g2) []
    ∷ by r20 (implies start g2) (1 ∷ 2 ∷ [])
    ∷ by r27 (implies start g3) []
    ∷ by r21 (implies g3 g4) []
    ∷ by r20 (implies start g4) (4 ∷ 5 ∷ [])
    ∷ by r26 (implies start g6) []
    ∷ by r36 (inside g5 g8) []
    ∷ by r22 (implies g6 g9) (8 ∷ [])
    ∷ by r20 (implies start g9) (7 ∷ 9 ∷ [])
    ∷ by r26 (implies start g10) []
    ∷ by r22 (implies g10 g11) (8 ∷ [])
    ∷ by r20 (implies start g11) (11 ∷ 12 ∷ [])
    ∷ by r20 (implies start g14) (3 ∷ 6 ∷ 10 ∷ 13 ∷ [])
    ∷ by r27 (implies start g15) []
    ∷ by r21 (implies g15 g16) []
    ∷ by r20 (implies start g16) (15 ∷ 16 ∷ [])
    ∷ by r27 (implies start g17) []
    ∷ by r21 (implies g17 g18) []
    ∷ by r20 (implies start g18) (18 ∷ 19 ∷ [])
    ∷ by r36 (inside g5 g20) []
    ∷ by r22 (implies g6 g21) (21 ∷ [])
    ∷ by r20 (implies start g21) (7 ∷ 22 ∷ [])
    ∷ by r22 (implies g10 g22) (21 ∷ [])
    ∷ by r20 (implies start g22) (11 ∷ 24 ∷ [])
    ∷ by r20 (implies start g25) (17 ∷ 20 ∷ 23 ∷ 25 ∷ [])
    ∷ by r36 (inside g5 g27) []
    ∷ by r22 (implies g6 g28) (27 ∷ [])
    ∷ by r20 (implies start g28) (7 ∷ 28 ∷ [])
    ∷ by r20 (implies start g36) (29 ∷ 20 ∷ [])
    ∷ by r22 (implies g10 g37) (27 ∷ [])
    ∷ by r20 (implies start g37) (11 ∷ 31 ∷ [])
    ∷ by r20 (implies start g40) (32 ∷ 6 ∷ [])
    ∷ by r1 (triple 1 0 g41 g41) []
    ∷ by r20 (implies g14 g41) []
    ∷ by r20 (implies g41 g41) []
    ∷ by r16 (triple 1 0 g14 g41) (35 ∷ 34 ∷ 36 ∷ [])
    ∷ by r1 (triple 2 0 g41 g41) []
    ∷ by r20 (implies g25 g41) []
    ∷ by r16 (triple 2 0 g25 g41) (39 ∷ 38 ∷ 36 ∷ [])
    ∷ by r3 (triple 3 0 g43 g2) []
    ∷ by r30 (inside g44 g42) []
    ∷ by r40 (inside g5 g44) []
    ∷ by r31 (inside g5 g42) (43 ∷ 42 ∷ [])
    ∷ by r30 (inside g45 g42) []
    ∷ by r40 (inside g7 g45) []
    ∷ by r31 (inside g7 g42) (46 ∷ 45 ∷ [])
    ∷ by r1 (triple 3 0 g46 g46) []
    ∷ by r20 (implies g46 g47) []
    ∷ by r20 (implies g46 g46) []
    ∷ by r16 (triple 3 0 g46 g47) (50 ∷ 48 ∷ 49 ∷ [])
    ∷ by r4 (triple 3 0 g49 g50) (51 ∷ [])
    ∷ by r20 (implies g50 g47) []
    ∷ by r46 (inside g26 g26) []
    ∷ by r32 (inside g27 g48) (44 ∷ 54 ∷ [])
    ∷ by r22 (implies g28 g49) (55 ∷ [])
    ∷ by r16 (triple 3 0 g28 g47) (56 ∷ 52 ∷ 53 ∷ [])
    ∷ by r46 (inside g19 g19) []
    ∷ by r36 (inside g19 g26) []
    ∷ by r22 (implies g51 g46) (59 ∷ [])
    ∷ by r20 (implies g51 g47) (60 ∷ [])
    ∷ by r1 (triple 3 0 g51 g51) []
    ∷ by r20 (implies g51 g51) []
    ∷ by r16 (triple 3 0 g51 g47) (63 ∷ 62 ∷ 61 ∷ [])
    ∷ by r4 (triple 3 0 g53 g50) (64 ∷ [])
    ∷ by r32 (inside g29 g52) (47 ∷ 58 ∷ [])
    ∷ by r22 (implies g54 g53) (66 ∷ [])
    ∷ by r16 (triple 3 0 g54 g47) (67 ∷ 65 ∷ 53 ∷ [])
    ∷ by r4 (triple 3 0 g56 g50) (68 ∷ [])
    ∷ by r46 (inside g29 g29) []
    ∷ by r32 (inside g30 g55) (44 ∷ 70 ∷ [])
    ∷ by r22 (implies g31 g56) (71 ∷ [])
    ∷ by r16 (triple 3 0 g31 g47) (72 ∷ 69 ∷ 53 ∷ [])
    ∷ by r40 (inside g19 g57) []
    ∷ by r37 (inside g58 g42) []
    ∷ by r1 (triple 3 0 g35 g35) []
    ∷ by r22 (implies g33 g33) (58 ∷ [])
    ∷ by r15 (triple 3 0 g32 g59) (57 ∷ 73 ∷ [])
    ∷ by r20 (implies g59 g47) []
    ∷ by r20 (implies g32 g32) []
    ∷ by r16 (triple 3 0 g32 g47) (80 ∷ 78 ∷ 79 ∷ [])
    ∷ by r14 (triple 3 0 g36 g60) (81 ∷ 76 ∷ [])
    ∷ by r3 (triple 3 1 g62 g16) []
    ∷ by r30 (inside g57 g61) []
    ∷ by r31 (inside g19 g61) (74 ∷ 84 ∷ [])
    ∷ by r46 (inside g7 g7) []
    ∷ by r3 (triple 4 0 g63 g18) []
    ∷ by r30 (inside g44 g61) []
    ∷ by r31 (inside g5 g61) (43 ∷ 88 ∷ [])
    ∷ by r1 (triple 4 0 g64 g64) []
    ∷ by r36 (inside g7 g29) []
    ∷ by r22 (implies g65 g64) (91 ∷ [])
    ∷ by r20 (implies g65 g66) (92 ∷ [])
    ∷ by r1 (triple 4 0 g65 g65) []
    ∷ by r20 (implies g65 g65) []
    ∷ by r16 (triple 4 0 g65 g66) (95 ∷ 94 ∷ 93 ∷ [])
    ∷ by r4 (triple 4 0 g68 g69) (96 ∷ [])
    ∷ by r20 (implies g69 g66) []
    ∷ by r32 (inside g26 g67) (85 ∷ 86 ∷ [])
    ∷ by r22 (implies g70 g68) (99 ∷ [])
    ∷ by r16 (triple 4 0 g70 g66) (100 ∷ 97 ∷ 98 ∷ [])
    ∷ by r4 (triple 4 0 g72 g69) (101 ∷ [])
    ∷ by r32 (inside g27 g71) (89 ∷ 54 ∷ [])
    ∷ by r22 (implies g37 g72) (103 ∷ [])
    ∷ by r16 (triple 4 0 g37 g66) (104 ∷ 102 ∷ 98 ∷ [])
    ∷ by r20 (implies g64 g66) []
    ∷ by r20 (implies g64 g64) []
    ∷ by r16 (triple 4 0 g64 g66) (107 ∷ 90 ∷ 106 ∷ [])
    ∷ by r4 (triple 4 0 g74 g69) (108 ∷ [])
    ∷ by r32 (inside g30 g73) (89 ∷ 70 ∷ [])
    ∷ by r22 (implies g38 g74) (110 ∷ [])
    ∷ by r16 (triple 4 0 g38 g66) (111 ∷ 109 ∷ 98 ∷ [])
    ∷ by r37 (inside g75 g61) []
    ∷ by r1 (triple 4 0 g4 g4) []
    ∷ by r15 (triple 4 0 g39 g76) (105 ∷ 112 ∷ [])
    ∷ by r20 (implies g76 g66) []
    ∷ by r20 (implies g39 g39) []
    ∷ by r16 (triple 4 0 g39 g66) (117 ∷ 115 ∷ 116 ∷ [])
    ∷ by r14 (triple 4 0 g40 g77) (118 ∷ 114 ∷ [])
    ∷ by r3 (triple 4 1 g79 g80) []
    ∷ by r1 (triple 4 1 g18 g18) []
    ∷ by r3 (triple 4 1 g81 g4) []
    ∷ by r30 (inside g45 g78) []
    ∷ by r31 (inside g7 g78) (46 ∷ 123 ∷ [])
    ∷ by r1 (triple 4 1 g33 g33) []
    ∷ by r20 (implies g33 g82) []
    ∷ by r16 (triple 4 1 g33 g82) (77 ∷ 125 ∷ 126 ∷ [])
    ∷ by r4 (triple 4 1 g84 g85) (127 ∷ [])
    ∷ by r20 (implies g85 g82) []
    ∷ by r32 (inside g29 g83) (124 ∷ 58 ∷ [])
    ∷ by r22 (implies g64 g84) (130 ∷ [])
    ∷ by r16 (triple 4 1 g64 g82) (131 ∷ 128 ∷ 129 ∷ [])
    ∷ by r24 (implies g18 g79) []
    ∷ by r20 (implies g80 g82) []
    ∷ by r20 (implies g79 g79) []
    ∷ by r16 (triple 4 1 g79 g82) (135 ∷ 120 ∷ 134 ∷ [])
    ∷ by r15 (triple 4 1 g86 g87) (136 ∷ 132 ∷ [])
    ∷ by r20 (implies g87 g82) []
    ∷ by r20 (implies g77 g86) (133 ∷ [])
    ∷ by r16 (triple 4 1 g77 g82) (139 ∷ 137 ∷ 138 ∷ [])
    ∷ by r1 (triple 1 0 g18 g18) []
    ∷ by r20 (implies g88 g41) []
    ∷ by r16 (triple 1 0 g88 g41) (142 ∷ 34 ∷ 36 ∷ [])
    ∷ by r1 (triple 1 0 g4 g4) []
    ∷ by r1 (triple 1 0 g2 g2) []
    ∷ by r20 (implies g2 g47) []
    ∷ by r20 (implies g4 g34) []
    ∷ by r20 (implies g4 g4) []
    ∷ by r16 (triple 1 0 g4 g34) (148 ∷ 144 ∷ 147 ∷ [])
    ∷ by r15 (triple 1 0 g89 g35) (141 ∷ 149 ∷ [])
    ∷ by r20 (implies g2 g2) []
    ∷ by r16 (triple 1 0 g2 g47) (151 ∷ 145 ∷ 146 ∷ [])
    ∷ by r14 (triple 1 0 g90 g60) (152 ∷ 150 ∷ [])
    ∷ by r20 (implies g91 g90) []
    ∷ by r20 (implies g60 g60) []
    ∷ by r16 (triple 1 0 g91 g60) (154 ∷ 153 ∷ 155 ∷ [])
    ∷ by r1 (triple 1 0 g92 g92) []
    ∷ by r1 (triple 1 0 g93 g93) []
    ∷ by r20 (implies g92 g95) []
    ∷ by r20 (implies g92 g92) []
    ∷ by r16 (triple 1 0 g92 g95) (160 ∷ 157 ∷ 159 ∷ [])
    ∷ by r14 (triple 1 0 g96 g97) (161 ∷ 158 ∷ [])
    ∷ by r20 (implies g98 g96) []
    ∷ by r20 (implies g97 g97) []
    ∷ by r16 (triple 1 0 g98 g97) (163 ∷ 162 ∷ 164 ∷ [])
    ∷ by r1 (triple 1 0 g80 g80) []
    ∷ by r20 (implies g99 g80) []
    ∷ by r16 (triple 1 0 g99 g82) (167 ∷ 166 ∷ 134 ∷ [])
    ∷ by r1 (triple 2 0 g4 g4) []
    ∷ by r20 (implies g100 g41) []
    ∷ by r16 (triple 2 0 g100 g41) (170 ∷ 38 ∷ 36 ∷ [])
    ∷ by r1 (triple 2 0 g18 g18) []
    ∷ by r1 (triple 2 0 g92 g92) []
    ∷ by r1 (triple 2 0 g93 g93) []
    ∷ by r16 (triple 2 0 g92 g95) (160 ∷ 173 ∷ 159 ∷ [])
    ∷ by r14 (triple 2 0 g96 g97) (175 ∷ 174 ∷ [])
    ∷ by r20 (implies g101 g96) []
    ∷ by r16 (triple 2 0 g101 g97) (177 ∷ 176 ∷ 164 ∷ [])
    ∷ by r20 (implies g18 g66) []
    ∷ by r20 (implies g18 g18) []
    ∷ by r16 (triple 2 0 g18 g66) (180 ∷ 172 ∷ 179 ∷ [])
    ∷ by r14 (triple 2 0 g102 g77) (181 ∷ 169 ∷ [])
    ∷ by r20 (implies g103 g102) []
    ∷ by r20 (implies g77 g77) []
    ∷ by r16 (triple 2 0 g103 g77) (183 ∷ 182 ∷ 184 ∷ [])
    ∷ by r1 (triple 2 0 g80 g80) []
    ∷ by r20 (implies g104 g80) []
    ∷ by r16 (triple 2 0 g104 g82) (187 ∷ 186 ∷ 134 ∷ [])
    ∷ by r32 (inside g8 g58) (44 ∷ 47 ∷ [])
    ∷ by r31 (inside g8 g42) (189 ∷ 75 ∷ [])
    ∷ by r22 (implies g9 g43) (190 ∷ [])
    ∷ by r1 (triple 3 0 g13 g13) []
    ∷ by r14 (triple 3 0 g105 g14) (41 ∷ 192 ∷ [])
    ∷ by r20 (implies g106 g105) (191 ∷ [])
    ∷ by r20 (implies g14 g14) []
    ∷ by r16 (triple 3 0 g106 g14) (194 ∷ 193 ∷ 195 ∷ [])
    ∷ by r1 (triple 3 0 g41 g41) []
    ∷ by r20 (implies g107 g41) []
    ∷ by r16 (triple 3 0 g107 g41) (198 ∷ 197 ∷ 36 ∷ [])
    ∷ by r1 (triple 3 0 g25 g25) []
    ∷ by r20 (implies g108 g25) []
    ∷ by r20 (implies g25 g25) []
    ∷ by r16 (triple 3 0 g108 g25) (201 ∷ 200 ∷ 202 ∷ [])
    ∷ by r1 (triple 3 0 g40 g40) []
    ∷ by r20 (implies g109 g40) []
    ∷ by r20 (implies g40 g40) []
    ∷ by r16 (triple 3 0 g109 g40) (205 ∷ 204 ∷ 206 ∷ [])
    ∷ by r1 (triple 3 0 g77 g77) []
    ∷ by r20 (implies g110 g77) []
    ∷ by r16 (triple 3 0 g110 g77) (209 ∷ 208 ∷ 184 ∷ [])
    ∷ by r1 (triple 3 0 g82 g82) []
    ∷ by r20 (implies g111 g82) []
    ∷ by r20 (implies g82 g82) []
    ∷ by r16 (triple 3 0 g111 g82) (212 ∷ 211 ∷ 213 ∷ [])
    ∷ by r1 (triple 3 1 g14 g14) []
    ∷ by r20 (implies g112 g14) []
    ∷ by r16 (triple 3 1 g112 g14) (216 ∷ 215 ∷ 195 ∷ [])
    ∷ by r1 (triple 3 1 g41 g41) []
    ∷ by r20 (implies g113 g41) []
    ∷ by r16 (triple 3 1 g113 g41) (219 ∷ 218 ∷ 36 ∷ [])
    ∷ by r32 (inside g20 g75) (89 ∷ 85 ∷ [])
    ∷ by r31 (inside g20 g61) (221 ∷ 113 ∷ [])
    ∷ by r22 (implies g21 g62) (222 ∷ [])
    ∷ by r1 (triple 3 1 g24 g24) []
    ∷ by r14 (triple 3 1 g114 g25) (83 ∷ 224 ∷ [])
    ∷ by r20 (implies g115 g114) (223 ∷ [])
    ∷ by r16 (triple 3 1 g115 g25) (226 ∷ 225 ∷ 202 ∷ [])
    ∷ by r1 (triple 3 1 g40 g40) []
    ∷ by r20 (implies g116 g40) []
    ∷ by r16 (triple 3 1 g116 g40) (229 ∷ 228 ∷ 206 ∷ [])
    ∷ by r1 (triple 3 1 g77 g77) []
    ∷ by r20 (implies g117 g77) []
    ∷ by r16 (triple 3 1 g117 g77) (232 ∷ 231 ∷ 184 ∷ [])
    ∷ by r1 (triple 3 1 g82 g82) []
    ∷ by r20 (implies g118 g82) []
    ∷ by r16 (triple 3 1 g118 g82) (235 ∷ 234 ∷ 213 ∷ [])
    ∷ by r1 (triple 4 0 g14 g14) []
    ∷ by r20 (implies g119 g14) []
    ∷ by r16 (triple 4 0 g119 g14) (238 ∷ 237 ∷ 195 ∷ [])
    ∷ by r1 (triple 4 0 g41 g41) []
    ∷ by r20 (implies g120 g41) []
    ∷ by r16 (triple 4 0 g120 g41) (241 ∷ 240 ∷ 36 ∷ [])
    ∷ by r1 (triple 4 0 g16 g16) []
    ∷ by r22 (implies g22 g63) (222 ∷ [])
    ∷ by r1 (triple 4 0 g23 g23) []
    ∷ by r14 (triple 4 0 g121 g24) (87 ∷ 245 ∷ [])
    ∷ by r14 (triple 4 0 g122 g25) (243 ∷ 246 ∷ [])
    ∷ by r20 (implies g123 g122) (244 ∷ [])
    ∷ by r16 (triple 4 0 g123 g25) (248 ∷ 247 ∷ 202 ∷ [])
    ∷ by r1 (triple 4 0 g32 g32) []
    ∷ by r1 (triple 4 0 g34 g34) []
    ∷ by r20 (implies g33 g34) []
    ∷ by r20 (implies g34 g35) []
    ∷ by r20 (implies g34 g34) []
    ∷ by r16 (triple 4 0 g34 g35) (254 ∷ 251 ∷ 253 ∷ [])
    ∷ by r14 (triple 4 0 g124 g36) (250 ∷ 255 ∷ [])
    ∷ by r20 (implies g125 g124) []
    ∷ by r20 (implies g36 g36) []
    ∷ by r16 (triple 4 0 g125 g36) (257 ∷ 256 ∷ 258 ∷ [])
    ∷ by r1 (triple 4 0 g47 g47) []
    ∷ by r14 (triple 4 0 g126 g60) (260 ∷ 255 ∷ [])
    ∷ by r20 (implies g127 g126) []
    ∷ by r16 (triple 4 0 g127 g60) (262 ∷ 261 ∷ 155 ∷ [])
    ∷ by r1 (triple 4 0 g95 g95) []
    ∷ by r3 (triple 4 0 g129 g93) []
    ∷ by r24 (implies g130 g129) []
    ∷ by r24 (implies g131 g129) []
    ∷ by r24 (implies g132 g129) []
    ∷ by r24 (implies g133 g129) []
    ∷ by r14 (triple 4 0 g134 g97) (264 ∷ 265 ∷ [])
    ∷ by r20 (implies g135 g134) (266 ∷ 267 ∷ 268 ∷ 269 ∷ [])
    ∷ by r16 (triple 4 0 g135 g97) (271 ∷ 270 ∷ 164 ∷ [])
    ∷ by r1 (triple 4 1 g2 g2) []
    ∷ by r22 (implies g11 g81) (190 ∷ [])
    ∷ by r1 (triple 4 1 g12 g12) []
    ∷ by r14 (triple 4 1 g136 g13) (122 ∷ 275 ∷ [])
    ∷ by r14 (triple 4 1 g137 g14) (273 ∷ 276 ∷ [])
    ∷ by r20 (implies g138 g137) (274 ∷ [])
    ∷ by r16 (triple 4 1 g138 g14) (278 ∷ 277 ∷ 195 ∷ [])
    ∷ by r1 (triple 4 1 g41 g41) []
    ∷ by r20 (implies g139 g41) []
    ∷ by r16 (triple 4 1 g139 g41) (281 ∷ 280 ∷ 36 ∷ [])
    ∷ by r1 (triple 4 1 g25 g25) []
    ∷ by r20 (implies g140 g25) []
    ∷ by r16 (triple 4 1 g140 g25) (284 ∷ 283 ∷ 202 ∷ [])
    ∷ by r1 (triple 4 1 g32 g32) []
    ∷ by r16 (triple 4 1 g33 g34) (77 ∷ 125 ∷ 252 ∷ [])
    ∷ by r4 (triple 4 1 g141 g142) (287 ∷ [])
    ∷ by r20 (implies g142 g34) []
    ∷ by r22 (implies g64 g141) (66 ∷ [])
    ∷ by r16 (triple 4 1 g64 g34) (290 ∷ 288 ∷ 289 ∷ [])
    ∷ by r15 (triple 4 1 g66 g35) (121 ∷ 291 ∷ [])
    ∷ by r14 (triple 4 1 g143 g36) (286 ∷ 292 ∷ [])
    ∷ by r20 (implies g144 g143) []
    ∷ by r16 (triple 4 1 g144 g36) (294 ∷ 293 ∷ 258 ∷ [])
    ∷ by r1 (triple 4 1 g47 g47) []
    ∷ by r14 (triple 4 1 g145 g60) (296 ∷ 292 ∷ [])
    ∷ by r20 (implies g146 g145) []
    ∷ by r16 (triple 4 1 g146 g60) (298 ∷ 297 ∷ 155 ∷ [])
    ∷ by r25 (implies g147 g149) []
    ∷ by r30 (inside g44 g150) []
    ∷ by r31 (inside g5 g150) (43 ∷ 301 ∷ [])
    ∷ by r30 (inside g57 g150) []
    ∷ by r31 (inside g19 g150) (74 ∷ 303 ∷ [])
    ∷ by r32 (inside g20 g151) (302 ∷ 304 ∷ [])
    ∷ by r37 (inside g151 g150) []
    ∷ by r31 (inside g20 g150) (305 ∷ 306 ∷ [])
    ∷ by r39 (inside g152 g20) []
    ∷ by r31 (inside g152 g150) (308 ∷ 307 ∷ [])
    ∷ by r40 (inside g152 g7) []
    ∷ by r31 (inside g152 g45) (310 ∷ 46 ∷ [])
    ∷ by r41 (inside g152 g153) (309 ∷ 311 ∷ [])
    ∷ by r45 (inside g153 g154) []
    ∷ by r30 (inside g154 (box Formula.false)) []
    ∷ by r31 (inside g152 g154) (312 ∷ 313 ∷ [])
    ∷ by r31 (inside g152 (box Formula.false)) (315 ∷ 314 ∷ [])
    ∷ by r38 (inside g148 g156) []
    ∷ by r40 (inside g155 g5) []
    ∷ by r32 (inside g156 g157) (318 ∷ 316 ∷ [])
    ∷ further [] (inside g157 g5) i57 []
    ∷ by r31 (inside g148 g157) (317 ∷ 319 ∷ [])
    ∷ by r31 (inside g148 g5) (321 ∷ 320 ∷ [])
    ∷ by r39 (inside g5 (one 1)) []
    ∷ by r46 (inside g5 g5) []
    ∷ by r41 (inside g5 g158) (323 ∷ 324 ∷ [])
    ∷ by r31 (inside g148 g158) (322 ∷ 325 ∷ [])
    ∷ by r22 (implies g149 g159) (326 ∷ [])
    ∷ by r20 (implies g147 g159) (300 ∷ 327 ∷ [])
    ∷ by r25 (implies g160 g161) []
    ∷ by r22 (implies g161 g162) (326 ∷ [])
    ∷ by r20 (implies g160 g162) (329 ∷ 330 ∷ [])
    ∷ by r1 (triple 1 0 g16 g16) []
    ∷ further [] (triple 1 0 g159 g21) (i54 refl) []
    ∷ further [] (triple 1 0 g162 g22) (i54 refl) []
    ∷ by r14 (triple 1 0 g163 g23) (333 ∷ 334 ∷ [])
    ∷ by r14 (triple 1 0 g164 g24) (141 ∷ 335 ∷ [])
    ∷ by r14 (triple 1 0 g165 g25) (332 ∷ 336 ∷ [])
    ∷ by r20 (implies g168 g165) (328 ∷ 331 ∷ [])
    ∷ by r16 (triple 1 0 g168 g25) (338 ∷ 337 ∷ 202 ∷ [])
    ∷ by r20 (implies g169 g168) []
    ∷ by r16 (triple 1 0 g169 g25) (340 ∷ 339 ∷ 202 ∷ [])
    ∷ by r1 (triple 2 0 g2 g2) []
    ∷ further [] (triple 2 0 g159 g9) (i54 refl) []
    ∷ further [] (triple 2 0 g162 g11) (i54 refl) []
    ∷ by r14 (triple 2 0 g163 g12) (343 ∷ 344 ∷ [])
    ∷ by r14 (triple 2 0 g170 g13) (169 ∷ 345 ∷ [])
    ∷ by r14 (triple 2 0 g171 g14) (342 ∷ 346 ∷ [])
    ∷ by r20 (implies g173 g171) (328 ∷ 331 ∷ [])
    ∷ by r16 (triple 2 0 g173 g14) (348 ∷ 347 ∷ 195 ∷ [])
    ∷ by r20 (implies g174 g173) []
    ∷ by r16 (triple 2 0 g174 g14) (350 ∷ 349 ∷ 195 ∷ [])
    ∷ by r39 (inside g7 (one 1)) []
    ∷ by r41 (inside g7 g175) (352 ∷ 86 ∷ [])
    ∷ by r22 (implies g94 g176) (353 ∷ [])
    ∷ further [] (triple 1 0 g176 g54) (i54 refl) []
    ∷ by r20 (implies g54 g54) []
    ∷ by r16 (triple 1 0 g94 g54) (354 ∷ 355 ∷ 356 ∷ [])
    ∷ further (triple 1 0 g94 g54 ∷ []) (triple 1 0 g179 g181) (i55 refl) (357 ∷ [])
    ∷ by r41 (inside g5 g177) (324 ∷ 323 ∷ [])
    ∷ by r32 (inside g8 g178) (359 ∷ 86 ∷ [])
    ∷ further [] (implies g181 g32) (i56 1 tt tt) []
    ∷ by r14 (triple 1 0 g182 g183) (358 ∷ 144 ∷ [])
    ∷ by r22 (implies g9 g179) (360 ∷ [])
    ∷ by r20 (implies g184 g182) (363 ∷ [])
    ∷ by r20 (implies g183 g36) (361 ∷ [])
    ∷ by r16 (triple 1 0 g184 g36) (364 ∷ 362 ∷ 365 ∷ [])
    ∷ by r39 (inside g19 (one 1)) []
    ∷ by r41 (inside g19 g185) (367 ∷ 58 ∷ [])
    ∷ by r22 (implies g51 g186) (368 ∷ [])
    ∷ further [] (triple 2 0 g186 g46) (i54 refl) []
    ∷ by r16 (triple 2 0 g51 g46) (369 ∷ 370 ∷ 50 ∷ [])
    ∷ further (triple 2 0 g51 g46 ∷ []) (triple 2 0 g188 g190) (i55 refl) (371 ∷ [])
    ∷ by r32 (inside g20 g187) (359 ∷ 58 ∷ [])
    ∷ further [] (implies g190 g191) (i56 1 tt tt) []
    ∷ by r14 (triple 2 0 g192 g193) (372 ∷ 172 ∷ [])
    ∷ by r22 (implies g21 g188) (373 ∷ [])
    ∷ by r20 (implies g194 g192) (376 ∷ [])
    ∷ by r20 (implies g193 g36) (374 ∷ [])
    ∷ by r16 (triple 2 0 g194 g36) (377 ∷ 375 ∷ 378 ∷ [])
    ∷ by r22 (implies g65 g195) (353 ∷ [])
    ∷ further [] (triple 1 0 g195 g64) (i54 refl) []
    ∷ by r16 (triple 1 0 g65 g64) (380 ∷ 381 ∷ 107 ∷ [])
    ∷ further (triple 1 0 g65 g64 ∷ []) (triple 1 0 g196 g197) (i55 refl) (382 ∷ [])
    ∷ further [] (implies g197 g39) (i56 1 tt tt) []
    ∷ by r14 (triple 1 0 g198 g199) (383 ∷ 144 ∷ [])
    ∷ by r22 (implies g11 g196) (360 ∷ [])
    ∷ by r20 (implies g200 g198) (386 ∷ [])
    ∷ by r20 (implies g199 g40) (384 ∷ [])
    ∷ by r16 (triple 1 0 g200 g40) (387 ∷ 385 ∷ 388 ∷ [])
    ∷ by r22 (implies g33 g201) (368 ∷ [])
    ∷ further [] (triple 2 0 g201 g70) (i54 refl) []
    ∷ by r20 (implies g70 g70) []
    ∷ by r16 (triple 2 0 g33 g70) (390 ∷ 391 ∷ 392 ∷ [])
    ∷ further (triple 2 0 g33 g70 ∷ []) (triple 2 0 g202 g203) (i55 refl) (393 ∷ [])
    ∷ further [] (implies g203 g204) (i56 1 tt tt) []
    ∷ by r14 (triple 2 0 g205 g206) (394 ∷ 169 ∷ [])
    ∷ by r22 (implies g22 g202) (373 ∷ [])
    ∷ by r20 (implies g207 g205) (397 ∷ [])
    ∷ by r20 (implies g206 g40) (395 ∷ [])
    ∷ by r16 (triple 2 0 g207 g40) (398 ∷ 396 ∷ 399 ∷ [])
    ∷ by r15 (triple 1 0 g208 g66) (141 ∷ 381 ∷ [])
    ∷ by r14 (triple 1 0 g209 g77) (401 ∷ 144 ∷ [])
    ∷ by r25 (implies g210 g212) []
    ∷ by r30 (inside g44 g213) []
    ∷ by r31 (inside g5 g213) (43 ∷ 404 ∷ [])
    ∷ by r30 (inside g45 g213) []
    ∷ by r31 (inside g7 g213) (46 ∷ 406 ∷ [])
    ∷ by r32 (inside g8 g214) (405 ∷ 407 ∷ [])
    ∷ by r37 (inside g214 g213) []
    ∷ by r31 (inside g8 g213) (408 ∷ 409 ∷ [])
    ∷ by r39 (inside g215 g8) []
    ∷ by r31 (inside g215 g213) (411 ∷ 410 ∷ [])
    ∷ by r40 (inside g215 g19) []
    ∷ by r31 (inside g215 g57) (413 ∷ 74 ∷ [])
    ∷ by r41 (inside g215 g216) (412 ∷ 414 ∷ [])
    ∷ by r45 (inside g216 g217) []
    ∷ by r30 (inside g217 (box Formula.false)) []
    ∷ by r31 (inside g215 g217) (415 ∷ 416 ∷ [])
    ∷ by r31 (inside g215 (box Formula.false)) (418 ∷ 417 ∷ [])
    ∷ by r38 (inside g211 g219) []
    ∷ by r40 (inside g218 g7) []
    ∷ by r32 (inside g219 g220) (421 ∷ 419 ∷ [])
    ∷ further [] (inside g220 g7) i57 []
    ∷ by r31 (inside g211 g220) (420 ∷ 422 ∷ [])
    ∷ by r31 (inside g211 g7) (424 ∷ 423 ∷ [])
    ∷ by r31 (inside g211 g175) (425 ∷ 353 ∷ [])
    ∷ by r22 (implies g212 g195) (426 ∷ [])
    ∷ by r20 (implies g210 g195) (403 ∷ 427 ∷ [])
    ∷ by r20 (implies g221 g209) (428 ∷ [])
    ∷ by r16 (triple 1 0 g221 g77) (429 ∷ 402 ∷ 184 ∷ [])
    ∷ by r15 (triple 2 0 g222 g47) (342 ∷ 370 ∷ [])
    ∷ by r14 (triple 2 0 g223 g224) (431 ∷ 172 ∷ [])
    ∷ by r25 (implies g225 g227) []
    ∷ by r38 (inside g226 g229) []
    ∷ by r40 (inside g228 g19) []
    ∷ by r32 (inside g229 g230) (435 ∷ 316 ∷ [])
    ∷ further [] (inside g230 g19) i57 []
    ∷ by r31 (inside g226 g230) (434 ∷ 436 ∷ [])
    ∷ by r31 (inside g226 g19) (438 ∷ 437 ∷ [])
    ∷ by r31 (inside g226 g185) (439 ∷ 368 ∷ [])
    ∷ by r22 (implies g227 g186) (440 ∷ [])
    ∷ by r20 (implies g225 g186) (433 ∷ 441 ∷ [])
    ∷ by r20 (implies g231 g223) (442 ∷ [])
    ∷ by r20 (implies g224 g60) []
    ∷ by r16 (triple 2 0 g231 g60) (443 ∷ 432 ∷ 444 ∷ [])
    ∷ further [] (implies g232 (holds Formula.false)) (i53 tt) []
    ∷ by r1 (triple 3 1 g2 g2) []
    ∷ by r30 (inside g57 g233) []
    ∷ by r31 (inside g19 g233) (74 ∷ 448 ∷ [])
    ∷ by r32 (inside g26 g234) (449 ∷ 86 ∷ [])
    ∷ by r1 (triple 3 1 g94 g94) []
    ∷ by r4 (triple 3 1 g235 g95) (451 ∷ [])
    ∷ by r22 (implies g46 g235) (450 ∷ [])
    ∷ by r20 (implies g95 g95) []
    ∷ by r16 (triple 3 1 g46 g95) (453 ∷ 452 ∷ 454 ∷ [])
    ∷ by r15 (triple 3 1 g47 g236) (447 ∷ 455 ∷ [])
    ∷ by r1 (triple 3 1 g35 g35) []
    ∷ by r14 (triple 3 1 g60 g237) (456 ∷ 457 ∷ [])
    ∷ by r20 (implies g237 g97) (446 ∷ [])
    ∷ by r16 (triple 3 1 g60 g97) (155 ∷ 458 ∷ 459 ∷ [])
    ∷ by r1 (triple 4 1 g95 g95) []
    ∷ by r4 (triple 4 1 g141 g34) (125 ∷ [])
    ∷ by r14 (triple 4 1 g238 g239) (461 ∷ 292 ∷ [])
    ∷ by r20 (implies g240 g238) []
    ∷ by r20 (implies g239 g97) (446 ∷ [])
    ∷ by r16 (triple 4 1 g240 g97) (464 ∷ 463 ∷ 465 ∷ [])
    ∷ []

-- the line that meets each obligation, in order
met_by : List ℕ
met_by = 14 ∷ 26 ∷ 30 ∷ 33 ∷ 37 ∷ 40 ∷ 82 ∷ 460 ∷ 119 ∷ 140 ∷ 341 ∷ 143 ∷ 366 ∷ 156 ∷ 165 ∷ 389 ∷ 430 ∷ 168 ∷ 351 ∷ 171 ∷ 379 ∷ 445 ∷ 178 ∷ 400 ∷ 185 ∷ 188 ∷ 196 ∷ 199 ∷ 203 ∷ 199 ∷ 207 ∷ 210 ∷ 214 ∷ 217 ∷ 220 ∷ 227 ∷ 220 ∷ 230 ∷ 233 ∷ 236 ∷ 239 ∷ 242 ∷ 249 ∷ 242 ∷ 259 ∷ 263 ∷ 272 ∷ 279 ∷ 282 ∷ 285 ∷ 282 ∷ 295 ∷ 299 ∷ 466 ∷ []

-- THE THEOREM
pub corr2_stronger_run : EveryRun (program_of corr2_stronger) (outline_of corr2_stronger)
unfolding lines met_by upd same choose is_in distinct same_name same_leaf ℕ_discrete
corr2_stronger_run = certified_run corr2_stronger lines met_by tt tt
