-- A thread that waits through fetch-adds of others: it reads 3 only when both have moved the display.
use mathlib.Core.Path.{refl}
use mathlib.Core.List.{List, [], ◌∷◌}
use Prim.Native.Nat.{ℕ}
use Rattle.semantics.specs.Formula.{Formula, Assertion, Interval, Formula.const, Formula.reg, Formula.word, Formula.sum, Formula.equal, Formula.less, Formula.and, Formula.cov, Formula.box, Formula.one, Formula.chop, Formula.both, Formula.sees, Formula.both_a, Formula.either_a, Formula.start, Formula.holds}
use Rattle.semantics.specs.EveryRun.{EveryRun}
use Rattle.semantics.specs.Formula.{same}
use Rattle.logic.specs.Rows.{choose, is_in, distinct, same_name}
use Rattle.logic.specs.Table.{same_leaf}
use Rattle.semantics.specs.Base.{upd}
use native.Mathlib.Decide.{ℕ_discrete}
use Rattle.logic.specs.Statement.{inside, implies, triple}
use Rattle.logic.specs.Rule.{r1, r3, r10, r14, r15, r16, r20, r21, r22, r24, r25, r26, r27, r30, r31, r32, r35, r36, r38, r39, r40, r41, r45, r46, r47, r48, r49}
use Rattle.logic.specs.Inference.{newest}
use Rattle.logic_further.specs.Further.{i52}
use Rattle.logic_further.specs.Example.{program_of, outline_of}
use Rattle.logic_further.specs.Certificate.{Line, by, further}
use Rattle.logic_further.specs.Programs.{ticket_wait}
use Rattle.logic_further.proofs.Certified.{certified_run}

-- FORMULAS of the lines
abbrev g1 : Assertion
g1 = holds (equal (reg 1) (const 0))

abbrev g2 : Assertion
g2 = holds (equal (reg 2) (const 0))

abbrev g3 : Interval
g3 = newest 1 (const 1)

abbrev g4 : Assertion
g4 = sees 1 g3

abbrev g5 : Interval
g5 = chop (box (cov 1)) g3

abbrev g6 : Assertion
g6 = sees 1 g5

abbrev g7 : Assertion
g7 = sees 2 g3

abbrev g8 : Assertion
g8 = sees 2 g5

abbrev g9 : Assertion
g9 = both_a g6 g8

abbrev g10 : Assertion
g10 = both_a g2 g9

abbrev g11 : Assertion
g11 = holds (equal (reg 2) (const 1))

abbrev g12 : Interval
g12 = newest 1 (const 2)

abbrev g13 : Interval
g13 = chop (box (cov 1)) g12

abbrev g14 : Assertion
g14 = sees 1 g13

abbrev g15 : Assertion
g15 = sees 2 g13

abbrev g16 : Assertion
g16 = both_a g14 g15

abbrev g17 : Assertion
g17 = both_a g11 g16

abbrev g18 : Assertion
g18 = either_a g10 g17

abbrev g19 : Assertion
g19 = both_a g1 g18

abbrev g20 : Assertion
g20 = both_a g1 g9

abbrev g21 : Assertion
g21 = holds (equal (reg 1) (const 1))

abbrev g22 : Assertion
g22 = both_a g21 g16

abbrev g23 : Assertion
g23 = either_a g20 g22

abbrev g24 : Assertion
g24 = both_a g2 g23

abbrev g25 : Assertion
g25 = sees 3 g3

abbrev g26 : Interval
g26 = box (equal (word 1) (const 1))

abbrev g27 : Interval
g27 = box (less (word 1) (const 3))

abbrev g28 : Assertion
g28 = sees 3 g27

abbrev g29 : Assertion
g29 = holds (equal (sum (reg 1) (reg 2)) (const 3))

abbrev g30 : Assertion
g30 = either_a g28 g29

abbrev g31 : Assertion
g31 = sees 1 g26

abbrev g32 : Interval
g32 = chop (box (cov 1)) g26

abbrev g33 : Assertion
g33 = sees 1 g32

abbrev g34 : Interval
g34 = chop (box (cov 1)) (one 1)

abbrev g35 : Interval
g35 = box (equal (word 1) (const 2))

abbrev g36 : Interval
g36 = newest 1 (sum (reg 1) (const 1))

abbrev g37 : Interval
g37 = box (equal (sum (word 1) (reg 2)) (const 3))

abbrev g38 : Assertion
g38 = sees 1 g37

abbrev g39 : Interval
g39 = chop (box (cov 1)) g37

abbrev g40 : Assertion
g40 = sees 1 g39

abbrev g41 : Assertion
g41 = both_a g2 g16

abbrev g42 : Assertion
g42 = both_a g21 g41

abbrev g43 : Assertion
g43 = either_a g42 g29

abbrev g44 : Assertion
g44 = holds (equal (sum (reg 1) (const 1)) (const 2))

abbrev g45 : Interval
g45 = box (equal (sum (reg 1) (const 1)) (const 2))

abbrev g46 : Assertion
g46 = sees 1 g45

abbrev g47 : Interval
g47 = both g36 g45

abbrev g48 : Interval
g48 = box (and (equal (word 1) (sum (reg 1) (const 1))) (equal (sum (reg 1) (const 1)) (const 2)))

abbrev g49 : Interval
g49 = box (equal (word 1) (sum (reg 1) (const 1)))

abbrev g50 : Interval
g50 = both g49 g45

abbrev g51 : Assertion
g51 = sees 1 g47

abbrev g52 : Assertion
g52 = sees 1 g36

abbrev g53 : Assertion
g53 = both_a g52 g46

abbrev g54 : Assertion
g54 = both_a g52 g44

abbrev g55 : Assertion
g55 = sees 1 g34

abbrev g56 : Interval
g56 = box (equal (sum (word 1) (const 1)) (const 2))

abbrev g57 : Assertion
g57 = sees 1 g56

abbrev g58 : Interval
g58 = chop (box (cov 1)) g56

abbrev g59 : Assertion
g59 = sees 1 g58

abbrev g60 : Interval
g60 = both g45 (box (cov 1))

abbrev g61 : Interval
g61 = both g45 g36

abbrev g62 : Interval
g62 = box (and (equal (sum (reg 1) (const 1)) (const 2)) (equal (word 1) (sum (reg 1) (const 1))))

abbrev g63 : Interval
g63 = both g45 g49

abbrev g64 : Interval
g64 = chop g60 g61

abbrev g65 : Interval
g65 = chop (box (cov 1)) g36

abbrev g66 : Interval
g66 = both g65 g45

abbrev g67 : Interval
g67 = both g45 g65

abbrev g68 : Assertion
g68 = sees 2 g45

abbrev g69 : Assertion
g69 = sees 2 g66

abbrev g70 : Assertion
g70 = sees 2 g65

abbrev g71 : Assertion
g71 = both_a g70 g68

abbrev g72 : Assertion
g72 = both_a g70 g44

abbrev g73 : Assertion
g73 = sees 2 g34

abbrev g74 : Assertion
g74 = both_a g55 g73

abbrev g75 : Assertion
g75 = both_a g55 g59

abbrev g76 : Assertion
g76 = both_a g74 g59

abbrev g77 : Assertion
g77 = both_a g75 g76

abbrev g78 : Assertion
g78 = both_a g2 g77

abbrev g79 : Assertion
g79 = both_a g33 g78

abbrev g80 : Interval
g80 = box (equal (reg 2) (const 1))

abbrev g81 : Assertion
g81 = sees 1 g80

abbrev g82 : Interval
g82 = both g80 (box (cov 1))

abbrev g83 : Interval
g83 = box (and (equal (reg 2) (const 1)) (equal (word 1) (const 2)))

abbrev g84 : Interval
g84 = both g80 g12

abbrev g85 : Interval
g85 = both g80 g35

abbrev g86 : Interval
g86 = chop g82 g84

abbrev g87 : Interval
g87 = both g13 g80

abbrev g88 : Interval
g88 = both g80 g13

abbrev g89 : Assertion
g89 = sees 1 g87

abbrev g90 : Assertion
g90 = both_a g14 g81

abbrev g91 : Assertion
g91 = both_a g14 g11

abbrev g92 : Assertion
g92 = both_a g8 g2

abbrev g93 : Assertion
g93 = both_a g6 g92

abbrev g94 : Assertion
g94 = either_a g93 g91

abbrev g95 : Assertion
g95 = either_a g43 g43

abbrev g96 : Assertion
g96 = sees 2 g26

abbrev g97 : Assertion
g97 = sees 2 g32

abbrev g98 : Interval
g98 = newest 1 (sum (reg 2) (const 1))

abbrev g99 : Interval
g99 = box (equal (sum (reg 1) (word 1)) (const 3))

abbrev g100 : Assertion
g100 = sees 2 g99

abbrev g101 : Interval
g101 = chop (box (cov 1)) g99

abbrev g102 : Assertion
g102 = sees 2 g101

abbrev g103 : Assertion
g103 = both_a g1 g16

abbrev g104 : Assertion
g104 = both_a g11 g103

abbrev g105 : Assertion
g105 = either_a g104 g29

abbrev g106 : Assertion
g106 = holds (equal (sum (reg 2) (const 1)) (const 2))

abbrev g107 : Interval
g107 = box (equal (sum (reg 2) (const 1)) (const 2))

abbrev g108 : Assertion
g108 = sees 1 g107

abbrev g109 : Interval
g109 = both g107 (box (cov 1))

abbrev g110 : Interval
g110 = both g107 g98

abbrev g111 : Interval
g111 = box (and (equal (sum (reg 2) (const 1)) (const 2)) (equal (word 1) (sum (reg 2) (const 1))))

abbrev g112 : Interval
g112 = box (equal (word 1) (sum (reg 2) (const 1)))

abbrev g113 : Interval
g113 = both g107 g112

abbrev g114 : Interval
g114 = chop g109 g110

abbrev g115 : Interval
g115 = chop (box (cov 1)) g98

abbrev g116 : Interval
g116 = both g115 g107

abbrev g117 : Interval
g117 = both g107 g115

abbrev g118 : Assertion
g118 = sees 1 g116

abbrev g119 : Assertion
g119 = sees 1 g115

abbrev g120 : Assertion
g120 = both_a g119 g108

abbrev g121 : Assertion
g121 = both_a g119 g106

abbrev g122 : Assertion
g122 = both_a g73 g55

abbrev g123 : Assertion
g123 = sees 2 g56

abbrev g124 : Assertion
g124 = sees 2 g58

abbrev g125 : Assertion
g125 = sees 2 g107

abbrev g126 : Interval
g126 = both g98 g107

abbrev g127 : Interval
g127 = box (and (equal (word 1) (sum (reg 2) (const 1))) (equal (sum (reg 2) (const 1)) (const 2)))

abbrev g128 : Interval
g128 = both g112 g107

abbrev g129 : Assertion
g129 = sees 2 g126

abbrev g130 : Assertion
g130 = sees 2 g98

abbrev g131 : Assertion
g131 = both_a g130 g125

abbrev g132 : Assertion
g132 = both_a g130 g106

abbrev g133 : Assertion
g133 = both_a g122 g124

abbrev g134 : Assertion
g134 = both_a g73 g124

abbrev g135 : Assertion
g135 = both_a g133 g134

abbrev g136 : Assertion
g136 = both_a g1 g135

abbrev g137 : Assertion
g137 = both_a g97 g136

abbrev g138 : Interval
g138 = box (equal (reg 1) (const 1))

abbrev g139 : Assertion
g139 = sees 2 g138

abbrev g140 : Interval
g140 = both g138 (box (cov 1))

abbrev g141 : Interval
g141 = box (and (equal (reg 1) (const 1)) (equal (word 1) (const 2)))

abbrev g142 : Interval
g142 = both g138 g12

abbrev g143 : Interval
g143 = both g138 g35

abbrev g144 : Interval
g144 = chop g140 g142

abbrev g145 : Interval
g145 = both g13 g138

abbrev g146 : Interval
g146 = both g138 g13

abbrev g147 : Assertion
g147 = sees 2 g145

abbrev g148 : Assertion
g148 = both_a g15 g139

abbrev g149 : Assertion
g149 = both_a g15 g21

abbrev g150 : Assertion
g150 = both_a g8 g1

abbrev g151 : Assertion
g151 = both_a g6 g150

abbrev g152 : Assertion
g152 = either_a g151 g149

abbrev g153 : Assertion
g153 = either_a g105 g105

abbrev g154 : Assertion
g154 = holds (less (reg 3) (const 3))

abbrev g155 : Assertion
g155 = either_a g154 g29

abbrev g156 : Assertion
g156 = both_a g33 g77

abbrev g157 : Assertion
g157 = both_a g2 g156

abbrev g158 : Assertion
g158 = holds (and (equal (reg 1) (const 0)) (equal (reg 1) (const 1)))

abbrev g159 : Assertion
g159 = holds (and (equal (reg 2) (const 0)) (equal (reg 2) (const 1)))

abbrev g160 : Assertion
g160 = both_a g2 g18

abbrev g161 : Assertion
g161 = both_a g24 g19

abbrev g162 : Assertion
g162 = holds (and (equal (reg 2) (const 1)) (Formula.not (equal (reg 2) (const 0))))

abbrev g163 : Interval
g163 = box (and (equal (reg 2) (const 1)) (Formula.not (equal (reg 2) (const 0))))

abbrev g164 : Assertion
g164 = sees 1 g163

abbrev g165 : Interval
g165 = both g163 (box (cov 1))

abbrev g166 : Interval
g166 = box (and (and (equal (reg 2) (const 1)) (Formula.not (equal (reg 2) (const 0)))) (equal (word 1) (const 2)))

abbrev g167 : Interval
g167 = both g163 g12

abbrev g168 : Interval
g168 = both g163 g35

abbrev g169 : Interval
g169 = chop g165 g167

abbrev g170 : Interval
g170 = both g13 g163

abbrev g171 : Interval
g171 = both g163 g13

abbrev g172 : Assertion
g172 = sees 1 g170

abbrev g173 : Assertion
g173 = both_a g14 g164

abbrev g174 : Assertion
g174 = both_a g14 g162

abbrev g175 : Interval
g175 = box (and (equal (reg 2) (const 1)) (equal (reg 2) (const 0)))

abbrev g176 : Assertion
g176 = sees 1 g175

abbrev g177 : Assertion
g177 = holds (and (equal (reg 2) (const 1)) (equal (reg 2) (const 0)))

abbrev g178 : Assertion
g178 = both_a g104 g19

abbrev g179 : Interval
g179 = box (and (equal (sum (reg 1) (reg 2)) (const 3)) (and (equal (reg 1) (const 0)) (and (equal (reg 2) (const 0)) (Formula.not (equal (reg 2) (const 1))))))

abbrev g180 : Assertion
g180 = sees 1 g179

abbrev g181 : Assertion
g181 = holds (and (equal (sum (reg 1) (reg 2)) (const 3)) (and (equal (reg 1) (const 0)) (and (equal (reg 2) (const 0)) (Formula.not (equal (reg 2) (const 1))))))

abbrev g182 : Interval
g182 = box (and (equal (sum (reg 1) (reg 2)) (const 3)) (and (equal (reg 1) (const 0)) (and (Formula.not (equal (reg 2) (const 0))) (equal (reg 2) (const 1)))))

abbrev g183 : Assertion
g183 = sees 1 g182

abbrev g184 : Assertion
g184 = holds (and (equal (sum (reg 1) (reg 2)) (const 3)) (and (equal (reg 1) (const 0)) (and (Formula.not (equal (reg 2) (const 0))) (equal (reg 2) (const 1)))))

abbrev g185 : Interval
g185 = box (and (equal (sum (reg 1) (reg 2)) (const 3)) (and (equal (reg 1) (const 0)) (and (equal (reg 2) (const 0)) (equal (reg 2) (const 1)))))

abbrev g186 : Assertion
g186 = sees 1 g185

abbrev g187 : Assertion
g187 = holds (and (equal (sum (reg 1) (reg 2)) (const 3)) (and (equal (reg 1) (const 0)) (and (equal (reg 2) (const 0)) (equal (reg 2) (const 1)))))

abbrev g188 : Assertion
g188 = both_a g29 g19

abbrev g189 : Assertion
g189 = both_a g105 g19

abbrev g190 : Assertion
g190 = holds (and (Formula.not (less (reg 3) (const 3))) (and (equal (sum (reg 1) (reg 2)) (const 3)) (and (equal (reg 1) (const 0)) (and (equal (reg 2) (const 0)) (Formula.not (equal (reg 2) (const 1)))))))

abbrev g191 : Assertion
g191 = holds (and (Formula.not (less (reg 3) (const 3))) (and (equal (sum (reg 1) (reg 2)) (const 3)) (and (equal (reg 1) (const 0)) (and (Formula.not (equal (reg 2) (const 0))) (equal (reg 2) (const 1))))))

abbrev g192 : Assertion
g192 = holds (and (Formula.not (less (reg 3) (const 3))) (and (equal (sum (reg 1) (reg 2)) (const 3)) (and (equal (reg 1) (const 0)) (and (equal (reg 2) (const 0)) (equal (reg 2) (const 1))))))

abbrev g193 : Assertion
g193 = both_a g155 g19

abbrev g194 : Assertion
g194 = both_a g97 g135

abbrev g195 : Assertion
g195 = both_a g1 g194

abbrev g196 : Assertion
g196 = both_a g1 g23

abbrev g197 : Assertion
g197 = both_a g19 g24

abbrev g198 : Assertion
g198 = holds (and (equal (reg 1) (const 1)) (Formula.not (equal (reg 1) (const 0))))

abbrev g199 : Interval
g199 = box (and (equal (reg 1) (const 1)) (Formula.not (equal (reg 1) (const 0))))

abbrev g200 : Assertion
g200 = sees 2 g199

abbrev g201 : Interval
g201 = both g199 (box (cov 1))

abbrev g202 : Interval
g202 = box (and (and (equal (reg 1) (const 1)) (Formula.not (equal (reg 1) (const 0)))) (equal (word 1) (const 2)))

abbrev g203 : Interval
g203 = both g199 g12

abbrev g204 : Interval
g204 = both g199 g35

abbrev g205 : Interval
g205 = chop g201 g203

abbrev g206 : Interval
g206 = both g13 g199

abbrev g207 : Interval
g207 = both g199 g13

abbrev g208 : Assertion
g208 = sees 2 g206

abbrev g209 : Assertion
g209 = both_a g15 g200

abbrev g210 : Assertion
g210 = both_a g15 g198

abbrev g211 : Interval
g211 = box (and (equal (reg 1) (const 1)) (equal (reg 1) (const 0)))

abbrev g212 : Assertion
g212 = sees 2 g211

abbrev g213 : Assertion
g213 = holds (and (equal (reg 1) (const 1)) (equal (reg 1) (const 0)))

abbrev g214 : Assertion
g214 = both_a g42 g24

abbrev g215 : Interval
g215 = box (and (equal (sum (reg 1) (reg 2)) (const 3)) (and (equal (reg 2) (const 0)) (and (equal (reg 1) (const 0)) (Formula.not (equal (reg 1) (const 1))))))

abbrev g216 : Assertion
g216 = sees 2 g215

abbrev g217 : Assertion
g217 = holds (and (equal (sum (reg 1) (reg 2)) (const 3)) (and (equal (reg 2) (const 0)) (and (equal (reg 1) (const 0)) (Formula.not (equal (reg 1) (const 1))))))

abbrev g218 : Interval
g218 = box (and (equal (sum (reg 1) (reg 2)) (const 3)) (and (equal (reg 2) (const 0)) (and (Formula.not (equal (reg 1) (const 0))) (equal (reg 1) (const 1)))))

abbrev g219 : Assertion
g219 = sees 2 g218

abbrev g220 : Assertion
g220 = holds (and (equal (sum (reg 1) (reg 2)) (const 3)) (and (equal (reg 2) (const 0)) (and (Formula.not (equal (reg 1) (const 0))) (equal (reg 1) (const 1)))))

abbrev g221 : Interval
g221 = box (and (equal (sum (reg 1) (reg 2)) (const 3)) (and (equal (reg 2) (const 0)) (and (equal (reg 1) (const 0)) (equal (reg 1) (const 1)))))

abbrev g222 : Assertion
g222 = sees 2 g221

abbrev g223 : Assertion
g223 = holds (and (equal (sum (reg 1) (reg 2)) (const 3)) (and (equal (reg 2) (const 0)) (and (equal (reg 1) (const 0)) (equal (reg 1) (const 1)))))

abbrev g224 : Assertion
g224 = both_a g29 g24

abbrev g225 : Assertion
g225 = both_a g43 g24

abbrev g226 : Assertion
g226 = holds (and (Formula.not (less (reg 3) (const 3))) (and (equal (sum (reg 1) (reg 2)) (const 3)) (and (equal (reg 2) (const 0)) (and (equal (reg 1) (const 0)) (Formula.not (equal (reg 1) (const 1)))))))

abbrev g227 : Assertion
g227 = holds (and (Formula.not (less (reg 3) (const 3))) (and (equal (sum (reg 1) (reg 2)) (const 3)) (and (equal (reg 2) (const 0)) (and (Formula.not (equal (reg 1) (const 0))) (equal (reg 1) (const 1))))))

abbrev g228 : Assertion
g228 = holds (and (Formula.not (less (reg 3) (const 3))) (and (equal (sum (reg 1) (reg 2)) (const 3)) (and (equal (reg 2) (const 0)) (and (equal (reg 1) (const 0)) (equal (reg 1) (const 1))))))

abbrev g229 : Assertion
g229 = both_a g155 g24

abbrev g230 : Assertion
g230 = both_a g19 g30

abbrev g231 : Assertion
g231 = both_a g43 g30

abbrev g232 : Assertion
g232 = both_a g24 g30

abbrev g233 : Assertion
g233 = both_a g105 g30

abbrev g234 : Interval
g234 = box (less (sum (word 1) (const 1)) (const 3))

abbrev g235 : Interval
g235 = chop (box (cov 1)) g234

abbrev g236 : Assertion
g236 = sees 1 g235

abbrev g237 : Assertion
g237 = both_a g11 g14

abbrev g238 : Assertion
g238 = holds (and (equal (sum (reg 1) (reg 2)) (const 3)) (and (equal (reg 1) (const 0)) (equal (reg 2) (const 0))))

abbrev g239 : Assertion
g239 = holds (and (equal (sum (reg 1) (reg 2)) (const 3)) (and (equal (reg 1) (const 0)) (equal (reg 2) (const 1))))

abbrev g240 : Assertion
g240 = both_a g28 g236

abbrev g241 : Assertion
g241 = either_a g240 g40

abbrev g242 : Assertion
g242 = both_a g2 g6

abbrev g243 : Assertion
g243 = either_a g242 g237

abbrev g244 : Assertion
g244 = both_a g1 g243

abbrev g245 : Assertion
g245 = both_a g30 g244

abbrev g246 : Assertion
g246 = both_a g30 g19

abbrev g247 : Assertion
g247 = sees 2 g235

abbrev g248 : Assertion
g248 = both_a g21 g15

abbrev g249 : Assertion
g249 = holds (and (equal (sum (reg 1) (reg 2)) (const 3)) (and (equal (reg 2) (const 0)) (equal (reg 1) (const 0))))

abbrev g250 : Assertion
g250 = holds (and (equal (sum (reg 1) (reg 2)) (const 3)) (and (equal (reg 2) (const 0)) (equal (reg 1) (const 1))))

abbrev g251 : Assertion
g251 = both_a g28 g247

abbrev g252 : Assertion
g252 = either_a g251 g102

abbrev g253 : Assertion
g253 = both_a g1 g8

abbrev g254 : Assertion
g254 = either_a g253 g248

abbrev g255 : Assertion
g255 = both_a g2 g254

abbrev g256 : Assertion
g256 = both_a g30 g255

abbrev g257 : Assertion
g257 = both_a g30 g24

-- the lines, from 1
lines : List (Line (program_of ticket_wait))
unfolding upd
lines =
    by r27 (implies start g1) []
    ∷ by r27 (implies start g2) []
    ∷ by r26 (implies start g4) []
    ∷ by r35 (inside g3 g5) []
    ∷ by r22 (implies g4 g6) (4 ∷ [])
    ∷ by r20 (implies start g6) (3 ∷ 5 ∷ [])
    ∷ by r26 (implies start g7) []
    ∷ by r22 (implies g7 g8) (4 ∷ [])
    ∷ by r20 (implies start g8) (7 ∷ 8 ∷ [])
    ∷ by r20 (implies start g19) (1 ∷ 2 ∷ 6 ∷ 9 ∷ [])
    ∷ by r20 (implies start g24) (2 ∷ 1 ∷ 6 ∷ 9 ∷ [])
    ∷ by r26 (implies start g25) []
    ∷ by r30 (inside g26 g27) []
    ∷ by r40 (inside g3 g26) []
    ∷ by r31 (inside g3 g27) (14 ∷ 13 ∷ [])
    ∷ by r22 (implies g25 g28) (15 ∷ [])
    ∷ by r20 (implies start g28) (12 ∷ 16 ∷ [])
    ∷ by r20 (implies start g30) (17 ∷ [])
    ∷ by r47 (triple 1 0 g31 g21) []
    ∷ by r10 (triple 1 0 g33 g21) (19 ∷ [])
    ∷ by r46 (inside (box (cov 1)) (box (cov 1))) []
    ∷ by r39 (inside g3 (one 1)) []
    ∷ by r32 (inside g5 g34) (21 ∷ 22 ∷ [])
    ∷ by r40 (inside g12 g35) []
    ∷ by r1 (triple 1 0 g2 g2) []
    ∷ by r39 (inside g36 (one 1)) []
    ∷ by r47 (triple 1 0 g38 g29) []
    ∷ by r10 (triple 1 0 g40 g29) (27 ∷ [])
    ∷ by r20 (implies g29 g43) []
    ∷ by r20 (implies g43 g43) []
    ∷ by r32 (inside g5 g32) (21 ∷ 14 ∷ [])
    ∷ by r22 (implies g6 g33) (31 ∷ [])
    ∷ by r24 (implies g44 g46) []
    ∷ by r39 (inside g47 g36) []
    ∷ by r31 (inside g47 (one 1)) (34 ∷ 26 ∷ [])
    ∷ by r30 (inside g48 g35) []
    ∷ by r40 (inside g36 g49) []
    ∷ by r31 (inside g47 g49) (34 ∷ 37 ∷ [])
    ∷ by r40 (inside g47 g45) []
    ∷ by r41 (inside g47 g50) (38 ∷ 39 ∷ [])
    ∷ by r45 (inside g50 g48) []
    ∷ by r31 (inside g47 g48) (40 ∷ 41 ∷ [])
    ∷ by r31 (inside g47 g35) (42 ∷ 36 ∷ [])
    ∷ by r41 (inside g47 g12) (35 ∷ 43 ∷ [])
    ∷ by r35 (inside g12 g13) []
    ∷ by r31 (inside g47 g13) (44 ∷ 45 ∷ [])
    ∷ by r22 (implies g51 g14) (46 ∷ [])
    ∷ by r25 (implies g53 g51) []
    ∷ by r20 (implies g54 g51) (48 ∷ 33 ∷ [])
    ∷ by r20 (implies g54 g14) (49 ∷ 47 ∷ [])
    ∷ by r48 (triple 1 0 g55 g52) []
    ∷ by r47 (triple 1 0 g57 g44) []
    ∷ by r10 (triple 1 0 g59 g44) (52 ∷ [])
    ∷ by r30 (inside g26 g56) []
    ∷ by r31 (inside g3 g56) (14 ∷ 54 ∷ [])
    ∷ by r40 (inside g60 (box (cov 1))) []
    ∷ by r40 (inside g61 g36) []
    ∷ by r31 (inside g61 (one 1)) (57 ∷ 26 ∷ [])
    ∷ by r30 (inside g62 g35) []
    ∷ by r39 (inside g61 g45) []
    ∷ by r31 (inside g61 g49) (57 ∷ 37 ∷ [])
    ∷ by r41 (inside g61 g63) (60 ∷ 61 ∷ [])
    ∷ by r45 (inside g63 g62) []
    ∷ by r31 (inside g61 g62) (62 ∷ 63 ∷ [])
    ∷ by r31 (inside g61 g35) (64 ∷ 59 ∷ [])
    ∷ by r41 (inside g61 g12) (58 ∷ 65 ∷ [])
    ∷ by r32 (inside g64 g13) (56 ∷ 66 ∷ [])
    ∷ by r40 (inside g66 g45) []
    ∷ by r39 (inside g66 g65) []
    ∷ by r41 (inside g66 g67) (68 ∷ 69 ∷ [])
    ∷ by r38 (inside g67 g64) []
    ∷ by r31 (inside g66 g64) (70 ∷ 71 ∷ [])
    ∷ by r31 (inside g66 g13) (72 ∷ 67 ∷ [])
    ∷ by r24 (implies g44 g68) []
    ∷ by r22 (implies g69 g15) (73 ∷ [])
    ∷ by r25 (implies g71 g69) []
    ∷ by r20 (implies g72 g69) (76 ∷ 74 ∷ [])
    ∷ by r20 (implies g72 g15) (77 ∷ 75 ∷ [])
    ∷ by r49 (triple 1 0 g74 g70) []
    ∷ by r22 (implies g6 g55) (23 ∷ [])
    ∷ by r32 (inside g5 g58) (21 ∷ 55 ∷ [])
    ∷ by r22 (implies g6 g59) (81 ∷ [])
    ∷ by r22 (implies g8 g73) (23 ∷ [])
    ∷ by r14 (triple 1 0 g75 g54) (51 ∷ 53 ∷ [])
    ∷ by r14 (triple 1 0 g76 g72) (79 ∷ 53 ∷ [])
    ∷ by r20 (implies g75 g75) []
    ∷ by r16 (triple 1 0 g75 g14) (86 ∷ 84 ∷ 50 ∷ [])
    ∷ by r20 (implies g76 g76) []
    ∷ by r16 (triple 1 0 g76 g15) (88 ∷ 85 ∷ 78 ∷ [])
    ∷ by r14 (triple 1 0 g77 g16) (87 ∷ 89 ∷ [])
    ∷ by r14 (triple 1 0 g78 g41) (25 ∷ 90 ∷ [])
    ∷ by r14 (triple 1 0 g79 g42) (20 ∷ 91 ∷ [])
    ∷ by r36 (inside (box (cov 1)) g39) []
    ∷ by r24 (implies g11 g81) []
    ∷ by r40 (inside g82 (box (cov 1))) []
    ∷ by r30 (inside g83 g37) []
    ∷ by r39 (inside g84 g80) []
    ∷ by r40 (inside g84 g12) []
    ∷ by r31 (inside g84 g35) (98 ∷ 24 ∷ [])
    ∷ by r41 (inside g84 g85) (97 ∷ 99 ∷ [])
    ∷ by r45 (inside g85 g83) []
    ∷ by r31 (inside g84 g83) (100 ∷ 101 ∷ [])
    ∷ by r31 (inside g84 g37) (102 ∷ 96 ∷ [])
    ∷ by r32 (inside g86 g39) (95 ∷ 103 ∷ [])
    ∷ by r40 (inside g87 g80) []
    ∷ by r39 (inside g87 g13) []
    ∷ by r41 (inside g87 g88) (105 ∷ 106 ∷ [])
    ∷ by r38 (inside g88 g86) []
    ∷ by r31 (inside g87 g86) (107 ∷ 108 ∷ [])
    ∷ by r31 (inside g87 g39) (109 ∷ 104 ∷ [])
    ∷ by r22 (implies g89 g40) (110 ∷ [])
    ∷ by r25 (implies g90 g89) []
    ∷ by r20 (implies g91 g89) (112 ∷ 94 ∷ [])
    ∷ by r20 (implies g91 g40) (113 ∷ 111 ∷ [])
    ∷ by r20 (implies g42 g43) []
    ∷ by r20 (implies g93 g79) (32 ∷ 80 ∷ 82 ∷ 83 ∷ [])
    ∷ by r16 (triple 1 0 g93 g43) (116 ∷ 92 ∷ 115 ∷ [])
    ∷ by r16 (triple 1 0 g91 g43) (114 ∷ 28 ∷ 29 ∷ [])
    ∷ by r15 (triple 1 0 g94 g95) (117 ∷ 118 ∷ [])
    ∷ by r20 (implies g95 g43) []
    ∷ by r20 (implies g94 g94) []
    ∷ by r16 (triple 1 0 g94 g43) (121 ∷ 119 ∷ 120 ∷ [])
    ∷ by r20 (implies g19 g94) []
    ∷ by r16 (triple 1 0 g19 g43) (123 ∷ 122 ∷ 30 ∷ [])
    ∷ by r47 (triple 2 0 g96 g11) []
    ∷ by r10 (triple 2 0 g97 g11) (125 ∷ [])
    ∷ by r1 (triple 2 0 g1 g1) []
    ∷ by r39 (inside g98 (one 1)) []
    ∷ by r47 (triple 2 0 g100 g29) []
    ∷ by r10 (triple 2 0 g102 g29) (129 ∷ [])
    ∷ by r20 (implies g29 g105) []
    ∷ by r20 (implies g105 g105) []
    ∷ by r22 (implies g8 g97) (31 ∷ [])
    ∷ by r24 (implies g106 g108) []
    ∷ by r40 (inside g109 (box (cov 1))) []
    ∷ by r40 (inside g110 g98) []
    ∷ by r31 (inside g110 (one 1)) (136 ∷ 128 ∷ [])
    ∷ by r30 (inside g111 g35) []
    ∷ by r39 (inside g110 g107) []
    ∷ by r40 (inside g98 g112) []
    ∷ by r31 (inside g110 g112) (136 ∷ 140 ∷ [])
    ∷ by r41 (inside g110 g113) (139 ∷ 141 ∷ [])
    ∷ by r45 (inside g113 g111) []
    ∷ by r31 (inside g110 g111) (142 ∷ 143 ∷ [])
    ∷ by r31 (inside g110 g35) (144 ∷ 138 ∷ [])
    ∷ by r41 (inside g110 g12) (137 ∷ 145 ∷ [])
    ∷ by r32 (inside g114 g13) (135 ∷ 146 ∷ [])
    ∷ by r40 (inside g116 g107) []
    ∷ by r39 (inside g116 g115) []
    ∷ by r41 (inside g116 g117) (148 ∷ 149 ∷ [])
    ∷ by r38 (inside g117 g114) []
    ∷ by r31 (inside g116 g114) (150 ∷ 151 ∷ [])
    ∷ by r31 (inside g116 g13) (152 ∷ 147 ∷ [])
    ∷ by r22 (implies g118 g14) (153 ∷ [])
    ∷ by r25 (implies g120 g118) []
    ∷ by r20 (implies g121 g118) (155 ∷ 134 ∷ [])
    ∷ by r20 (implies g121 g14) (156 ∷ 154 ∷ [])
    ∷ by r49 (triple 2 0 g122 g119) []
    ∷ by r47 (triple 2 0 g123 g106) []
    ∷ by r10 (triple 2 0 g124 g106) (159 ∷ [])
    ∷ by r24 (implies g106 g125) []
    ∷ by r39 (inside g126 g98) []
    ∷ by r31 (inside g126 (one 1)) (162 ∷ 128 ∷ [])
    ∷ by r30 (inside g127 g35) []
    ∷ by r31 (inside g126 g112) (162 ∷ 140 ∷ [])
    ∷ by r40 (inside g126 g107) []
    ∷ by r41 (inside g126 g128) (165 ∷ 166 ∷ [])
    ∷ by r45 (inside g128 g127) []
    ∷ by r31 (inside g126 g127) (167 ∷ 168 ∷ [])
    ∷ by r31 (inside g126 g35) (169 ∷ 164 ∷ [])
    ∷ by r41 (inside g126 g12) (163 ∷ 170 ∷ [])
    ∷ by r31 (inside g126 g13) (171 ∷ 45 ∷ [])
    ∷ by r22 (implies g129 g15) (172 ∷ [])
    ∷ by r25 (implies g131 g129) []
    ∷ by r20 (implies g132 g129) (174 ∷ 161 ∷ [])
    ∷ by r20 (implies g132 g15) (175 ∷ 173 ∷ [])
    ∷ by r48 (triple 2 0 g73 g130) []
    ∷ by r22 (implies g8 g124) (81 ∷ [])
    ∷ by r14 (triple 2 0 g133 g121) (158 ∷ 160 ∷ [])
    ∷ by r14 (triple 2 0 g134 g132) (177 ∷ 160 ∷ [])
    ∷ by r20 (implies g133 g133) []
    ∷ by r16 (triple 2 0 g133 g14) (181 ∷ 179 ∷ 157 ∷ [])
    ∷ by r20 (implies g134 g134) []
    ∷ by r16 (triple 2 0 g134 g15) (183 ∷ 180 ∷ 176 ∷ [])
    ∷ by r14 (triple 2 0 g135 g16) (182 ∷ 184 ∷ [])
    ∷ by r14 (triple 2 0 g136 g103) (127 ∷ 185 ∷ [])
    ∷ by r14 (triple 2 0 g137 g104) (126 ∷ 186 ∷ [])
    ∷ by r36 (inside (box (cov 1)) g101) []
    ∷ by r24 (implies g21 g139) []
    ∷ by r40 (inside g140 (box (cov 1))) []
    ∷ by r30 (inside g141 g99) []
    ∷ by r39 (inside g142 g138) []
    ∷ by r40 (inside g142 g12) []
    ∷ by r31 (inside g142 g35) (193 ∷ 24 ∷ [])
    ∷ by r41 (inside g142 g143) (192 ∷ 194 ∷ [])
    ∷ by r45 (inside g143 g141) []
    ∷ by r31 (inside g142 g141) (195 ∷ 196 ∷ [])
    ∷ by r31 (inside g142 g99) (197 ∷ 191 ∷ [])
    ∷ by r32 (inside g144 g101) (190 ∷ 198 ∷ [])
    ∷ by r40 (inside g145 g138) []
    ∷ by r39 (inside g145 g13) []
    ∷ by r41 (inside g145 g146) (200 ∷ 201 ∷ [])
    ∷ by r38 (inside g146 g144) []
    ∷ by r31 (inside g145 g144) (202 ∷ 203 ∷ [])
    ∷ by r31 (inside g145 g101) (204 ∷ 199 ∷ [])
    ∷ by r22 (implies g147 g102) (205 ∷ [])
    ∷ by r25 (implies g148 g147) []
    ∷ by r20 (implies g149 g147) (207 ∷ 189 ∷ [])
    ∷ by r20 (implies g149 g102) (208 ∷ 206 ∷ [])
    ∷ by r20 (implies g104 g105) []
    ∷ by r20 (implies g151 g137) (133 ∷ 83 ∷ 80 ∷ 178 ∷ [])
    ∷ by r16 (triple 2 0 g151 g105) (211 ∷ 187 ∷ 210 ∷ [])
    ∷ by r16 (triple 2 0 g149 g105) (209 ∷ 130 ∷ 131 ∷ [])
    ∷ by r15 (triple 2 0 g152 g153) (212 ∷ 213 ∷ [])
    ∷ by r20 (implies g153 g105) []
    ∷ by r20 (implies g152 g152) []
    ∷ by r16 (triple 2 0 g152 g105) (216 ∷ 214 ∷ 215 ∷ [])
    ∷ by r20 (implies g24 g152) []
    ∷ by r16 (triple 2 0 g24 g105) (218 ∷ 217 ∷ 132 ∷ [])
    ∷ by r3 (triple 3 0 g28 g154) []
    ∷ by r1 (triple 3 0 g29 g29) []
    ∷ by r20 (implies g154 g155) []
    ∷ by r15 (triple 3 0 g30 g155) (220 ∷ 221 ∷ [])
    ∷ by r14 (triple 1 0 g156 g22) (20 ∷ 90 ∷ [])
    ∷ by r20 (implies g22 g23) []
    ∷ by r20 (implies g156 g156) []
    ∷ by r16 (triple 1 0 g156 g23) (226 ∷ 224 ∷ 225 ∷ [])
    ∷ by r14 (triple 1 0 g157 g24) (25 ∷ 227 ∷ [])
    ∷ by r21 (implies g158 (holds Formula.false)) []
    ∷ by r21 (implies g159 (holds Formula.false)) []
    ∷ by r20 (implies g160 g2) []
    ∷ by r20 (implies g160 g33) (32 ∷ 230 ∷ [])
    ∷ by r20 (implies g160 g77) (80 ∷ 82 ∷ 83 ∷ 230 ∷ [])
    ∷ by r20 (implies g160 g156) (232 ∷ 233 ∷ [])
    ∷ by r20 (implies g160 g157) (231 ∷ 234 ∷ [])
    ∷ by r20 (implies g161 g160) []
    ∷ by r20 (implies g24 g24) []
    ∷ by r16 (triple 1 0 g160 g24) (235 ∷ 228 ∷ 237 ∷ [])
    ∷ by r16 (triple 1 0 g161 g24) (236 ∷ 238 ∷ 237 ∷ [])
    ∷ by r24 (implies g162 g164) []
    ∷ by r40 (inside g165 (box (cov 1))) []
    ∷ by r30 (inside g166 g37) []
    ∷ by r39 (inside g167 g163) []
    ∷ by r40 (inside g167 g12) []
    ∷ by r31 (inside g167 g35) (244 ∷ 24 ∷ [])
    ∷ by r41 (inside g167 g168) (243 ∷ 245 ∷ [])
    ∷ by r45 (inside g168 g166) []
    ∷ by r31 (inside g167 g166) (246 ∷ 247 ∷ [])
    ∷ by r31 (inside g167 g37) (248 ∷ 242 ∷ [])
    ∷ by r32 (inside g169 g39) (241 ∷ 249 ∷ [])
    ∷ by r40 (inside g170 g163) []
    ∷ by r39 (inside g170 g13) []
    ∷ by r41 (inside g170 g171) (251 ∷ 252 ∷ [])
    ∷ by r38 (inside g171 g169) []
    ∷ by r31 (inside g170 g169) (253 ∷ 254 ∷ [])
    ∷ by r31 (inside g170 g39) (255 ∷ 250 ∷ [])
    ∷ by r22 (implies g172 g40) (256 ∷ [])
    ∷ by r25 (implies g173 g172) []
    ∷ by r20 (implies g174 g172) (258 ∷ 240 ∷ [])
    ∷ by r20 (implies g174 g40) (259 ∷ 257 ∷ [])
    ∷ by r30 (inside g175 (box (cov 1))) []
    ∷ by r31 (inside g175 g39) (261 ∷ 93 ∷ [])
    ∷ by r22 (implies g176 g40) (262 ∷ [])
    ∷ by r24 (implies g177 g176) []
    ∷ by r20 (implies g177 g40) (264 ∷ 263 ∷ [])
    ∷ by r20 (implies g178 g40) (260 ∷ 265 ∷ [])
    ∷ by r30 (inside g179 (box (cov 1))) []
    ∷ by r31 (inside g179 g39) (267 ∷ 93 ∷ [])
    ∷ by r22 (implies g180 g40) (268 ∷ [])
    ∷ by r24 (implies g181 g180) []
    ∷ by r20 (implies g181 g40) (270 ∷ 269 ∷ [])
    ∷ by r30 (inside g182 (box (cov 1))) []
    ∷ by r31 (inside g182 g39) (272 ∷ 93 ∷ [])
    ∷ by r22 (implies g183 g40) (273 ∷ [])
    ∷ by r24 (implies g184 g183) []
    ∷ by r20 (implies g184 g40) (275 ∷ 274 ∷ [])
    ∷ by r30 (inside g185 (box (cov 1))) []
    ∷ by r31 (inside g185 g39) (277 ∷ 93 ∷ [])
    ∷ by r22 (implies g186 g40) (278 ∷ [])
    ∷ by r24 (implies g187 g186) []
    ∷ by r20 (implies g187 g40) (280 ∷ 279 ∷ [])
    ∷ by r20 (implies g188 g40) (271 ∷ 276 ∷ 281 ∷ [])
    ∷ by r20 (implies g189 g40) (266 ∷ 282 ∷ [])
    ∷ by r16 (triple 1 0 g189 g105) (283 ∷ 28 ∷ 131 ∷ [])
    ∷ by r21 (implies g190 (holds Formula.false)) []
    ∷ by r21 (implies g191 (holds Formula.false)) []
    ∷ by r21 (implies g192 (holds Formula.false)) []
    ∷ by r1 (triple 1 0 g154 g154) []
    ∷ by r20 (implies g193 g154) (285 ∷ 286 ∷ 287 ∷ [])
    ∷ by r16 (triple 1 0 g193 g155) (289 ∷ 288 ∷ 222 ∷ [])
    ∷ by r14 (triple 2 0 g194 g17) (126 ∷ 185 ∷ [])
    ∷ by r20 (implies g17 g18) []
    ∷ by r20 (implies g194 g194) []
    ∷ by r16 (triple 2 0 g194 g18) (293 ∷ 291 ∷ 292 ∷ [])
    ∷ by r14 (triple 2 0 g195 g19) (127 ∷ 294 ∷ [])
    ∷ by r20 (implies g196 g1) []
    ∷ by r20 (implies g196 g97) (133 ∷ 229 ∷ [])
    ∷ by r20 (implies g196 g135) (83 ∷ 80 ∷ 178 ∷ 229 ∷ [])
    ∷ by r20 (implies g196 g194) (297 ∷ 298 ∷ [])
    ∷ by r20 (implies g196 g195) (296 ∷ 299 ∷ [])
    ∷ by r20 (implies g197 g196) []
    ∷ by r20 (implies g19 g19) []
    ∷ by r16 (triple 2 0 g196 g19) (300 ∷ 295 ∷ 302 ∷ [])
    ∷ by r16 (triple 2 0 g197 g19) (301 ∷ 303 ∷ 302 ∷ [])
    ∷ by r24 (implies g198 g200) []
    ∷ by r40 (inside g201 (box (cov 1))) []
    ∷ by r30 (inside g202 g99) []
    ∷ by r39 (inside g203 g199) []
    ∷ by r40 (inside g203 g12) []
    ∷ by r31 (inside g203 g35) (309 ∷ 24 ∷ [])
    ∷ by r41 (inside g203 g204) (308 ∷ 310 ∷ [])
    ∷ by r45 (inside g204 g202) []
    ∷ by r31 (inside g203 g202) (311 ∷ 312 ∷ [])
    ∷ by r31 (inside g203 g99) (313 ∷ 307 ∷ [])
    ∷ by r32 (inside g205 g101) (306 ∷ 314 ∷ [])
    ∷ by r40 (inside g206 g199) []
    ∷ by r39 (inside g206 g13) []
    ∷ by r41 (inside g206 g207) (316 ∷ 317 ∷ [])
    ∷ by r38 (inside g207 g205) []
    ∷ by r31 (inside g206 g205) (318 ∷ 319 ∷ [])
    ∷ by r31 (inside g206 g101) (320 ∷ 315 ∷ [])
    ∷ by r22 (implies g208 g102) (321 ∷ [])
    ∷ by r25 (implies g209 g208) []
    ∷ by r20 (implies g210 g208) (323 ∷ 305 ∷ [])
    ∷ by r20 (implies g210 g102) (324 ∷ 322 ∷ [])
    ∷ by r30 (inside g211 (box (cov 1))) []
    ∷ by r31 (inside g211 g101) (326 ∷ 188 ∷ [])
    ∷ by r22 (implies g212 g102) (327 ∷ [])
    ∷ by r24 (implies g213 g212) []
    ∷ by r20 (implies g213 g102) (329 ∷ 328 ∷ [])
    ∷ by r20 (implies g214 g102) (325 ∷ 330 ∷ [])
    ∷ by r30 (inside g215 (box (cov 1))) []
    ∷ by r31 (inside g215 g101) (332 ∷ 188 ∷ [])
    ∷ by r22 (implies g216 g102) (333 ∷ [])
    ∷ by r24 (implies g217 g216) []
    ∷ by r20 (implies g217 g102) (335 ∷ 334 ∷ [])
    ∷ by r30 (inside g218 (box (cov 1))) []
    ∷ by r31 (inside g218 g101) (337 ∷ 188 ∷ [])
    ∷ by r22 (implies g219 g102) (338 ∷ [])
    ∷ by r24 (implies g220 g219) []
    ∷ by r20 (implies g220 g102) (340 ∷ 339 ∷ [])
    ∷ by r30 (inside g221 (box (cov 1))) []
    ∷ by r31 (inside g221 g101) (342 ∷ 188 ∷ [])
    ∷ by r22 (implies g222 g102) (343 ∷ [])
    ∷ by r24 (implies g223 g222) []
    ∷ by r20 (implies g223 g102) (345 ∷ 344 ∷ [])
    ∷ by r20 (implies g224 g102) (336 ∷ 341 ∷ 346 ∷ [])
    ∷ by r20 (implies g225 g102) (331 ∷ 347 ∷ [])
    ∷ by r16 (triple 2 0 g225 g43) (348 ∷ 130 ∷ 29 ∷ [])
    ∷ by r21 (implies g226 (holds Formula.false)) []
    ∷ by r21 (implies g227 (holds Formula.false)) []
    ∷ by r21 (implies g228 (holds Formula.false)) []
    ∷ by r1 (triple 2 0 g154 g154) []
    ∷ by r20 (implies g229 g154) (350 ∷ 351 ∷ 352 ∷ [])
    ∷ by r16 (triple 2 0 g229 g155) (354 ∷ 353 ∷ 222 ∷ [])
    ∷ by r1 (triple 3 0 g19 g19) []
    ∷ by r20 (implies g230 g19) []
    ∷ by r16 (triple 3 0 g230 g19) (357 ∷ 356 ∷ 302 ∷ [])
    ∷ by r1 (triple 3 0 g43 g43) []
    ∷ by r20 (implies g231 g43) []
    ∷ by r16 (triple 3 0 g231 g43) (360 ∷ 359 ∷ 30 ∷ [])
    ∷ by r1 (triple 3 0 g24 g24) []
    ∷ by r20 (implies g232 g24) []
    ∷ by r16 (triple 3 0 g232 g24) (363 ∷ 362 ∷ 237 ∷ [])
    ∷ by r1 (triple 3 0 g105 g105) []
    ∷ by r20 (implies g233 g105) []
    ∷ by r16 (triple 3 0 g233 g105) (366 ∷ 365 ∷ 132 ∷ [])
    ∷ by r30 (inside g26 g234) []
    ∷ by r31 (inside g3 g234) (14 ∷ 368 ∷ [])
    ∷ by r32 (inside g5 g235) (21 ∷ 369 ∷ [])
    ∷ by r22 (implies g6 g236) (370 ∷ [])
    ∷ by r20 (implies g237 g40) (94 ∷ 112 ∷ 111 ∷ [])
    ∷ by r21 (implies g238 (holds Formula.false)) []
    ∷ by r21 (implies g239 (holds Formula.false)) []
    ∷ further [] (triple 1 0 g240 g28) (i52 refl tt) []
    ∷ by r15 (triple 1 0 g241 g30) (375 ∷ 28 ∷ [])
    ∷ by r20 (implies g245 g241) (371 ∷ 372 ∷ 373 ∷ 374 ∷ [])
    ∷ by r20 (implies g30 g30) []
    ∷ by r16 (triple 1 0 g245 g30) (377 ∷ 376 ∷ 378 ∷ [])
    ∷ by r20 (implies g246 g245) []
    ∷ by r16 (triple 1 0 g246 g30) (380 ∷ 379 ∷ 378 ∷ [])
    ∷ by r22 (implies g8 g247) (370 ∷ [])
    ∷ by r20 (implies g248 g102) (189 ∷ 207 ∷ 206 ∷ [])
    ∷ by r21 (implies g249 (holds Formula.false)) []
    ∷ by r21 (implies g250 (holds Formula.false)) []
    ∷ further [] (triple 2 0 g251 g28) (i52 refl tt) []
    ∷ by r15 (triple 2 0 g252 g30) (386 ∷ 130 ∷ [])
    ∷ by r20 (implies g256 g252) (382 ∷ 383 ∷ 384 ∷ 385 ∷ [])
    ∷ by r16 (triple 2 0 g256 g30) (388 ∷ 387 ∷ 378 ∷ [])
    ∷ by r20 (implies g257 g256) []
    ∷ by r16 (triple 2 0 g257 g30) (390 ∷ 389 ∷ 378 ∷ [])
    ∷ []

-- the line that meets each obligation, in order
met_by : List ℕ
met_by = 10 ∷ 11 ∷ 18 ∷ 124 ∷ 219 ∷ 223 ∷ 239 ∷ 284 ∷ 381 ∷ 290 ∷ 304 ∷ 349 ∷ 391 ∷ 355 ∷ 358 ∷ 361 ∷ 364 ∷ 367 ∷ []

-- THE THEOREM
pub ticket_wait_run : EveryRun (program_of ticket_wait) (outline_of ticket_wait)
unfolding lines met_by upd same choose is_in distinct same_name same_leaf ℕ_discrete
ticket_wait_run = certified_run ticket_wait lines met_by tt tt
