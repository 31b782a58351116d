-- Peterson's algorithm: what both threads see together excludes that both are inside.
use mathlib.Core.List.{List, [], ◌∷◌}
use Prim.Native.Nat.{ℕ}
use lib.Dec.{T, leb→le}
use Rattle.semantics.specs.Formula.{Formula, Assertion, Interval, Formula.const, Formula.reg, Formula.word, Formula.equal, Formula.and, Formula.unsync, Formula.cov, Formula.box, Formula.one, Formula.chop, Formula.both, Formula.sees, Formula.both_a, Formula.either_a, Formula.start, Formula.holds}
use Rattle.semantics.specs.EveryRun.{EveryRun}
use Rattle.logic.specs.Claims.{NeverBoth}
use Rattle.semantics.specs.Formula.{same}
use Rattle.logic.specs.Rows.{choose, is_in, distinct, same_name}
use Rattle.logic.specs.Table.{same_leaf}
use Rattle.semantics.specs.Base.{upd}
use native.Mathlib.Decide.{ℕ_discrete}
use Rattle.logic.specs.Statement.{inside, implies, triple, pair}
use Rattle.logic.specs.Rule.{r1, r3, r5, r6, r10, r11, r12, r13, r14, r15, r16, r20, r21, r22, r23, r24, r25, r26, r27, r30, r31, r32, r35, r39, r40, r45, r46, r50}
use Rattle.logic.specs.Inference.{newest}
use Rattle.logic_further.specs.Further.{i53}
use Rattle.logic_further.specs.Example.{program_of, outline_of}
use Rattle.logic_further.specs.Certificate.{Line, by, further, certified}
use Rattle.logic_further.specs.Programs.{peterson_joint, both_inside}
use Rattle.logic_further.proofs.Certified.{certified_run, certified_never}

-- FORMULAS of the lines
abbrev g1 : Assertion
g1 = holds (equal (reg 1) (const 0))

abbrev g2 : Interval
g2 = newest 1 (const 0)

abbrev g3 : Assertion
g3 = sees 1 g2

abbrev g4 : Interval
g4 = newest 3 (const 0)

abbrev g5 : Assertion
g5 = sees 1 g4

abbrev g6 : Interval
g6 = chop (box (cov 3)) (one 3)

abbrev g7 : Assertion
g7 = sees 1 g6

abbrev g8 : Assertion
g8 = sees 2 g4

abbrev g9 : Assertion
g9 = sees 2 g6

abbrev g10 : Assertion
g10 = holds (equal (reg 4) (const 0))

abbrev g11 : Assertion
g11 = both_a g7 g9

abbrev g12 : Interval
g12 = newest 3 (const 1)

abbrev g13 : Interval
g13 = chop (box (cov 3)) g12

abbrev g14 : Interval
g14 = box (equal (word 2) (const 1))

abbrev g15 : Interval
g15 = chop (box (unsync 3)) g14

abbrev g16 : Interval
g16 = chop (box (cov 3)) g15

abbrev g17 : Interval
g17 = both g13 g16

abbrev g18 : Assertion
g18 = sees 1 g17

abbrev g19 : Assertion
g19 = sees 2 g13

abbrev g20 : Assertion
g20 = both_a g18 g19

abbrev g21 : Assertion
g21 = either_a g10 g20

abbrev g22 : Assertion
g22 = both_a g11 g21

abbrev g23 : Assertion
g23 = both_a (sees 1 (one 1)) g22

abbrev g24 : Assertion
g24 = both_a g1 g23

abbrev g25 : Interval
g25 = newest 2 (const 0)

abbrev g26 : Assertion
g26 = sees 2 g25

abbrev g27 : Interval
g27 = newest 3 (const 2)

abbrev g28 : Interval
g28 = chop (box (cov 3)) g27

abbrev g29 : Interval
g29 = box (equal (word 1) (const 1))

abbrev g30 : Interval
g30 = chop (box (unsync 3)) g29

abbrev g31 : Interval
g31 = chop (box (cov 3)) g30

abbrev g32 : Interval
g32 = both g28 g31

abbrev g33 : Assertion
g33 = sees 2 g32

abbrev g34 : Assertion
g34 = sees 1 g28

abbrev g35 : Assertion
g35 = both_a g33 g34

abbrev g36 : Assertion
g36 = either_a g1 g35

abbrev g37 : Assertion
g37 = both_a g11 g36

abbrev g38 : Assertion
g38 = both_a (sees 2 (one 2)) g37

abbrev g39 : Assertion
g39 = both_a g10 g38

abbrev g40 : Interval
g40 = newest 1 (const 1)

abbrev g41 : Assertion
g41 = sees 1 g40

abbrev g42 : Assertion
g42 = sees 1 g29

abbrev g43 : Assertion
g43 = sees 1 g13

abbrev g44 : Assertion
g44 = sees 1 g16

abbrev g45 : Assertion
g45 = both_a g43 g44

abbrev g46 : Assertion
g46 = both_a g42 g22

abbrev g47 : Assertion
g47 = both_a g1 g46

abbrev g48 : Assertion
g48 = holds (Formula.not (equal (const 1) (const 0)))

abbrev g49 : Assertion
g49 = holds (Formula.not Formula.false)

abbrev g50 : Assertion
g50 = sees 1 g27

abbrev g51 : Assertion
g51 = sees 1 g14

abbrev g52 : Interval
g52 = box (Formula.not (equal (word 3) (const 1)))

abbrev g53 : Interval
g53 = both g14 g52

abbrev g54 : Interval
g54 = box (and (equal (word 2) (const 1)) (Formula.not (equal (word 3) (const 1))))

abbrev g55 : Assertion
g55 = sees 1 g53

abbrev g56 : Assertion
g56 = sees 1 g54

abbrev g57 : Assertion
g57 = sees 1 g52

abbrev g58 : Assertion
g58 = both_a g51 g57

abbrev g59 : Assertion
g59 = sees 1 g15

abbrev g60 : Interval
g60 = box (equal (word 3) (const 2))

abbrev g61 : Assertion
g61 = both_a g44 g7

abbrev g62 : Assertion
g62 = sees 2 g12

abbrev g63 : Assertion
g63 = either_a g62 g56

abbrev g64 : Assertion
g64 = either_a g10 g61

abbrev g65 : Assertion
g65 = either_a g10 g63

abbrev g66 : Assertion
g66 = both_a g48 g64

abbrev g67 : Assertion
g67 = both_a g48 g65

abbrev g68 : Assertion
g68 = holds (Formula.not (equal (reg 1) (const 0)))

abbrev g69 : Assertion
g69 = both_a g68 g65

abbrev g70 : Interval
g70 = box (equal (word 3) (const 1))

abbrev g71 : Interval
g71 = box (and (Formula.not (equal (word 3) (const 1))) (equal (reg 2) (const 1)))

abbrev g72 : Interval
g72 = both g14 g71

abbrev g73 : Interval
g73 = box (and (equal (word 2) (const 1)) (and (Formula.not (equal (word 3) (const 1))) (equal (reg 2) (const 1))))

abbrev g74 : Assertion
g74 = sees 1 g72

abbrev g75 : Assertion
g75 = sees 1 g73

abbrev g76 : Assertion
g76 = sees 1 g71

abbrev g77 : Assertion
g77 = both_a g51 g76

abbrev g78 : Interval
g78 = box (equal (reg 2) (const 1))

abbrev g79 : Interval
g79 = both g52 g78

abbrev g80 : Assertion
g80 = sees 1 g79

abbrev g81 : Assertion
g81 = sees 1 g78

abbrev g82 : Assertion
g82 = both_a g57 g81

abbrev g83 : Assertion
g83 = holds (equal (reg 2) (const 1))

abbrev g84 : Assertion
g84 = both_a g57 g51

abbrev g85 : Assertion
g85 = both_a g51 g84

abbrev g86 : Assertion
g86 = either_a g62 g85

abbrev g87 : Assertion
g87 = either_a g62 g75

abbrev g88 : Assertion
g88 = either_a g10 g86

abbrev g89 : Assertion
g89 = either_a g10 g87

abbrev g90 : Assertion
g90 = both_a g68 g88

abbrev g91 : Assertion
g91 = both_a g68 g89

abbrev g92 : Interval
g92 = box (and (Formula.not (equal (word 3) (const 1))) (and (equal (reg 2) (const 1)) (Formula.not (equal (reg 3) (const 1)))))

abbrev g93 : Interval
g93 = both g14 g92

abbrev g94 : Interval
g94 = box (and (equal (word 2) (const 1)) (and (Formula.not (equal (word 3) (const 1))) (and (equal (reg 2) (const 1)) (Formula.not (equal (reg 3) (const 1))))))

abbrev g95 : Assertion
g95 = sees 1 g93

abbrev g96 : Assertion
g96 = sees 1 g94

abbrev g97 : Assertion
g97 = sees 1 g92

abbrev g98 : Assertion
g98 = both_a g51 g97

abbrev g99 : Interval
g99 = box (and (equal (reg 2) (const 1)) (Formula.not (equal (reg 3) (const 1))))

abbrev g100 : Interval
g100 = both g52 g99

abbrev g101 : Assertion
g101 = sees 1 g100

abbrev g102 : Assertion
g102 = sees 1 g99

abbrev g103 : Assertion
g103 = both_a g57 g102

abbrev g104 : Interval
g104 = box (Formula.not (equal (reg 3) (const 1)))

abbrev g105 : Interval
g105 = both g78 g104

abbrev g106 : Assertion
g106 = sees 1 g105

abbrev g107 : Assertion
g107 = sees 1 g104

abbrev g108 : Assertion
g108 = both_a g81 g107

abbrev g109 : Assertion
g109 = holds (Formula.not (equal (reg 3) (const 1)))

abbrev g110 : Assertion
g110 = both_a g81 g57

abbrev g111 : Assertion
g111 = both_a g57 g110

abbrev g112 : Assertion
g112 = both_a g51 g111

abbrev g113 : Assertion
g113 = either_a g62 g112

abbrev g114 : Assertion
g114 = either_a g62 g96

abbrev g115 : Assertion
g115 = either_a g10 g113

abbrev g116 : Assertion
g116 = either_a g10 g114

abbrev g117 : Assertion
g117 = both_a g68 g115

abbrev g118 : Assertion
g118 = both_a g68 g116

abbrev g119 : Assertion
g119 = holds (and (equal (reg 2) (const 1)) (Formula.not (equal (reg 3) (const 1))))

abbrev g120 : Assertion
g120 = both_a g118 g119

abbrev g121 : Assertion
g121 = holds (Formula.not (and (Formula.not (equal (reg 2) (const 1))) (Formula.not (equal (reg 3) (const 1)))))

abbrev g122 : Assertion
g122 = holds (Formula.not (and (Formula.not (equal (reg 2) (const 1))) (equal (reg 3) (const 1))))

abbrev g123 : Assertion
g123 = holds (Formula.not (and (equal (reg 2) (const 1)) (equal (reg 3) (const 1))))

abbrev g124 : Assertion
g124 = holds (Formula.not (and (equal (reg 2) (const 1)) (Formula.not (equal (reg 3) (const 1)))))

abbrev g125 : Assertion
g125 = both_a g118 g124

abbrev g126 : Assertion
g126 = either_a g10 g62

abbrev g127 : Assertion
g127 = both_a g68 g126

abbrev g128 : Interval
g128 = newest 2 (const 1)

abbrev g129 : Assertion
g129 = sees 2 g128

abbrev g130 : Assertion
g130 = sees 2 g14

abbrev g131 : Assertion
g131 = sees 2 g28

abbrev g132 : Assertion
g132 = sees 2 g31

abbrev g133 : Assertion
g133 = both_a g131 g132

abbrev g134 : Assertion
g134 = both_a g130 g37

abbrev g135 : Assertion
g135 = both_a g10 g134

abbrev g136 : Assertion
g136 = sees 2 g29

abbrev g137 : Interval
g137 = box (Formula.not (equal (word 3) (const 2)))

abbrev g138 : Interval
g138 = both g29 g137

abbrev g139 : Interval
g139 = box (and (equal (word 1) (const 1)) (Formula.not (equal (word 3) (const 2))))

abbrev g140 : Assertion
g140 = sees 2 g138

abbrev g141 : Assertion
g141 = sees 2 g139

abbrev g142 : Assertion
g142 = sees 2 g137

abbrev g143 : Assertion
g143 = both_a g136 g142

abbrev g144 : Assertion
g144 = sees 2 g30

abbrev g145 : Assertion
g145 = both_a g132 g9

abbrev g146 : Assertion
g146 = either_a g50 g141

abbrev g147 : Assertion
g147 = either_a g1 g145

abbrev g148 : Assertion
g148 = either_a g1 g146

abbrev g149 : Assertion
g149 = both_a g48 g147

abbrev g150 : Assertion
g150 = both_a g48 g148

abbrev g151 : Assertion
g151 = holds (Formula.not (equal (reg 4) (const 0)))

abbrev g152 : Assertion
g152 = both_a g151 g148

abbrev g153 : Interval
g153 = box (and (Formula.not (equal (word 3) (const 2))) (equal (reg 5) (const 1)))

abbrev g154 : Interval
g154 = both g29 g153

abbrev g155 : Interval
g155 = box (and (equal (word 1) (const 1)) (and (Formula.not (equal (word 3) (const 2))) (equal (reg 5) (const 1))))

abbrev g156 : Assertion
g156 = sees 2 g154

abbrev g157 : Assertion
g157 = sees 2 g155

abbrev g158 : Assertion
g158 = sees 2 g153

abbrev g159 : Assertion
g159 = both_a g136 g158

abbrev g160 : Interval
g160 = box (equal (reg 5) (const 1))

abbrev g161 : Interval
g161 = both g137 g160

abbrev g162 : Assertion
g162 = sees 2 g161

abbrev g163 : Assertion
g163 = sees 2 g160

abbrev g164 : Assertion
g164 = both_a g142 g163

abbrev g165 : Assertion
g165 = holds (equal (reg 5) (const 1))

abbrev g166 : Assertion
g166 = both_a g142 g136

abbrev g167 : Assertion
g167 = both_a g136 g166

abbrev g168 : Assertion
g168 = either_a g50 g167

abbrev g169 : Assertion
g169 = either_a g50 g157

abbrev g170 : Assertion
g170 = either_a g1 g168

abbrev g171 : Assertion
g171 = either_a g1 g169

abbrev g172 : Assertion
g172 = both_a g151 g170

abbrev g173 : Assertion
g173 = both_a g151 g171

abbrev g174 : Interval
g174 = box (and (Formula.not (equal (word 3) (const 2))) (and (equal (reg 5) (const 1)) (Formula.not (equal (reg 6) (const 2)))))

abbrev g175 : Interval
g175 = both g29 g174

abbrev g176 : Interval
g176 = box (and (equal (word 1) (const 1)) (and (Formula.not (equal (word 3) (const 2))) (and (equal (reg 5) (const 1)) (Formula.not (equal (reg 6) (const 2))))))

abbrev g177 : Assertion
g177 = sees 2 g175

abbrev g178 : Assertion
g178 = sees 2 g176

abbrev g179 : Assertion
g179 = sees 2 g174

abbrev g180 : Assertion
g180 = both_a g136 g179

abbrev g181 : Interval
g181 = box (and (equal (reg 5) (const 1)) (Formula.not (equal (reg 6) (const 2))))

abbrev g182 : Interval
g182 = both g137 g181

abbrev g183 : Assertion
g183 = sees 2 g182

abbrev g184 : Assertion
g184 = sees 2 g181

abbrev g185 : Assertion
g185 = both_a g142 g184

abbrev g186 : Interval
g186 = box (Formula.not (equal (reg 6) (const 2)))

abbrev g187 : Interval
g187 = both g160 g186

abbrev g188 : Assertion
g188 = sees 2 g187

abbrev g189 : Assertion
g189 = sees 2 g186

abbrev g190 : Assertion
g190 = both_a g163 g189

abbrev g191 : Assertion
g191 = holds (Formula.not (equal (reg 6) (const 2)))

abbrev g192 : Assertion
g192 = both_a g163 g142

abbrev g193 : Assertion
g193 = both_a g142 g192

abbrev g194 : Assertion
g194 = both_a g136 g193

abbrev g195 : Assertion
g195 = either_a g50 g194

abbrev g196 : Assertion
g196 = either_a g50 g178

abbrev g197 : Assertion
g197 = either_a g1 g195

abbrev g198 : Assertion
g198 = either_a g1 g196

abbrev g199 : Assertion
g199 = both_a g151 g197

abbrev g200 : Assertion
g200 = both_a g151 g198

abbrev g201 : Assertion
g201 = holds (and (equal (reg 5) (const 1)) (Formula.not (equal (reg 6) (const 2))))

abbrev g202 : Assertion
g202 = both_a g200 g201

abbrev g203 : Assertion
g203 = holds (Formula.not (and (Formula.not (equal (reg 5) (const 1))) (Formula.not (equal (reg 6) (const 2)))))

abbrev g204 : Assertion
g204 = holds (Formula.not (and (Formula.not (equal (reg 5) (const 1))) (equal (reg 6) (const 2))))

abbrev g205 : Assertion
g205 = holds (Formula.not (and (equal (reg 5) (const 1)) (equal (reg 6) (const 2))))

abbrev g206 : Assertion
g206 = holds (Formula.not (and (equal (reg 5) (const 1)) (Formula.not (equal (reg 6) (const 2)))))

abbrev g207 : Assertion
g207 = both_a g200 g206

abbrev g208 : Assertion
g208 = either_a g1 g50

abbrev g209 : Assertion
g209 = both_a g151 g208

abbrev g210 : Assertion
g210 = both_a g11 g1

abbrev g211 : Assertion
g211 = both_a (sees 2 (one 2)) g210

abbrev g212 : Assertion
g212 = both_a g10 g211

abbrev g213 : Assertion
g213 = both_a g39 g24

abbrev g214 : Assertion
g214 = both_a g130 g210

abbrev g215 : Assertion
g215 = both_a g10 g214

abbrev g216 : Assertion
g216 = both_a g135 g24

abbrev g217 : Assertion
g217 = both_a g151 g1

abbrev g218 : Assertion
g218 = both_a g152 g24

abbrev g219 : Assertion
g219 = both_a g173 g24

abbrev g220 : Assertion
g220 = both_a g200 g24

abbrev g221 : Assertion
g221 = both_a g209 g24

abbrev g222 : Assertion
g222 = both_a g49 g24

abbrev g223 : Assertion
g223 = both_a g9 g42

abbrev g224 : Assertion
g224 = both_a g7 g223

abbrev g225 : Assertion
g225 = both_a g7 g11

abbrev g226 : Assertion
g226 = both_a g11 g224

abbrev g227 : Assertion
g227 = both_a g226 g7

abbrev g228 : Assertion
g228 = holds (equal (const 1) (const 0))

abbrev g229 : Assertion
g229 = either_a g228 g35

abbrev g230 : Assertion
g230 = both_a g225 g227

abbrev g231 : Assertion
g231 = both_a g11 g229

abbrev g232 : Assertion
g232 = both_a (sees 2 (one 2)) g230

abbrev g233 : Assertion
g233 = both_a (sees 2 (one 2)) g231

abbrev g234 : Assertion
g234 = both_a g10 g232

abbrev g235 : Assertion
g235 = both_a g10 g233

abbrev g236 : Assertion
g236 = both_a g39 g47

abbrev g237 : Assertion
g237 = both_a g130 g230

abbrev g238 : Assertion
g238 = both_a g130 g231

abbrev g239 : Assertion
g239 = both_a g10 g237

abbrev g240 : Assertion
g240 = both_a g10 g238

abbrev g241 : Assertion
g241 = both_a g135 g47

abbrev g242 : Assertion
g242 = either_a g228 g146

abbrev g243 : Assertion
g243 = both_a g151 g7

abbrev g244 : Assertion
g244 = both_a g151 g242

abbrev g245 : Assertion
g245 = both_a g152 g47

abbrev g246 : Assertion
g246 = either_a g228 g169

abbrev g247 : Assertion
g247 = both_a g151 g246

abbrev g248 : Assertion
g248 = both_a g173 g47

abbrev g249 : Assertion
g249 = either_a g228 g196

abbrev g250 : Assertion
g250 = both_a g151 g249

abbrev g251 : Assertion
g251 = both_a g200 g47

abbrev g252 : Assertion
g252 = either_a g228 g50

abbrev g253 : Assertion
g253 = both_a g151 g252

abbrev g254 : Assertion
g254 = both_a g209 g47

abbrev g255 : Assertion
g255 = both_a g49 g47

abbrev g256 : Assertion
g256 = both_a g39 g69

abbrev g257 : Assertion
g257 = both_a g135 g69

abbrev g258 : Assertion
g258 = both_a g152 g69

abbrev g259 : Assertion
g259 = both_a g173 g69

abbrev g260 : Assertion
g260 = both_a g200 g69

abbrev g261 : Assertion
g261 = both_a g209 g69

abbrev g262 : Assertion
g262 = both_a g49 g69

abbrev g263 : Assertion
g263 = both_a g39 g91

abbrev g264 : Assertion
g264 = both_a g135 g91

abbrev g265 : Assertion
g265 = both_a g152 g91

abbrev g266 : Assertion
g266 = both_a g173 g91

abbrev g267 : Assertion
g267 = both_a g200 g91

abbrev g268 : Assertion
g268 = both_a g209 g91

abbrev g269 : Assertion
g269 = both_a g49 g91

abbrev g270 : Assertion
g270 = holds (equal (const 0) (const 0))

abbrev g271 : Assertion
g271 = either_a g270 g35

abbrev g272 : Assertion
g272 = both_a g11 g270

abbrev g273 : Assertion
g273 = both_a g11 g271

abbrev g274 : Assertion
g274 = both_a (sees 2 (one 2)) g272

abbrev g275 : Assertion
g275 = both_a (sees 2 (one 2)) g273

abbrev g276 : Assertion
g276 = both_a g10 g274

abbrev g277 : Assertion
g277 = both_a g10 g275

abbrev g278 : Assertion
g278 = both_a g39 g127

abbrev g279 : Assertion
g279 = both_a g130 g272

abbrev g280 : Assertion
g280 = both_a g130 g273

abbrev g281 : Assertion
g281 = both_a g10 g279

abbrev g282 : Assertion
g282 = both_a g10 g280

abbrev g283 : Assertion
g283 = both_a g135 g127

abbrev g284 : Assertion
g284 = either_a g270 g146

abbrev g285 : Assertion
g285 = both_a g151 g270

abbrev g286 : Assertion
g286 = both_a g151 g284

abbrev g287 : Assertion
g287 = both_a g152 g127

abbrev g288 : Assertion
g288 = either_a g270 g169

abbrev g289 : Assertion
g289 = both_a g151 g288

abbrev g290 : Assertion
g290 = both_a g173 g127

abbrev g291 : Assertion
g291 = either_a g270 g196

abbrev g292 : Assertion
g292 = both_a g151 g291

abbrev g293 : Assertion
g293 = both_a g200 g127

abbrev g294 : Assertion
g294 = either_a g270 g50

abbrev g295 : Assertion
g295 = both_a g151 g294

abbrev g296 : Assertion
g296 = both_a g209 g127

abbrev g297 : Assertion
g297 = both_a g49 g127

abbrev g298 : Assertion
g298 = both_a g11 g10

abbrev g299 : Assertion
g299 = both_a (sees 1 (one 1)) g298

abbrev g300 : Assertion
g300 = both_a g1 g299

abbrev g301 : Assertion
g301 = both_a g24 g39

abbrev g302 : Assertion
g302 = both_a g42 g298

abbrev g303 : Assertion
g303 = both_a g1 g302

abbrev g304 : Assertion
g304 = both_a g47 g39

abbrev g305 : Assertion
g305 = both_a g68 g10

abbrev g306 : Assertion
g306 = both_a g69 g39

abbrev g307 : Assertion
g307 = both_a g91 g39

abbrev g308 : Assertion
g308 = both_a g118 g39

abbrev g309 : Assertion
g309 = both_a g127 g39

abbrev g310 : Assertion
g310 = both_a g49 g39

abbrev g311 : Assertion
g311 = both_a g9 g7

abbrev g312 : Assertion
g312 = both_a g7 g130

abbrev g313 : Assertion
g313 = both_a g9 g312

abbrev g314 : Assertion
g314 = both_a g311 g9

abbrev g315 : Assertion
g315 = both_a g311 g313

abbrev g316 : Assertion
g316 = both_a g315 g9

abbrev g317 : Assertion
g317 = either_a g228 g20

abbrev g318 : Assertion
g318 = both_a g314 g316

abbrev g319 : Assertion
g319 = both_a g11 g317

abbrev g320 : Assertion
g320 = both_a (sees 1 (one 1)) g318

abbrev g321 : Assertion
g321 = both_a (sees 1 (one 1)) g319

abbrev g322 : Assertion
g322 = both_a g1 g320

abbrev g323 : Assertion
g323 = both_a g1 g321

abbrev g324 : Assertion
g324 = both_a g24 g135

abbrev g325 : Assertion
g325 = both_a g42 g318

abbrev g326 : Assertion
g326 = both_a g42 g319

abbrev g327 : Assertion
g327 = both_a g1 g325

abbrev g328 : Assertion
g328 = both_a g1 g326

abbrev g329 : Assertion
g329 = both_a g47 g135

abbrev g330 : Assertion
g330 = either_a g228 g63

abbrev g331 : Assertion
g331 = both_a g68 g9

abbrev g332 : Assertion
g332 = both_a g68 g330

abbrev g333 : Assertion
g333 = both_a g69 g135

abbrev g334 : Assertion
g334 = either_a g228 g87

abbrev g335 : Assertion
g335 = both_a g68 g334

abbrev g336 : Assertion
g336 = both_a g91 g135

abbrev g337 : Assertion
g337 = either_a g228 g114

abbrev g338 : Assertion
g338 = both_a g68 g337

abbrev g339 : Assertion
g339 = both_a g118 g135

abbrev g340 : Assertion
g340 = either_a g228 g62

abbrev g341 : Assertion
g341 = both_a g68 g340

abbrev g342 : Assertion
g342 = both_a g127 g135

abbrev g343 : Assertion
g343 = both_a g49 g135

abbrev g344 : Assertion
g344 = both_a g24 g152

abbrev g345 : Assertion
g345 = both_a g47 g152

abbrev g346 : Assertion
g346 = both_a g69 g152

abbrev g347 : Assertion
g347 = both_a g91 g152

abbrev g348 : Assertion
g348 = both_a g118 g152

abbrev g349 : Assertion
g349 = both_a g127 g152

abbrev g350 : Assertion
g350 = both_a g49 g152

abbrev g351 : Assertion
g351 = both_a g24 g173

abbrev g352 : Assertion
g352 = both_a g47 g173

abbrev g353 : Assertion
g353 = both_a g69 g173

abbrev g354 : Assertion
g354 = both_a g91 g173

abbrev g355 : Assertion
g355 = both_a g118 g173

abbrev g356 : Assertion
g356 = both_a g127 g173

abbrev g357 : Assertion
g357 = both_a g49 g173

abbrev g358 : Assertion
g358 = either_a g270 g20

abbrev g359 : Assertion
g359 = both_a g11 g358

abbrev g360 : Assertion
g360 = both_a (sees 1 (one 1)) g272

abbrev g361 : Assertion
g361 = both_a (sees 1 (one 1)) g359

abbrev g362 : Assertion
g362 = both_a g1 g360

abbrev g363 : Assertion
g363 = both_a g1 g361

abbrev g364 : Assertion
g364 = both_a g24 g209

abbrev g365 : Assertion
g365 = both_a g42 g272

abbrev g366 : Assertion
g366 = both_a g42 g359

abbrev g367 : Assertion
g367 = both_a g1 g365

abbrev g368 : Assertion
g368 = both_a g1 g366

abbrev g369 : Assertion
g369 = both_a g47 g209

abbrev g370 : Assertion
g370 = either_a g270 g63

abbrev g371 : Assertion
g371 = both_a g68 g270

abbrev g372 : Assertion
g372 = both_a g68 g370

abbrev g373 : Assertion
g373 = both_a g69 g209

abbrev g374 : Assertion
g374 = either_a g270 g87

abbrev g375 : Assertion
g375 = both_a g68 g374

abbrev g376 : Assertion
g376 = both_a g91 g209

abbrev g377 : Assertion
g377 = either_a g270 g114

abbrev g378 : Assertion
g378 = both_a g68 g377

abbrev g379 : Assertion
g379 = both_a g118 g209

abbrev g380 : Assertion
g380 = either_a g270 g62

abbrev g381 : Assertion
g381 = both_a g68 g380

abbrev g382 : Assertion
g382 = both_a g127 g209

abbrev g383 : Assertion
g383 = both_a g49 g209

abbrev g384 : Assertion
g384 = both_a g62 g50

-- the lines, from 1
lines : List (Line (program_of peterson_joint))
unfolding upd distinct is_in same_name ℕ_discrete choose
lines =
    by r27 (implies start g1) []
    ∷ by r26 (implies start g3) []
    ∷ by r39 (inside g2 (one 1)) []
    ∷ by r22 (implies g3 (sees 1 (one 1))) (3 ∷ [])
    ∷ by r20 (implies start (sees 1 (one 1))) (2 ∷ 4 ∷ [])
    ∷ by r26 (implies start g5) []
    ∷ by r39 (inside g4 (one 3)) []
    ∷ by r35 (inside (one 3) g6) []
    ∷ by r31 (inside g4 g6) (7 ∷ 8 ∷ [])
    ∷ by r22 (implies g5 g7) (9 ∷ [])
    ∷ by r20 (implies start g7) (6 ∷ 10 ∷ [])
    ∷ by r26 (implies start g8) []
    ∷ by r22 (implies g8 g9) (9 ∷ [])
    ∷ by r20 (implies start g9) (12 ∷ 13 ∷ [])
    ∷ by r27 (implies start g10) []
    ∷ by r20 (implies start g23) (5 ∷ 11 ∷ 14 ∷ 15 ∷ [])
    ∷ by r20 (implies start g24) (1 ∷ 16 ∷ [])
    ∷ by r26 (implies start g26) []
    ∷ by r39 (inside g25 (one 2)) []
    ∷ by r22 (implies g26 (sees 2 (one 2))) (19 ∷ [])
    ∷ by r20 (implies start (sees 2 (one 2))) (18 ∷ 20 ∷ [])
    ∷ by r20 (implies start g38) (21 ∷ 11 ∷ 14 ∷ 1 ∷ [])
    ∷ by r20 (implies start g39) (15 ∷ 22 ∷ [])
    ∷ by r1 (triple 1 0 g1 g1) []
    ∷ by r40 (inside g40 g29) []
    ∷ by r22 (implies g41 g42) (25 ∷ [])
    ∷ by r6 (triple 1 0 (sees 1 (one 1)) g41) []
    ∷ by r20 (implies (sees 1 (one 1)) (sees 1 (one 1))) []
    ∷ by r16 (triple 1 0 (sees 1 (one 1)) g42) (28 ∷ 27 ∷ 26 ∷ [])
    ∷ by r1 (triple 1 0 g22 g22) []
    ∷ by r1 (triple 1 0 g11 g11) []
    ∷ by r46 (inside (box (cov 3)) (box (cov 3))) []
    ∷ by r39 (inside g12 (one 3)) []
    ∷ by r32 (inside g13 g6) (32 ∷ 33 ∷ [])
    ∷ by r22 (implies g43 g7) (34 ∷ [])
    ∷ by r1 (triple 1 0 g10 g10) []
    ∷ by r25 (implies g45 g18) []
    ∷ by r40 (inside g17 g16) []
    ∷ by r22 (implies g18 g44) (38 ∷ [])
    ∷ by r14 (triple 1 0 g23 g46) (29 ∷ 30 ∷ [])
    ∷ by r14 (triple 1 0 g24 g47) (24 ∷ 40 ∷ [])
    ∷ by r1 (triple 1 1 g48 g48) []
    ∷ by r21 (implies g49 g48) []
    ∷ by r11 (triple 1 1 g7 g50) []
    ∷ by r20 (implies g7 g7) []
    ∷ by r1 (triple 1 1 g51 g51) []
    ∷ by r20 (implies g51 g51) []
    ∷ by r1 (triple 1 1 g10 g10) []
    ∷ by r31 (inside g12 g6) (33 ∷ 8 ∷ [])
    ∷ by r45 (inside g53 g54) []
    ∷ by r22 (implies g55 g56) (50 ∷ [])
    ∷ by r20 (implies g57 g57) []
    ∷ by r25 (implies g58 g55) []
    ∷ by r20 (implies g58 g56) (53 ∷ 51 ∷ [])
    ∷ by r5 (triple 1 1 g59 g51) (46 ∷ [])
    ∷ by r10 (triple 1 1 g44 g51) (55 ∷ [])
    ∷ by r30 (inside g60 g52) []
    ∷ by r40 (inside g27 g60) []
    ∷ by r31 (inside g27 g52) (58 ∷ 57 ∷ [])
    ∷ by r22 (implies g50 g57) (59 ∷ [])
    ∷ by r16 (triple 1 1 g7 g57) (45 ∷ 44 ∷ 60 ∷ [])
    ∷ by r14 (triple 1 1 g61 g58) (56 ∷ 61 ∷ [])
    ∷ by r20 (implies g61 g61) []
    ∷ by r16 (triple 1 1 g61 g56) (63 ∷ 62 ∷ 54 ∷ [])
    ∷ by r20 (implies g56 g63) []
    ∷ by r16 (triple 1 1 g61 g63) (63 ∷ 64 ∷ 65 ∷ [])
    ∷ by r15 (triple 1 1 g64 g65) (48 ∷ 66 ∷ [])
    ∷ by r14 (triple 1 1 g66 g67) (42 ∷ 67 ∷ [])
    ∷ by r20 (implies g47 g66) (43 ∷ 39 ∷ [])
    ∷ by r20 (implies g67 g67) []
    ∷ by r16 (triple 1 1 g47 g67) (69 ∷ 68 ∷ 70 ∷ [])
    ∷ by r50 (pair 1 1 g47 g69) (71 ∷ [])
    ∷ by r1 (triple 1 2 g68 g68) []
    ∷ by r1 (triple 1 2 g10 g10) []
    ∷ by r1 (triple 1 2 g62 g62) []
    ∷ by r40 (inside g12 g70) []
    ∷ by r45 (inside g72 g73) []
    ∷ by r22 (implies g74 g75) (77 ∷ [])
    ∷ by r25 (implies g77 g74) []
    ∷ by r20 (implies g77 g75) (79 ∷ 78 ∷ [])
    ∷ by r1 (triple 1 2 g51 g51) []
    ∷ by r30 (inside g54 g14) []
    ∷ by r22 (implies g56 g51) (82 ∷ [])
    ∷ by r45 (inside g79 g71) []
    ∷ by r22 (implies g80 g76) (84 ∷ [])
    ∷ by r25 (implies g82 g80) []
    ∷ by r20 (implies g82 g76) (86 ∷ 85 ∷ [])
    ∷ by r1 (triple 1 2 g57 g57) []
    ∷ by r30 (inside g54 g52) []
    ∷ by r22 (implies g56 g57) (89 ∷ [])
    ∷ by r24 (implies g83 g81) []
    ∷ by r3 (triple 1 2 g51 g83) []
    ∷ by r16 (triple 1 2 g51 g81) (47 ∷ 92 ∷ 91 ∷ [])
    ∷ by r14 (triple 1 2 g84 g82) (88 ∷ 93 ∷ [])
    ∷ by r20 (implies g84 g84) []
    ∷ by r16 (triple 1 2 g84 g76) (95 ∷ 94 ∷ 87 ∷ [])
    ∷ by r14 (triple 1 2 g85 g77) (81 ∷ 96 ∷ [])
    ∷ by r20 (implies g85 g85) []
    ∷ by r16 (triple 1 2 g85 g75) (98 ∷ 97 ∷ 80 ∷ [])
    ∷ by r15 (triple 1 2 g86 g87) (75 ∷ 99 ∷ [])
    ∷ by r15 (triple 1 2 g88 g89) (74 ∷ 100 ∷ [])
    ∷ by r14 (triple 1 2 g90 g91) (73 ∷ 101 ∷ [])
    ∷ by r20 (implies g69 g90) (83 ∷ 90 ∷ [])
    ∷ by r20 (implies g91 g91) []
    ∷ by r16 (triple 1 2 g69 g91) (103 ∷ 102 ∷ 104 ∷ [])
    ∷ by r1 (triple 1 3 g68 g68) []
    ∷ by r1 (triple 1 3 g10 g10) []
    ∷ by r1 (triple 1 3 g62 g62) []
    ∷ by r45 (inside g93 g94) []
    ∷ by r22 (implies g95 g96) (109 ∷ [])
    ∷ by r25 (implies g98 g95) []
    ∷ by r20 (implies g98 g96) (111 ∷ 110 ∷ [])
    ∷ by r1 (triple 1 3 g51 g51) []
    ∷ by r30 (inside g73 g14) []
    ∷ by r22 (implies g75 g51) (114 ∷ [])
    ∷ by r45 (inside g100 g92) []
    ∷ by r22 (implies g101 g97) (116 ∷ [])
    ∷ by r25 (implies g103 g101) []
    ∷ by r20 (implies g103 g97) (118 ∷ 117 ∷ [])
    ∷ by r1 (triple 1 3 g57 g57) []
    ∷ by r30 (inside g73 g52) []
    ∷ by r22 (implies g75 g57) (121 ∷ [])
    ∷ by r45 (inside g105 g99) []
    ∷ by r22 (implies g106 g102) (123 ∷ [])
    ∷ by r25 (implies g108 g106) []
    ∷ by r20 (implies g108 g102) (125 ∷ 124 ∷ [])
    ∷ by r1 (triple 1 3 g81 g81) []
    ∷ by r30 (inside g73 g78) []
    ∷ by r22 (implies g75 g81) (128 ∷ [])
    ∷ by r24 (implies g109 g107) []
    ∷ by r3 (triple 1 3 g57 g109) []
    ∷ by r16 (triple 1 3 g57 g107) (52 ∷ 131 ∷ 130 ∷ [])
    ∷ by r14 (triple 1 3 g110 g108) (127 ∷ 132 ∷ [])
    ∷ by r20 (implies g110 g110) []
    ∷ by r16 (triple 1 3 g110 g102) (134 ∷ 133 ∷ 126 ∷ [])
    ∷ by r14 (triple 1 3 g111 g103) (120 ∷ 135 ∷ [])
    ∷ by r20 (implies g111 g111) []
    ∷ by r16 (triple 1 3 g111 g97) (137 ∷ 136 ∷ 119 ∷ [])
    ∷ by r14 (triple 1 3 g112 g98) (113 ∷ 138 ∷ [])
    ∷ by r20 (implies g112 g112) []
    ∷ by r16 (triple 1 3 g112 g96) (140 ∷ 139 ∷ 112 ∷ [])
    ∷ by r15 (triple 1 3 g113 g114) (108 ∷ 141 ∷ [])
    ∷ by r15 (triple 1 3 g115 g116) (107 ∷ 142 ∷ [])
    ∷ by r14 (triple 1 3 g117 g118) (106 ∷ 143 ∷ [])
    ∷ by r20 (implies g91 g117) (115 ∷ 122 ∷ 129 ∷ [])
    ∷ by r20 (implies g118 g118) []
    ∷ by r16 (triple 1 3 g91 g118) (145 ∷ 144 ∷ 146 ∷ [])
    ∷ by r30 (inside g94 g54) []
    ∷ by r22 (implies g96 g56) (148 ∷ [])
    ∷ by r20 (implies g120 g69) (149 ∷ [])
    ∷ by r23 (implies g96 g121) []
    ∷ by r23 (implies g96 g122) []
    ∷ by r23 (implies g96 g123) []
    ∷ by r20 (implies g125 g127) (151 ∷ 152 ∷ 153 ∷ [])
    ∷ by r1 (triple 1 5 g49 g49) []
    ∷ by r20 (implies g127 g49) []
    ∷ by r20 (implies g49 g49) []
    ∷ by r16 (triple 1 5 g127 g49) (156 ∷ 155 ∷ 157 ∷ [])
    ∷ by r50 (pair 1 5 g127 g49) (158 ∷ [])
    ∷ by r1 (triple 2 0 g10 g10) []
    ∷ by r40 (inside g128 g14) []
    ∷ by r22 (implies g129 g130) (161 ∷ [])
    ∷ by r6 (triple 2 0 (sees 2 (one 2)) g129) []
    ∷ by r20 (implies (sees 2 (one 2)) (sees 2 (one 2))) []
    ∷ by r16 (triple 2 0 (sees 2 (one 2)) g130) (164 ∷ 163 ∷ 162 ∷ [])
    ∷ by r1 (triple 2 0 g37 g37) []
    ∷ by r1 (triple 2 0 g11 g11) []
    ∷ by r39 (inside g27 (one 3)) []
    ∷ by r32 (inside g28 g6) (32 ∷ 168 ∷ [])
    ∷ by r22 (implies g131 g9) (169 ∷ [])
    ∷ by r1 (triple 2 0 g1 g1) []
    ∷ by r25 (implies g133 g33) []
    ∷ by r40 (inside g32 g31) []
    ∷ by r22 (implies g33 g132) (173 ∷ [])
    ∷ by r14 (triple 2 0 g38 g134) (165 ∷ 166 ∷ [])
    ∷ by r14 (triple 2 0 g39 g135) (160 ∷ 175 ∷ [])
    ∷ by r1 (triple 2 1 g48 g48) []
    ∷ by r11 (triple 2 1 g9 g62) []
    ∷ by r20 (implies g9 g9) []
    ∷ by r1 (triple 2 1 g136 g136) []
    ∷ by r20 (implies g136 g136) []
    ∷ by r1 (triple 2 1 g1 g1) []
    ∷ by r31 (inside g27 g6) (168 ∷ 8 ∷ [])
    ∷ by r45 (inside g138 g139) []
    ∷ by r22 (implies g140 g141) (184 ∷ [])
    ∷ by r20 (implies g142 g142) []
    ∷ by r25 (implies g143 g140) []
    ∷ by r20 (implies g143 g141) (187 ∷ 185 ∷ [])
    ∷ by r5 (triple 2 1 g144 g136) (180 ∷ [])
    ∷ by r10 (triple 2 1 g132 g136) (189 ∷ [])
    ∷ by r30 (inside g70 g137) []
    ∷ by r31 (inside g12 g137) (76 ∷ 191 ∷ [])
    ∷ by r22 (implies g62 g142) (192 ∷ [])
    ∷ by r16 (triple 2 1 g9 g142) (179 ∷ 178 ∷ 193 ∷ [])
    ∷ by r14 (triple 2 1 g145 g143) (190 ∷ 194 ∷ [])
    ∷ by r20 (implies g145 g145) []
    ∷ by r16 (triple 2 1 g145 g141) (196 ∷ 195 ∷ 188 ∷ [])
    ∷ by r20 (implies g141 g146) []
    ∷ by r16 (triple 2 1 g145 g146) (196 ∷ 197 ∷ 198 ∷ [])
    ∷ by r15 (triple 2 1 g147 g148) (182 ∷ 199 ∷ [])
    ∷ by r14 (triple 2 1 g149 g150) (177 ∷ 200 ∷ [])
    ∷ by r20 (implies g135 g149) (43 ∷ 174 ∷ [])
    ∷ by r20 (implies g150 g150) []
    ∷ by r16 (triple 2 1 g135 g150) (202 ∷ 201 ∷ 203 ∷ [])
    ∷ by r50 (pair 2 1 g135 g152) (204 ∷ [])
    ∷ by r1 (triple 2 2 g151 g151) []
    ∷ by r1 (triple 2 2 g1 g1) []
    ∷ by r1 (triple 2 2 g50 g50) []
    ∷ by r45 (inside g154 g155) []
    ∷ by r22 (implies g156 g157) (209 ∷ [])
    ∷ by r25 (implies g159 g156) []
    ∷ by r20 (implies g159 g157) (211 ∷ 210 ∷ [])
    ∷ by r1 (triple 2 2 g136 g136) []
    ∷ by r30 (inside g139 g29) []
    ∷ by r22 (implies g141 g136) (214 ∷ [])
    ∷ by r45 (inside g161 g153) []
    ∷ by r22 (implies g162 g158) (216 ∷ [])
    ∷ by r25 (implies g164 g162) []
    ∷ by r20 (implies g164 g158) (218 ∷ 217 ∷ [])
    ∷ by r1 (triple 2 2 g142 g142) []
    ∷ by r30 (inside g139 g137) []
    ∷ by r22 (implies g141 g142) (221 ∷ [])
    ∷ by r24 (implies g165 g163) []
    ∷ by r3 (triple 2 2 g136 g165) []
    ∷ by r16 (triple 2 2 g136 g163) (181 ∷ 224 ∷ 223 ∷ [])
    ∷ by r14 (triple 2 2 g166 g164) (220 ∷ 225 ∷ [])
    ∷ by r20 (implies g166 g166) []
    ∷ by r16 (triple 2 2 g166 g158) (227 ∷ 226 ∷ 219 ∷ [])
    ∷ by r14 (triple 2 2 g167 g159) (213 ∷ 228 ∷ [])
    ∷ by r20 (implies g167 g167) []
    ∷ by r16 (triple 2 2 g167 g157) (230 ∷ 229 ∷ 212 ∷ [])
    ∷ by r15 (triple 2 2 g168 g169) (208 ∷ 231 ∷ [])
    ∷ by r15 (triple 2 2 g170 g171) (207 ∷ 232 ∷ [])
    ∷ by r14 (triple 2 2 g172 g173) (206 ∷ 233 ∷ [])
    ∷ by r20 (implies g152 g172) (215 ∷ 222 ∷ [])
    ∷ by r20 (implies g173 g173) []
    ∷ by r16 (triple 2 2 g152 g173) (235 ∷ 234 ∷ 236 ∷ [])
    ∷ by r1 (triple 2 3 g151 g151) []
    ∷ by r1 (triple 2 3 g1 g1) []
    ∷ by r1 (triple 2 3 g50 g50) []
    ∷ by r45 (inside g175 g176) []
    ∷ by r22 (implies g177 g178) (241 ∷ [])
    ∷ by r25 (implies g180 g177) []
    ∷ by r20 (implies g180 g178) (243 ∷ 242 ∷ [])
    ∷ by r1 (triple 2 3 g136 g136) []
    ∷ by r30 (inside g155 g29) []
    ∷ by r22 (implies g157 g136) (246 ∷ [])
    ∷ by r45 (inside g182 g174) []
    ∷ by r22 (implies g183 g179) (248 ∷ [])
    ∷ by r25 (implies g185 g183) []
    ∷ by r20 (implies g185 g179) (250 ∷ 249 ∷ [])
    ∷ by r1 (triple 2 3 g142 g142) []
    ∷ by r30 (inside g155 g137) []
    ∷ by r22 (implies g157 g142) (253 ∷ [])
    ∷ by r45 (inside g187 g181) []
    ∷ by r22 (implies g188 g184) (255 ∷ [])
    ∷ by r25 (implies g190 g188) []
    ∷ by r20 (implies g190 g184) (257 ∷ 256 ∷ [])
    ∷ by r1 (triple 2 3 g163 g163) []
    ∷ by r30 (inside g155 g160) []
    ∷ by r22 (implies g157 g163) (260 ∷ [])
    ∷ by r24 (implies g191 g189) []
    ∷ by r3 (triple 2 3 g142 g191) []
    ∷ by r16 (triple 2 3 g142 g189) (186 ∷ 263 ∷ 262 ∷ [])
    ∷ by r14 (triple 2 3 g192 g190) (259 ∷ 264 ∷ [])
    ∷ by r20 (implies g192 g192) []
    ∷ by r16 (triple 2 3 g192 g184) (266 ∷ 265 ∷ 258 ∷ [])
    ∷ by r14 (triple 2 3 g193 g185) (252 ∷ 267 ∷ [])
    ∷ by r20 (implies g193 g193) []
    ∷ by r16 (triple 2 3 g193 g179) (269 ∷ 268 ∷ 251 ∷ [])
    ∷ by r14 (triple 2 3 g194 g180) (245 ∷ 270 ∷ [])
    ∷ by r20 (implies g194 g194) []
    ∷ by r16 (triple 2 3 g194 g178) (272 ∷ 271 ∷ 244 ∷ [])
    ∷ by r15 (triple 2 3 g195 g196) (240 ∷ 273 ∷ [])
    ∷ by r15 (triple 2 3 g197 g198) (239 ∷ 274 ∷ [])
    ∷ by r14 (triple 2 3 g199 g200) (238 ∷ 275 ∷ [])
    ∷ by r20 (implies g173 g199) (247 ∷ 254 ∷ 261 ∷ [])
    ∷ by r20 (implies g200 g200) []
    ∷ by r16 (triple 2 3 g173 g200) (277 ∷ 276 ∷ 278 ∷ [])
    ∷ by r30 (inside g176 g139) []
    ∷ by r22 (implies g178 g141) (280 ∷ [])
    ∷ by r20 (implies g202 g152) (281 ∷ [])
    ∷ by r23 (implies g178 g203) []
    ∷ by r23 (implies g178 g204) []
    ∷ by r23 (implies g178 g205) []
    ∷ by r20 (implies g207 g209) (283 ∷ 284 ∷ 285 ∷ [])
    ∷ by r1 (triple 2 5 g49 g49) []
    ∷ by r20 (implies g209 g49) []
    ∷ by r16 (triple 2 5 g209 g49) (288 ∷ 287 ∷ 157 ∷ [])
    ∷ by r50 (pair 2 5 g209 g49) (289 ∷ [])
    ∷ by r1 (triple 1 0 (sees 2 (one 2)) (sees 2 (one 2))) []
    ∷ by r20 (implies g1 g36) []
    ∷ by r20 (implies g1 g1) []
    ∷ by r16 (triple 1 0 g1 g36) (293 ∷ 24 ∷ 292 ∷ [])
    ∷ by r14 (triple 1 0 g210 g37) (31 ∷ 294 ∷ [])
    ∷ by r14 (triple 1 0 g211 g38) (291 ∷ 295 ∷ [])
    ∷ by r14 (triple 1 0 g212 g39) (36 ∷ 296 ∷ [])
    ∷ by r20 (implies g213 g212) []
    ∷ by r20 (implies g39 g39) []
    ∷ by r16 (triple 1 0 g213 g39) (298 ∷ 297 ∷ 299 ∷ [])
    ∷ by r1 (triple 1 0 g130 g130) []
    ∷ by r14 (triple 1 0 g214 g134) (301 ∷ 295 ∷ [])
    ∷ by r14 (triple 1 0 g215 g135) (36 ∷ 302 ∷ [])
    ∷ by r20 (implies g216 g215) []
    ∷ by r20 (implies g135 g135) []
    ∷ by r16 (triple 1 0 g216 g135) (304 ∷ 303 ∷ 305 ∷ [])
    ∷ by r1 (triple 1 0 g151 g151) []
    ∷ by r20 (implies g1 g148) []
    ∷ by r16 (triple 1 0 g1 g148) (293 ∷ 24 ∷ 308 ∷ [])
    ∷ by r14 (triple 1 0 g217 g152) (307 ∷ 309 ∷ [])
    ∷ by r20 (implies g218 g217) []
    ∷ by r20 (implies g152 g152) []
    ∷ by r16 (triple 1 0 g218 g152) (311 ∷ 310 ∷ 312 ∷ [])
    ∷ by r20 (implies g1 g171) []
    ∷ by r16 (triple 1 0 g1 g171) (293 ∷ 24 ∷ 314 ∷ [])
    ∷ by r14 (triple 1 0 g217 g173) (307 ∷ 315 ∷ [])
    ∷ by r20 (implies g219 g217) []
    ∷ by r16 (triple 1 0 g219 g173) (317 ∷ 316 ∷ 236 ∷ [])
    ∷ by r20 (implies g1 g198) []
    ∷ by r16 (triple 1 0 g1 g198) (293 ∷ 24 ∷ 319 ∷ [])
    ∷ by r14 (triple 1 0 g217 g200) (307 ∷ 320 ∷ [])
    ∷ by r20 (implies g220 g217) []
    ∷ by r16 (triple 1 0 g220 g200) (322 ∷ 321 ∷ 278 ∷ [])
    ∷ by r1 (triple 1 0 g209 g209) []
    ∷ by r20 (implies g221 g209) []
    ∷ by r20 (implies g209 g209) []
    ∷ by r16 (triple 1 0 g221 g209) (325 ∷ 324 ∷ 326 ∷ [])
    ∷ by r1 (triple 1 0 g49 g49) []
    ∷ by r20 (implies g222 g49) []
    ∷ by r16 (triple 1 0 g222 g49) (329 ∷ 328 ∷ 157 ∷ [])
    ∷ by r1 (triple 1 1 (sees 2 (one 2)) (sees 2 (one 2))) []
    ∷ by r22 (implies g50 g7) (183 ∷ [])
    ∷ by r16 (triple 1 1 g7 g7) (45 ∷ 44 ∷ 332 ∷ [])
    ∷ by r12 (triple 1 1 g11 g131) []
    ∷ by r13 (triple 1 1 g224 g132) []
    ∷ by r35 (inside g27 g28) []
    ∷ by r22 (implies g50 g34) (336 ∷ [])
    ∷ by r16 (triple 1 1 g7 g34) (45 ∷ 44 ∷ 337 ∷ [])
    ∷ by r20 (implies g11 g11) []
    ∷ by r16 (triple 1 1 g11 g9) (339 ∷ 334 ∷ 170 ∷ [])
    ∷ by r14 (triple 1 1 g225 g11) (333 ∷ 340 ∷ [])
    ∷ by r14 (triple 1 1 g226 g133) (334 ∷ 335 ∷ [])
    ∷ by r20 (implies g226 g226) []
    ∷ by r16 (triple 1 1 g226 g33) (343 ∷ 342 ∷ 172 ∷ [])
    ∷ by r14 (triple 1 1 g227 g35) (344 ∷ 338 ∷ [])
    ∷ by r20 (implies g35 g229) []
    ∷ by r20 (implies g227 g227) []
    ∷ by r16 (triple 1 1 g227 g229) (347 ∷ 345 ∷ 346 ∷ [])
    ∷ by r14 (triple 1 1 g230 g231) (341 ∷ 348 ∷ [])
    ∷ by r14 (triple 1 1 g232 g233) (331 ∷ 349 ∷ [])
    ∷ by r14 (triple 1 1 g234 g235) (48 ∷ 350 ∷ [])
    ∷ by r20 (implies g236 g234) []
    ∷ by r20 (implies g235 g235) []
    ∷ by r16 (triple 1 1 g236 g235) (352 ∷ 351 ∷ 353 ∷ [])
    ∷ by r50 (pair 1 1 g236 g39) (354 ∷ [])
    ∷ by r1 (triple 1 1 g130 g130) []
    ∷ by r14 (triple 1 1 g237 g238) (356 ∷ 349 ∷ [])
    ∷ by r14 (triple 1 1 g239 g240) (48 ∷ 357 ∷ [])
    ∷ by r20 (implies g241 g239) []
    ∷ by r20 (implies g240 g240) []
    ∷ by r16 (triple 1 1 g241 g240) (359 ∷ 358 ∷ 360 ∷ [])
    ∷ by r50 (pair 1 1 g241 g135) (361 ∷ [])
    ∷ by r1 (triple 1 1 g151 g151) []
    ∷ by r20 (implies g50 g242) []
    ∷ by r16 (triple 1 1 g7 g242) (45 ∷ 44 ∷ 364 ∷ [])
    ∷ by r14 (triple 1 1 g243 g244) (363 ∷ 365 ∷ [])
    ∷ by r20 (implies g245 g243) []
    ∷ by r20 (implies g244 g244) []
    ∷ by r16 (triple 1 1 g245 g244) (367 ∷ 366 ∷ 368 ∷ [])
    ∷ by r50 (pair 1 1 g245 g152) (369 ∷ [])
    ∷ by r20 (implies g50 g246) []
    ∷ by r16 (triple 1 1 g7 g246) (45 ∷ 44 ∷ 371 ∷ [])
    ∷ by r14 (triple 1 1 g243 g247) (363 ∷ 372 ∷ [])
    ∷ by r20 (implies g248 g243) []
    ∷ by r20 (implies g247 g247) []
    ∷ by r16 (triple 1 1 g248 g247) (374 ∷ 373 ∷ 375 ∷ [])
    ∷ by r50 (pair 1 1 g248 g173) (376 ∷ [])
    ∷ by r20 (implies g50 g249) []
    ∷ by r16 (triple 1 1 g7 g249) (45 ∷ 44 ∷ 378 ∷ [])
    ∷ by r14 (triple 1 1 g243 g250) (363 ∷ 379 ∷ [])
    ∷ by r20 (implies g251 g243) []
    ∷ by r20 (implies g250 g250) []
    ∷ by r16 (triple 1 1 g251 g250) (381 ∷ 380 ∷ 382 ∷ [])
    ∷ by r50 (pair 1 1 g251 g200) (383 ∷ [])
    ∷ by r20 (implies g50 g252) []
    ∷ by r16 (triple 1 1 g7 g252) (45 ∷ 44 ∷ 385 ∷ [])
    ∷ by r14 (triple 1 1 g243 g253) (363 ∷ 386 ∷ [])
    ∷ by r20 (implies g254 g243) []
    ∷ by r20 (implies g253 g253) []
    ∷ by r16 (triple 1 1 g254 g253) (388 ∷ 387 ∷ 389 ∷ [])
    ∷ by r50 (pair 1 1 g254 g209) (390 ∷ [])
    ∷ by r1 (triple 1 1 g49 g49) []
    ∷ by r20 (implies g255 g49) []
    ∷ by r16 (triple 1 1 g255 g49) (393 ∷ 392 ∷ 157 ∷ [])
    ∷ by r50 (pair 1 1 g255 g49) (394 ∷ [])
    ∷ by r1 (triple 1 2 g39 g39) []
    ∷ by r22 (implies g62 g9) (49 ∷ [])
    ∷ by r20 (implies g256 g39) []
    ∷ by r16 (triple 1 2 g256 g39) (398 ∷ 396 ∷ 299 ∷ [])
    ∷ by r1 (triple 1 2 g135 g135) []
    ∷ by r20 (implies g257 g135) []
    ∷ by r16 (triple 1 2 g257 g135) (401 ∷ 400 ∷ 305 ∷ [])
    ∷ by r1 (triple 1 2 g152 g152) []
    ∷ by r20 (implies g258 g152) []
    ∷ by r16 (triple 1 2 g258 g152) (404 ∷ 403 ∷ 312 ∷ [])
    ∷ by r1 (triple 1 2 g173 g173) []
    ∷ by r20 (implies g259 g173) []
    ∷ by r16 (triple 1 2 g259 g173) (407 ∷ 406 ∷ 236 ∷ [])
    ∷ by r1 (triple 1 2 g200 g200) []
    ∷ by r20 (implies g260 g200) []
    ∷ by r16 (triple 1 2 g260 g200) (410 ∷ 409 ∷ 278 ∷ [])
    ∷ by r1 (triple 1 2 g209 g209) []
    ∷ by r20 (implies g261 g209) []
    ∷ by r16 (triple 1 2 g261 g209) (413 ∷ 412 ∷ 326 ∷ [])
    ∷ by r1 (triple 1 2 g49 g49) []
    ∷ by r20 (implies g262 g49) []
    ∷ by r16 (triple 1 2 g262 g49) (416 ∷ 415 ∷ 157 ∷ [])
    ∷ by r1 (triple 1 3 g39 g39) []
    ∷ by r20 (implies g263 g39) []
    ∷ by r16 (triple 1 3 g263 g39) (419 ∷ 418 ∷ 299 ∷ [])
    ∷ by r1 (triple 1 3 g135 g135) []
    ∷ by r20 (implies g264 g135) []
    ∷ by r16 (triple 1 3 g264 g135) (422 ∷ 421 ∷ 305 ∷ [])
    ∷ by r1 (triple 1 3 g152 g152) []
    ∷ by r20 (implies g265 g152) []
    ∷ by r16 (triple 1 3 g265 g152) (425 ∷ 424 ∷ 312 ∷ [])
    ∷ by r1 (triple 1 3 g173 g173) []
    ∷ by r20 (implies g266 g173) []
    ∷ by r16 (triple 1 3 g266 g173) (428 ∷ 427 ∷ 236 ∷ [])
    ∷ by r1 (triple 1 3 g200 g200) []
    ∷ by r20 (implies g267 g200) []
    ∷ by r16 (triple 1 3 g267 g200) (431 ∷ 430 ∷ 278 ∷ [])
    ∷ by r1 (triple 1 3 g209 g209) []
    ∷ by r20 (implies g268 g209) []
    ∷ by r16 (triple 1 3 g268 g209) (434 ∷ 433 ∷ 326 ∷ [])
    ∷ by r1 (triple 1 3 g49 g49) []
    ∷ by r20 (implies g269 g49) []
    ∷ by r16 (triple 1 3 g269 g49) (437 ∷ 436 ∷ 157 ∷ [])
    ∷ by r1 (triple 1 5 g10 g10) []
    ∷ by r1 (triple 1 5 (sees 2 (one 2)) (sees 2 (one 2))) []
    ∷ by r1 (triple 1 5 g11 g11) []
    ∷ by r1 (triple 1 5 g270 g270) []
    ∷ by r21 (implies g49 g270) []
    ∷ by r20 (implies g270 g271) []
    ∷ by r20 (implies g270 g270) []
    ∷ by r16 (triple 1 5 g270 g271) (445 ∷ 442 ∷ 444 ∷ [])
    ∷ by r14 (triple 1 5 g272 g273) (441 ∷ 446 ∷ [])
    ∷ by r14 (triple 1 5 g274 g275) (440 ∷ 447 ∷ [])
    ∷ by r14 (triple 1 5 g276 g277) (439 ∷ 448 ∷ [])
    ∷ by r20 (implies g278 g276) (443 ∷ [])
    ∷ by r20 (implies g277 g277) []
    ∷ by r16 (triple 1 5 g278 g277) (450 ∷ 449 ∷ 451 ∷ [])
    ∷ by r50 (pair 1 5 g278 g39) (452 ∷ [])
    ∷ by r1 (triple 1 5 g130 g130) []
    ∷ by r14 (triple 1 5 g279 g280) (454 ∷ 447 ∷ [])
    ∷ by r14 (triple 1 5 g281 g282) (439 ∷ 455 ∷ [])
    ∷ by r20 (implies g283 g281) (443 ∷ [])
    ∷ by r20 (implies g282 g282) []
    ∷ by r16 (triple 1 5 g283 g282) (457 ∷ 456 ∷ 458 ∷ [])
    ∷ by r50 (pair 1 5 g283 g135) (459 ∷ [])
    ∷ by r1 (triple 1 5 g151 g151) []
    ∷ by r20 (implies g270 g284) []
    ∷ by r16 (triple 1 5 g270 g284) (445 ∷ 442 ∷ 462 ∷ [])
    ∷ by r14 (triple 1 5 g285 g286) (461 ∷ 463 ∷ [])
    ∷ by r20 (implies g287 g285) (443 ∷ [])
    ∷ by r20 (implies g286 g286) []
    ∷ by r16 (triple 1 5 g287 g286) (465 ∷ 464 ∷ 466 ∷ [])
    ∷ by r50 (pair 1 5 g287 g152) (467 ∷ [])
    ∷ by r20 (implies g270 g288) []
    ∷ by r16 (triple 1 5 g270 g288) (445 ∷ 442 ∷ 469 ∷ [])
    ∷ by r14 (triple 1 5 g285 g289) (461 ∷ 470 ∷ [])
    ∷ by r20 (implies g290 g285) (443 ∷ [])
    ∷ by r20 (implies g289 g289) []
    ∷ by r16 (triple 1 5 g290 g289) (472 ∷ 471 ∷ 473 ∷ [])
    ∷ by r50 (pair 1 5 g290 g173) (474 ∷ [])
    ∷ by r20 (implies g270 g291) []
    ∷ by r16 (triple 1 5 g270 g291) (445 ∷ 442 ∷ 476 ∷ [])
    ∷ by r14 (triple 1 5 g285 g292) (461 ∷ 477 ∷ [])
    ∷ by r20 (implies g293 g285) (443 ∷ [])
    ∷ by r20 (implies g292 g292) []
    ∷ by r16 (triple 1 5 g293 g292) (479 ∷ 478 ∷ 480 ∷ [])
    ∷ by r50 (pair 1 5 g293 g200) (481 ∷ [])
    ∷ by r1 (triple 1 5 g295 g295) []
    ∷ by r20 (implies g296 g295) []
    ∷ by r20 (implies g295 g295) []
    ∷ by r16 (triple 1 5 g296 g295) (484 ∷ 483 ∷ 485 ∷ [])
    ∷ by r50 (pair 1 5 g296 g209) (486 ∷ [])
    ∷ by r20 (implies g297 g49) []
    ∷ by r16 (triple 1 5 g297 g49) (488 ∷ 155 ∷ 157 ∷ [])
    ∷ by r50 (pair 1 5 g297 g49) (489 ∷ [])
    ∷ by r1 (triple 2 0 (sees 1 (one 1)) (sees 1 (one 1))) []
    ∷ by r20 (implies g10 g21) []
    ∷ by r20 (implies g10 g10) []
    ∷ by r16 (triple 2 0 g10 g21) (493 ∷ 160 ∷ 492 ∷ [])
    ∷ by r14 (triple 2 0 g298 g22) (167 ∷ 494 ∷ [])
    ∷ by r14 (triple 2 0 g299 g23) (491 ∷ 495 ∷ [])
    ∷ by r14 (triple 2 0 g300 g24) (171 ∷ 496 ∷ [])
    ∷ by r20 (implies g301 g300) []
    ∷ by r20 (implies g24 g24) []
    ∷ by r16 (triple 2 0 g301 g24) (498 ∷ 497 ∷ 499 ∷ [])
    ∷ by r1 (triple 2 0 g42 g42) []
    ∷ by r14 (triple 2 0 g302 g46) (501 ∷ 495 ∷ [])
    ∷ by r14 (triple 2 0 g303 g47) (171 ∷ 502 ∷ [])
    ∷ by r20 (implies g304 g303) []
    ∷ by r20 (implies g47 g47) []
    ∷ by r16 (triple 2 0 g304 g47) (504 ∷ 503 ∷ 505 ∷ [])
    ∷ by r1 (triple 2 0 g68 g68) []
    ∷ by r20 (implies g10 g65) []
    ∷ by r16 (triple 2 0 g10 g65) (493 ∷ 160 ∷ 508 ∷ [])
    ∷ by r14 (triple 2 0 g305 g69) (507 ∷ 509 ∷ [])
    ∷ by r20 (implies g306 g305) []
    ∷ by r20 (implies g69 g69) []
    ∷ by r16 (triple 2 0 g306 g69) (511 ∷ 510 ∷ 512 ∷ [])
    ∷ by r20 (implies g10 g89) []
    ∷ by r16 (triple 2 0 g10 g89) (493 ∷ 160 ∷ 514 ∷ [])
    ∷ by r14 (triple 2 0 g305 g91) (507 ∷ 515 ∷ [])
    ∷ by r20 (implies g307 g305) []
    ∷ by r16 (triple 2 0 g307 g91) (517 ∷ 516 ∷ 104 ∷ [])
    ∷ by r20 (implies g10 g116) []
    ∷ by r16 (triple 2 0 g10 g116) (493 ∷ 160 ∷ 519 ∷ [])
    ∷ by r14 (triple 2 0 g305 g118) (507 ∷ 520 ∷ [])
    ∷ by r20 (implies g308 g305) []
    ∷ by r16 (triple 2 0 g308 g118) (522 ∷ 521 ∷ 146 ∷ [])
    ∷ by r1 (triple 2 0 g127 g127) []
    ∷ by r20 (implies g309 g127) []
    ∷ by r20 (implies g127 g127) []
    ∷ by r16 (triple 2 0 g309 g127) (525 ∷ 524 ∷ 526 ∷ [])
    ∷ by r1 (triple 2 0 g49 g49) []
    ∷ by r20 (implies g310 g49) []
    ∷ by r16 (triple 2 0 g310 g49) (529 ∷ 528 ∷ 157 ∷ [])
    ∷ by r1 (triple 2 1 (sees 1 (one 1)) (sees 1 (one 1))) []
    ∷ by r12 (triple 2 1 g311 g43) []
    ∷ by r16 (triple 2 1 g9 g9) (179 ∷ 178 ∷ 397 ∷ [])
    ∷ by r13 (triple 2 1 g313 g44) []
    ∷ by r35 (inside g12 g13) []
    ∷ by r22 (implies g62 g19) (535 ∷ [])
    ∷ by r16 (triple 2 1 g9 g19) (179 ∷ 178 ∷ 536 ∷ [])
    ∷ by r20 (implies g311 g311) []
    ∷ by r16 (triple 2 1 g311 g7) (538 ∷ 532 ∷ 35 ∷ [])
    ∷ by r14 (triple 2 1 g314 g11) (539 ∷ 533 ∷ [])
    ∷ by r14 (triple 2 1 g315 g45) (532 ∷ 534 ∷ [])
    ∷ by r20 (implies g315 g315) []
    ∷ by r16 (triple 2 1 g315 g18) (542 ∷ 541 ∷ 37 ∷ [])
    ∷ by r14 (triple 2 1 g316 g20) (543 ∷ 537 ∷ [])
    ∷ by r20 (implies g20 g317) []
    ∷ by r20 (implies g316 g316) []
    ∷ by r16 (triple 2 1 g316 g317) (546 ∷ 544 ∷ 545 ∷ [])
    ∷ by r14 (triple 2 1 g318 g319) (540 ∷ 547 ∷ [])
    ∷ by r14 (triple 2 1 g320 g321) (531 ∷ 548 ∷ [])
    ∷ by r14 (triple 2 1 g322 g323) (182 ∷ 549 ∷ [])
    ∷ by r20 (implies g324 g322) []
    ∷ by r20 (implies g323 g323) []
    ∷ by r16 (triple 2 1 g324 g323) (551 ∷ 550 ∷ 552 ∷ [])
    ∷ by r50 (pair 2 1 g324 g24) (553 ∷ [])
    ∷ by r1 (triple 2 1 g42 g42) []
    ∷ by r14 (triple 2 1 g325 g326) (555 ∷ 548 ∷ [])
    ∷ by r14 (triple 2 1 g327 g328) (182 ∷ 556 ∷ [])
    ∷ by r20 (implies g329 g327) []
    ∷ by r20 (implies g328 g328) []
    ∷ by r16 (triple 2 1 g329 g328) (558 ∷ 557 ∷ 559 ∷ [])
    ∷ by r50 (pair 2 1 g329 g47) (560 ∷ [])
    ∷ by r1 (triple 2 1 g68 g68) []
    ∷ by r20 (implies g62 g330) []
    ∷ by r16 (triple 2 1 g9 g330) (179 ∷ 178 ∷ 563 ∷ [])
    ∷ by r14 (triple 2 1 g331 g332) (562 ∷ 564 ∷ [])
    ∷ by r20 (implies g333 g331) []
    ∷ by r20 (implies g332 g332) []
    ∷ by r16 (triple 2 1 g333 g332) (566 ∷ 565 ∷ 567 ∷ [])
    ∷ by r50 (pair 2 1 g333 g69) (568 ∷ [])
    ∷ by r20 (implies g62 g334) []
    ∷ by r16 (triple 2 1 g9 g334) (179 ∷ 178 ∷ 570 ∷ [])
    ∷ by r14 (triple 2 1 g331 g335) (562 ∷ 571 ∷ [])
    ∷ by r20 (implies g336 g331) []
    ∷ by r20 (implies g335 g335) []
    ∷ by r16 (triple 2 1 g336 g335) (573 ∷ 572 ∷ 574 ∷ [])
    ∷ by r50 (pair 2 1 g336 g91) (575 ∷ [])
    ∷ by r20 (implies g62 g337) []
    ∷ by r16 (triple 2 1 g9 g337) (179 ∷ 178 ∷ 577 ∷ [])
    ∷ by r14 (triple 2 1 g331 g338) (562 ∷ 578 ∷ [])
    ∷ by r20 (implies g339 g331) []
    ∷ by r20 (implies g338 g338) []
    ∷ by r16 (triple 2 1 g339 g338) (580 ∷ 579 ∷ 581 ∷ [])
    ∷ by r50 (pair 2 1 g339 g118) (582 ∷ [])
    ∷ by r20 (implies g62 g340) []
    ∷ by r16 (triple 2 1 g9 g340) (179 ∷ 178 ∷ 584 ∷ [])
    ∷ by r14 (triple 2 1 g331 g341) (562 ∷ 585 ∷ [])
    ∷ by r20 (implies g342 g331) []
    ∷ by r20 (implies g341 g341) []
    ∷ by r16 (triple 2 1 g342 g341) (587 ∷ 586 ∷ 588 ∷ [])
    ∷ by r50 (pair 2 1 g342 g127) (589 ∷ [])
    ∷ by r1 (triple 2 1 g49 g49) []
    ∷ by r20 (implies g343 g49) []
    ∷ by r16 (triple 2 1 g343 g49) (592 ∷ 591 ∷ 157 ∷ [])
    ∷ by r50 (pair 2 1 g343 g49) (593 ∷ [])
    ∷ by r1 (triple 2 2 g24 g24) []
    ∷ by r20 (implies g344 g24) []
    ∷ by r16 (triple 2 2 g344 g24) (596 ∷ 595 ∷ 499 ∷ [])
    ∷ by r1 (triple 2 2 g47 g47) []
    ∷ by r20 (implies g345 g47) []
    ∷ by r16 (triple 2 2 g345 g47) (599 ∷ 598 ∷ 505 ∷ [])
    ∷ by r1 (triple 2 2 g69 g69) []
    ∷ by r20 (implies g346 g69) []
    ∷ by r16 (triple 2 2 g346 g69) (602 ∷ 601 ∷ 512 ∷ [])
    ∷ by r1 (triple 2 2 g91 g91) []
    ∷ by r20 (implies g347 g91) []
    ∷ by r16 (triple 2 2 g347 g91) (605 ∷ 604 ∷ 104 ∷ [])
    ∷ by r1 (triple 2 2 g118 g118) []
    ∷ by r20 (implies g348 g118) []
    ∷ by r16 (triple 2 2 g348 g118) (608 ∷ 607 ∷ 146 ∷ [])
    ∷ by r1 (triple 2 2 g127 g127) []
    ∷ by r20 (implies g349 g127) []
    ∷ by r16 (triple 2 2 g349 g127) (611 ∷ 610 ∷ 526 ∷ [])
    ∷ by r1 (triple 2 2 g49 g49) []
    ∷ by r20 (implies g350 g49) []
    ∷ by r16 (triple 2 2 g350 g49) (614 ∷ 613 ∷ 157 ∷ [])
    ∷ by r1 (triple 2 3 g24 g24) []
    ∷ by r20 (implies g351 g24) []
    ∷ by r16 (triple 2 3 g351 g24) (617 ∷ 616 ∷ 499 ∷ [])
    ∷ by r1 (triple 2 3 g47 g47) []
    ∷ by r20 (implies g352 g47) []
    ∷ by r16 (triple 2 3 g352 g47) (620 ∷ 619 ∷ 505 ∷ [])
    ∷ by r1 (triple 2 3 g69 g69) []
    ∷ by r20 (implies g353 g69) []
    ∷ by r16 (triple 2 3 g353 g69) (623 ∷ 622 ∷ 512 ∷ [])
    ∷ by r1 (triple 2 3 g91 g91) []
    ∷ by r20 (implies g354 g91) []
    ∷ by r16 (triple 2 3 g354 g91) (626 ∷ 625 ∷ 104 ∷ [])
    ∷ by r1 (triple 2 3 g118 g118) []
    ∷ by r20 (implies g355 g118) []
    ∷ by r16 (triple 2 3 g355 g118) (629 ∷ 628 ∷ 146 ∷ [])
    ∷ by r1 (triple 2 3 g127 g127) []
    ∷ by r20 (implies g356 g127) []
    ∷ by r16 (triple 2 3 g356 g127) (632 ∷ 631 ∷ 526 ∷ [])
    ∷ by r1 (triple 2 3 g49 g49) []
    ∷ by r20 (implies g357 g49) []
    ∷ by r16 (triple 2 3 g357 g49) (635 ∷ 634 ∷ 157 ∷ [])
    ∷ by r1 (triple 2 5 g1 g1) []
    ∷ by r1 (triple 2 5 (sees 1 (one 1)) (sees 1 (one 1))) []
    ∷ by r1 (triple 2 5 g11 g11) []
    ∷ by r1 (triple 2 5 g270 g270) []
    ∷ by r20 (implies g270 g358) []
    ∷ by r16 (triple 2 5 g270 g358) (445 ∷ 640 ∷ 641 ∷ [])
    ∷ by r14 (triple 2 5 g272 g359) (639 ∷ 642 ∷ [])
    ∷ by r14 (triple 2 5 g360 g361) (638 ∷ 643 ∷ [])
    ∷ by r14 (triple 2 5 g362 g363) (637 ∷ 644 ∷ [])
    ∷ by r20 (implies g364 g362) (443 ∷ [])
    ∷ by r20 (implies g363 g363) []
    ∷ by r16 (triple 2 5 g364 g363) (646 ∷ 645 ∷ 647 ∷ [])
    ∷ by r50 (pair 2 5 g364 g24) (648 ∷ [])
    ∷ by r1 (triple 2 5 g42 g42) []
    ∷ by r14 (triple 2 5 g365 g366) (650 ∷ 643 ∷ [])
    ∷ by r14 (triple 2 5 g367 g368) (637 ∷ 651 ∷ [])
    ∷ by r20 (implies g369 g367) (443 ∷ [])
    ∷ by r20 (implies g368 g368) []
    ∷ by r16 (triple 2 5 g369 g368) (653 ∷ 652 ∷ 654 ∷ [])
    ∷ by r50 (pair 2 5 g369 g47) (655 ∷ [])
    ∷ by r1 (triple 2 5 g68 g68) []
    ∷ by r20 (implies g270 g370) []
    ∷ by r16 (triple 2 5 g270 g370) (445 ∷ 640 ∷ 658 ∷ [])
    ∷ by r14 (triple 2 5 g371 g372) (657 ∷ 659 ∷ [])
    ∷ by r20 (implies g373 g371) (443 ∷ [])
    ∷ by r20 (implies g372 g372) []
    ∷ by r16 (triple 2 5 g373 g372) (661 ∷ 660 ∷ 662 ∷ [])
    ∷ by r50 (pair 2 5 g373 g69) (663 ∷ [])
    ∷ by r20 (implies g270 g374) []
    ∷ by r16 (triple 2 5 g270 g374) (445 ∷ 640 ∷ 665 ∷ [])
    ∷ by r14 (triple 2 5 g371 g375) (657 ∷ 666 ∷ [])
    ∷ by r20 (implies g376 g371) (443 ∷ [])
    ∷ by r20 (implies g375 g375) []
    ∷ by r16 (triple 2 5 g376 g375) (668 ∷ 667 ∷ 669 ∷ [])
    ∷ by r50 (pair 2 5 g376 g91) (670 ∷ [])
    ∷ by r20 (implies g270 g377) []
    ∷ by r16 (triple 2 5 g270 g377) (445 ∷ 640 ∷ 672 ∷ [])
    ∷ by r14 (triple 2 5 g371 g378) (657 ∷ 673 ∷ [])
    ∷ by r20 (implies g379 g371) (443 ∷ [])
    ∷ by r20 (implies g378 g378) []
    ∷ by r16 (triple 2 5 g379 g378) (675 ∷ 674 ∷ 676 ∷ [])
    ∷ by r50 (pair 2 5 g379 g118) (677 ∷ [])
    ∷ by r1 (triple 2 5 g381 g381) []
    ∷ by r20 (implies g382 g381) []
    ∷ by r20 (implies g381 g381) []
    ∷ by r16 (triple 2 5 g382 g381) (680 ∷ 679 ∷ 681 ∷ [])
    ∷ by r50 (pair 2 5 g382 g127) (682 ∷ [])
    ∷ by r20 (implies g383 g49) []
    ∷ by r16 (triple 2 5 g383 g49) (684 ∷ 287 ∷ 157 ∷ [])
    ∷ by r50 (pair 2 5 g383 g49) (685 ∷ [])
    ∷ further [] (implies g384 (holds Formula.false)) (i53 tt) []
    ∷ by r20 (implies g382 (holds Formula.false)) (687 ∷ [])
    ∷ []

-- the line that meets each obligation, in order
met_by : List ℕ
met_by = 17 ∷ 23 ∷ 41 ∷ 72 ∷ 105 ∷ 147 ∷ 150 ∷ 154 ∷ 159 ∷ 176 ∷ 205 ∷ 237 ∷ 279 ∷ 282 ∷ 286 ∷ 290 ∷ 300 ∷ 306 ∷ 313 ∷ 318 ∷ 323 ∷ 327 ∷ 330 ∷ 355 ∷ 362 ∷ 370 ∷ 377 ∷ 384 ∷ 391 ∷ 395 ∷ 399 ∷ 402 ∷ 405 ∷ 408 ∷ 411 ∷ 414 ∷ 417 ∷ 420 ∷ 423 ∷ 426 ∷ 429 ∷ 432 ∷ 435 ∷ 438 ∷ 453 ∷ 460 ∷ 468 ∷ 475 ∷ 482 ∷ 487 ∷ 490 ∷ 500 ∷ 506 ∷ 513 ∷ 518 ∷ 523 ∷ 527 ∷ 530 ∷ 554 ∷ 561 ∷ 569 ∷ 576 ∷ 583 ∷ 590 ∷ 594 ∷ 597 ∷ 600 ∷ 603 ∷ 606 ∷ 609 ∷ 612 ∷ 615 ∷ 618 ∷ 621 ∷ 624 ∷ 627 ∷ 630 ∷ 633 ∷ 636 ∷ 649 ∷ 656 ∷ 664 ∷ 671 ∷ 678 ∷ 683 ∷ 686 ∷ []

-- THE TEST, computed once
passes : T (certified (program_of peterson_joint) (outline_of peterson_joint) lines met_by)
unfolding lines met_by upd same choose is_in distinct same_name same_leaf ℕ_discrete
passes = tt

-- THE THEOREMS
pub peterson_joint_run : EveryRun (program_of peterson_joint) (outline_of peterson_joint)
peterson_joint_run = certified_run peterson_joint lines met_by tt passes

pub never_both_inside : NeverBoth (program_of peterson_joint) both_inside
unfolding lines met_by upd same choose is_in distinct same_name same_leaf ℕ_discrete
never_both_inside =
    certified_never peterson_joint lines met_by both_inside 688 tt passes
    ((leb→le 1 1 tt, leb→le 1 (program_of peterson_joint).threads tt), (leb→le 1 2 tt, leb→le 2 (program_of peterson_joint).threads tt)) tt
