-- The rule numbers: triples 1 to 16, implications 20 to 27, intervals 30 to 46, triples 47 to 50.
pub data Rule : Type 0 where
  r1 r2 r3 r4 r5 r6 r7 r8 r9 r10 r11 r12 r13 r14 r15 r16 : Rule
  r20 r21 r22 r23 r24 r25 r26 r27 : Rule
  r30 r31 r32 r33 r34 r35 r36 r37 r38 r39 r40 r41 r42 r43 r44 r45 r46 : Rule
  r47 r48 r49 r50 : Rule
