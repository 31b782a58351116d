-- The rules by their numbers: "rules run 1 to 16, 20 to 27, 30 to 46", and 47 to 50 by Changes 1 and 6.
use Rattle.std.specs.Prelude.{List, [], ◌∷◌, ℕ, get_or}
use Rattle.logic.specs.Rule.{Rule, r1, r2, r3, r4, r5, r6, r7, r8, r9, r10, r11, r12, r13, r14, r15, r16, r20, r21, r22, r23, r24, r25, r26, r27, r30, r31, r32, r33, r34, r35, r36, r37, r38, r39, r40, r41, r42, r43, r44, r45, r46, r47, r48, r49, r50}

-- the rule at a number that no rule has; no line has such a number
abbrev pub unlisted : Rule
unlisted = r46

-- the rules, each at its number
abbrev pub rules : List Rule
rules =
    unlisted ∷ r1 ∷ r2 ∷ r3 ∷ r4 ∷ r5 ∷ r6 ∷ r7 ∷ r8 ∷ r9 ∷ r10 ∷ r11 ∷ r12 ∷ r13 ∷ r14 ∷ r15 ∷ r16
    ∷ unlisted ∷ unlisted ∷ unlisted ∷ r20 ∷ r21 ∷ r22 ∷ r23 ∷ r24 ∷ r25 ∷ r26 ∷ r27
    ∷ unlisted ∷ unlisted ∷ r30 ∷ r31 ∷ r32 ∷ r33 ∷ r34 ∷ r35 ∷ r36 ∷ r37 ∷ r38 ∷ r39 ∷ r40 ∷ r41 ∷ r42 ∷ r43 ∷ r44 ∷ r45 ∷ r46
    ∷ r47 ∷ r48 ∷ r49 ∷ r50 ∷ []

-- the rule with a number
unfoldable pub rule_of : ℕ → Rule
rule_of n = get_or rules n unlisted

-- the number of a rule
abbrev pub number_of : Rule → ℕ
number_of r1 = 1
number_of r2 = 2
number_of r3 = 3
number_of r4 = 4
number_of r5 = 5
number_of r6 = 6
number_of r7 = 7
number_of r8 = 8
number_of r9 = 9
number_of r10 = 10
number_of r11 = 11
number_of r12 = 12
number_of r13 = 13
number_of r14 = 14
number_of r15 = 15
number_of r16 = 16
number_of r20 = 20
number_of r21 = 21
number_of r22 = 22
number_of r23 = 23
number_of r24 = 24
number_of r25 = 25
number_of r26 = 26
number_of r27 = 27
number_of r30 = 30
number_of r31 = 31
number_of r32 = 32
number_of r33 = 33
number_of r34 = 34
number_of r35 = 35
number_of r36 = 36
number_of r37 = 37
number_of r38 = 38
number_of r39 = 39
number_of r40 = 40
number_of r41 = 41
number_of r42 = 42
number_of r43 = 43
number_of r44 = 44
number_of r45 = 45
number_of r46 = 46
number_of r47 = 47
number_of r48 = 48
number_of r49 = 49
number_of r50 = 50
