-- What a test that computes says of all rules holds of each: the one lemma behind every table of rules.
use mathlib.Core.Path.{◌≡◌, refl, subst}
use mathlib.Core.Bool.{Bool}
use mathlib.Core.List.{List, [], ◌∷◌}
use Prim.Native.Nat.{ℕ, zero, suc}
use lib.Dec.{T}
use lib.ListN.{get_or}
use Rattle.semantics.specs.Base.{all}
use Rattle.semantics.proofs.Base.{and_left, and_right}
use Rattle.logic.specs.Rule.{Rule, r1, r2, r3, r4, r5, r6, r7, r8, r9, r10, r11, r12, r13, r14, r15, r16, r20, r21, r22, r23, r24, r25, r26, r27, r30, r31, r32, r33, r34, r35, r36, r37, r38, r39, r40, r41, r42, r43, r44, r45, r46, r47, r48, r49, r50}
use Rattle.logic.specs.RuleNumbers.{unlisted, rules, rule_of, number_of}

-- each rule stands at its number
pub number_back : (n : Rule) → rule_of (number_of n) ≡ n
unfolding rule_of
number_back r1 = refl
number_back r2 = refl
number_back r3 = refl
number_back r4 = refl
number_back r5 = refl
number_back r6 = refl
number_back r7 = refl
number_back r8 = refl
number_back r9 = refl
number_back r10 = refl
number_back r11 = refl
number_back r12 = refl
number_back r13 = refl
number_back r14 = refl
number_back r15 = refl
number_back r16 = refl
number_back r20 = refl
number_back r21 = refl
number_back r22 = refl
number_back r23 = refl
number_back r24 = refl
number_back r25 = refl
number_back r26 = refl
number_back r27 = refl
number_back r30 = refl
number_back r31 = refl
number_back r32 = refl
number_back r33 = refl
number_back r34 = refl
number_back r35 = refl
number_back r36 = refl
number_back r37 = refl
number_back r38 = refl
number_back r39 = refl
number_back r40 = refl
number_back r41 = refl
number_back r42 = refl
number_back r43 = refl
number_back r44 = refl
number_back r45 = refl
number_back r46 = refl
number_back r47 = refl
number_back r48 = refl
number_back r49 = refl
number_back r50 = refl

-- a member of a list, or what stands for one past its end
at_number : (p : Rule → Bool) (l : List Rule) (i : ℕ) → T (all p l) → T (p unlisted) → T (p (get_or l i unlisted))
at_number p [] i h u = u
at_number p (x ∷ l) zero h u = and_left (p x) (all p l) h
at_number p (x ∷ l) (suc i) h u = at_number p l i (and_right (p x) (all p l) h) u

pub each_rule : (p : Rule → Bool) → T (all p rules) → (n : Rule) → T (p n)
unfolding rule_of
each_rule p h n = subst (λ (m : Rule). T (p m)) (number_back n) (at_number p rules (number_of n) h (and_left (p unlisted) _ h))
