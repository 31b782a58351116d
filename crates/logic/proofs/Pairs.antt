-- A statement about a whole pair is concluded by rule 50 alone, and is no rule's premise.
use mathlib.Core.Path.{◌≡◌, refl}
use mathlib.Core.Bool.{Bool, true, false, not}
use mathlib.Core.List.{List, [], ◌∷◌}
use Prim.Native.Nat.{ℕ}
use lib.Dec.{T}
use Rattle.semantics.specs.Base.{all}
use Rattle.semantics.specs.Formula.{Assertion}
use Rattle.semantics.specs.Machine.{Program}
use Rattle.logic.specs.Statement.{Statement, inside, implies, triple, pair, is_imp}
use Rattle.logic.specs.Rule.{Rule, r50}
use Rattle.logic.specs.Inference.{Inference, i1, i2, i3, i4, i5_load, i5_swap, i6, i7, i8, i9, i10, i11, i12, i13, i14, i15, i16, i47, i48, i49, i50, i20, i21, i22, i23, i24, i25, i26, i27, i30, i31, i32, i33, i34, i35, i36, i37, i38, i39, i40, i41, i42, i43, i44, i45, i46}

abbrev pub of_pair : Statement → Bool
of_pair (inside i j) = false
of_pair (implies a b) = false
of_pair (triple t k a b) = false
of_pair (pair t k a b) = true

imps_no_pair : (ps : List Statement) → T (all is_imp ps) → T (all (λ p. not (of_pair p)) ps)
imps_no_pair [] h = tt
imps_no_pair (inside i j ∷ ps) h = absurd h
imps_no_pair (implies a b ∷ ps) h = imps_no_pair ps h
imps_no_pair (triple t k a b ∷ ps) h = absurd h
imps_no_pair (pair t k a b ∷ ps) h = absurd h

module _ (P : Program) where
  pub pair_by_50 : (n : Rule) (ps : List Statement) (t k : ℕ) (a b : Assertion) → Inference P n ps (pair t k a b) → n ≡ r50
  pair_by_50 n ps t k a b (i50 e c) = refl

  pub no_pair_premise : (n : Rule) (ps : List Statement) (s : Statement) → Inference P n ps s → T (all (λ p. not (of_pair p)) ps)
  no_pair_premise n ps s (i1 a) = tt
  no_pair_premise n ps s (i2 a) = tt
  no_pair_premise n ps s (i3 a) = tt
  no_pair_premise n ps s (i4 a) = tt
  no_pair_premise n ps s (i5_load a) = tt
  no_pair_premise n ps s (i5_swap a b) = tt
  no_pair_premise n ps s (i6 a) = tt
  no_pair_premise n ps s (i7 a) = tt
  no_pair_premise n ps s (i8 a b) = tt
  no_pair_premise n ps s (i9 a b c) = tt
  no_pair_premise n ps s (i10 a) = tt
  no_pair_premise n ps s (i11 a) = tt
  no_pair_premise n ps s (i12 a) = tt
  no_pair_premise n ps s (i13 a b c) = tt
  no_pair_premise n ps s (i14 a) = tt
  no_pair_premise n ps s (i15 a) = tt
  no_pair_premise n ps s (i16 a) = tt
  no_pair_premise n ps s (i47 a b) = tt
  no_pair_premise n ps s (i48 a b) = tt
  no_pair_premise n ps s (i49 a b) = tt
  no_pair_premise n ps s (i50 a b) = tt
  no_pair_premise n ps s (i20 a b c) = imps_no_pair ps b
  no_pair_premise n ps s (i21 a) = tt
  no_pair_premise n ps s i22 = tt
  no_pair_premise n ps s (i23 a) = tt
  no_pair_premise n ps s (i24 a) = tt
  no_pair_premise n ps s i25 = tt
  no_pair_premise n ps s i26 = tt
  no_pair_premise n ps s (i27 a) = tt
  no_pair_premise n ps s (i30 a) = tt
  no_pair_premise n ps s i31 = tt
  no_pair_premise n ps s i32 = tt
  no_pair_premise n ps s i33 = tt
  no_pair_premise n ps s i34 = tt
  no_pair_premise n ps s i35 = tt
  no_pair_premise n ps s i36 = tt
  no_pair_premise n ps s i37 = tt
  no_pair_premise n ps s i38 = tt
  no_pair_premise n ps s i39 = tt
  no_pair_premise n ps s i40 = tt
  no_pair_premise n ps s i41 = tt
  no_pair_premise n ps s i42 = tt
  no_pair_premise n ps s i43 = tt
  no_pair_premise n ps s i44 = tt
  no_pair_premise n ps s i45 = tt
  no_pair_premise n ps s i46 = tt
