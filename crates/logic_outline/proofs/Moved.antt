-- Class 4 in another order: an image whose lines are moved with their obligations is accepted exactly if it was before.
use mathlib.Core.Path.{◌≡◌, refl, ap, ap₂, sym, ◌∙◌}
use mathlib.Core.Bool.{Bool, true, false, ◌&&◌}
use mathlib.Core.List.{List, [], ◌∷◌, ◌++◌, append_assoc}
use Prim.Native.Nat.{ℕ, suc, ◌+◌}
use native.Mathlib.Omega.{arith}
use lib.Dec.{eqb}
use lib.ListN.{length}
use Rattle.semantics.specs.Machine.{Program}
use Rattle.logic.specs.Obligations.{Obligation, starts, steps, interferences}
use Rattle.logic.proofs.Order.{formerly, all_formerly, all_met, moved, moved_alike}
use Rattle.logic_outline.specs.Verdict.{Image, Judgement, met, failed, line_code, code, judge, judgement}

abbrev pub is_met : Judgement → Bool
is_met (met n) = true
is_met (failed c o n k) = false

and_assoc : (a b c : Bool) → a && (b && c) ≡ (a && b) && c
and_assoc true b c = refl
and_assoc false b c = refl

-- a record for two lists, one behind the other
met_append : (f : Obligation → ℕ → Bool) (os ps : List Obligation) (r q : List ℕ) → length r ≡ length os
    → all_met f (os ++ ps) (r ++ q) ≡ all_met f os r && all_met f ps q
met_append f [] ps [] q e = refl
met_append f [] ps (n ∷ r) q e = absurd (omega arith)
met_append f (o ∷ os) ps [] q e = absurd (omega arith)
met_append f (o ∷ os) ps (n ∷ r) q e = ap (λ (b : Bool). f o n && b) (met_append f os ps r q (omega arith))
    ∙ and_assoc (f o n) (all_met f os r) (all_met f ps q)

module _ (D : Image) where
  abbrev meets : Obligation → ℕ → Bool
  meets o n = eqb (code D o n) 0

  -- the lines that the obligations of a list name, from number m on
  abbrev pub lines : List Obligation → ℕ → List ℕ
  lines [] m = []
  lines (o ∷ os) m = D.named m ∷ lines os (suc m)

  lines_length : (os : List Obligation) (m : ℕ) → length (lines os m) ≡ length os
  lines_length [] m = refl
  lines_length (o ∷ os) m = ap suc (lines_length os (suc m))

  lines_append : (os ps : List Obligation) (m : ℕ) → lines (os ++ ps) m ≡ lines os m ++ lines ps (m + length os)
  lines_append [] ps m = let q : m ≡ m + 0 = omega arith in ap (lines ps) q
  lines_append (o ∷ os) ps m =
      let q : suc m + length os ≡ m + suc (length os) = omega arith in
      ap (λ (l : List ℕ). D.named m ∷ l) (lines_append os ps (suc m) ∙ ap (λ (n : ℕ). lines os (suc m) ++ lines ps n) q)

  judged_met : (os : List Obligation) (m : ℕ) → is_met (judge D os m) ≡ all_met meets os (lines os m)
  unfolding judge
  judged_met [] m = refl
  judged_met (o ∷ os) m = go (eqb (code D o (D.named m)) 0) (judged_met os (suc m))
    where
      go : (b : Bool) → is_met (judge D os (suc m)) ≡ all_met meets os (lines os (suc m))
          → is_met (elim b as (λ x. Judgement) [ true ↦ judge D os (suc m) | false ↦ failed (code D o (D.named m)) o (D.named m) m ])
          ≡ b && all_met meets os (lines os (suc m))
      go true h = h
      go false h = refl

  -- the first lists, and what is behind them
  judged_split : (os ps : List Obligation) → is_met (judge D (os ++ ps) 0) ≡ all_met meets os (lines os 0)
      && all_met meets ps (lines ps (length os))
  judged_split os ps =
      let q : 0 + length os ≡ length os = omega arith in
      judged_met (os ++ ps) 0
      ∙ ap (all_met meets (os ++ ps)) (lines_append os ps 0 ∙ ap (λ (n : ℕ). lines os 0 ++ lines ps n) q)
      ∙ met_append meets os ps (lines os 0) (lines ps (length os)) (lines_length os 0)

-- E is D with the lines of class 4 moved: those of classes 1 to 3 stay, and each line of class 4 goes with its obligation
module _ (D : Image) (named : ℕ → ℕ) where
  abbrev P : Program
  P = D.program

  abbrev E : Image
  E = record { program = D.program; outline = D.outline; certificate = D.certificate; named = named; claims = D.claims }

  abbrev first : List Obligation
  first = starts P ++ steps P

  -- the lines of class 4 in the former order
  abbrev former : List ℕ
  former = lines D (formerly P) (length first)

  pub whole : length former ≡ length (formerly P)
  whole = lines_length D (formerly P) (length first)

  module _ (stay : lines E first 0 ≡ lines D first 0) (move : lines E (interferences P) (length first) ≡ moved P former whole) where
    pub moved_accepted : is_met (judge D (all_formerly P) 0) ≡ is_met (judgement E)
    unfolding line_code all_formerly
    moved_accepted =
        ap (λ (os : List Obligation). is_met (judge D os 0)) (sym (append_assoc (starts P) (steps P) (formerly P)))
        ∙ judged_split D first (formerly P)
        ∙ ap₂ (λ (a b : Bool). a && b) (ap (all_met (meets D) first) (sym stay))
        (moved_alike P former whole (meets D) ∙ ap (all_met (meets D) (interferences P)) (sym move))
        ∙ sym (judged_split E first (interferences P))
        ∙ ap (λ (os : List Obligation). is_met (judge E os 0)) (append_assoc (starts P) (steps P) (interferences P))
