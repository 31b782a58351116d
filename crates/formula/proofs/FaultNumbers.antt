-- The fault of a formula is told by its very number: the first fault is 0, which is none, or one of the two numbers that a fault has.
use mathlib.Core.Path.{◌≡◌, refl}
use mathlib.Core.Bool.{Bool, true, false, ◌||◌, cond}
use mathlib.Core.List.{List}
use Prim.Native.Nat.{ℕ, zero, suc, ◌+◌}
use native.Mathlib.Omega.{arith}
use lib.Dec.{eqb, ltb}
use lib.ListN.{length, get_or}
use Rattle.formula.specs.declared.reader.Counts.{Counts}
use Rattle.formula.specs.Codes.{fits_at, has_operand, part_place}
use Rattle.formula.specs.Tree.{node_at, parse_tree}
use Rattle.formula.specs.Reader.{range, malformed, number_of, fault_named, in_range, operand_fault, head_fault, first, part_fault, fault_at}
use Rattle.std.proofs.lemmas.Bool.Decides.{nat_tests}

abbrev told : ℕ → Bool
told c = eqb c 0 || (eqb c range || eqb c malformed)

either : (b : Bool) (x y : ℕ) → told x ≡ true → told y ≡ true → told (cond b x y) ≡ true
either true x y p q = p
either false x y p q = q

part_told : (f : ℕ → ℕ) (b : Bool) (at : ℕ) → ((p : ℕ) → told (f p) ≡ true) → told (part_fault f b at) ≡ true
part_told f true at h = h at
part_told f false at h = refl

operand_told : (s : List ℕ) (n : Counts) (c at : ℕ) → told (operand_fault s n c at) ≡ true
unfolding operand_fault
operand_told s n c at =
    let inside : Bool = in_range n c (get_or s at 0) in
    either (ltb at (length s)) (cond inside 0 range) malformed (either inside 0 range refl refl) refl

head_told : (s : List ℕ) (n : Counts) (place at : ℕ) → told (head_fault s n place at) ≡ true
unfolding head_fault
head_told s n place at =
    let c : ℕ = get_or s at 0 in
    let own : ℕ = cond (has_operand c) (operand_fault s n c (at + 1)) 0 in
    either (ltb at (length s)) (cond (fits_at c place) own malformed) malformed
    (either (fits_at c place) own malformed
    (either (has_operand c) (operand_fault s n c (at + 1)) 0 (operand_told s n c (at + 1)) refl) refl) refl

fault_told : (s : List ℕ) (n : Counts) (k place at : ℕ) → told (fault_at s n k place at) ≡ true
unfolding fault_at
fault_told s n zero place at = refl
fault_told s n (suc k) place at =
    let x = node_at s at in
    let f : ℕ → ℕ = λ p. fault_at s n k (part_place x.code place) p in
    let g : ℕ → ℕ = λ p. fault_at s n k (part_place x.code place) (parse_tree s k p).end in
    let a : ℕ = part_fault f (ltb 0 x.parts) x.next in
    let b : ℕ = part_fault g (ltb 1 x.parts) x.next in
    either (eqb (head_fault s n place at) 0) (first a b) (head_fault s n place at)
    (either (eqb a 0) b a
    (part_told g (ltb 1 x.parts) x.next (λ p. fault_told s n k (part_place x.code place) (parse_tree s k p).end))
    (part_told f (ltb 0 x.parts) x.next (λ p. fault_told s n k (part_place x.code place) p)))
    (head_told s n place at)

number_named : (c : ℕ) → told c ≡ true → (c ≡ 0 → ⊥) → number_of (fault_named c) ≡ c
number_named c t z = grind (arith, nat_tests)

-- what is named as a fault has the number that the definition of the first fault gives
pub fault_number :
    (s : List ℕ) (n : Counts) (k place at : ℕ)
    → (fault_at s n k place at ≡ 0 → ⊥) → number_of (fault_named (fault_at s n k place at)) ≡ fault_at s n k place at
fault_number s n k place at z = number_named _ (fault_told s n k place at) z
