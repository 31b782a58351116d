-- Byte strings that are compared: the same exactly if they are as long and agree at each place.
use mathlib.Core.Path.{◌≡◌, refl, ap, ap₂, sym, ◌∙◌, subst}
use mathlib.Core.Bool.{Bool, true, ◌&&◌}
use mathlib.Core.List.{List, [], ◌∷◌}
use Prim.Native.Nat.{ℕ}
use lib.Dec.{T, eqb, eqb→eq, eqb_refl}
use lib.Pointwise.{pointwise}
use Rattle.semantics.specs.Formula.{same_bytes}
use Rattle.semantics.proofs.Base.{and_left, and_right, and_both, holds_true, is_true}

same_equal : (a b : List ℕ) → T (same_bytes a b) → a ≡ b
same_equal [] [] h = refl
same_equal [] (y ∷ m) h = absurd h
same_equal (x ∷ l) [] h = absurd h
same_equal (x ∷ l) (y ∷ m) h = ap₂ (λ (x : ℕ) (l : List ℕ). x ∷ l) (eqb→eq x y (search and_left)) (same_equal l m (search and_right))

same_refl : (a : List ℕ) → T (same_bytes a a)
same_refl [] = tt
same_refl (x ∷ l) = and_both (eqb x x) (same_bytes l l) (eqb_refl x) (same_refl l)

module _ (a b : List ℕ) where
  pub bytes_equal : same_bytes a b ≡ true → a ≡ b
  bytes_equal e = same_equal a b (is_true e)

  pub equal_bytes : a ≡ b → same_bytes a b ≡ true
  equal_bytes e = holds_true (same_bytes a b) (subst (λ (l : List ℕ). T (same_bytes a l)) e (same_refl a))

-- as the slices are compared, element by element
pub by_elements : (a b : List ℕ) → pointwise eqb a b ≡ same_bytes a b
by_elements [] [] = refl
by_elements [] (y ∷ m) = refl
by_elements (x ∷ l) [] = refl
by_elements (x ∷ l) (y ∷ m) = ap (λ (u : Bool). eqb x y && u) (by_elements l m)
