-- Room compared with what it should hold.
use Rattle.std.proofs.Common.{◌≡◌, ℕ, zero, suc, Bool, true, false, ◌&&◌, T, eqb, List, [], ◌∷◌, ◌++◌, length, take, drop, replicate, refl, sym, ap, eqb→eq}
use Rattle.std.proofs.lemmas.Bool.{false≢true}
use Rattle.std.specs.Cmp.Lexicographic.{pointwise}
use Rattle.std.specs.List.{list_all}
use lib.Dec.{eqb_refl}
use Rattle.semantics.proofs.Base.{and_left, and_right, and_both}
use Rattle.vectors.specs.Room.{holds_by, holds}

and_front : (b p q t : Bool) → (b && p) ≡ true → (p ≡ true → q ≡ t) → (b && q) ≡ t
and_front true p q t h k = k h
and_front false p q t h k = absurd (false≢true h)

and_apart : (b p q : Bool) → (b && p) ≡ false → (p ≡ false → q ≡ false) → (b && q) ≡ false
and_apart true p q h k = k h
and_apart false p q h k = refl

module _ {A : Type 0} (E : A → A → Bool) where
  -- behind a front that the room begins with, what is left decides
  pub holds_front : (room front : List A) (x : A) → pointwise E (take (length front) room) front ≡ true
      → holds_by E room front x ≡ list_all (λ y. E y x) (drop (length front) room)
  unfolding holds_by
  holds_front [] [] x h = refl
  holds_front [] (f ∷ front) x h = absurd (false≢true h)
  holds_front (r ∷ room) [] x h = ap (λ b. E r x && b) (holds_front room [] x refl)
  holds_front (r ∷ room) (f ∷ front) x h =
      and_front (E r f) (pointwise E (take (length front) room) front) (holds_by E room front x) _ h (holds_front room front x)

  -- a room that does not begin so
  pub holds_apart : (room front : List A) (x : A) → pointwise E (take (length front) room) front ≡ false → false ≡ holds_by E room front x
  unfolding holds_by
  holds_apart [] [] x h = absurd (false≢true (sym h))
  holds_apart [] (f ∷ front) x h = refl
  holds_apart (r ∷ room) [] x h = absurd (false≢true (sym h))
  holds_apart (r ∷ room) (f ∷ front) x h = sym (and_apart (E r f) (pointwise E (take (length front) room) front) (holds_by E room front x) h
      (λ k. sym (holds_apart room front x k)))

-- room compares as right if it has these in front and x behind, and only then

pub equal_holds : (front : List ℕ) (k x : ℕ) → T (holds (front ++ replicate k x) front x)
unfolding holds_by
equal_holds [] zero x = tt
equal_holds [] (suc k) x = and_both (eqb x x) (holds (replicate k x) [] x) (eqb_refl x) (equal_holds [] k x)
equal_holds (f ∷ front) k x = and_both (eqb f f) (holds (front ++ replicate k x) front x) (eqb_refl f) (equal_holds front k x)

pub holds_equal : (room front : List ℕ) (x : ℕ) → T (holds room front x) → (k : ℕ) × (room ≡ front ++ replicate k x)
unfolding holds_by
holds_equal [] [] x h = (0, refl)
holds_equal [] (f ∷ front) x h = absurd h
holds_equal (r ∷ room) [] x h =
    let e = eqb→eq r x (and_left (eqb r x) (holds room [] x) h) in
    let q = holds_equal room [] x (and_right (eqb r x) (holds room [] x) h) in (suc q.0, λ i. e i ∷ (q.1 i))
holds_equal (r ∷ room) (f ∷ front) x h =
    let e = eqb→eq r f (and_left (eqb r f) (holds room front x) h) in
    let q = holds_equal room front x (and_right (eqb r f) (holds room front x) h) in (q.0, λ i. e i ∷ (q.1 i))
