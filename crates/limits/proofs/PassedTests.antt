-- What a test that is passed has found.
use mathlib.Core.Path.{◌≡◌, refl, sym}
use mathlib.Core.Bool.{Bool, true, false, ◌&&◌, true≢false}
use mathlib.Core.List.{List, [], ◌∷◌}
use Prim.Native.Nat.{ℕ, zero, suc, ◌≤◌, ◌<◌}
use native.Mathlib.Omega.{arith}
use lib.Dec.{leb}
use lib.ListN.{length, get_or}
use borrow.Author.Tests.{leb-true}
use Rattle.limits.specs.Numbers.{within, every}

pub and_true : (a b : Bool) → a && b ≡ true → (a ≡ true) × (b ≡ true)
and_true true b e = (refl, e)
and_true false b e = absurd (true≢false (sym e))

pub within_true : (lo hi x : ℕ) → within lo hi x ≡ true → (lo ≤ x) × (x ≤ hi)
unfolding within
within_true lo hi x e = let h = and_true (leb lo x) (leb x hi) e in (leb-true lo x h.0, leb-true x hi h.1)

module _ {A : Type 0} (f : A → Bool) where
  -- a member, by its index
  pub every_at : (l : List A) (i : ℕ) (d : A) → every f l ≡ true → i < length l → f (get_or l i d) ≡ true
  unfolding every
  every_at [] i d e b = absurd (omega arith)
  every_at (x ∷ l) zero d e b = (and_true (f x) (every f l) e).0
  every_at (x ∷ l) (suc i) d e b = every_at l i d (and_true (f x) (every f l) e).1 (omega arith)

  -- where the default passes too, any index will do
  pub every_or : (l : List A) (i : ℕ) (d : A) → every f l ≡ true → f d ≡ true → f (get_or l i d) ≡ true
  unfolding every
  every_or [] i d e h = h
  every_or (x ∷ l) zero d e h = (and_true (f x) (every f l) e).0
  every_or (x ∷ l) (suc i) d e h = every_or l i d (and_true (f x) (every f l) e).1 h
