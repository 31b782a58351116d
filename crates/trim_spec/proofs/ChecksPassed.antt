-- Tests and checks that are passed, from what they ask.
use mathlib.Core.Path.{◌≡◌, refl}
use mathlib.Core.Bool.{Bool, true, false, ◌&&◌}
use mathlib.Core.List.{List, [], ◌∷◌, map}
use Prim.Native.Nat.{ℕ, suc, ◌≤◌, ◌<◌}
use native.Mathlib.Omega.{arith}
use lib.ListN.{length, get_or}
use borrow.Author.Tests.{le-leb}
use Rattle.limits.specs.Numbers.{within, every}
use Rattle.limits.proofs.PassedTests.{and_true}
use Rattle.image_frames.specs.Fault.{unless, also, Checked, passed}
use Rattle.image_frames.specs.declared.fault.Fault.{Fault}

pub and_in : (a b : Bool) → a ≡ true → b ≡ true → a && b ≡ true
and_in a b e d = rw (e, d)

pub and_then : (a b c : Bool) → (b ≡ true → c ≡ true) → a && b ≡ true → a && c ≡ true
and_then true b c h e = h e
and_then false b c h e = e

pub within_in : (lo hi x : ℕ) → lo ≤ x → x ≤ hi → within lo hi x ≡ true
unfolding within
within_in lo hi x a b = rw (le-leb lo x a, le-leb x hi b)

pub unless_in : (b : Bool) (f : Fault) (c : Checked) → b ≡ true → c ≡ passed → unless b f c ≡ passed
unfolding unless
unless_in b f c e d = rw (e, d)

pub also_in : (c d : Checked) → c ≡ passed → d ≡ passed → also c d ≡ passed
unfolding also
also_in c d e h = rw (e, h)

-- members that are made from members that pass
module _ {A B : Type 0} (p : A → Bool) (q : B → Bool) (h : A → B) (d : A) where
  pub every_made : (l : List A) → ((i : ℕ) → i < length l → p (get_or l i d) ≡ true → q (h (get_or l i d)) ≡ true)
      → every p l ≡ true → every q (map h l) ≡ true
  unfolding every
  every_made [] g e = refl
  every_made (x ∷ l) g e =
      let c = and_true (p x) (every p l) e in
      and_in (q (h x)) (every q (map h l)) (g 0 (omega arith) c.0) (every_made l (λ i b. g (suc i) (omega arith)) c.1)
