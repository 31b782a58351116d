-- Callers from 1 to 8 have a account, and no other number has.
use mathlib.Core.Path.{◌≡◌, refl}
use mathlib.Core.Bool.{Bool, true, false, not, ◌&&◌}
use mathlib.Core.List.{List, [], ◌∷◌}
use mathlib.Core.Option.{none, some}
use Prim.Native.Nat.{ℕ, zero, suc, ◌≤◌, ◌<◌}
use native.Mathlib.Omega.{arith}
use lib.Dec.{eqb, leb}
use lib.ListN.{length, get_or, get_elem?}
use borrow.Author.Tests.{leb-true}
use Rattle.service_spec.specs.Account.{callers, is_caller, account_at, account_of}

pub caller_first : (c : ℕ) → is_caller c ≡ true → 1 ≤ c
caller_first zero h = let x : ◌≡◌ {A = ℕ} 0 1 = cc in absurd (omega arith)
caller_first (suc c) h = omega arith

second : (a b : Bool) → (a && b) ≡ true → b ≡ true
second true b h = h
second false b h = let x : ◌≡◌ {A = ℕ} 0 1 = cc in absurd (omega arith)

pub caller_last : (c : ℕ) → is_caller c ≡ true → c ≤ callers
caller_last c h = leb-true c callers (second (not (eqb c 0)) (leb c callers) h)

pub has_account : (s : List ℕ) (c : ℕ) → is_caller c ≡ true → account_of s c ≡ some (account_at s c)
unfolding account_of
has_account s c h = rw h

pub no_account : (s : List ℕ) (c : ℕ) → is_caller c ≡ false → account_of s c ≡ none
unfolding account_of
no_account s c h = rw h

-- a number that is there, and one that is not
pub read_there : (s : List ℕ) (i : ℕ) → i < length s → get_elem? s i ≡ some (get_or s i 0)
read_there [] i h = absurd (omega arith)
read_there (x ∷ s) zero h = refl
read_there (x ∷ s) (suc i) h = read_there s i (omega arith)

pub read_missing : (s : List ℕ) (i : ℕ) → length s ≤ i → get_elem? s i ≡ none
read_missing [] i h = refl
read_missing (x ∷ s) zero h = absurd (omega arith)
read_missing (x ∷ s) (suc i) h = read_missing s i (omega arith)
