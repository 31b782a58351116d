-- Tests and checks one after the other, as a chain of branches makes them. `u` is what the code's test answered.
use Prim.Native.Nat.{ℕ, ◌≤◌, ◌<◌}
use mathlib.Core.Path.{◌≡◌, refl, ◌∙◌}
use mathlib.Core.List.{List}
use mathlib.Core.Bool.{Bool, true, false, not, ◌&&◌}
use native.Mathlib.Omega.{arith}
use lib.ListN.{length}
use lib.Dec.{eqb}
use borrow.Author.Tests.{eq-eqb, ne_eqb}
use Rattle.limits.specs.Numbers.{has}
use Rattle.limits.proofs.Numbers.{has_all, has-not}
use Rattle.image_frames.specs.Fault.{unless, also, Checked, passed}
use Rattle.image_frames.specs.declared.fault.Fault.{Fault}
use Rattle.image_frames.specs.declared.fault.Refusal.{Refusal}
use Rattle.std.specs.Prelude.{Result, Ok, Err, MatchResult, IsErrAnd}
use Rattle.std.proofs.lemmas.Result.{err_from_is_err_and}
use Rattle.limits.proofs.BranchTests.{tests}

-- tests that are joined

pub and_off : (a b u : Bool) → u ≡ a → u ≡ false → false ≡ a && b
and_off a b u e z = rw (← e, z)

pub and_on : (a b u r : Bool) → u ≡ a → u ≡ true → r ≡ b → r ≡ a && b
and_on a b u r e z d = rw (← e, z) d

pub not_on : (a u : Bool) → u ≡ a → u ≡ true → false ≡ not a
not_on a u e z = rw (← e, z)

pub not_off : (a u : Bool) → u ≡ a → u ≡ false → true ≡ not a
not_off a u e z = rw (← e, z)

pub ruleset joining = (and_off, and_on, not_on, not_off)

-- a fault, unless a test is passed

module _ (f : Fault) (g : Checked) where
  pub unless_off : (a u : Bool) → u ≡ a → u ≡ false → Err f ≡ unless a f g
  unfolding unless
  unless_off a u e z = rw (← e, z)

  pub unless_on : (a u : Bool) (r : Checked) → u ≡ a → u ≡ true → r ≡ g → r ≡ unless a f g
  unfolding unless
  unless_on a u r e z d = rw (← e, z) d

  pub short : (n : ℕ) (b : List ℕ) → length b < n → Err f ≡ unless (has n b) f g
  unfolding unless
  short n b h = rw (has-not n b h)

  pub long : (n : ℕ) (b : List ℕ) (r : Checked) → n ≤ length b → r ≡ g → r ≡ unless (has n b) f g
  unfolding unless
  long n b r h d = rw (has_all n b h) d

  pub size_off : (n m k : ℕ) → k ≡ m → (n ≡ k → ⊥) → Err f ≡ unless (eqb n m) f g
  unfolding unless
  size_off n m k e h = rw (← e, ne_eqb n k h)

  pub size_on : (n m k : ℕ) (r : Checked) → k ≡ m → n ≡ k → r ≡ g → r ≡ unless (eqb n m) f g
  unfolding unless
  size_on n m k r e h d = rw (← e, eq-eqb n k h) d

-- one check after another

pub also_off : (a b c : Checked) (f : Fault) → a ≡ c → a ≡ Err f → Err f ≡ also c b
unfolding also
also_off a b c f e z = rw (← e, z)

pub also_on : (a b c r : Checked) → a ≡ c → a ≡ passed → r ≡ b → r ≡ also c b
unfolding also
also_on a b c r e z d = rw (← e, z) d

pub ruleset checking = (unless_off, unless_on, short, long, size_off, size_on, also_off, also_on)

-- a check whose fault `map_err` gives the number of its record

pub refused_by : (f : Checked) (m : Result (Unit {0}) Refusal) (x : Refusal) (i : ℕ) {P : Fault → Refusal → Type 0}
    → MatchResult f (λ u. m ≡ Ok u) (λ e. IsErrAnd m (P e))
    → m ≡ Err x
    → ((e : Fault) (d : Refusal) → P e d → d ≡ record { fault = e; «record» = i })
    → (e : Fault) × (f ≡ Err e) × (x ≡ record { fault = e; «record» = i })
refused_by (Ok u) m x i h q k = let z : ◌≡◌ {A = ℕ} 0 1 = cc in absurd (omega arith)
refused_by (Err e) m x i h q k =
    let p = err_from_is_err_and m h in
    let z : x ≡ p.0 = cc in
    (e, refl, z ∙ k e p.0 p.2)

-- with the tests of branches, for a function that joins tests or checks

pub ruleset joined = (joining, tests)

pub ruleset checked = (checking, tests)
