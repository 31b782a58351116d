-- Sums of which no number rises.
use mathlib.Core.Path.{◌≡◌, refl}
use mathlib.Core.Bool.{Bool, true, false}
use mathlib.Core.Logic.{◌≢◌}
use Prim.Native.Nat.{ℕ, zero, suc, ◌+◌, ◌≤◌, ◌<◌}
use native.Mathlib.Omega.{arith}
use lib.Dec.{eqb}
use borrow.Author.Tests.{eqb-true, eqb-false}
use Rattle.image_meaning.proofs.Sums.{sum}

pub sum_le : (f g : ℕ → ℕ) (n : ℕ) → ((k : ℕ) → k < n → g k ≤ f k) → sum g n ≤ sum f n
unfolding sum
sum_le f g zero h = omega arith
sum_le f g (suc n) h = let i = sum_le f g n (λ k b. h k (omega arith)) in let j = h n (omega arith) in omega arith

-- and one of them falls
pub sum_falls : (f g : ℕ → ℕ) (n k : ℕ) → k < n → g k < f k → ((j : ℕ) → j ≢ k → g j ≤ f j) → sum g n < sum f n
unfolding sum
sum_falls f g zero k b h e = absurd (omega arith)
sum_falls f g (suc n) k b h e = go (eqb k n) refl (λ c. sum_falls f g n k c h e)
  where
    go : (x : Bool) → eqb k n ≡ x → (k < n → sum g n < sum f n) → sum g n + g n < sum f n + f n
    go true q i =
        let p : k ≡ n = eqb-true k n q in
        let m = sum_le f g n (λ j c. e j (omega arith)) in
        let d : g n < f n = rw p at h in
        omega arith
    go false q i =
        let p : k ≡ n → ⊥ = eqb-false k n q in
        let m = i (omega arith) in
        let d = e n (omega arith) in
        omega arith
