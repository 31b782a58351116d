-- How many obligations a program within the limits has.
use mathlib.Core.Bool.{Bool, true, false}
use mathlib.Core.List.{List, [], ◌++◌}
use Prim.Native.Nat.{ℕ, suc, ◌+◌, ◌-◌, ◌*◌, ◌≤◌, ◌<◌}
use native.Mathlib.Omega.{arith}
use lib.Dec.{eqb}
use lib.ListN.{length, length-append, length-map}
use Rattle.semantics.specs.Base.{Within, below, up_to}
use Rattle.semantics.specs.Machine.{Program, Instr, Instr.act, Instr.branch}
use Rattle.logic.specs.Obligations.{Obligation, flat, own, acting, instructed, starts, steps, interferences, obligations}
use Rattle.logic.proofs.Reordered.{reordered_length}
use Rattle.logic.proofs.Order.{actions, formerly, reordered}
use Rattle.limits.specs.Limits as Limits
use Rattle.image_meaning.proofs.Sums.{sum, sum_const, flat_below, flat_up_to, below_length}
use Rattle.checker_spec.proofs.BoundedSums.{sum_le}

-- lists that have a part of at most m members for each number

pub sum_most : (f : ℕ → ℕ) (n m : ℕ) → ((k : ℕ) → k < n → f k ≤ m) → sum f n ≤ n * m
sum_most f n m h = let i = sum_le (λ k. m) f n h in let e = sum_const m n in omega arith

below_most : {B : Type 0} (f : ℕ → List B) (n m : ℕ) → ((k : ℕ) → k < n → length (f k) ≤ m) → length (flat f (below n)) ≤ n * m
below_most f n m h = let i = sum_most (λ k. length (f k)) n m h in let e = flat_below f n in omega arith

up_to_most : {B : Type 0} (f : ℕ → List B) (n m : ℕ) → ((k : ℕ) → Within n k → length (f k) ≤ m) → length (flat f (up_to n)) ≤ n * m
up_to_most f n m h =
    let i = sum_most (λ k. length (f (suc k))) n m (λ k b. h (suc k) (omega arith, omega arith)) in
    let e = flat_up_to f n in
    omega arith

-- a start for each thread, two steps for each of its points, and each point under each action
abbrev pub most_obligations : ℕ
most_obligations =
    Limits.threads + Limits.threads * (Limits.points * 2) + Limits.threads * (Limits.points * (Limits.threads * Limits.points))

abbrev FewPoints : Program → Type 0
FewPoints P = (t : ℕ) → Within P.threads t → P.points t ≤ Limits.points

module _ (P : Program) (few_threads : P.threads ≤ Limits.threads) (few_points : FewPoints P) where
  own_few : (t k : ℕ) (x : Instr) → length (own P t k x) ≤ 2
  own_few t k (act A ns) = omega arith
  own_few t k (branch e a) = omega arith

  acting_few : (u j t k : ℕ) (x : Instr) → length (acting P u j t k x) ≤ 1
  acting_few u j t k (act A ns) = omega arith
  acting_few u j t k (branch e a) = omega arith

  actions_few : (u j t : ℕ) → Within P.threads t → length (actions P u j t) ≤ Limits.points
  actions_few u j t w = go (eqb t u)
    where
      some : List Obligation
      some = flat (λ k. acting P u j t k (P.code t k)) (instructed P t)

      go : (b : Bool) → length {A = Obligation} (elim b as (λ y. List Obligation) [ true ↦ [] | false ↦ some ]) ≤ Limits.points
      go true = omega arith
      go false =
          let i = below_most (λ k. acting P u j t k (P.code t k)) (P.points t - 1) 1 (λ k b. acting_few u j t k (P.code t k)) in
          let p = few_points t w in
          omega arith

  thread_steps : (t : ℕ) → Within P.threads t → length (flat (λ k. own P t k (P.code t k)) (instructed P t)) ≤ Limits.points * 2
  thread_steps t w =
      let i = below_most (λ k. own P t k (P.code t k)) (P.points t - 1) 2 (λ k b. own_few t k (P.code t k)) in
      let p = few_points t w in
      omega arith

  -- the actions of all threads at a point of u
  abbrev others : ℕ → ℕ → List Obligation
  others u j = flat (λ t. actions P u j t) (up_to P.threads)

  point_actions : (u j : ℕ) → length (others u j) ≤ Limits.threads * Limits.points
  point_actions u j = let i = up_to_most (λ t. actions P u j t) P.threads Limits.points (actions_few u j) in omega arith

  thread_actions : (u : ℕ) → Within P.threads u
      → length (flat (others u) (below (P.points u))) ≤ Limits.points * (Limits.threads * Limits.points)
  thread_actions u w =
      let i = below_most (others u) (P.points u) (Limits.threads * Limits.points) (λ j b. point_actions u j) in
      let p = few_points u w in
      omega arith

  starts_few : length (starts P) ≤ Limits.threads
  starts_few =
      let e = length-map (up_to P.threads) Obligation.start in
      let d = length-map (below P.threads) suc in
      let c = below_length P.threads in
      omega arith

  steps_few : length (steps P) ≤ Limits.threads * (Limits.points * 2)
  steps_few =
      let i = up_to_most (λ t. flat (λ k. own P t k (P.code t k)) (instructed P t)) P.threads (Limits.points * 2) thread_steps in
      omega arith

  -- class 4 is counted by the asserting side, as many in the one order as in the other
  interferences_few : length (interferences P) ≤ Limits.threads * (Limits.points * (Limits.threads * Limits.points))
  interferences_few =
      let same = reordered_length (formerly P) (interferences P) (reordered P) in
      let most = Limits.points * (Limits.threads * Limits.points) in
      let i = up_to_most (λ u. flat (others u) (below (P.points u))) P.threads most thread_actions in
      omega arith

  pub obligations_few : length (obligations P) ≤ most_obligations
  obligations_few =
      let e = length-append (starts P) (steps P ++ interferences P) in
      let d = length-append (steps P) (interferences P) in
      let a = starts_few in
      let b = steps_few in
      let c = interferences_few in
      omega arith
