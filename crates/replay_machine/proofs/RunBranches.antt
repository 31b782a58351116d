-- The loop over a trace: one law for each way.
use Prim.Native.Nat.{ℕ, ◌+◌, ◌*◌, ◌/◌, ◌%◌, ◌≤◌, ◌<◌}
use mathlib.Core.Path.{◌≡◌, refl, ap, sym, ◌∙◌}
use mathlib.Core.Bool.{Bool, true, false}
use mathlib.Core.List.{List, [], ◌∷◌}
use native.Mathlib.Omega.{arith}
use lib.ListN.{length, get_or, drop}
use lib.Seq.{drop-length}
use lib.Dec.{eqb}
use borrow.Author.Tests.{eqb-false}
use Rattle.std.specs.declared.result.Result.{Result}
use Rattle.std.specs.declared.result.Result.TheVariants.{Ok, Err}
use Rattle.formula_trees.proofs.NodeBytes.{drop_next}
use Rattle.image_header.specs.declared.sizes.Sizes.{Sizes}
use Rattle.replay_memory.specs.Memory.{memory_of}
use Rattle.replay_memory.specs.declared.write.Write.{Write}
use Rattle.replay_machine.specs.State.{machine_of, threads_of}
use Rattle.replay_machine.specs.Step.{Stepped, stepped, taken_of}
use Rattle.replay_machine.specs.Refusal.{number}
use Rattle.replay_machine.specs.Run.{Run, ran, told, run_of}
use Rattle.replay_machine.specs.declared.state.Machine.{Machine}
use Rattle.replay_machine.specs.declared.state.Threads.{Threads}
use Rattle.replay_machine.specs.declared.pick.Refusal.{Refusal}
use Rattle.replay_machine.specs.declared.pick.Refusal.TheVariants.{Thread}
use Rattle.replay_machine.specs.declared.run.Reached.{Reached}
use Rattle.replay_machine.proofs.StepBranches.{refused_some, step_stays}

-- the table has the writes
back : (n : Machine) (b : List Write) → b ≡ n.memory.writes → machine_of (threads_of n) b ≡ n
unfolding machine_of threads_of memory_of
back n b e = rw e

-- one step of the run: it goes on, or ends there
module _ (s : List ℕ) (z : Sizes) (room : ℕ) (n : Machine) (k t p : ℕ) (l : List ℕ) (r : Stepped) (d : r ≡ stepped s z room n t p) where
  abbrev on : Stepped → Bool → Run
  on q b = elim b as (λ x. Run) [ true ↦ ran s z room q.machine (k + 1) l | false ↦ record { code = q.code; steps = k; machine = n } ]

  by_code : (b : Bool) → eqb r.code 0 ≡ b → ran s z room n k (t ∷ p ∷ l) ≡ on r b
  unfolding ran
  by_code b e = ap (λ (q : Stepped). on q (eqb q.code 0)) (sym d) ∙ ap (on r) e

module _ (s : List ℕ) (z : Sizes) (room : ℕ) (l : List ℕ) where
  -- what is left of the trace after k steps: nothing, half a step, a step
  rest_none : (i : ℕ) → length l ≤ i → i ≤ length l → drop i l ≡ []
  rest_none i h g = let q : i ≡ length l = omega arith in rw q (drop-length l)

  rest_half : (i : ℕ) → i < length l → length l ≤ i + 1 → drop i l ≡ get_or l i 0 ∷ []
  rest_half i h g = drop_next l i h ∙ ap (λ (r : List ℕ). get_or l i 0 ∷ r) (rest_none (i + 1) (omega arith) (omega arith))

  rest_step : (k : ℕ) → k < length l / 2 → drop (2 * k) l ≡ get_or l (2 * k) 0 ∷ get_or l (2 * k + 1) 0 ∷ drop (2 * (k + 1)) l
  rest_step k h =
      let e : 2 * k + 1 + 1 ≡ 2 * (k + 1) = omega arith in
      drop_next l (2 * k) (omega arith) ∙ ap (λ (r : List ℕ). get_or l (2 * k) 0 ∷ r)
      (drop_next l (2 * k + 1) (omega arith) ∙ ap (λ (j : ℕ). get_or l (2 * k + 1) 0 ∷ drop j l) e)

  -- m and l: where the run began; n and b, k: the state and the steps now
  module _ (m : Machine) (n : Threads) (b : List Write) (k : ℕ) (e : ran s z room m 0 l ≡ ran s z room (machine_of n b) k (drop (2 * k) l)) where
    pub run_ended : k ≤ length l / 2 → length l / 2 ≤ k → length l % 2 ≡ 0
        → run_of (record { ended = Ok tt; steps = length l / 2; threads = n }) b ≡ ran s z room m 0 l
    unfolding ran run_of
    run_ended h g x =
        let q : length l / 2 ≡ k = omega arith in
        rw q (sym (e ∙ rw (rest_none (2 * k) (omega arith) (omega arith))))

    pub run_half : k ≤ length l / 2 → length l / 2 ≤ k → (length l % 2 ≡ 0 → ⊥)
        → run_of (record { ended = Err Thread; steps = length l / 2; threads = n }) b ≡ ran s z room m 0 l
    unfolding ran run_of
    run_half h g x =
        let q : length l / 2 ≡ k = omega arith in
        rw q (sym (e ∙ rw (rest_half (2 * k) (omega arith) (omega arith))))

    module _ (r : Result Threads Refusal) (c : List Write) (h : k < length l / 2)
        (d : taken_of r n c ≡ stepped s z room (machine_of n b) (get_or l (2 * k) 0) (get_or l (2 * k + 1) 0)) where
      goes : (x : Bool) → eqb (taken_of r n c).code 0 ≡ x
          → ran s z room m 0 l
          ≡ on s z room (machine_of n b) k (get_or l (2 * k) 0) (get_or l (2 * k + 1) 0) (drop (2 * (k + 1)) l) (taken_of r n c) d (taken_of r n c) x
      goes x f = e ∙ ap (ran s z room (machine_of n b) k) (rest_step k h)
          ∙ by_code s z room (machine_of n b) k (get_or l (2 * k) 0) (get_or l (2 * k + 1) 0) (drop (2 * (k + 1)) l) (taken_of r n c) d x f

      pub run_on : (q : Threads) → r ≡ Ok q → ran s z room m 0 l ≡ ran s z room (machine_of q c) (k + 1) (drop (2 * (k + 1)) l)
      unfolding taken_of
      run_on q f =
          goes true (ap (λ (y : Result Threads Refusal). eqb (taken_of y n c).code 0) f)
          ∙ ap (λ (y : Result Threads Refusal). ran s z room (taken_of y n c).machine (k + 1) (drop (2 * (k + 1)) l)) f

      -- a refused step leaves the state as it was
      pub run_refused : (x : Refusal) → r ≡ Err x → run_of (record { ended = Err x; steps = k; threads = n }) c ≡ ran s z room m 0 l
      unfolding run_of taken_of
      run_refused x f =
          let same : taken_of r n c ≡ record { code = number x; machine = machine_of n c } = ap (λ (y : Result Threads Refusal). taken_of y n c) f in
          let stays : machine_of n c ≡ machine_of n b =
          ap (λ (q : Stepped). q.machine) (sym same ∙ d)
          ∙ step_stays s z room (machine_of n b) (get_or l (2 * k) 0) (get_or l (2 * k + 1) 0)
          (λ y. eqb-false (number x) 0 (refused_some x) (ap (λ (q : Stepped). q.code) (sym same ∙ d) ∙ y)) in
          rw stays (sym (goes false (ap (λ (q : Stepped). eqb q.code 0) same ∙ refused_some x)
          ∙ ap (λ (q : Stepped). record { code = q.code; steps = k; machine = machine_of n b }) same))

pub run_begin : (s : List ℕ) (z : Sizes) (room : ℕ) (l : List ℕ) (n : Machine) → ran s z room n 0 l ≡ ran s z room n 0 (drop (2 * 0) l)
run_begin s z room l n = refl

pub ruleset run_on_branches = (run_begin, run_ended, run_half, run_on, run_refused)

-- a machine run with its writes apart
pub run_made : (s : List ℕ) (z : Sizes) (room : ℕ) (l : List ℕ) (n q : Machine) (h : Threads) (r : Reached) (c : List Write) → h ≡ threads_of n
    → run_of r c ≡ ran s z room (machine_of h n.memory.writes) 0 l
    → q ≡ machine_of r.threads c
    → told (record { ended = r.ended; steps = r.steps; machine = q }) ≡ ran s z room n 0 l
unfolding told run_of
run_made s z room l n q h r c t d f =
    rw f (d ∙ ap (λ (x : Machine). ran s z room x 0 l) (ap (λ (x : Threads). machine_of x n.memory.writes) t ∙ back n n.memory.writes refl))
