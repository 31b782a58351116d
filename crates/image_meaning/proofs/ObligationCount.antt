-- As many obligations as the obligations record has numbers.
use mathlib.Core.Path.{◌≡◌, refl, ap, sym, ◌∙◌}
use mathlib.Core.Bool.{Bool, true, false, cond}
use mathlib.Core.List.{List, [], ◌∷◌, ◌++◌}
use Prim.Native.Nat.{ℕ, zero, suc, ◌+◌, ◌-◌, ◌*◌, ◌≤◌, ◌<◌}
use native.Mathlib.Nat.{add-mul}
use native.Mathlib.Omega.{arith}
use lib.Dec.{eqb, eqb-suc-suc}
use lib.ListN.{length, get_or, length-append, length-map}
use Rattle.semantics.specs.Machine.{Program, Instr, Instr.act, Instr.branch}
use Rattle.logic.specs.Statement as Statement
use Rattle.logic.specs.Obligations.{Obligation, flat, own, acting, instructed, starts, steps, interferences, obligations}
use Rattle.semantics.specs.Base.{below, up_to}
use Rattle.logic.proofs.Reordered.{reordered_length}
use Rattle.logic.proofs.Order.{actions, formerly, reordered}
use Rattle.image_header.specs.declared.sizes.Sizes.{Sizes}
use Rattle.image_header.specs.declared.instruction.Instruction.{Instruction}
use Rattle.image_header.specs.Thread.{last_point, instructions, nothing}
use Rattle.image_header.proofs.ThreadBranches.{instructions_length}
use Rattle.image_bodies.specs.RecordPlaces.{thread_body, instruction_of}
use Rattle.image_bodies.specs.PointCounts.{is_branch, branches, thread_counts, point_counts_to, point_counts, obligation_count}
use Rattle.image_meaning.specs.Program.{instr, point_count, program_of}
use Rattle.image_meaning.specs.Image.{image_of}
use Rattle.image_meaning.proofs.Sums.{sum, sum_same, sum_front, sum_const, but, sum_cross, Additive, lengths, parts_below, flat_below, flat_up_to, below_length}
use Rattle.image_meaning.proofs.Instructions.{branch_is, instruction_there}

-- over the instructions of a thread

branch_small : (i : Instruction) → is_branch i ≤ 1
unfolding is_branch
branch_small i = go (eqb i.operation 6)
  where
    go : (b : Bool) → cond b 1 0 ≤ 1
    go true = omega arith
    go false = omega arith

pub branches_small : (is : List Instruction) → branches is ≤ length is
unfolding branches
branches_small [] = omega arith
branches_small (i ∷ is) = let h = branches_small is in let b = branch_small i in omega arith

-- each instruction counts for so much and for some more if it is a branch; or for one if it is none
pub step_sum : (a b : ℕ) (is : List Instruction) → sum (λ k. a + is_branch (get_or is k nothing) * b) (length is) ≡ length is * a + branches
    is * b
unfolding sum branches
step_sum a b [] = omega arith
step_sum a b (i ∷ is) =
    let e = sum_front (λ k. a + is_branch (get_or (i ∷ is) k nothing) * b) (length is) in
    let h = step_sum a b is in
    let p = add-mul 1 (length is) a in
    let q = add-mul (is_branch i) (branches is) b in
    omega arith

pub action_sum : (is : List Instruction) → sum (λ k. 1 - is_branch (get_or is k nothing)) (length is) ≡ length is - branches is
unfolding sum branches
action_sum [] = refl
action_sum (i ∷ is) =
    let e = sum_front (λ k. 1 - is_branch (get_or (i ∷ is) k nothing)) (length is) in
    let h = action_sum is in
    let b = branch_small i in
    let c = branches_small is in
    omega arith

-- over the threads: what each adds to the point_counts

module _ (z : Sizes) (l : List (List ℕ)) where
  abbrev pub body : ℕ → List ℕ
  body u = thread_body z l (suc u)

  abbrev pub points_of : ℕ → ℕ
  points_of u = point_count z l (suc u)

  abbrev steps_of : ℕ → ℕ
  steps_of u = last_point (body u) + branches (instructions (body u))

  abbrev actions_of : ℕ → ℕ
  actions_of u = last_point (body u) - branches (instructions (body u))

  pub tally_points : (n : ℕ) → (point_counts_to z l n).points ≡ sum points_of n
  unfolding point_counts_to thread_counts sum point_count
  tally_points zero = refl
  tally_points (suc n) = ap (λ (k : ℕ). k + points_of n) (tally_points n)

  tally_steps : (n : ℕ) → (point_counts_to z l n).steps ≡ sum steps_of n
  unfolding point_counts_to thread_counts sum
  tally_steps zero = refl
  tally_steps (suc n) = ap (λ (k : ℕ). k + steps_of n) (tally_steps n)

  tally_actions : (n : ℕ) → (point_counts_to z l n).actions ≡ sum actions_of n
  unfolding point_counts_to thread_counts sum
  tally_actions zero = refl
  tally_actions (suc n) = ap (λ (k : ℕ). k + actions_of n) (tally_actions n)

  tally_own : (n : ℕ) → (point_counts_to z l n).own ≡ sum (λ u. points_of u * actions_of u) n
  unfolding point_counts_to thread_counts sum point_count
  tally_own zero = refl
  tally_own (suc n) = ap (λ (k : ℕ). k + points_of n * actions_of n) (tally_own n)

-- the obligations of one instruction

module _ (z : Sizes) (l : List (List ℕ)) where
  abbrev pub P : Program
  P = program_of z l

  own_length : (t k : ℕ) (i : Instruction) → length (own P t k (instr l i)) ≡ 1 + is_branch i * 1
  unfolding is_branch
  own_length t k i = go (instr l i) ∙ ap (λ (b : Bool). 1 + cond b 1 0 * 1) (branch_is l i)
    where
      go : (c : Instr) → length (own P t k c) ≡ 1 + cond (Statement.is_branch c) 1 0 * 1
      go (act A ns) = refl
      go (branch e a) = refl

  acting_length : (u j t k : ℕ) (i : Instruction) → length (acting P u j t k (instr l i)) ≡ 1 - is_branch i
  unfolding is_branch
  acting_length u j t k i = go (instr l i) ∙ ap (λ (b : Bool). 1 - cond b 1 0) (branch_is l i)
    where
      go : (c : Instr) → length (acting P u j t k c) ≡ 1 - cond (Statement.is_branch c) 1 0
      go (act A ns) = refl
      go (branch e a) = refl

  -- a measure of a list that has a part for each point of a thread with an instruction
  pub instructed_sum : {B : Type 0} (m : List B → ℕ) → Additive m → (f : ℕ → List B) (g : Instruction → ℕ) (u : ℕ) → u < z.threads
      → ((k : ℕ) → m (f k) ≡ g (instruction_of z l (suc u) k))
      → m (flat f (instructed P (suc u))) ≡ sum (λ k. g (get_or (instructions (body z l u)) k nothing)) (length (instructions (body z l u)))
  unfolding point_count
  instructed_sum m add f g u b h =
      let q : point_count z l (suc u) - 1 ≡ length (instructions (body z l u)) = let e = instructions_length (body z l u) in omega arith in
      rw q (parts_below m add f (length (instructions (body z l u)))
      ∙ sum_same (λ k. m (f k)) (λ k. g (get_or (instructions (body z l u)) k nothing)) (length (instructions (body z l u)))
      (λ k m. h k ∙ ap g (instruction_there z l (suc u) k (omega arith) (omega arith))))

  thread_steps : (u : ℕ) → u < z.threads → length (flat (λ k. own P (suc u) k (P.code (suc u) k)) (instructed P (suc u))) ≡ steps_of z l u
  thread_steps u b =
      let e = instructed_sum length lengths (λ k. own P (suc u) k (P.code (suc u) k)) (λ i. 1 + is_branch i * 1) u b
      (λ k. own_length (suc u) k (instruction_of z l (suc u) k)) in
      let d = step_sum 1 1 (instructions (body z l u)) in
      let c = instructions_length (body z l u) in
      omega arith

  thread_actions : (u j t : ℕ) → t < z.threads → length
      (flat (λ k. acting P u j (suc t) k (P.code (suc t) k)) (instructed P (suc t))) ≡ actions_of z l t
  thread_actions u j t b =
      let e = instructed_sum length lengths (λ k. acting P u j (suc t) k (P.code (suc t) k)) (λ i. 1 - is_branch i) t b
      (λ k. acting_length u j (suc t) k (instruction_of z l (suc t) k)) in
      let d = action_sum (instructions (body z l t)) in
      let c = instructions_length (body z l t) in
      omega arith

  other_actions : (u j t : ℕ) → t < z.threads → length (actions P (suc u) j (suc t)) ≡ but u (actions_of z l) t
  other_actions u j t b = go (eqb (suc t) (suc u)) refl ∙ ap (λ (c : Bool). cond c 0 (actions_of z l t)) (eqb-suc-suc t u)
    where
      go : (c : Bool) → eqb (suc t) (suc u) ≡ c → length (actions P (suc u) j (suc t)) ≡ cond (eqb (suc t) (suc u)) 0 (actions_of z l t)
      go true e = rw (e, actions)
      go false e = rw (e, actions) (thread_actions (suc u) j t b)

  -- the three groups

  starts_length : length (starts P) ≡ z.threads
  starts_length =
      let e = length-map (up_to z.threads) Obligation.start in
      let d = length-map (below z.threads) suc in
      let c = below_length z.threads in
      omega arith

  steps_length : length (steps P) ≡ (point_counts z l).steps
  unfolding point_counts
  steps_length =
      flat_up_to (λ t. flat (λ k. own P t k (P.code t k)) (instructed P t)) z.threads
      ∙ sum_same (λ u. length (flat (λ k. own P (suc u) k (P.code (suc u) k)) (instructed P (suc u)))) (steps_of z l) z.threads
      thread_steps
      ∙ sym (tally_steps z l z.threads)

  -- at one point of a thread, the actions of the others
  point_length : (u j : ℕ) → length (flat (λ t. actions P (suc u) j t) (up_to z.threads)) ≡ sum (but u (actions_of z l)) z.threads
  point_length u j =
      flat_up_to (λ t. actions P (suc u) j t) z.threads
      ∙ sum_same (λ t. length (actions P (suc u) j (suc t))) (but u (actions_of z l)) z.threads (λ t b. other_actions u j t b)

  thread-length : (u : ℕ) → length (flat (λ j. flat (λ t. actions P (suc u) j t) (up_to z.threads)) (below (P.points (suc u))))
      ≡ points_of z l u * sum (but u (actions_of z l)) z.threads
  thread-length u =
      flat_below (λ j. flat (λ t. actions P (suc u) j t) (up_to z.threads)) (points_of z l u)
      ∙ sum_same (λ j. length (flat (λ t. actions P (suc u) j t) (up_to z.threads))) (λ j. sum (but u (actions_of z l)) z.threads)
      (points_of z l u) (λ j b. point_length u j)
      ∙ sum_const (sum (but u (actions_of z l)) z.threads) (points_of z l u)

  -- class 4 is counted by the asserting side, as many in the one order as in the other
  former_length : length (formerly P) ≡ (point_counts z l).points * (point_counts z l).actions - (point_counts z l).own
  unfolding point_counts
  former_length =
      flat_up_to (λ u. flat (λ j. flat (λ t. actions P u j t) (up_to z.threads)) (below (P.points u))) z.threads
      ∙ sum_same _ (λ u. points_of z l u * sum (but u (actions_of z l)) z.threads) z.threads (λ u b. thread-length u)
      ∙ sum_cross (points_of z l) (actions_of z l) z.threads
      ∙ rw (tally_points z l z.threads, tally_actions z l z.threads, tally_own z l z.threads)

  interferences_length : length (interferences P) ≡ (point_counts z l).points * (point_counts z l).actions - (point_counts z l).own
  interferences_length = sym (reordered_length (formerly P) (interferences P) (reordered P)) ∙ former_length

  pub count_is : obligation_count z l ≡ length (obligations (image_of z l).program)
  unfolding obligation_count
  count_is =
      let e = length-append (starts P) (steps P ++ interferences P) in
      let d = length-append (steps P) (interferences P) in
      let a = starts_length in
      let b = steps_length in
      let c = interferences_length in
      omega arith
