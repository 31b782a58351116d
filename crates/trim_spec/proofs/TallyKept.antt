-- The trimmed image has the same instructions at the same points but for formulas' numbers, so as many points and obligations.
use mathlib.Core.Path.{◌≡◌, refl, ap, ap₂, sym}
use mathlib.Core.Bool.{Bool, true, false, cond}
use mathlib.Core.List.{List, [], ◌∷◌, map}
use Prim.Native.Nat.{ℕ, zero, suc, ◌+◌, ◌≤◌}
use native.Mathlib.Omega.{arith}
use lib.Dec.{eqb, ltb}
use lib.ListN.{length, get_or}
use borrow.Author.Tests.{eqb-false, ltb-false}
use Rattle.image_header.specs.declared.instruction.Instruction.{Instruction}
use Rattle.image_header.specs.Thread.{instructions, nothing}
use Rattle.image_bodies.specs.RecordPlaces.{thread_body, instruction_of}
use Rattle.image_bodies.specs.PointCounts.{is_branch, branches, thread_counts, plus, point_counts_to, point_counts, obligation_count}
use Rattle.image.specs.Decode.{sizes_of}
use Rattle.trim_spec.specs.Document.{Document}
use Rattle.trim_spec.specs.Encode.{bodies_of}
use Rattle.trim_spec.specs.Parse.{sizes}
use Rattle.trim_spec.specs.Live.{renumbered}
use Rattle.trim_spec.specs.Trim.{instruction_by, trimmed_by}
use Rattle.trim_spec.proofs.Renumbered.{map_at, no_instruction}
use Rattle.trim_spec.proofs.TrimPremises.{Trimming}
use Rattle.trim_spec.proofs.ThreadKept.{last_kept, instructions_kept}

branches_kept : (f g : ℕ → ℕ) (l : List Instruction) → branches (map (instruction_by f g) l) ≡ branches l
unfolding branches is_branch instruction_by
branches_kept f g [] = refl
branches_kept f g (i ∷ l) = ap (λ (n : ℕ). is_branch i + n) (branches_kept f g l)

module _ {u k : List Bool} {D : Document} (T : Trimming u k D) where
  abbrev E : Document
  E = trimmed_by u k D

  abbrev by : Instruction → Instruction
  by = instruction_by (renumbered u) (renumbered k)

  -- also where there is none
  pub instruction_kept : (t p : ℕ) → instruction_of (sizes E) (bodies_of E) t p ≡ by (instruction_of (sizes D) (bodies_of D) t p)
  unfolding instruction_of sizes sizes_of
  instruction_kept t p = go (eqb t 0) (ltb (sizes D).threads t) refl refl
    where
      none : nothing ≡ by nothing
      none = sym (no_instruction u k D)

      go : (a b : Bool) → eqb t 0 ≡ a → ltb (sizes D).threads t ≡ b
          → cond a nothing (cond b nothing (get_or (instructions (thread_body (sizes E) (bodies_of E) t)) p nothing))
          ≡ by (cond a nothing (cond b nothing (get_or (instructions (thread_body (sizes D) (bodies_of D) t)) p nothing)))
      go true b e d = none
      go false true e d = none
      go false false e d =
          let q = eqb-false t 0 e in
          let h = ltb-false (sizes D).threads t d in
          let s = T.threads in
          let is : List Instruction = instructions (thread_body (sizes D) (bodies_of D) t) in
          rw (instructions_kept T t (omega arith) (omega arith)) (map_at by is nothing nothing p (no_instruction u k D))

  pub operation_kept : (t p : ℕ) → (instruction_of (sizes E) (bodies_of E) t p).operation ≡ (instruction_of (sizes D) (bodies_of D) t p).operation
  unfolding instruction_by
  operation_kept t p = ap (λ (i : Instruction). i.operation) (instruction_kept t p)

  thread-counts : (t : ℕ) → 1 ≤ t → t ≤ length D.threads
      → thread_counts (thread_body (sizes E) (bodies_of E) t) ≡ thread_counts (thread_body (sizes D) (bodies_of D) t)
  unfolding thread_counts
  thread-counts t a b =
      let is : List Instruction = instructions (thread_body (sizes D) (bodies_of D) t) in
      rw (last_kept T t a b, instructions_kept T t a b, branches_kept (renumbered u) (renumbered k) is)

  pub tally_to_kept : (t : ℕ) → t ≤ length D.threads → point_counts_to (sizes E) (bodies_of E) t ≡ point_counts_to (sizes D) (bodies_of D) t
  unfolding point_counts_to
  tally_to_kept zero h = refl
  tally_to_kept (suc t) h = ap₂ plus (tally_to_kept t (omega arith)) (thread-counts (suc t) (omega arith) h)

  pub tally_kept : point_counts (sizes E) (bodies_of E) ≡ point_counts (sizes D) (bodies_of D)
  unfolding point_counts sizes sizes_of
  tally_kept = tally_to_kept (sizes D).threads (omega (arith, T.threads))

  pub obligation_count_kept : obligation_count (sizes E) (bodies_of E) ≡ obligation_count (sizes D) (bodies_of D)
  unfolding obligation_count sizes sizes_of
  obligation_count_kept = rw tally_kept
