-- The run over a trace on numbers is the logic's, and the state that it comes to is one of the machine's runs.
use Prim.Native.Nat.{ℕ, zero, suc, ◌+◌, ◌≤◌, ◌<◌}
use mathlib.Core.Path.{◌≡◌, refl, ap, sym, ◌∙◌}
use mathlib.Core.Bool.{Bool, true, false, cond, ◌&&◌}
use mathlib.Core.List.{List, [], ◌∷◌}
use native.Mathlib.Omega.{arith}
use lib.Dec.{eqb, ltb, leb}
use lib.ListN.{take}
use borrow.Author.Tests.{lt-ltb, lt-leb, le-leb, ltb-true, ltb-false, eqb-true, ne_eqb}
use Rattle.semantics.specs.Base.{within}
use Rattle.semantics.specs.Machine.{State, Program, allowed, exec, instr_at, step, run}
use Rattle.image_frames.specs.Records.{bodies}
use Rattle.image_header.specs.declared.sizes.Sizes.{Sizes}
use Rattle.image_meaning.specs.Program.{program_of}
use Rattle.image_meaning.proofs.RecordsChecked.{Checks}
use Rattle.replay_machine.specs.RegistersStand.{adds}
use Rattle.replay_machine.specs.Step.{Stepped, refused, stepped}
use Rattle.replay_machine.specs.Run.{ran}
use Rattle.replay_spec.specs.MachineReplay.{used, refusal, ReplayResult, replayed, steps_in}
use Rattle.replay_machine.specs.declared.state.Machine.{Machine}
use Rattle.replay_machine.specs.Run.{Run}
use Rattle.replay_spec.proofs.StepFollows.{Ready, step_is}

-- a step that is not refused is permitted
taken_step : (P : Program) (room : ℕ) (s : State) (t p : ℕ) → refusal P room s t p ≡ 0
    → step P s (record { thread = t; position = p }) ≡ exec P (instr_at P s t) t p s
unfolding refusal
taken_step P room s t p e = go (within P.threads t && ltb (suc (s.point t)) (P.points t)) (allowed (instr_at P s t) t p s) e
  where
    g : Bool
    g = adds (instr_at P s t) && leb room (used s P.words)

    go : (a d : Bool) → ◌≡◌ {A = ℕ} (cond a (cond d (cond g 29 0) 28) 27) 0
        → cond (a && d) (exec P (instr_at P s t) t p s) s ≡ exec P (instr_at P s t) t p s
    go true true x = refl
    go true false x = absurd (omega arith)
    go false d x = absurd (omega arith)

-- the state is what the first steps of the trace come to
pub record Reached (P : Program) (s : State) (k : ℕ) (l : List ℕ) (o : ReplayResult) : Type 0 where
  pub taken : ℕ
  pub counted : o.steps ≡ k + taken
  pub state : o.state ≡ run P s (take taken (steps_in l))

pub reached : (P : Program) (room : ℕ) (s : State) (k : ℕ) (l : List ℕ) → Reached P s k l (replayed P room s k l)
unfolding replayed
reached P room s k [] = record { taken = 0; counted = omega arith; state = refl }
reached P room s k (t ∷ []) = record { taken = 0; counted = omega arith; state = refl }
reached P room s k (t ∷ p ∷ l) = go (eqb (refusal P room s t p) 0) refl (reached P room (exec P (instr_at P s t) t p s) (k + 1) l)
  where
    go : (b : Bool) → eqb (refusal P room s t p) 0 ≡ b
        → Reached P (exec P (instr_at P s t) t p s) (k + 1) l (replayed P room (exec P (instr_at P s t) t p s) (k + 1) l)
        → Reached P s k (t ∷ p ∷ l)
        (elim b as (λ x. ReplayResult) [
          | true ↦ replayed P room (exec P (instr_at P s t) t p s) (k + 1) l
          | false ↦ record { code = refusal P room s t p; steps = k; state = s }
        ])
    go true e f = record {
      taken = suc f.taken;
      counted = omega (arith, f.counted);
      state = f.state ∙ ap (λ (q : State). run P q (take f.taken (steps_in l)))
          (sym (taken_step P room s t p (eqb-true (refusal P room s t p) 0 e)));
    }
    go false e f = record { taken = 0; counted = omega arith; state = refl }

module _ (b : List ℕ) (z : Sizes) (c : Checks z (bodies b)) (room : ℕ) (few : room ≤ 64) where
  abbrev P : Program
  P = program_of z (bodies b)

  stepped_absent : (n : Machine) (u p : ℕ) → z.threads < suc u → stepped b z room n (suc u) p ≡ refused 27 n
  unfolding stepped
  stepped_absent n u p h = let q : suc u ≡ 0 → ⊥ = omega arith in rw (ne_eqb (suc u) 0 q, lt-ltb z.threads (suc u) h)

  refusal_absent : (s : State) (u p : ℕ) → z.threads < suc u → refusal P room s (suc u) p ≡ 27
  unfolding refusal
  refusal_absent s u p h = let q : 1 ≤ suc u = omega arith in rw (le-leb 1 (suc u) q, lt-leb (suc u) z.threads h)

  -- a step of any thread, there or not
  pub any_step : (s : State) (n : Machine) → Ready b z c s n → (t p : ℕ)
      → ((stepped b z room n t p).code ≡ refusal P room s t p) ×
      (refusal P room s t p ≡ 0 → Ready b z c (exec P (instr_at P s t) t p s) (stepped b z room n t p).machine)
  unfolding stepped refusal
  any_step s n r zero p = (refl, λ x. absurd (omega arith))
  any_step s n r (suc u) p = go (ltb z.threads (suc u)) refl
    where
      go : (d : Bool) → ltb z.threads (suc u) ≡ d
          → ((stepped b z room n (suc u) p).code ≡ refusal P room s (suc u) p) ×
          (refusal P room s (suc u) p ≡ 0 → Ready b z c (exec P (instr_at P s (suc u)) (suc u) p s) (stepped b z room n (suc u) p).machine)
      go true e =
          let h = ltb-true z.threads (suc u) e in (
            ap (λ (q : Stepped). q.code) (stepped_absent n u p h) ∙ sym (refusal_absent s u p h),
            λ x. absurd (omega (arith, refusal_absent s u p h)),
          )
      go false e = step_is b z c room s n r u p (omega arith, ltb-false z.threads (suc u) e) few

  pub record Matches (r : Run) (o : ReplayResult) : Type 0 where
    pub code : r.code ≡ o.code
    pub steps : r.steps ≡ o.steps
    pub ready : Ready b z c o.state r.machine

  pub follows : (s : State) (n : Machine) → Ready b z c s n → (k : ℕ) (l : List ℕ) → Matches (ran b z room n k l) (replayed P room s k l)
  unfolding ran replayed
  follows s n r k [] = record { code = refl; steps = refl; ready = r }
  follows s n r k (t ∷ []) = record { code = refl; steps = refl; ready = r }
  follows s n r k (t ∷ p ∷ l) =
      go (eqb (refusal P room s t p) 0) refl (λ q. follows (exec P (instr_at P s t) t p s) (stepped b z room n t p).machine q (k + 1) l)
    where
      f : ((stepped b z room n t p).code ≡ refusal P room s t p) ×
          (refusal P room s t p ≡ 0 → Ready b z c (exec P (instr_at P s t) t p s) (stepped b z room n t p).machine)
      f = any_step s n r t p

      go : (d : Bool) → eqb (refusal P room s t p) 0 ≡ d
          → (Ready b z c (exec P (instr_at P s t) t p s) (stepped b z room n t p).machine
          → Matches (ran b z room (stepped b z room n t p).machine (k + 1) l) (replayed P room (exec P (instr_at P s t) t p s) (k + 1) l))
          → Matches
          (elim (eqb (stepped b z room n t p).code 0) as (λ x. Run) [
            | true ↦ ran b z room (stepped b z room n t p).machine (k + 1) l
            | false ↦ record { code = (stepped b z room n t p).code; steps = k; machine = n }
          ])
          (elim d as (λ x. ReplayResult) [
            | true ↦ replayed P room (exec P (instr_at P s t) t p s) (k + 1) l
            | false ↦ record { code = refusal P room s t p; steps = k; state = s }
          ])
      go true e rest = rw (f.0, e) (rest (f.1 (eqb-true (refusal P room s t p) 0 e)))
      go false e rest = rw (f.0, e) (record { code = f.0; steps = refl; ready = r })
