-- A replay on the logic's machine: each step of the trace, until one is refused.
use Rattle.std.specs.Prelude.{ℕ, zero, suc, ◌+◌, true, false, cond, ◌&&◌, List, [], ◌∷◌, eqb, ltb, leb}
use Rattle.semantics.specs.Base.{within}
use Rattle.semantics.specs.Machine.{State, Program, Step, allowed, exec, instr_at}
use Rattle.replay_machine.specs.RegistersStand.{adds}

-- how many writes the first n words have
unfoldable pub used : State → ℕ → ℕ
used s zero = 0
used s (suc n) = used s n + s.size (suc n)

-- why the step of thread t at position p is refused where there may be `room` writes: the lowest of 27, 28, 29; 0 if it is taken
unfoldable pub refusal : Program → ℕ → State → ℕ → ℕ → ℕ
refusal P room s t p =
    cond (within P.threads t && ltb (suc (s.point t)) (P.points t))
    (cond (allowed (instr_at P s t) t p s) (cond (adds (instr_at P s t) && leb room (used s P.words)) 29 0) 28)
    27

-- why the replay ended, the steps taken, the state reached
pub record ReplayResult : Type 0 where
  pub code : ℕ
  pub steps : ℕ
  pub state : State

-- the replay of a trace, bytes in pairs of thread and position, from the state s on, after k steps; "half a step" is 27
unfoldable pub replayed : Program → ℕ → State → ℕ → List ℕ → ReplayResult
replayed P room s k [] = record { code = 0; steps = k; state = s }
replayed P room s k (t ∷ []) = record { code = 27; steps = k; state = s }
replayed P room s k (t ∷ p ∷ l) =
    elim (eqb (refusal P room s t p) 0) [
      | true ↦ replayed P room (exec P (instr_at P s t) t p s) (k + 1) l
      | false ↦ record { code = refusal P room s t p; steps = k; state = s }
    ]

-- the whole steps of a trace
abbrev pub steps_in : List ℕ → List Step
steps_in [] = []
steps_in (t ∷ []) = []
steps_in (t ∷ p ∷ l) = record { thread = t; position = p } ∷ steps_in l
