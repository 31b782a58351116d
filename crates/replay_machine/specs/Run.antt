-- The steps of a trace, two bytes each, until one is refused; "half a step" is 27.
use Rattle.std.specs.Prelude.{ℕ, ◌+◌, true, false, List, [], ◌∷◌, eqb}
use Rattle.image_header.specs.declared.sizes.Sizes.{Sizes}
use Rattle.replay_memory.specs.declared.write.Write.{Write}
use Rattle.replay_machine.specs.Refusal.{code_of}
use Rattle.replay_machine.specs.State.{machine_of}
use Rattle.replay_machine.specs.Step.{stepped}
use Rattle.replay_machine.specs.declared.state.Machine.{Machine}
use Rattle.replay_machine.specs.declared.run.Run as Code
use Rattle.replay_machine.specs.declared.run.Reached.{Reached}

-- why a run ended, 0 if the trace did; the steps taken; the state reached
pub record Run : Type 0 where
  pub code : ℕ
  pub steps : ℕ
  pub machine : Machine

-- the run of a trace from the state n on, after k steps
unfoldable pub ran : List ℕ → Sizes → ℕ → Machine → ℕ → List ℕ → Run
ran s z room n k [] = record { code = 0; steps = k; machine = n }
ran s z room n k (t ∷ []) = record { code = 27; steps = k; machine = n }
ran s z room n k (t ∷ p ∷ l) =
    elim (eqb (stepped s z room n t p).code 0) [
      | true ↦ ran s z room (stepped s z room n t p).machine (k + 1) l
      | false ↦ record { code = (stepped s z room n t p).code; steps = k; machine = n }
    ]

-- a run as the code has it
unfoldable pub told : Code.Run → Run
told r = record { code = code_of r.ended; steps = r.steps; machine = r.machine }

-- the run of the code apart from its writes, which are l
unfoldable pub run_of : Reached → List Write → Run
run_of r l = record { code = code_of r.ended; steps = r.steps; machine = machine_of r.threads l }
