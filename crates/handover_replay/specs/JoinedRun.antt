-- Runs across a handover, on numbers: the state at the handover, and the run over the second trace under the new code.
use Rattle.std.specs.Prelude.{ℕ, suc, ◌+◌, cond, List, [], ◌∷◌, eqb, ltb, get_or}
use Rattle.image_frames.specs.Records.{bodies}
use Rattle.image_header.specs.declared.sizes.Sizes.{Sizes}
use Rattle.image_meaning.specs.Program.{program_of}
use Rattle.handover_spec.specs.Table.{new_point}
use Rattle.replay_machine.specs.Run.{ran}
use Rattle.replay_machine.specs.declared.state.Machine.{Machine}
use Rattle.replay_machine.specs.Run.{Run}

-- 2 ^ 62: more steps than any trace has
abbrev pub most_steps : ℕ
most_steps = 4611686018427387904

-- the new point of thread t, counted from 0, for the old point k; a thread that does not exist has point 0
unfoldable pub mapped_point : List ℕ → Sizes → List ℕ → ℕ → ℕ → ℕ
mapped_point old z points t k = cond (ltb t z.threads) (new_point (program_of z (bodies old)) points (suc t) k) 0

-- "the same memory, views, registers and mapped points"
unfoldable pub handed_over : List ℕ → Sizes → List ℕ → Machine → Machine
handed_over old z points n = record {
  memory = n.memory;
  registers = n.registers;
  points =
      mapped_point old z points 0 (get_or n.points 0 0)
      ∷ mapped_point old z points 1 (get_or n.points 1 0)
      ∷ mapped_point old z points 2 (get_or n.points 2 0)
      ∷ mapped_point old z points 3 (get_or n.points 3 0)
      ∷ [];
}

-- the run r and then q: "Its steps are those of both traces"
abbrev pub behind : Run → Run → Run
behind r q = record { code = q.code; steps = r.steps + q.steps; machine = q.machine }

module _ (old : List ℕ) (z : Sizes) (new : List ℕ) (y : Sizes) (points : List ℕ) where
  -- the run r under the old code and what follows it: "a step refused in the first ends the run under the old code"
  unfoldable pub went_on : ℕ → Run → List ℕ → Run
  went_on room r second = cond (eqb r.code 0) (behind r (ran new y room (handed_over old z points r.machine) 0 second)) r
