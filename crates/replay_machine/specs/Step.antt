-- One step of a trace on numbers: refused, or taken.
use Rattle.std.specs.Prelude.{ℕ, ◌-◌, cond, List, eqb, ltb, Result, Ok, Err}
use Rattle.limits.specs.Limits.{nesting}
use Rattle.image_frames.specs.Records.{bodies}
use Rattle.formula.specs.Tree.{parse_tree}
use Rattle.image_header.specs.declared.sizes.Sizes.{Sizes}
use Rattle.image_header.specs.declared.instruction.Instruction.{Instruction}
use Rattle.image_header.specs.Thread.{last_point}
use Rattle.image_bodies.specs.RecordPlaces.{thread_body, instruction_of}
use Rattle.image_access.specs.AccessPlaces.{formula_at}
use Rattle.replay_memory.specs.declared.write.Write.{Write}
use Rattle.replay_machine.specs.Evaluate.{worked_t}
use Rattle.replay_machine.specs.Effect.{effect_of}
use Rattle.replay_machine.specs.declared.effect.Effect.{Effect}
use Rattle.replay_machine.specs.declared.locals.Registers.{Registers}
use Rattle.replay_machine.specs.State.{point_of, performed, machine_of}
use Rattle.replay_machine.specs.Refusal.{number, pick_refusal}
use Rattle.replay_machine.specs.declared.state.Machine.{Machine}
use Rattle.replay_machine.specs.declared.state.Threads.{Threads}
use Rattle.replay_machine.specs.declared.pick.Refusal.{Refusal}

-- the state after a step, and the code: 0 if it was taken, else why it was refused
pub record Stepped : Type 0 where
  pub code : ℕ
  pub machine : Machine

-- what the code has of a step from n on: the state reached, or why it was refused; the writes are l
unfoldable pub taken_of : Result Threads Refusal → Threads → List Write → Stepped
taken_of (Ok h) n l = record { code = 0; machine = machine_of h l }
taken_of (Err e) n l = record { code = number e; machine = machine_of n l }

-- a refused step: the state stays
abbrev pub refused : ℕ → Machine → Stepped
refused code n = record { code = code; machine = n }

-- a step of thread t, counted from 0, with effect d at position p
unfoldable pub attempted : Sizes → ℕ → Machine → Effect → ℕ → ℕ → Stepped
attempted z room n d t p =
    cond (eqb (pick_refusal n.memory z.words room d t p) 0) (record { code = 0; machine = performed n z.range d t p })
    (refused (pick_refusal n.memory z.words room d t p) n)

module _ (s : List ℕ) (z : Sizes) where
  -- the value of formula k at the registers
  abbrev pub value_at : Registers → ℕ → ℕ
  value_at h k = worked_t z.range h.at (parse_tree s nesting (formula_at s k)).tree

  -- the effect of an instruction, its formulas worked out at the registers
  abbrev pub worked_out : Registers → Instruction → Effect
  worked_out h i = effect_of i (value_at h i.formula) (value_at h i.second.formula)

  -- the effect of the instruction at point k of thread t
  unfoldable pub effect_at : Registers → ℕ → ℕ → Effect
  effect_at h t k = worked_out h (instruction_of z (bodies s) t k)

  -- the last point of thread t
  unfoldable pub last_of : ℕ → ℕ
  last_of t = last_point (thread_body z (bodies s) t)

  -- a step of thread t, counted from 1, at position p
  unfoldable pub stepped : ℕ → Machine → ℕ → ℕ → Stepped
  stepped room n t p =
      cond (eqb t 0) (refused 27 n)
      (cond (ltb z.threads t) (refused 27 n)
      (cond (ltb (point_of n (t - 1)) (last_of t)) (attempted z room n (effect_at n.registers t (point_of n (t - 1))) (t - 1) p)
      (refused 27 n)))
