-- Which state of the logic the numbers of a machine represent.
use Rattle.std.specs.Prelude.{◌≡◌, ℕ, suc, ◌<◌, length, get_or}
use Rattle.semantics.specs.Machine.{State}
use Rattle.replay_memory.specs.MemoryStands.{Stands}
use Rattle.replay_machine.specs.RegistersStand.{SameRegs}
use Rattle.replay_machine.specs.declared.state.Machine.{Machine}

-- memory, registers and points of n represent those of s; threads count from 0 in n, from 1 in s
pub record StandsFor (n : Machine) (s : State) : Type 0 where
  pub memory : Stands n.memory s
  pub registers : SameRegs n.registers s.reg
  pub four : length n.points ≡ 4
  pub points : (t : ℕ) → t < 4 → get_or n.points t 0 ≡ s.point (suc t)
