-- Which registers of the logic the code's registers represent; which instructions add a write.
use Rattle.std.specs.Prelude.{◌≡◌, ℕ, Bool, true, false, length}
use Rattle.semantics.specs.Machine.{Access.none, Access.load, Access.write, Instr, Instr.act, Instr.branch}
use Rattle.limits.specs.Numbers.{nth}
use Rattle.replay_machine.specs.declared.locals.Registers.{Registers}

-- h represents the registers g of the logic; those that are not there hold 0
pub record SameRegs (h : Registers) (g : ℕ → ℕ) : Type 0 where
  pub sixteen : length h.at ≡ 16
  pub same : (r : ℕ) → nth h.at r 0 ≡ g r

-- the instruction adds a write
abbrev pub adds : Instr → Bool
adds (act none ns) = false
adds (act (load a r x) ns) = false
adds (act (write w x f) ns) = true
adds (branch e a) = false
