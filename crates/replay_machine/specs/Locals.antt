-- Registers and points after a step.
use Rattle.std.specs.Prelude.{cond, ℕ, ◌-◌, eqb, ltb, set}
use Rattle.logic.specs.Opcode as Opcode
use Rattle.replay_memory.specs.View.{next}
use Rattle.replay_machine.specs.declared.effect.Effect.{Effect}
use Rattle.replay_machine.specs.declared.locals.Registers.{Registers}

-- the registers with v for register r; a number that no register has sets none
unfoldable pub with_register : Registers → ℕ → ℕ → Registers
with_register g r v = cond (eqb r 0) g (cond (ltb 16 r) g (record { at = set g.at (r - 1) v }))

-- the registers after two assignments in one step. (An image has no two to one register; here the first would count)
unfoldable pub with_both : Registers → Effect → Registers
with_both g d = with_register (with_register g d.noted d.note) d.register d.value

-- the registers after a step; old: the value of the write that is picked
unfoldable pub registers_after : Registers → ℕ → Effect → Registers
registers_after g old d =
    cond (eqb d.operation Opcode.assign) (with_register g d.register d.value)
    (cond (eqb d.operation Opcode.load) (with_register g d.register old)
    (cond (eqb d.operation Opcode.acquire) (with_register g d.register old)
    (cond (eqb d.operation Opcode.exchange) (with_register g d.register old)
    (cond (eqb d.operation Opcode.fetch_add) (with_register g d.register old)
    (cond (eqb d.operation Opcode.pair_store) (with_register g d.noted d.note)
    (cond (eqb d.operation Opcode.pair_release) (with_register g d.noted d.note)
    (cond (eqb d.operation Opcode.pair_swap) (with_register g d.noted d.note)
    (cond (eqb d.operation Opcode.assign_two) (with_both g d) g))))))))

-- "A branch goes to its target if its test is true", which is 1, "else to the next point"; so does any other instruction
unfoldable pub point_after : ℕ → Effect → ℕ
point_after k d = cond (eqb d.operation Opcode.branch) (cond (eqb d.value 1) d.target (next k)) (next k)
