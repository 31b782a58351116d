-- Instructions with their formulas worked out.
use Rattle.std.specs.Prelude.{cond, ℕ, ◌-◌}
use Rattle.image_header.specs.declared.instruction.Instruction.{Instruction}
use Rattle.image_access.specs.AccessPlaces.{register_first}
use Rattle.replay_machine.specs.declared.effect.Effect.{Effect}

-- the effect of an instruction; v and g are the values of its formula and of its second half's. Words count from 0 here
unfoldable pub effect_of : Instruction → ℕ → ℕ → Effect
effect_of i v g =
    cond (register_first i.operation)
    (record { operation = i.operation; word = i.b - 1; register = i.a; value = v; noted = i.second.a; note = g; target = i.a })
    (record { operation = i.operation; word = i.a - 1; register = i.b; value = v; noted = i.second.a; note = g; target = i.a })
