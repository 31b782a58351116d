-- Whether a step may be taken, from the write w that it picks. g: sizes and views; threads and words count from 0.
use Rattle.std.specs.Prelude.{Bool, false, not, cond, ℕ, eqb, ltb}
use Rattle.logic.specs.Opcode as Opcode
use Rattle.replay_memory.specs.Memory.{first}
use Rattle.replay_memory.specs.declared.write.Write.{Write}
use Rattle.replay_memory.specs.declared.memory.MemoryShape.{MemoryShape}
use Rattle.replay_machine.specs.Shared.{reachable_by}
use Rattle.replay_machine.specs.Refusal.{adding}
use Rattle.replay_machine.specs.declared.effect.Effect.{Effect}

-- position p is reachable and w is not covered
unfoldable pub uncovered_by : MemoryShape → Write → ℕ → ℕ → ℕ → Bool
uncovered_by g w t k p = cond (reachable_by g t k p) (not w.covered) false

-- a load reads any reachable write, "covered or not"; a store or swap "picks an uncovered write"; assignment and branch have position 0
unfoldable pub may_pick_by : MemoryShape → Write → Effect → ℕ → ℕ → Bool
may_pick_by g w d t p =
    cond (eqb d.operation Opcode.assign) (eqb p 0)
    (cond (eqb d.operation Opcode.branch) (eqb p 0)
    (cond (eqb d.operation Opcode.assign_two) (eqb p 0)
    (cond (eqb d.operation Opcode.load) (reachable_by g t d.word p)
    (cond (eqb d.operation Opcode.acquire) (reachable_by g t d.word p) (uncovered_by g w t d.word p)))))

-- why thread t may not take a step with effect d at position p: 28, 29, or 0 if it may
unfoldable pub refusal_by : MemoryShape → Write → ℕ → ℕ → Effect → ℕ → ℕ → ℕ
refusal_by g w words room d t p =
    cond (may_pick_by g w d t p) (cond (adding d.operation) (cond (ltb (first g.sizes words) room) 0 29) 0) 28
