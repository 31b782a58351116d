-- The ways through the functions, one law for each that is not a chain of tests.
use Prim.Native.Nat.{ℕ, ◌-◌, ◌%◌, ◌≤◌, ◌<◌}
use mathlib.Core.Path.{◌≡◌, refl}
use mathlib.Core.Bool.{Bool, true, false, not}
use mathlib.Core.List.{List}
use lib.Dec.{leb, ltb}
use lib.ListN.{get_or}
use borrow.Author.Tests.{lt-ltb, le-ltb}
use Rattle.logic.specs.Opcode as Opcode
use Rattle.tables_columns.specs.Combine.{sum_of}
use Rattle.replay_memory.specs.View.{position_in}
use Rattle.replay_memory.specs.Memory.{write_at, memory_of, seen_by}
use Rattle.replay_memory.specs.declared.view.View.{View}
use Rattle.replay_memory.specs.declared.write.Write.{Write}
use Rattle.replay_memory.specs.declared.memory.MemoryShape.{MemoryShape}
use Rattle.image_header.specs.declared.instruction.Instruction.{Instruction}
use Rattle.image_access.specs.AccessPlaces.{register_first}
use Rattle.replay_machine.specs.Effect.{effect_of}
use Rattle.replay_machine.specs.Shared.{reachable_by, reachable, uncovered, may_pick, fetch_added}
use Rattle.replay_machine.specs.Locals.{with_register, with_both}
use Rattle.replay_machine.specs.declared.locals.Registers.{Registers}
use Rattle.replay_memory.specs.Access.{swapped}
use Rattle.replay_machine.specs.declared.effect.Effect.{Effect}

module _ (i : Instruction) (v g w : ℕ) (b : Bool) (e : b ≡ register_first i.operation) where
  pub effect_register : b ≡ true → w ≡ i.b - 1
      → record { operation = i.operation; word = w; register = i.a; value = v; noted = i.second.a; note = g; target = i.a } ≡ effect_of
      i v g
  unfolding effect_of
  effect_register d q = rw (← e, d, q)

  pub effect_word : b ≡ false → w ≡ i.a - 1
      → record { operation = i.operation; word = w; register = i.b; value = v; noted = i.second.a; note = g; target = i.a } ≡ effect_of
      i v g
  unfolding effect_of
  effect_word d q = rw (← e, d, q)

module _ (g : MemoryShape) (t k p : ℕ) where
  pub reach_there : (n q : ℕ) (v : View) → n ≡ get_or g.sizes (k % 8) 0 → v ≡ seen_by g t → q ≡ position_in v k → p < n
      → leb q p ≡ reachable_by g t k p
  unfolding reachable_by
  reach_there n q v e d f h = rw (← e, lt-ltb _ _ h, ← d, ← f)

  pub reach_past : (n : ℕ) → n ≡ get_or g.sizes (k % 8) 0 → n ≤ p → ltb p n ≡ reachable_by g t k p
  unfolding reachable_by
  reach_past n e h = let q : ltb p n ≡ false = le-ltb _ _ h in rw (← e, q)

pub add_made : (g r : MemoryShape) (l n : List Write) (R t p c : ℕ) (d : Effect) (w : Write) → w ≡ write_at (memory_of g l) d.word p
    → c ≡ sum_of R w.value d.value → memory_of r n ≡ swapped (memory_of g l) d.word c t p
    → memory_of r n ≡ fetch_added (memory_of g l) R d t p
unfolding fetch_added
add_made g r l n R t p c d w e q h = rw (← e, ← q) h

pub both_made : (g h r : Registers) (d : Effect) → h ≡ with_register g d.noted d.note → r ≡ with_register h d.register d.value
    → r ≡ with_both g d
unfolding with_both
both_made g h r d e q = rw (← e) q

pub ruleset is_reachable_branches = (reach_there, reach_past)

pub ruleset effect_of_branches = (effect_register, effect_word)
