-- The start: the ways through the functions, one law for each.
use Prim.Native.Nat.{ℕ, ◌+◌, ◌%◌, ◌≤◌, ◌<◌}
use mathlib.Core.Path.{◌≡◌, ap, sym, ◌∙◌}
use mathlib.Core.Bool.{Bool, true, false}
use mathlib.Core.List.{List, []}
use lib.ListN.{length, get_or, set, take, replicate}
use borrow.Author.Tests.{ne_eqb, le-ltb}
use Rattle.limits.proofs.BranchTests.{tests}
use Rattle.limits.specs.Numbers.{nth}
use Rattle.image_header.specs.Header.{start_values, cleared}
use Rattle.tables_columns.proofs.ColumnLists.{column_none}
use Rattle.replay_memory.specs.View.{start_view}
use Rattle.replay_memory.specs.Write.{start_write}
use Rattle.replay_memory.specs.declared.view.View.{View}
use Rattle.replay_memory.specs.declared.write.Write.{Write}
use Rattle.replay_memory.specs.declared.memory.Memory.{Memory}
use Rattle.replay_memory.proofs.ViewBranches.{column_set, column_whole, repeated}
use Rattle.replay_machine.specs.declared.locals.Registers.{Registers}
use Rattle.replay_machine.specs.Start.{start_writes, start_memory, start_register, start_values_to, start_registers, started}

module _ (b : List ℕ) where
  abbrev begins : ℕ → Write
  begins j = start_write (nth (start_values b) (j + 1) 0)

  pub writes_begin : [] ≡ start_writes b 0
  unfolding start_writes
  writes_begin = sym (column_none begins)

  pub writes_more : (a : List Write) (j v : ℕ) (w : Write) → v ≡ nth (start_values b) (j + 1) 0 → w ≡ start_write v → j < 72 → length a ≡ 72
      → take j a ≡ start_writes b j
      → take (j + 1) (set a j w) ≡ start_writes b (j + 1)
  unfolding start_writes
  writes_more a j v w e d h l t = column_set begins a j 72 w h l t (d ∙ ap start_write e)

  pub writes_end : (a : List Write) (j : ℕ) (v : View) → v ≡ start_view → take j a ≡ start_writes b j → length a ≡ 72 → j ≤ 72 → 72 ≤ j
      → record { sizes = replicate 8 1; writes = a; views = replicate 4 v } ≡ start_memory b
  unfolding start_memory start_writes
  writes_end a j v e t l h g = rw (e, ← column_whole begins a j 72 h g l t)

  module _ (R : ℕ) (given : List ℕ) where
    pub register_given : (i v : ℕ) (c : Bool) → (R ≡ 0 → ⊥) → i ≤ 255 → c ≡ cleared b (i + 1) → c ≡ false → v ≡ get_or given i 0
        → v % R ≡ start_register b R given i
    unfolding start_register
    register_given i v c z h e d q = rw (ne_eqb _ _ z, le-ltb _ _ h, ← e, d, q)

    pub register_cleared : (i : ℕ) (c : Bool) → (R ≡ 0 → ⊥) → i ≤ 255 → c ≡ cleared b (i + 1) → c ≡ true → 0 ≡ start_register b R given i
    unfolding start_register
    register_cleared i c z h e d = rw (ne_eqb _ _ z, le-ltb _ _ h, ← e, d)

    pub values_begin : (a : List ℕ) → take 0 a ≡ start_values_to b R given 0
    unfolding start_values_to
    values_begin a = sym (column_none (start_register b R given))

    pub values_more : (a : List ℕ) (i v : ℕ) → v ≡ start_register b R given i → i < 16 → length a ≡ 16 → take i a ≡ start_values_to b R given i
        → take (i + 1) (set a i v) ≡ start_values_to b R given (i + 1)
    unfolding start_values_to
    values_more a i v e h l t = column_set (start_register b R given) a i 16 v h l t e

    pub values_end : (a : List ℕ) (i : ℕ) → take i a ≡ start_values_to b R given i → length a ≡ 16 → i ≤ 16 → 16 ≤ i
        → record { at = a } ≡ start_registers b R given
    unfolding start_registers start_values_to
    values_end a i t l h g = rw (← column_whole (start_register b R given) a i 16 h g l t)

    pub machine_made : (m : Memory) (h : Registers) → m ≡ start_memory b → h ≡ start_registers b R given
        → record { memory = m; registers = h; points = replicate 4 0 } ≡ started b R given
    unfolding started
    machine_made m h e d = rw (e, d)

pub ruleset start_memory_branches = (writes_begin, writes_more, writes_end, repeated)

pub ruleset start_register_branches = (register_given, register_cleared)

pub ruleset start_registers_branches = (values_begin, values_more, values_end, repeated)

pub ruleset register_ways = (register_given, register_cleared, tests)
