-- The table: where each entry stands, and the ways through the functions, one law for each.
use Prim.Native.Nat.{ℕ, suc, ◌+◌, ◌≤◌, ◌<◌}
use mathlib.Core.Path.{◌≡◌, refl, ap, sym, ◌∙◌}
use mathlib.Core.Bool.{Bool, true, false, cond}
use mathlib.Core.List.{List, []}
use native.Mathlib.Omega.{arith}
use lib.Dec.{ltb}
use lib.ListN.{length, get_or, set, take, get_or-eq_default}
use borrow.Author.Tests.{ltb-true, ltb-false}
use Rattle.tables_columns.specs.Column.{column}
use Rattle.tables_columns.proofs.ColumnLists.{column_none, column_length, column_get_d}
use Rattle.replay_memory.specs.Write.{no_write, start_write}
use Rattle.replay_memory.specs.Memory.{write_at}
use Rattle.semantics.specs.Machine.{State}
use Rattle.replay_memory.specs.MemoryStands.{SameWrite, Stands}
use Rattle.replay_memory.specs.declared.write.Write.{Write}
use Rattle.replay_memory.specs.declared.memory.Memory.{Memory}
use Rattle.replay_memory.proofs.ViewBranches.{column_set, column_whole, repeated}
use Rattle.replay_memory.proofs.OrderPlaces.{row_ends, place}
use Rattle.replay_memory.proofs.StandsAfterInsert.{size_is}
use Rattle.replay_machine.specs.Refusal.{total}
use Rattle.replay_machine.specs.ShownTable.{entries, packed_to, packed}

pub entries_length : (m : Memory) (n : ℕ) → length (entries m n) ≡ total m n
unfolding entries
entries_length m n = column_length (λ e. get_or m.writes e no_write) (total m n)

module _ (m : Memory) (words : ℕ) where
  abbrev entry : ℕ → Write
  entry e = get_or (entries m words) e (start_write 0)

  pub pack_begin : [] ≡ packed_to m words 0
  unfolding packed_to
  pack_begin = sym (column_none entry)

  -- an entry behind the last write is a write of 0
  entry_is : (e : ℕ) → cond (ltb e (total m words)) (get_or m.writes e no_write) (start_write 0) ≡ entry e
  unfolding entries
  entry_is e = go (ltb e (total m words)) refl
    where
      written : ℕ → Write
      written i = get_or m.writes i no_write

      go : (b : Bool) → ltb e (total m words) ≡ b
          → cond b (get_or m.writes e no_write) (start_write 0) ≡ get_or (column written (total m words)) e (start_write 0)
      go true q = sym (column_get_d written (start_write 0) (total m words) e (ltb-true e (total m words) q))
      go false q =
          sym (get_or-eq_default (column written (total m words)) (start_write 0)
          (omega (arith, column_length written (total m words), ltb-false e (total m words) q)))

  pub pack_more : (a : List Write) (e n : ℕ) (w : Write) → n ≡ total m words
      → w ≡ cond (ltb e n) (get_or m.writes e no_write) (start_write 0)
      → e < 64 → length a ≡ 64 → take e a ≡ packed_to m words e → take (e + 1) (set a e w) ≡ packed_to m words (e + 1)
  unfolding packed_to
  pack_more a e n w f d h l t =
      column_set entry a e 64 w h l t (d ∙ ap (λ (j : ℕ). cond (ltb e j) (get_or m.writes e no_write) (start_write 0)) f ∙ entry_is e)

  pub pack_end : (a : List Write) (e : ℕ) → take e a ≡ packed_to m words e → length a ≡ 64 → e ≤ 64 → 64 ≤ e
      → record { writes = a } ≡ packed m words
  unfolding packed packed_to
  pack_end a e t l h g = rw (← column_whole entry a e 64 h g l t)

pub ruleset pack_branches = (pack_begin, pack_more, pack_end, repeated)

-- the table stands for the state's rows: position i of word k + 1 behind the rows before it
pub table_stands : (m : Memory) (s : State) → Stands m s → (n k i : ℕ) → k < n → k < 8 → i < s.size (suc k)
    → SameWrite (get_or (entries m n) (total m k + i) (start_write 0)) (s.row (suc k) i)
unfolding entries write_at
table_stands m s st n k i h x g =
    let y : i < get_or m.sizes k 0 = omega (arith, size_is m s st k x) in
    rw (
      column_get_d (λ e. get_or m.writes e no_write) (start_write 0) (total m n) (total m k + i) (omega (arith, row_ends m.sizes n k h)),
      ← place m.sizes st.few k i x y,
    ) (st.writes k i x g)
