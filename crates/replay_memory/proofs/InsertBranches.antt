-- Writes moved up and one inserted: the ways through the functions, one law for each.
use Prim.Native.Nat.{ℕ, ◌+◌, ◌%◌, ◌<◌}
use mathlib.Core.Path.{◌≡◌, ap, ◌∙◌}
use mathlib.Core.List.{List}
use native.Mathlib.Omega.{arith}
use lib.ListN.{length, get_or, set}
use Rattle.limits.proofs.BranchTests.{tests}
use Rattle.semantics.specs.Machine.{down}
use Rattle.semantics.proofs.Base.{down_is}
use Rattle.tables_columns.specs.Column.{column}
use Rattle.tables_columns.proofs.ColumnLists.{column_get_d, column_same}
use Rattle.replay_memory.specs.View.{next, up_view}
use Rattle.replay_memory.specs.Write.{no_view, no_write, up_write}
use Rattle.replay_memory.specs.WriteTable.{raised_all, moved_up}
use Rattle.replay_memory.specs.Memory.{index_of, size_at, memory_of}
use Rattle.replay_memory.specs.Insert.{moved_to, views_to, grown, inserted}
use Rattle.replay_memory.specs.declared.view.View.{View}
use Rattle.replay_memory.specs.declared.write.Write.{Write}
use Rattle.replay_memory.specs.declared.memory.Memory.{Memory}
use Rattle.replay_memory.specs.declared.memory.MemoryShape.{MemoryShape}
use Rattle.replay_memory.proofs.ViewBranches.{walked, walk_begin, walk_read, walk_more, walk_end}

module _ (l : List View) (k p : ℕ) where
  abbrev sees : ℕ → View
  sees j = up_view k p (get_or l j no_view)

  -- the views, of which the first j are moved
  abbrev pub grow_to : ℕ → List View
  grow_to j = walked sees l j

  pub grow_begin : l ≡ grow_to 0
  grow_begin = walk_begin sees l

  pub grow_more : (a : List View) (j : ℕ) (v : View) → j < 4 → length l ≡ 4 → a ≡ grow_to j → v ≡ up_view k p (get_or a j no_view)
      → set a j v ≡ grow_to (j + 1)
  grow_more a j v h n e d = rw e (walk_more sees l j v (omega arith) (d ∙ ap (up_view k p) (ap (λ (b : List View). get_or b j no_view) e ∙ walk_read sees l j no_view)))

  grow_whole : length l ≡ 4 → grow_to 4 ≡ views_to l k p 4
  unfolding views_to
  grow_whole n = walk_end sees l 4 n

pub grow_end : (g : MemoryShape) (k p s : ℕ) (a : List View) → length g.views ≡ 4 → a ≡ grow_to g.views k p 4 → s ≡ next (get_or g.sizes (k % 8) 0)
    → record { sizes = set g.sizes (k % 8) s; views = a } ≡ grown g k p
unfolding grown
grow_end g k p s a n e d = rw (d, e, grow_whole g.views k p n)

pub ruleset grow_branches = (grow_begin, grow_more, grow_end)

-- moved up after every stored view was raised
moved_raised : (m : Memory) (k p q : ℕ) → q ≡ index_of m.sizes k p → q < 72 → moved_up (raised_all m.writes k p) q ≡ moved_to m k p 72
unfolding moved_up raised_all moved_to
moved_raised m k p q e h =
    column_same (λ j. get_or (column raise 72) (down q j) no_write) (λ j. raise (down (index_of m.sizes k p) j)) 72
    (λ j g. column_get_d raise no_write 72 (down q j) (omega (arith, down_is q j)) ∙ ap (λ (i : ℕ). raise (down i j)) e)
  where
    raise : ℕ → Write
    raise i = up_write k p (get_or m.writes i no_write)

-- from the writes l on: views raised, writes moved up, the new one put
module _ (g r : MemoryShape) (l : List Write) (k p : ℕ) (w : Write) where
  pub insert_made : (c d f : List Write) (q n at : ℕ) → c ≡ raised_all l k p → q ≡ index_of g.sizes k p → q < 72 → d ≡ moved_up c q
      → n ≡ next p → at ≡ index_of g.sizes k n → f ≡ set d at w → r ≡ grown g k p → memory_of r f ≡ inserted (memory_of g l) k p w
  unfolding inserted memory_of grown size_at
  insert_made c d f q n at ec eq few ed en ea ef er =
      rw (er, ef, ed, ec, moved_raised (memory_of g l) k p q eq few, ea, en)

pub ruleset insertions = (grow_branches, insert_made, tests)
