-- Writes laid out as bytes, taken from there, and changed: the ways through the functions, one law for each.
use Prim.Native.Nat.{ℕ, ◌+◌, ◌≤◌, ◌<◌}
use mathlib.Core.Path.{◌≡◌, refl, ap, sym, ◌∙◌}
use mathlib.Core.List.{List, []}
use native.Mathlib.Omega.{arith}
use native.Mathlib.Numerals.{add-one}
use lib.ListN.{length, get_or, set, take}
use lib.Seq.{take-suc-set, take-suc, take-length}
use Rattle.limits.proofs.BranchTests.{tests}
use Rattle.tables_columns.specs.Column.{column}
use Rattle.tables_columns.proofs.ColumnLists.{column_none, column_length}
use Rattle.replay_memory.specs.Write.{no_write}
use Rattle.replay_memory.specs.Bytes.{read_at, writes_in}
use Rattle.replay_memory.specs.declared.write.Write.{Write}
use Rattle.replay_memory.proofs.ViewBranches.{column_set, column_whole}
use Rattle.replay_memory.proofs.TableBytes.{view_read, read_made, put_view_branches, put_whole}

writes_length : (b : List ℕ) → length (writes_in b) ≡ 72
unfolding writes_in
writes_length b = column_length (read_at b) 72

-- the first j places of b are those of l
module _ (l : List Write) (b : List ℕ) (j : ℕ) where
  pub lay_begin : take 0 (writes_in b) ≡ take 0 l
  lay_begin = refl

  pub lay_more : (c : List ℕ) → take j (writes_in b) ≡ take j l → writes_in c ≡ set (writes_in b) j (get_or l j no_write) → j < 72
      → length l ≡ 72 → take (j + 1) (writes_in c) ≡ take (j + 1) l
  lay_more c e d h n =
      rw (add-one j, d)
      (take-suc-set (writes_in b) j (get_or l j no_write) (omega (arith, writes_length b))
      ∙ rw e (sym (take-suc l j no_write (omega arith))))

  pub lay_end : take j (writes_in b) ≡ take j l → j ≤ 72 → 72 ≤ j → length l ≡ 72 → writes_in b ≡ l
  lay_end e h g n =
      let q : j ≡ length l = omega arith in
      let p : j ≡ length (writes_in b) = omega (arith, writes_length b) in
      sym (take-length (writes_in b)) ∙ ap (λ (i : ℕ). take i (writes_in b)) (sym p) ∙ e ∙ ap (λ (i : ℕ). take i l) q ∙ take-length l

pub ruleset lay_out_branches = (lay_begin, lay_more, lay_end)

-- the first n places
unfoldable pub read_to : List ℕ → ℕ → List Write
read_to b n = column (read_at b) n

pub read_begin : (b : List ℕ) → [] ≡ read_to b 0
unfolding read_to
read_begin b = sym (column_none (read_at b))

module _ (b : List ℕ) (a : List Write) where
  pub read_more : (j : ℕ) (w : Write) → w ≡ read_at b j → j < 72 → length a ≡ 72 → take j a ≡ read_to b j
      → take (j + 1) (set a j w) ≡ read_to b (j + 1)
  unfolding read_to
  read_more j w e h n t = column_set (read_at b) a j 72 w h n t e

  pub read_end : (j : ℕ) → j ≤ 72 → 72 ≤ j → length a ≡ 72 → take j a ≡ read_to b j → a ≡ writes_in b
  unfolding read_to writes_in
  read_end j h i n t = column_whole (read_at b) a j 72 h i n t

pub ruleset writes_in_branches = (read_begin, read_more, read_end)

pub ruleset layouts = (view_read, read_made, put_view_branches, put_whole, lay_out_branches, writes_in_branches, tests)
