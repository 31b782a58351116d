-- By rows and by truth table: the ways through the entry points, one law for each.
use Prim.Native.Nat.{ℕ, ◌-◌, ◌≤◌, ◌<◌}
use mathlib.Core.Path.{◌≡◌, refl, ap, ◌∙◌}
use mathlib.Core.List.{List, [], ◌∷◌}
use mathlib.Core.Bool.{Bool, false}
use native.Mathlib.Omega.{arith}
use borrow.Author.Tests.{lt-ltb, le-ltb}
use Rattle.std.specs.Borrow.{Bor}
use Rattle.logic.specs.Rows.{distinct}
use Rattle.semantics.specs.Limits
use Rattle.limits.specs.Limits.{nesting}
use Rattle.formula.specs.Tree.{Tree, parse_tree}
use Rattle.formula_compare.specs.Same.{same_tree}
use Rattle.tables_columns.specs.Gather.{Gathered}
use Rattle.tables_rows.specs.Entailment.{leaves_all, pair_in, pair_at, imp_of, imps_from, premises_from, gather_imps, gather_all}
use Rattle.tables_rows.specs.EveryRow.{every_t, every_by, every_of}
use Rattle.tables_bits.specs.TruthTable.{by_leaves}
use Rattle.tables_rows.specs.ByRows.{by_names, rows_t, table_t, line_of, premises_of}
use Rattle.tables_digits.specs.declared.value_column.Reading.{Reading}
use Rattle.tables_rows.specs.declared.entailment.Implication.{Implication}
use Rattle.tables_rows.specs.declared.entailment.Pairs.TheVariants.{Joined}
use Rattle.tables_rows.specs.declared.entailment.Task.{Task}
use Rattle.tables_rows.specs.declared.by_rows.Implications.{Implications}
use Rattle.tables_rows.proofs.DistinctLeaves.{cut, imps_cut, every_cut}

module _ (s : List ℕ) (pairs : ℕ → Implication) (t : Task) where
  all_is : (w : ℕ) → gather_all s pairs t w ≡ cut
      (distinct same_tree (leaves_all w (imp_of s pairs t 0 ∷ premises_from s pairs t 0)))
  unfolding gather_all gather_imps
  all_is w = imps_cut w (imp_of s pairs t 0 ∷ premises_from s pairs t 0)

  every_is : (w : Reading) (limit : ℕ) → 2 ≤ w.range → limit ≤ 4096
      → every_of s pairs t w limit ≡ every_t w limit (premises_from s pairs t 0) (imp_of s pairs t 0)
  unfolding every_of
  every_is w limit two h =
      ap (λ (m : Gathered). every_by m w limit (premises_from s pairs t 0) (imp_of s pairs t 0)) (all_is w.leaves)
      ∙ every_cut w.range two limit h (distinct same_tree
      (leaves_all w.leaves (imp_of s pairs t 0 ∷ premises_from s pairs t 0))) w refl (premises_from s pairs t 0)
      (imp_of s pairs t 0)

pub by_few : (R : ℕ) (u v : Tree) → R < 2 → false ≡ rows_t R u v
unfolding rows_t
by_few R u v h = rw (lt-ltb _ _ h)

-- a list of implications gives them by their numbers
list_pairs : (b : Bor (List Implication)) (l : List Implication) → b.now ≡ l → pair_at (Joined b) ≡ pair_in l
unfolding pair_at
list_pairs b l e = ap pair_in e

pub by_names_lem : (s : List ℕ) (a m b k R : ℕ) (r : Bool) → 2 ≤ R
    → r ≡ every_of s (pair_in (record { left = a; right = b } ∷ [])) (record { premises = 0; left = m; right = k }) (by_names R) Limits.rows
    → r ≡ rows_t R (parse_tree s m a).tree (parse_tree s k b).tree
unfolding rows_t premises_from imps_from imp_of
by_names_lem s a m b k R r h e = e ∙ every_is s pairs t (by_names R) Limits.rows h (omega arith) ∙ rw (le-ltb _ _ h) both
  where
    pairs : ℕ → Implication
    pairs = pair_in (record { left = a; right = b } ∷ [])

    t : Task
    t = record { premises = 0; left = m; right = k }

    both : every_t (by_names R) Limits.rows (premises_from s pairs t 0) (imp_of s pairs t 0) ≡ every_t (by_names R) Limits.rows []
        (record { left = (parse_tree s m a).tree; right = (parse_tree s k b).tree })
    both = refl

pub by-leaves : (s : List ℕ) (p : Implications) (n : ℕ) (r : Bool) → n ≡ p.count - 1
    → r ≡ every_of s (pair_in p.pairs) (record { premises = n; left = nesting; right = nesting }) by_leaves 1024
    → r ≡ table_t (premises_of s p) (line_of s p)
unfolding table_t
by-leaves s p n r en e =
    e
    ∙ ap (λ (m : ℕ). every_of s (pair_in p.pairs) (record { premises = m; left = nesting; right = nesting }) by_leaves 1024) en
    ∙ every_is s (pair_in p.pairs) (record { premises = p.count - 1; left = nesting; right = nesting }) by_leaves 1024 (omega arith)
    (omega arith)

-- the same of a list that is lent
module _ (s : List ℕ) (l : Bor (List Implication)) (r : Bool) where
  pub by_names_lent : (a m b k R : ℕ) → 2 ≤ R → l.now ≡ record { left = a; right = b } ∷ []
      → r ≡ every_of s (pair_at (Joined l)) (record { premises = 0; left = m; right = k }) (by_names R) Limits.rows
      → r ≡ rows_t R (parse_tree s m a).tree (parse_tree s k b).tree
  by_names_lent a m b k R h d e =
      by_names_lem s a m b k R r h
      (e ∙ ap (λ (x : ℕ → Implication). every_of s x (record { premises = 0; left = m; right = k }) (by_names R) Limits.rows) (list_pairs l _ d))

  pub by_leaves_lent : (p : Implications) (n : ℕ) → n ≡ p.count - 1 → l.now ≡ p.pairs
      → r ≡ every_of s (pair_at (Joined l)) (record { premises = n; left = nesting; right = nesting }) by_leaves 1024
      → r ≡ table_t (premises_of s p) (line_of s p)
  by_leaves_lent p n en d e =
      by-leaves s p n r en
      (e ∙ ap (λ (x : ℕ → Implication). every_of s x (record { premises = n; left = nesting; right = nesting }) by_leaves 1024)
      (list_pairs l p.pairs d))

pub ruleset by_rows_branches = (by_few, by_names_lent, by_leaves_lent)
