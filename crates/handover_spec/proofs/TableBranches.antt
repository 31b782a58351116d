-- The ways through the tests of tables, one law for each.
use mathlib.Core.Path.{◌≡◌, refl, ap, ap₂, sym, ◌∙◌}
use mathlib.Core.Bool.{Bool, true, false, ◌&&◌}
use mathlib.Core.List.{List}
use Prim.Native.Nat.{ℕ, suc, ◌+◌, ◌-◌, ◌*◌, ◌≤◌, ◌<◌}
use native.Mathlib.Omega.{arith}
use native.Mathlib.Numerals.{add-one}
use lib.Dec.{leb, ltb}
use lib.ListN.{length, get_or, drop}
use borrow.Author.Tests.{leb-true, leb-false, lt-ltb, le-ltb, le-leb, lt-leb, eq-eqb, ne_eqb}
use Rattle.limits.specs.Numbers.{le16, within}
use Rattle.image_frames.specs.Records.{bodies}
use Rattle.image_header.specs.declared.sizes.Sizes.{Sizes}
use Rattle.image_header.specs.Thread.{last_point}
use Rattle.image_bodies.specs.RecordPlaces.{thread_body}
use Rattle.image_bodies.specs.PointCounts.{point_counts_to, point_counts}
use Rattle.logic_outline.specs.Verdict.{Image}
use Rattle.image_meaning.specs.Program.{point_count, program_of}
use Rattle.image_meaning.specs.Image.{image_of}
use Rattle.image_access.specs.Totals.{totals_of}
use Rattle.image_access.specs.declared.totals.Totals.{Totals}
use Rattle.handover_spec.specs.Table.{entry_size, point_named, line_named, points_to, each}
use Rattle.handover_spec.specs.Fits.{entry_fits, entries_fit, in_range, thread_fits, threads_fit, table_fits}
use Rattle.handover_spec.proofs.EachBelow.{each_same, each_none, each_more, each_stops, each_done}
use Rattle.handover_spec.proofs.FewPoints.{points_are}

-- entries

module _ (table : List ℕ) (i : ℕ) where
  pub point_read : (r : ℕ) → r ≡ get_or table (entry_size * i) 0 → r ≡ point_named table i
  unfolding point_named
  point_read r e = e

  pub line_read : (r : ℕ) → r ≡ le16 (drop (entry_size * i + 1) table) → r ≡ line_named table i
  unfolding line_named
  line_read r e = e

  module _ (last lines p : ℕ) (e : p ≡ point_named table i) where
    pub entry_behind : last < p → false ≡ entry_fits table last lines i
    unfolding entry_fits
    entry_behind h = rw (← e, lt-leb p last h)

    pub entry_in : (n : ℕ) (u : Bool) → p ≤ last → n ≡ line_named table i → u ≡ within 1 lines n → u ≡ entry_fits table last lines i
    unfolding entry_fits
    entry_in n u h d g = rw (← e, le-leb p last h, ← d) g

pub ruleset entries_branches = (point_read, line_read, entry_behind, entry_in)

module _ (table : List ℕ) (last lines from : ℕ) where
  abbrev fit : ℕ → Bool
  fit k = entry_fits table last lines (from + k)

  pub fit_none : entries_fit table last lines from 0 ≡ true
  unfolding entries_fit
  fit_none = each_none fit

  pub fit_more : (k : ℕ) (u : Bool) → entries_fit table last lines from k ≡ true → u ≡ entry_fits table last lines (from + k) → u ≡ true
      → entries_fit table last lines from (k + 1) ≡ true
  unfolding entries_fit
  fit_more k u h e g = each_more fit k u h e g

  pub fit_stops : (k n : ℕ) (u : Bool) → k < n → u ≡ entry_fits table last lines (from + k) → u ≡ false
      → false ≡ entries_fit table last lines from n
  unfolding entries_fit
  fit_stops k n u b e g = each_stops fit k n u b e g

  pub fit_done : (k n : ℕ) → entries_fit table last lines from k ≡ true → n ≤ k → k ≤ n → true ≡ entries_fit table last lines from n
  unfolding entries_fit
  fit_done k n h a b = each_done fit k n h a b

pub ruleset entries_fit_branches = (fit_none, fit_more, fit_stops, fit_done)

-- the table

leb_ltb : (a b : ℕ) → leb a b ≡ ltb a (b + 1)
leb_ltb a b = go (leb a b) refl
  where
    go : (x : Bool) → leb a b ≡ x → x ≡ ltb a (b + 1)
    go true e = let h = leb-true a b e in sym (lt-ltb a (b + 1) (omega arith))
    go false e = let h = leb-false a b e in sym (le-ltb a (b + 1) (omega arith))

module _ (old : List ℕ) (z : Sizes) (new : List ℕ) (y : Sizes) (table : List ℕ) where
  abbrev D : Image
  D = image_of z (bodies old)

  abbrev E : Image
  E = image_of y (bodies new)

  pub thread_fit : (t from last next : ℕ) (r : Bool) → from ≡ (point_counts_to z (bodies old) (t - 1)).points
      → last ≡ last_point (thread_body z (bodies old) t)
      → next ≡ last_point (thread_body y (bodies new) t) → r ≡ entries_fit table next y.lines from (last + 1) → r ≡ thread_fits D E table t
  unfolding entries_fit entry_fits thread_fits point_count
  thread_fit t from last next r ef el en er =
      er ∙ ap (λ (n : ℕ). each (n + 1) (λ k. entry_fits table next y.lines (from + k))) el
      ∙ each_same (λ k. entry_fits table next y.lines (from + k)) (λ k. in_range D E table t k)
      (last_point (thread_body z (bodies old) t) + 1) (λ k b. one k)
    where
      at : (k : ℕ) → from + k ≡ points_to (program_of z (bodies old)) (t - 1) + k
      at k = ap (λ (n : ℕ). n + k) (ef ∙ points_are z (bodies old) (t - 1))

      one : (k : ℕ) → leb (point_named table (from + k)) next && within 1 y.lines (line_named table (from + k)) ≡ in_range D E table t k
      one k =
          ap₂ ◌&&◌ (ap₂ (λ (i n : ℕ). leb (point_named table i) n) (at k) en ∙ leb_ltb
          (point_named table (points_to (program_of z (bodies old)) (t - 1) + k)) (last_point (thread_body y (bodies new) t)))
          (ap (λ (i : ℕ). within 1 y.lines (line_named table i)) (at k))

  abbrev thread : ℕ → Bool
  thread t = thread_fits D E table (suc t)

  pub threads_none : threads_fit D E table 0 ≡ true
  unfolding threads_fit
  threads_none = each_none thread

  pub threads_more : (t : ℕ) (u : Bool) → threads_fit D E table t ≡ true → u ≡ thread_fits D E table (t + 1) → u ≡ true
      → threads_fit D E table (t + 1) ≡ true
  unfolding threads_fit
  threads_more t u h e g = each_more thread t u h (e ∙ ap (thread_fits D E table) (add-one t)) g

  pub threads_stop : (t n : ℕ) (u : Bool) → t < n → n ≡ z.threads → u ≡ thread_fits D E table (t + 1) → u ≡ false
      → false ≡ threads_fit D E table z.threads
  unfolding threads_fit
  threads_stop t n u b q e g = each_stops thread t z.threads u (omega arith) (e ∙ ap (thread_fits D E table) (add-one t)) g

  pub threads_done : (t n : ℕ) → threads_fit D E table t ≡ true → n ≡ z.threads → n ≤ t → t ≤ n → true ≡ threads_fit D E table z.threads
  unfolding threads_fit
  threads_done t n h q a b = each_done thread t z.threads h (omega arith) (omega arith)

  module _ (c : Totals) (n : ℕ) (e : c ≡ totals_of z (bodies old)) (en : n ≡ c.points) where
    size_is : n ≡ points_to (program_of z (bodies old)) z.threads
    unfolding totals_of point_counts
    size_is = en ∙ ap (λ (k : Totals). k.points) e ∙ points_are z (bodies old) z.threads

    pub table_other : (length table ≡ entry_size * n → ⊥) → false ≡ table_fits D E table
    unfolding table_fits
    table_other h = rw (ne_eqb (length table) (entry_size * points_to (program_of z (bodies old)) z.threads)
        (λ (q : length table ≡ entry_size * points_to (program_of z (bodies old)) z.threads). h
        (q ∙ ap (λ (k : ℕ). entry_size * k) (sym size_is))))

    pub table_long : (r : Bool) → length table ≡ entry_size * n → r ≡ threads_fit D E table z.threads → r ≡ table_fits D E table
    unfolding table_fits
    table_long r h g = rw (eq-eqb (length table) (entry_size * points_to (program_of z (bodies old)) z.threads)
        (h ∙ ap (λ (k : ℕ). entry_size * k) size_is)) g

pub ruleset table_fits_branches = (table_other, table_long)

pub ruleset threads_fit_branches = (threads_none, threads_more, threads_stop, threads_done)
