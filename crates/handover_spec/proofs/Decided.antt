-- What the tests of table and lines say, in words; and the ways to the code of a handover between accepted images.
use mathlib.Core.Path.{◌≡◌, refl, ap, ap₂, sym, ◌∙◌, subst}
use mathlib.Core.Bool.{Bool, true, false, cond, ◌&&◌, true≢false}
use mathlib.Core.List.{List}
use Prim.Native.Nat.{ℕ, suc, ◌+◌, ◌-◌, ◌*◌, ◌≤◌, ◌<◌}
use native.Mathlib.Omega.{arith}
use lib.Dec.{eqb, ltb}
use lib.ListN.{length}
use borrow.Author.Tests.{eqb-true, eq-eqb, ltb-true, lt-ltb, le-leb}
use Rattle.std.specs.declared.result.Result.TheVariants.{Ok, Err}
use Rattle.semantics.specs.Base.{Within}
use Rattle.semantics.specs.Formula.{same_bytes}
use Rattle.limits.specs.Numbers.{within}
use Rattle.limits.proofs.PassedTests.{and_true, within_true}
use Rattle.image_frames.specs.Records.{bodies}
use Rattle.image_header.specs.declared.sizes.Sizes.{Sizes}
use Rattle.image_header.specs.Header.{thread_count}
use Rattle.image.specs.Decode.{decoded, sizes_of}
use Rattle.logic_outline.specs.Verdict.{Image, line_code, Admitted}
use Rattle.logic_outline.proofs.Accept.{code_bears, bears_code}
use Rattle.image_meaning.specs.Program.{point_count, program_of}
use Rattle.image_meaning.specs.Image.{image_of}
use Rattle.image_meaning.proofs.RecordsChecked.{sound_checks}
use Rattle.rules_justified.specs.Marks.{as_marks}
use Rattle.rules_justified.specs.declared.marks.Marks.{Marks}
use Rattle.rules_justified.specs.Justify.{marks_to}
use Rattle.handover_spec.specs.declared.refusal.Refusal.TheVariants.{Unlike, OutOfRange, Unserved}
use Rattle.handover_spec.specs.Refusal.{code_told}
use Rattle.handover_spec.specs.Table.{entry_size, point_named, line_named, points_to, new_point, new_line, each}
use Rattle.handover_spec.specs.Fits.{in_range, thread_fits, threads_fit, table_fits}
use Rattle.handover_spec.specs.Code.{asked, serves, lines_serve, code_between, header_of, code_of}
use Rattle.handover_spec.specs.LinesFound.{assertion_of, line_serves, entry_serves, entries_serve, thread_serves, threads_serve}
use Rattle.handover_spec.specs.Promise.{Fits, Serve, Decided, permitted, out_of_range, unserved}
use Rattle.handover_spec.proofs.BytesAgree.{bytes_equal}
use Rattle.handover_spec.proofs.EachBelow.{each_at, each_all, each_same}
use Rattle.handover_spec.proofs.LineServes.{found_served}

-- a test of every point, by threads that count from 1
module _ (n : ℕ) (points : ℕ → ℕ) (f : ℕ → ℕ → Bool) where
  point_at : each n (λ t. each (points (suc t)) (λ k. f (suc t) k)) ≡ true → (t k : ℕ) → Within n t → k < points t → f t k ≡ true
  point_at h t k w b =
      let q : suc (t - 1) ≡ t = omega (arith, w.0) in
      let g = each_at (λ u. each (points (suc u)) (λ j. f (suc u) j)) (t - 1) n (omega (arith, w.0, w.1)) h in
      each_at (λ j. f t j) k (points t) b (subst (λ (u : ℕ). each (points u) (λ j. f u j) ≡ true) q g)

  all_points : ((t k : ℕ) → Within n t → k < points t → f t k ≡ true) → each n (λ t. each (points (suc t)) (λ k. f (suc t) k)) ≡ true
  all_points h = each_all (λ t. each (points (suc t)) (λ k. f (suc t) k)) n
      (λ t b. each_all (λ k. f (suc t) k) (points (suc t)) (λ k c. h (suc t) k (omega arith, omega arith) c))

within_so : (lo hi x : ℕ) → lo ≤ x → x ≤ hi → within lo hi x ≡ true
unfolding within
within_so lo hi x a b = ap₂ ◌&&◌ (le-leb lo x a) (le-leb x hi b)

module _ (D E : Image) (table : List ℕ) where
  pub table_fits_lem : table_fits D E table ≡ true → Fits D E table
  unfolding table_fits threads_fit thread_fits
  table_fits_lem e =
      let h = and_true (eqb (length table) (entry_size * points_to D.program D.program.threads))
      (each D.program.threads (λ t. each (D.program.points (suc t)) (λ k. in_range D E table (suc t) k))) e in
      let g : (t k : ℕ) → Within D.program.threads t → k < D.program.points t → in_range D E table t k ≡ true =
      point_at D.program.threads D.program.points (in_range D E table) h.1 in
      let f : (t k : ℕ) (w : Within D.program.threads t) (b : k < D.program.points t)
      → (ltb (new_point D.program table t k) (E.program.points t) ≡ true) ×
      (within 1 E.certificate.count (new_line D.program table t k) ≡ true) =
      λ t k w b. and_true (ltb (new_point D.program table t k) (E.program.points t))
      (within 1 E.certificate.count (new_line D.program table t k)) (g t k w b) in
      record {
        size = eqb-true (length table) (entry_size * points_to D.program D.program.threads) h.0;
        points = λ t k w b. ltb-true (new_point D.program table t k) (E.program.points t) (f t k w b).0;
        lines = λ t k w b. within_true 1 E.certificate.count (new_line D.program table t k) (f t k w b).1;
      }

  pub fits_table : Fits D E table → table_fits D E table ≡ true
  unfolding table_fits threads_fit thread_fits
  fits_table F =
      ap₂ ◌&&◌ (eq-eqb (length table) (entry_size * points_to D.program D.program.threads) F.size)
      (all_points D.program.threads D.program.points (in_range D E table)
      (λ t k w b. ap₂ ◌&&◌ (lt-ltb (new_point D.program table t k) (E.program.points t) (F.points t k w b))
      (within_so 1 E.certificate.count (new_line D.program table t k) (F.lines t k w b).0 (F.lines t k w b).1)))

  pub lines-serve : lines_serve D E table ≡ true → Serve D E table
  unfolding lines_serve
  lines-serve e t k w b =
      code_bears E (asked D E table t k) (new_line D.program table t k)
      (eqb-true (line_code E (asked D E table t k) (new_line D.program table t k)) 0
      (point_at D.program.threads D.program.points (serves D E table) e t k w b))

  pub serve_lines : Admitted E → Serve D E table → lines_serve D E table ≡ true
  unfolding lines_serve
  serve_lines A S =
      all_points D.program.threads D.program.points (serves D E table)
      (λ t k w b. eq-eqb (line_code E (asked D E table t k) (new_line D.program table t k)) 0
      (bears_code E A (asked D E table t k) (new_line D.program table t k) (S t k w b)))

  -- the code in words
  pub code_decided : Admitted E → Decided D E table (code_between D E table)
  unfolding code_between
  code_decided A = go (table_fits D E table) (lines_serve D E table) refl refl
    where
      go : (a b : Bool) → table_fits D E table ≡ a → lines_serve D E table ≡ b → Decided D E table (cond a (cond b 0 34) 33)
      go true true p q = permitted (table_fits_lem p) (lines-serve q)
      go true false p q = unserved (table_fits_lem p) (λ (S : Serve D E table). true≢false (sym (serve_lines A S) ∙ q))
      go false b p q = out_of_range (λ (F : Fits D E table). true≢false (sym (fits_table F) ∙ p))

-- equal headers have as many threads
pub same_threads : (old : List ℕ) (z : Sizes) (new : List ℕ) (y : Sizes) → decoded old ≡ Ok z → decoded new ≡ Ok y
    → header_of old ≡ header_of new → z.threads ≡ y.threads
unfolding sizes_of
same_threads old z new y e d h =
    ap (λ (x : Sizes). x.threads) (sound_checks old z e).sizes ∙ ap (λ (b : List ℕ). thread_count b) h ∙ sym
    (ap (λ (x : Sizes). x.threads) (sound_checks new y d).sizes)

-- accepted images, as the code finds them

module _ (old : List ℕ) (z : Sizes) (new : List ℕ) (y : Sizes) (table : List ℕ) where
  abbrev D : Image
  D = image_of z (bodies old)

  abbrev E : Image
  E = image_of y (bodies new)

  abbrev P : ℕ → ℕ
  P t = points_to (program_of z (bodies old)) t

  -- where the table fits, the lines serve as the code finds it
  found_lines : decoded old ≡ Ok z → decoded new ≡ Ok y → z.threads ≡ y.threads → table_fits D E table ≡ true
      → threads_serve old z new y (marks_to new y y.lines) table z.threads ≡ lines_serve D E table
  unfolding threads_serve thread_serves entries_serve entry_serves lines_serve
  found_lines e d same f =
      let F = table_fits_lem D E table f in
      each_same (λ t. each (point_count z (bodies old) (suc t)) (λ k. found (suc t) k))
      (λ t. each (point_count z (bodies old) (suc t)) (λ k. serves D E table (suc t) k)) z.threads
      (λ t b. each_same (λ k. found (suc t) k) (λ k. serves D E table (suc t) k) (point_count z (bodies old) (suc t))
      (λ k a. let w : Within z.threads (suc t) = (omega arith, omega arith) in
      found_served old z (sound_checks old z e) new y (sound_checks new y d) (suc t) k
      (new_point (program_of z (bodies old)) table (suc t) k) (new_line (program_of z (bodies old)) table (suc t) k)
      w a (omega arith, omega arith) (F.points (suc t) k w a) (F.lines (suc t) k w a)))
    where
      found : ℕ → ℕ → Bool
      found t k =
          line_serves new y (marks_to new y y.lines) (line_named table (P (t - 1) + k)) (assertion_of old z t k)
          (assertion_of new y t (point_named table (P (t - 1) + k)))

  pub marks_found : (m : Marks) (v : Bool) → m ≡ marks_to new y y.lines
      → v ≡ threads_serve old z new y (as_marks m.on) table z.threads
      → v ≡ threads_serve old z new y (marks_to new y y.lines) table z.threads
  marks_found m v em ev = ev ∙ ap (λ (x : Marks). threads_serve old z new y x table z.threads) em

  module _ (u : Bool) (eu : u ≡ table_fits D E table) where
    pub between_out : u ≡ false → code_told (Err OutOfRange) ≡ code_between D E table
    unfolding code_between
    between_out h = rw (← eu, h)

    module _ (v : Bool) (e : decoded old ≡ Ok z) (d : decoded new ≡ Ok y) (same : z.threads ≡ y.threads) (h : u ≡ true)
        (ev : v ≡ threads_serve old z new y (marks_to new y y.lines) table z.threads) where
      served_is : v ≡ lines_serve D E table
      served_is = ev ∙ found_lines e d same (sym eu ∙ h)

      between_is : cond v 0 34 ≡ code_between D E table
      unfolding code_between
      between_is = rw (← eu, h, ← served_is)

      pub between_served : v ≡ true → code_told (Ok tt) ≡ code_between D E table
      between_served g = ap (λ (x : Bool). cond x 0 34) (sym g) ∙ between_is

      pub between_unserved : v ≡ false → code_told (Err Unserved) ≡ code_between D E table
      between_unserved g = ap (λ (x : Bool). cond x 0 34) (sym g) ∙ between_is

  module _ (a b : List ℕ) (u : Bool) (ea : a ≡ header_of old) (eb : b ≡ header_of new) (eu : u ≡ same_bytes a b) where
    headers_are : u ≡ same_bytes (header_of old) (header_of new)
    headers_are = eu ∙ ap₂ (λ (x w : List ℕ). same_bytes x w) ea eb

    pub headers_threads : decoded old ≡ Ok z → decoded new ≡ Ok y → u ≡ true → z.threads ≡ y.threads
    headers_threads e d h = same_threads old z new y e d (bytes_equal (header_of old) (header_of new) (sym headers_are ∙ h))

    pub headers_differ : u ≡ false → code_told (Err Unlike) ≡ code_of old z new y table
    unfolding code_of
    headers_differ h = ap (λ (x : Bool). cond x (code_between D E table) 32) (sym h ∙ headers_are)

    pub headers_same : (r : ℕ) → u ≡ true → r ≡ code_between D E table → r ≡ code_of old z new y table
    unfolding code_of
    headers_same r h g = g ∙ ap (λ (x : Bool). cond x (code_between D E table) 32) (sym h ∙ headers_are)

pub ruleset between = (between_out, between_served, between_unserved)

pub ruleset headers = (headers_threads, headers_differ, headers_same)
