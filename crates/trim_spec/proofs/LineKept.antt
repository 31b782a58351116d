-- A line that stays passes its check under its new number.
use mathlib.Core.Path.{◌≡◌, refl, ap, ◌∙◌, subst}
use mathlib.Core.Bool.{Bool, true, false, ◌&&◌}
use mathlib.Core.List.{List, map}
use Prim.Native.Nat.{ℕ, ◌-◌, ◌≤◌, ◌<◌}
use native.Mathlib.Omega.{arith}
use lib.ListN.{length, get_or, length-map}
use borrow.Author.Tests.{eq-eqb}
use Rattle.limits.specs.Limits as Limits
use Rattle.limits.specs.Numbers.{nth, within, every}
use Rattle.limits.proofs.PassedTests.{and_true, within_true}
use Rattle.image_bodies.specs.declared.line.Form.{Form}
use Rattle.image_bodies.specs.declared.line.Form.TheVariants.{Triple, Implication, Inclusion, Pair, Unlisted}
use Rattle.image_bodies.specs.Line.{form_of, triple_at, nowhere, placed, numbered, line_numbers}
use Rattle.image.specs.Decode.{sizes_of}
use Rattle.image_bodies.specs.LineBody.{line_sorted, line}
use Rattle.image_meaning.specs.Certificate.{line_body}
use Rattle.image_meaning.proofs.PassedChecks.{unless_passed, also_passed}
use Rattle.image_meaning.proofs.RecordsChecked.{line_passed}
use Rattle.trim_spec.specs.Document.{Document, LineRecord}
use Rattle.trim_spec.specs.Canonical.{LineFits, no_line}
use Rattle.trim_spec.specs.Encode.{line_bytes, bodies_of}
use Rattle.trim_spec.specs.Parse.{sizes}
use Rattle.trim_spec.proofs.LineBytes.{line_rule, line_thread, line_point, line_count, line_has, line-size, line_left, line_right, line_premises}
use Rattle.trim_spec.proofs.BodyPlaces as Places
use Rattle.trim_spec.specs.Live.{renumbered}
use Rattle.trim_spec.specs.Trim.{line_by, trimmed_by}
use Rattle.trim_spec.proofs.Closed.{Stays}
use Rattle.trim_spec.proofs.MarkCounts.{renumbered_low, renumbered_mono}
use Rattle.trim_spec.proofs.Renumbered.{line_at, line_from, line_there}
use Rattle.trim_spec.proofs.CanonicalKept.{line-fits}
use Rattle.trim_spec.proofs.ChecksPassed.{and_in, within_in, unless_in, also_in, every_made}
use Rattle.trim_spec.proofs.TrimPremises.{Trimming, threads_kept}
use Rattle.trim_spec.proofs.FormulaKept.{formula_within, sorted_by_kept}
use Rattle.trim_spec.proofs.ThreadKept.{each_nth}
use Rattle.trim_spec.proofs.TallyKept.{operation_kept}
use Rattle.image_frames.specs.Fault.{passed}

module _ {u k : List Bool} {D : Document} (T : Trimming u k D) where
  abbrev E : Document
  E = trimmed_by u k D

  abbrev f : ℕ → ℕ
  f = renumbered u

  abbrev g : ℕ → ℕ
  g = renumbered k

  -- the check of a line of the trimmed image
  abbrev PassedAt : ℕ → Type 0
  PassedAt j = line (sizes E) (bodies_of E) (j - 1) (line_body (sizes E) (bodies_of E) j) ≡ passed

  module _ (n : ℕ) (low : 1 ≤ n) (high : n ≤ length D.lines) (mark : get_or k n false ≡ true) where
    abbrev v : LineRecord
    v = nth D.lines n no_line

    abbrev v' : LineRecord
    v' = line_by f g v

    old_fits : LineFits v
    old_fits = each_nth LineFits no_line D.lines n low high T.canonical.lines

    new_fits : LineFits v'
    new_fits = line-fits u k v old_fits

    -- what its check has found

    abbrev b : List ℕ
    b = line_bytes v

    old_passed : line (sizes D) (bodies_of D) (n - 1) b ≡ passed
    unfolding sizes sizes_of
    old_passed = rw (Places.line_at D T.threads n low high) at (line_passed (sizes D) (bodies_of D) T.checks n low high)

    numbers_passed : (placed (sizes D) (bodies_of D) (form_of (get_or b 0 0)) b ≡ true) × (numbered (sizes D) (n - 1) b ≡ true)
    unfolding line line_numbers
    numbers_passed =
        let h = unless_passed _ _ _ (unless_passed _ _ _ (unless_passed _ _ _ (also_passed _ _ old_passed).0).1).1 in
        (h.0, (unless_passed _ _ _ h.1).0)

    abbrev few : Bool
    few = within 0 Limits.premises (length v.premises)

    abbrev lower : Bool
    lower = every (within 1 (n - 1)) v.premises

    abbrev there : ℕ → Bool
    there m = within 1 (sizes D).formulas m

    ranges : (there v.left ≡ true) × (there v.right ≡ true) × (few ≡ true) × (lower ≡ true)
    unfolding numbered
    ranges =
        let e = rw (line_left v old_fits, line_right v old_fits, line_count v, line_premises v old_fits) at numbers_passed.1 in
        let h = and_true (there v.left) (there v.right && (few && lower)) e in
        let i = and_true (there v.right) (few && lower) h.1 in
        let j = and_true few lower i.1 in
        (h.0, i.0, j.0, j.1)

    -- its formulas are there

    left_in : (1 ≤ v.left) × (v.left ≤ length D.formulas)
    unfolding sizes sizes_of
    left_in = within_true 1 (sizes D).formulas v.left ranges.0

    right_in : (1 ≤ v.right) × (v.right ≤ length D.formulas)
    unfolding sizes sizes_of
    right_in = within_true 1 (sizes D).formulas v.right ranges.1

    left_stays : Stays u v.left
    left_stays = T.closed.left n low high mark

    right_stays : Stays u v.right
    right_stays = T.closed.right n low high mark

    -- where it is placed
    placed_kept : (o : Form) → placed (sizes E) (bodies_of E) o (line_bytes v') ≡ placed (sizes D) (bodies_of D) o b
    unfolding placed triple_at nowhere line_by
    placed_kept Triple = rw (line_thread v', line_point v', line_thread v, line_point v, operation_kept T v.thread v.point)
    placed_kept Implication = rw (line_thread v', line_point v', line_thread v, line_point v)
    placed_kept Inclusion = rw (line_thread v', line_point v', line_thread v, line_point v)
    placed_kept Pair = rw (line_thread v', line_point v', line_thread v, line_point v, operation_kept T v.thread v.point)
    placed_kept Unlisted = refl

    form_same : form_of (get_or (line_bytes v') 0 0) ≡ form_of (get_or b 0 0)
    unfolding line_by
    form_same = rw (line_rule v', line_rule v)

    -- a premise has a lower number, and so has its new one
    premise_lower : (i : ℕ) → i < length v.premises → within 1 (n - 1) (get_or v.premises i 0) ≡ true
        → within 1 (g n - 1) (g (get_or v.premises i 0)) ≡ true
    premise_lower i c e =
        let p : ℕ = get_or v.premises i 0 in
        let w = within_true 1 (n - 1) p e in
        let m = T.closed.premise n i low high mark c (omega (arith, w.0)) in
        let q = renumbered_mono k p n (omega (arith, w.1)) mark in
        within_in 1 (g n - 1) (g p) (renumbered_low k p w.0 m) (omega arith)

    lower_kept : every (within 1 (g n - 1)) (map g v.premises) ≡ true
    lower_kept = every_made (within 1 (n - 1)) (within 1 (g n - 1)) g 0 v.premises premise_lower ranges.3

    numbered_kept : numbered (sizes E) (g n - 1) (line_bytes v') ≡ true
    unfolding numbered line_by
    numbered_kept =
        rw (line_left v' new_fits, line_right v' new_fits, line_count v', line_premises v' new_fits, length-map v.premises g)
        (and_in _ _ (formula_within T v.left left_stays left_in.0 left_in.1)
        (and_in _ _ (formula_within T v.right right_stays right_in.0 right_in.1) (and_in _ _ ranges.2 lower_kept)))

    sorted_kept : line_sorted (bodies_of E) (line_bytes v') ≡ line_sorted (bodies_of D) b
    unfolding line_sorted line_by
    sorted_kept =
        let o : Form = form_of (get_or b 0 0) in
        let e = sorted_by_kept T v.left (left_stays, left_in.1) o in
        let d = sorted_by_kept T v.right (right_stays, right_in.1) o in
        rw (form_same, line_left v' new_fits, line_right v' new_fits, line_left v old_fits, line_right v old_fits, e, d)

    sorted_passed : line_sorted (bodies_of D) b ≡ true
    unfolding line
    sorted_passed = (unless_passed _ _ _ (also_passed _ _ old_passed).1).0

    check_kept : line (sizes E) (bodies_of E) (g n - 1) (line_bytes v') ≡ passed
    unfolding line line_numbers
    check_kept =
        also_in _ _
        (unless_in _ _ _ (line_has v')
        (unless_in _ _ _ (eq-eqb _ _ (line-size v'))
        (unless_in _ _ _ (rw form_same (placed_kept (form_of (get_or b 0 0)) ∙ numbers_passed.0)) (unless_in _ _ _ numbered_kept refl))))
        (unless_in _ _ _ (sorted_kept ∙ sorted_passed) refl)

    pub new_line : line_body (sizes E) (bodies_of E) (g n) ≡ line_bytes v'
    new_line =
        Places.line_at E (threads_kept T) (g n) (renumbered_low k n low mark) (line_there u k D n high)
        ∙ ap line_bytes (line_at u k D n low high mark)

    stays_passed : PassedAt (g n)
    stays_passed = rw new_line check_kept

  pub line_kept : (j : ℕ) → 1 ≤ j → j ≤ length E.lines → PassedAt j
  line_kept j a c =
      let s = line_from u k D j a c in
      subst PassedAt s.now (stays_passed s.old s.low s.high s.mark)
