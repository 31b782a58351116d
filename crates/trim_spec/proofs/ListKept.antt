-- The outline and the obligations of the trimmed image pass their checks.
use mathlib.Core.Path.{◌≡◌, refl, ap, sym, ◌∙◌}
use mathlib.Core.Bool.{Bool, true}
use mathlib.Core.List.{List, [], append-nil}
use Prim.Native.Nat.{ℕ, ◌*◌, ◌≤◌, ◌<◌}
use native.Mathlib.Omega.{arith}
use lib.ListN.{length, get_or}
use borrow.Author.Tests.{eqb-true, eq-eqb}
use Rattle.limits.specs.Numbers.{numbers, within, every}
use Rattle.limits.proofs.PassedTests.{within_true, every_at}
use Rattle.image_bodies.specs.NumberList.{exactly}
use Rattle.image_bodies.specs.PointCounts.{point_counts, obligation_count}
use Rattle.image.specs.Decode.{sizes_of}
use Rattle.image_bodies.specs.ListBody.{outlined_at, outline, obligations}
use Rattle.image_meaning.specs.Program.{outline_body}
use Rattle.image_meaning.specs.Image.{obligations_body}
use Rattle.image_meaning.proofs.PassedChecks.{unless_passed, also_passed}
use Rattle.image_meaning.proofs.RecordsChecked.{outline_passed, obligations_passed}
use Rattle.trim_spec.specs.Document.{Document}
use Rattle.trim_spec.specs.Canonical.{Shorts}
use Rattle.trim_spec.specs.Encode.{number_bytes, bodies_of}
use Rattle.trim_spec.specs.Parse.{sizes}
use Rattle.trim_spec.proofs.U16Bytes.{numbers_back, numbers_size}
use Rattle.trim_spec.proofs.BodyPlaces.{outline-at, obligations_at}
use Rattle.trim_spec.specs.Live.{renumbered}
use Rattle.trim_spec.specs.Trim.{trimmed_by}
use Rattle.trim_spec.proofs.Renumbered.{outline_length, obligations_length, line_there}
use Rattle.trim_spec.proofs.CanonicalKept.{canonical_kept}
use Rattle.trim_spec.proofs.ChecksPassed.{within_in, unless_in, also_in, every_made}
use Rattle.trim_spec.proofs.TrimPremises.{Trimming, threads_kept}
use Rattle.trim_spec.proofs.FormulaKept.{formula_within, outlined_kept}
use Rattle.trim_spec.proofs.TallyKept.{tally_kept, obligation_count_kept}
use Rattle.image_frames.specs.Fault.{passed}

-- numbers in bytes, as many as are asked for
module _ (l : List ℕ) (s : Shorts l) (n : ℕ) where
  numbers_whole : length l ≡ n → numbers n (number_bytes l) ≡ l
  numbers_whole e =
      rw (← e) (ap (λ (b : List ℕ). numbers (length l) b) (sym (append-nil (number_bytes l))) ∙ numbers_back l [] s)

  exactly_found : (lo hi : ℕ) → exactly n lo hi (number_bytes l) ≡ passed → (length l ≡ n) × (every (within lo hi) l ≡ true)
  unfolding exactly
  exactly_found lo hi e =
      let h = unless_passed _ _ _ e in
      let q = eqb-true (length (number_bytes l)) (2 * n) h.0 in
      let m : length l ≡ n = omega (arith, numbers_size l) in
      (m, rw (numbers_whole m) at (unless_passed _ _ _ h.1).0)

  exactly_in : (lo hi : ℕ) → length l ≡ n → every (within lo hi) l ≡ true → exactly n lo hi (number_bytes l) ≡ passed
  unfolding exactly
  exactly_in lo hi e h =
      let q = eq-eqb (length (number_bytes l)) (2 * n) (omega (arith, numbers_size l)) in
      unless_in _ _ _ q (unless_in _ _ _ (rw (numbers_whole e) h) refl)

module _ {u k : List Bool} {D : Document} (T : Trimming u k D) where
  abbrev E : Document
  E = trimmed_by u k D

  -- the outline

  abbrev points : ℕ
  points = (point_counts (sizes D) (bodies_of D)).points

  abbrev Outlined : Document → Type 0
  Outlined F = outline (sizes F) (bodies_of F) (number_bytes F.outline) ≡ passed

  outline_was : Outlined D
  outline_was = rw (outline-at D T.threads) at (outline_passed (sizes D) (bodies_of D) T.checks)

  outline_found : (length D.outline ≡ points) × (every (within 1 (sizes D).formulas) D.outline ≡ true)
  unfolding outline
  outline_found = exactly_found D.outline T.canonical.outline points 1 (sizes D).formulas (also_passed _ _ outline_was).0

  outline_sorted : every (outlined_at (bodies_of D)) D.outline ≡ true
  unfolding outline
  outline_sorted =
      let q = numbers_whole D.outline T.canonical.outline points outline_found.0 in
      rw q at (unless_passed _ _ _ (also_passed _ _ outline_was).1).0

  -- the formula of a point is there
  outline_in : (i : ℕ) → i < length D.outline → (1 ≤ get_or D.outline i 0) × (get_or D.outline i 0 ≤ length D.formulas)
  unfolding sizes sizes_of
  outline_in i b =
      let e = every_at (within 1 (sizes D).formulas) D.outline i 0 outline_found.1 b in
      within_true 1 (sizes D).formulas (get_or D.outline i 0) e

  numbered_kept : every (within 1 (sizes E).formulas) E.outline ≡ true
  numbered_kept =
      every_made (within 1 (sizes D).formulas) (within 1 (sizes E).formulas) (renumbered u) 0 D.outline
      (λ i b e. formula_within T (get_or D.outline i 0) (T.closed.outline i b) (outline_in i b).0 (outline_in i b).1)
      outline_found.1

  sorted_kept : every (outlined_at (bodies_of E)) E.outline ≡ true
  sorted_kept =
      every_made (outlined_at (bodies_of D)) (outlined_at (bodies_of E)) (renumbered u) 0 D.outline
      (λ i b e. outlined_kept T (get_or D.outline i 0) (T.closed.outline i b, (outline_in i b).1) ∙ e)
      outline_sorted

  pub points_length : length E.outline ≡ (point_counts (sizes E) (bodies_of E)).points
  points_length = rw (tally_kept T) (outline_length u k D ∙ outline_found.0)

  pub outline_kept : outline (sizes E) (bodies_of E) (outline_body (sizes E) (bodies_of E)) ≡ passed
  unfolding outline
  outline_kept =
      let s = (canonical_kept u k D T.canonical).outline in
      let n : ℕ = (point_counts (sizes E) (bodies_of E)).points in
      rw (outline-at E (threads_kept T))
      (also_in _ _ (exactly_in E.outline s n 1 (sizes E).formulas points_length numbered_kept)
      (unless_in _ _ _ (rw (numbers_whole E.outline s n points_length) sorted_kept) refl))

  -- the obligations

  abbrev many : Document → ℕ
  many F = obligation_count (sizes F) (bodies_of F)

  obligations_found : (length D.obligations ≡ many D) × (every (within 0 (sizes D).lines) D.obligations ≡ true)
  unfolding obligations
  obligations_found =
      exactly_found D.obligations T.canonical.obligations (many D) 0 (sizes D).lines
      (rw (obligations_at D T.threads) at (obligations_passed (sizes D) (bodies_of D) T.checks))

  lines_kept : every (within 0 (sizes E).lines) E.obligations ≡ true
  unfolding sizes sizes_of
  lines_kept =
      every_made (within 0 (sizes D).lines) (within 0 (sizes E).lines) (renumbered k) 0 D.obligations
      (λ i b e.
      let n : ℕ = get_or D.obligations i 0 in
      within_in 0 (sizes E).lines (renumbered k n) (omega arith) (line_there u k D n (within_true 0 (sizes D).lines n e).1))
      obligations_found.1

  pub obligations_many : length E.obligations ≡ obligation_count (sizes E) (bodies_of E)
  obligations_many = rw (obligation_count_kept T) (obligations_length u k D ∙ obligations_found.0)

  pub obligations_kept : obligations (sizes E) (bodies_of E) (obligations_body (sizes E) (bodies_of E)) ≡ passed
  unfolding obligations
  obligations_kept =
      let s = (canonical_kept u k D T.canonical).obligations in
      rw (obligations_at E (threads_kept T)) (exactly_in E.obligations s (many E) 0 (sizes E).lines obligations_many lines_kept)
