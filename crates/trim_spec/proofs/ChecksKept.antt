-- The trimmed image is well formed: each of its records passes its check.
use mathlib.Core.Path.{◌≡◌, ap, ◌∙◌}
use mathlib.Core.Bool.{Bool}
use mathlib.Core.List.{List, []}
use Prim.Native.Nat.{ℕ, ◌≤◌}
use native.Mathlib.Omega.{arith}
use lib.ListN.{length, get_or}
use Rattle.image_frames.proofs.KindCounts.{Counts}
use Rattle.image_header.specs.Header.{thread_count, header}
use Rattle.image_bodies.specs.FormulaBody.{counts_of, formula}
use Rattle.image.specs.Decode.{sizes_of, record_count, first_fault}
use Rattle.image_meaning.proofs.RecordsChecked.{Checks, header_passed, formula_passed}
use Rattle.trim_spec.specs.Document.{Document}
use Rattle.trim_spec.specs.Encode.{bodies_of}
use Rattle.trim_spec.specs.Parse.{sizes}
use Rattle.trim_spec.proofs.BodyPlaces.{header_at}
use Rattle.trim_spec.specs.Trim.{trimmed_by}
use Rattle.trim_spec.proofs.MarkCounts.{selected_few, selected_from}
use Rattle.trim_spec.proofs.Renumbered.{lines_length, claims_length}
use Rattle.trim_spec.proofs.TrimPremises.{Trimming, threads_kept}
use Rattle.trim_spec.proofs.FormulaKept.{header_kept, formula_kept}
use Rattle.trim_spec.proofs.ThreadKept.{thread_kept}
use Rattle.trim_spec.proofs.ListKept.{outline_kept, obligations_kept}
use Rattle.trim_spec.proofs.LineKept.{line_kept}
use Rattle.trim_spec.proofs.DocumentInverse.{header_counts}
use Rattle.trim_spec.proofs.ClaimKept.{claim_kept}
use Rattle.trim_spec.proofs.AllPassed.{AllPassed, all_passed, fault_none}
use Rattle.image_frames.specs.Fault.{passed}
use Rattle.std.specs.Prelude.{Ok}

module _ {u k : List Bool} {D : Document} (T : Trimming u k D) where
  abbrev E : Document
  E = trimmed_by u k D

  abbrev counted : ℕ
  counted = T.checks.counted

  -- no more records than before
  pub few_kept : Counts (sizes E).formulas (sizes E).lines (sizes E).claims
  unfolding sizes sizes_of
  few_kept =
      let c = T.checks.few in
      record {
        formulas = omega (arith, selected_few u D.formulas, c.formulas);
        lines = omega (arith, selected_few k D.lines, lines_length u k D, c.lines);
        claims = omega (arith, claims_length u k D, c.claims);
      }

  sizes_kept : sizes E ≡ sizes_of (get_or (bodies_of E) 0 []) (sizes E).formulas (sizes E).lines (sizes E).claims
  unfolding sizes sizes_of
  sizes_kept = rw (header_at E (threads_kept T))

  head_kept : header counted (get_or (bodies_of E) 0 []) ≡ passed
  head_kept = rw (header_kept T) (header_passed (sizes D) (bodies_of D) T.checks)

  -- a formula's check goes by the header's counts alone
  formula_checked : (n : ℕ) → 1 ≤ n → n ≤ length E.formulas → formula (sizes E) (get_or (bodies_of E) n []) ≡ passed
  unfolding formula counts_of sizes sizes_of
  formula_checked n a b =
      let s = selected_from u D.formulas n a b in
      let e = formula_kept T s.old (λ q. s.mark, s.high) in
      rw (← s.now, e) (formula_passed (sizes D) (bodies_of D) T.checks s.old s.low s.high)

  checked : AllPassed counted (sizes E) (bodies_of E)
  unfolding sizes sizes_of
  checked = record {
    head = head_kept;
    formula = formula_checked;
    thread = λ n a b. thread_kept T n a (omega (arith, T.threads));
    outline = outline_kept T;
    line = line_kept T;
    obligations = obligations_kept T;
    claim = λ n b. claim_kept T n (omega (arith, claims_length u k D));
  }

  pub checks_kept : Checks (sizes E) (bodies_of E)
  checks_kept = record { counted = counted; few = few_kept; sizes = sizes_kept; passed = all_passed counted (sizes E) (bodies_of E) checked }

  -- all its threads were counted, and no record has a fault
  pub trimmed_sound : first_fault (length E.threads) (sizes E) (bodies_of E) 1 (record_count (sizes E)) (bodies_of E) ≡ Ok (sizes E)
  trimmed_sound =
      let b : List ℕ = get_or (bodies_of E) 0 [] in
      let e = header_counts counted b head_kept in
      let q : counted ≡ length E.threads = e ∙ (ap thread_count (header_at E (threads_kept T)) ∙ threads_kept T) in
      rw (← q) (fault_none counted (sizes E) (bodies_of E) (all_passed counted (sizes E) (bodies_of E) checked))
