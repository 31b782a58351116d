-- The trimmed document of an accepted image has bytes that are a sound image.
use mathlib.Core.Path.{◌≡◌, refl, ◌∙◌, subst}
use mathlib.Core.Bool.{Bool}
use mathlib.Core.List.{List, [], ◌∷◌, ◌++◌, map}
use Prim.Native.Nat.{ℕ, zero, suc, ◌+◌, ◌≤◌, ◌<◌}
use native.Mathlib.Omega.{arith}
use lib.ListN.{length, get_or, length-map, length-append}
use Rattle.logic.specs.Obligations.{Obligation, Obligation.start, steps, interferences}
use Rattle.semantics.specs.Base.{below, up_to}
use Rattle.limits.specs.Limits as Limits
use Rattle.limits.specs.Numbers.{nth}
use Rattle.image_header.specs.Header.{thread_count}
use Rattle.image_bodies.specs.PointCounts.{point_counts_to, point_counts, thread_counts, obligation_count}
use Rattle.image.specs.Decode.{sizes_of, record_count}
use Rattle.logic_outline.specs.Judged.{EachMet, total}
use Rattle.image_meaning.specs.Program.{program_of}
use Rattle.image_meaning.specs.Image.{named_line, image_of}
use Rattle.image_meaning.proofs.RecordsChecked.{Checks}
use Rattle.trim_spec.specs.Document.{Document}
use Rattle.trim_spec.specs.Canonical.{Canonical, Each, no_line, no_claim, LineFits, ClaimFits, ThreadFits}
use Rattle.trim_spec.specs.Encode.{number_bytes, line_bytes, claim_bytes, thread_bytes, bodies_of, encode}
use Rattle.trim_spec.specs.Parse.{sizes}
use Rattle.trim_spec.specs.Framed.{Framable, Numbered}
use Rattle.trim_spec.proofs.EachMember.{each_cons, each_append, each_map}
use Rattle.trim_spec.proofs.U16Bytes.{numbers_size}
use Rattle.trim_spec.proofs.ThreadBytes.{thread_short}
use Rattle.trim_spec.proofs.LineBytes.{line_short}
use Rattle.trim_spec.proofs.ClaimBytes.{claim_short}
use Rattle.trim_spec.proofs.BodyPlaces.{from_threads, from_outline, from_lines, from_obligations, from_claims, bodies_are, header_at, formula-at, outline-at, obligations_at, bodies_length}
use Rattle.trim_spec.proofs.DocumentInverse.{Encodable}
use Rattle.trim_spec.specs.Live.{kept, used}
use Rattle.trim_spec.specs.Trim.{trimmed_by}
use Rattle.trim_spec.specs.Rests.{Uses, outline, obligation}
use Rattle.trim_spec.proofs.MarkCounts.{renumbered_low, selected_few}
use Rattle.trim_spec.proofs.LiveLines.{Named, rests_kept}
use Rattle.trim_spec.proofs.LiveFormulas.{Written, uses_used, nothing_left_out}
use Rattle.trim_spec.proofs.Renumbered as Moved
use Rattle.trim_spec.proofs.CanonicalKept.{canonical_kept, selected_each}
use Rattle.trim_spec.proofs.TrimPremises.{Trimming, threads_kept}
use Rattle.trim_spec.proofs.ChecksKept.{trimmed_sound}
use Rattle.trim_spec.proofs.NamedThere.{named-lines, written_formulas, outline_ranged}
use Rattle.trim_spec.proofs.DocumentSays.{named_said}
use Rattle.trim_encode.proofs.LengthTrimmed.{trimmed_and_left}

-- a document whose bytes are a sound image
pub record Whole (D : Document) : Type 0 where
  pub canonical : Canonical D
  pub threads : thread_count D.header ≡ length D.threads
  pub checks : Checks (sizes D) (bodies_of D)
  pub outline : length D.outline ≡ (point_counts (sizes D) (bodies_of D)).points
  pub obligations : length D.obligations ≡ obligation_count (sizes D) (bodies_of D)
  pub framable : Each Framable [] (bodies_of D)
  pub few : length (encode D) ≤ Limits.image_bytes
  pub numbered : Numbered (length D.formulas) (length D.threads) (length D.lines) (length D.claims)

up_to_length : (n : ℕ) → length (up_to n) ≡ n
up_to_length n = length-map (below n) suc ∙ below_length n
  where
    below_length : (n : ℕ) → length (below n) ≡ n
    below_length zero = refl
    below_length (suc n) = let q = length-append (below n) (n ∷ []) in let e = below_length n in omega arith

positive : (n : ℕ) → (n ≡ 0 → ⊥) → 1 ≤ n
positive n h = omega arith

module _ (D : Document) (W : Whole D) where
  abbrev u : List Bool
  u = used D

  abbrev k : List Bool
  k = kept D

  abbrev E : Document
  E = trimmed_by u k D

  pub named : Named D
  named = named-lines D W.canonical W.threads W.checks W.outline W.obligations

  pub written : Written D
  written = written_formulas D W.canonical W.threads W.checks W.outline W.obligations

  pub trimming : Trimming u k D
  trimming = record { canonical = W.canonical; closed = nothing_left_out D named written; threads = W.threads; checks = W.checks }

  -- some formula and some line stay: the outline names one, and the first obligation

  points_some : (t : ℕ) → 1 ≤ t → 1 ≤ (point_counts_to (sizes D) (bodies_of D) t).points
  unfolding point_counts_to thread_counts
  points_some zero h = absurd (omega arith)
  points_some (suc t) h = omega arith

  formula_some : 1 ≤ length E.formulas
  unfolding point_counts sizes sizes_of
  formula_some =
      let p = points_some (thread_count D.header) (let n = W.numbered.thread in let e = W.threads in omega arith) in
      let b : 0 < length D.outline = let e = W.outline in omega arith in
      let n : ℕ = get_or D.outline 0 0 in
      let w : Uses D n = outline 0 b in
      let low : 1 ≤ n = (outline_ranged D W.canonical W.threads W.checks W.outline W.obligations 0 b).0 in
      let r = renumbered_low u n low (uses_used D named written n w) in
      let h = Moved.formula_there u k D n (written.there n w) in
      omega arith

  owed_some : 0 < total (image_of (sizes D) (bodies_of D))
  unfolding sizes sizes_of
  owed_some =
      let T : ℕ = thread_count D.header in
      let e : length (map start (up_to T)) ≡ T = length-map (up_to T) start ∙ up_to_length T in
      let rest : List Obligation = steps (program_of (sizes D) (bodies_of D)) ++ interferences (program_of (sizes D) (bodies_of D)) in
      let q : length (map start (up_to T) ++ rest) ≡ length (map start (up_to T)) + length rest = length-append (map start (up_to T)) rest in
      let n = W.numbered.thread in
      let w = W.threads in
      omega arith

  line_some : EachMet (image_of (sizes D) (bodies_of D)) → 1 ≤ length E.lines
  unfolding obligation_count sizes sizes_of
  line_some met =
      let b : 0 < length D.obligations = let e = W.obligations in let n = W.numbered.thread in let w = W.threads in omega arith in
      let n : ℕ = get_or D.obligations 0 0 in
      let e : named_line (sizes D) (bodies_of D) 0 ≡ n = named_said D W.canonical W.threads W.obligations 0 in
      let there = (met 0 owed_some).there in
      let low : 1 ≤ n = positive n (λ q. there (e ∙ q)) in
      let h = rests_kept D named n (obligation 0 b) in
      let r = renumbered_low k n low h.1 in
      let m = Moved.line_there u k D n h.0 in
      omega arith

  -- as records

  framable : Each Framable [] (bodies_of E)
  unfolding nth sizes sizes_of record_count
  framable =
      rw (bodies_are E)
      (each_cons Framable [] D.header (E.formulas ++ from_threads E) header
      (each_append Framable [] E.formulas (from_threads E) (selected_each Framable [] u D.formulas formulas)
      (each_append Framable [] (map thread_bytes E.threads) (from_outline E)
      (each_map Framable [] ThreadFits [] thread_bytes (λ l c. thread_short l c) E.threads C.threads)
      (each_cons Framable [] (number_bytes E.outline) (from_lines E) (list E.outline D.outline (Moved.outline_length u k D) outlines)
      (each_append Framable [] (map line_bytes E.lines) (from_obligations E)
      (each_map Framable [] LineFits no_line line_bytes (λ v c. line_short v c) E.lines C.lines)
      (each_cons Framable [] (number_bytes E.obligations) (from_claims E)
      (list E.obligations D.obligations (Moved.obligations_length u k D) owed)
      (each_map Framable [] ClaimFits no_claim claim_bytes (λ c f. claim_short c) E.claims C.claims)))))))
    where
      C : Canonical E
      C = canonical_kept u k D W.canonical

      many : length (bodies_of D) ≡ 3 + length D.formulas + thread_count D.header + length D.lines + length D.claims
      many = bodies_length D W.threads

      header : Framable D.header
      header = subst Framable (header_at D W.threads) (W.framable 0 (let q = many in omega arith))

      formulas : Each Framable [] D.formulas
      formulas i b = subst Framable (formula-at D W.threads (suc i) (omega arith) (omega arith))
          (W.framable (suc i) (let q = many in omega arith))

      -- as many numbers
      list : (a d : List ℕ) → length a ≡ length d → Framable (number_bytes d) → Framable (number_bytes a)
      list a d e h = let p = numbers_size a in let q = numbers_size d in omega arith

      outlines : Framable (number_bytes D.outline)
      outlines = subst Framable (outline-at D W.threads)
          (W.framable (length D.formulas + thread_count D.header + 1) (let q = many in omega arith))

      owed : Framable (number_bytes D.obligations)
      owed = subst Framable (obligations_at D W.threads)
          (W.framable (length D.formulas + thread_count D.header + 1 + length D.lines + 1) (let q = many in omega arith))

  pub encodable : EachMet (image_of (sizes D) (bodies_of D)) → Encodable E (threads_kept trimming)
  encodable met = record {
    numbered = record {
      formula = formula_some;
      formulas = let q = selected_few u D.formulas in let h = W.numbered.formulas in omega arith;
      thread = let q = Moved.threads_length u k D in let h = W.numbered.thread in omega arith;
      threads = let q = Moved.threads_length u k D in let h = W.numbered.threads in omega arith;
      line = line_some met;
      lines = let q = Moved.lines_length u k D in let w = selected_few k D.lines in let h = W.numbered.lines in omega arith;
      claims = let q = Moved.claims_length u k D in let h = W.numbered.claims in omega arith;
    };
    framable = framable;
    few = let q = trimmed_and_left u k D in let h = W.few in omega arith;
    sound = trimmed_sound trimming;
  }
