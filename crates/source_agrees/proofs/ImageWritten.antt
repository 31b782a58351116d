-- A sound image is written by the source of its document.
use mathlib.Core.Path.{◌≡◌, refl, ap, sym, ◌∙◌, subst}
use mathlib.Core.Bool.{Bool, true, ◌&&◌}
use mathlib.Core.List.{List, [], ◌∷◌, ◌++◌, map, map-append, append_assoc}
use Prim.Native.Nat.{ℕ, zero, suc, ◌+◌, ◌-◌, ◌≤◌, ◌<◌}
use native.Mathlib.Omega.{arith}
use lib.ListN.{length, get_or, take, drop, length-map, length-take}
use lib.Seq.{take-suc, get_or-drop}
use borrow.Author.Tests.{eqb-true}
use Rattle.logic.specs.Obligations.{flat}
use Rattle.limits.specs.Numbers.{within, every}
use Rattle.limits.specs.Limits as Limits
use Rattle.limits.proofs.PassedTests.{and_true, every_at}
use Rattle.image_frames.specs.Kinds as Kinds
use Rattle.image_frames.specs.Records.{bodies}
use Rattle.formula.specs.Reader.{sort_of}
use Rattle.image_bodies.specs.FormulaBody.{counts_of}
use Rattle.formula_trees.proofs.ReadableBody.{reading_bytes}
use Rattle.image_header.specs.Header as Header
use Rattle.image_header.specs.Header.{thread_count, value_range, start_values, owners, marks, header_size, headed, header}
use Rattle.image_header.specs.Instruction.{ranged}
use Rattle.image_header.specs.declared.sizes.Sizes.{Sizes}
use Rattle.image_header.specs.declared.instruction.Instruction.{Instruction as Coded}
use Rattle.image_header.specs.Thread.{nothing, last_point, instructions, thread_numbers, numbered}
use Rattle.image_header.proofs.ThreadBranches.{instructions_length}
use Rattle.image_bodies.specs.RecordPlaces.{thread_body}
use Rattle.image_bodies.specs.PointCounts.{point_counts_to, point_counts, thread_counts}
use Rattle.image_bodies.specs.ThreadBody as Threads
use Rattle.image.specs.Decode.{sizes_of, decoded}
use Rattle.image_meaning.proofs.Sums.{flat_append}
use Rattle.image_meaning.proofs.PassedChecks.{unless_passed, also_passed}
use Rattle.image_meaning.proofs.RecordsChecked.{Checks, header_passed, thread_passed}
use Rattle.image_meaning.proofs.FormulaSorts.{formula_read}
use Rattle.trim_spec.specs.Document.{Document}
use Rattle.trim_spec.specs.Canonical.{Bytes, Short, Each, LineFits, ClaimFits, no_line, no_claim}
use Rattle.trim_spec.specs.Framed.{Framable}
use Rattle.trim_spec.specs.Encode.{entry, entries, entries_of, itself, thread_bytes, number_bytes, line_bytes, claim_bytes, encode}
use Rattle.trim_spec.specs.Encode as Encode
use Rattle.trim_spec.specs.Parse.{document_of, part}
use Rattle.trim_spec.proofs.EachMember.{part_each, each_map, each_tail}
use Rattle.trim_spec.proofs.BodyPlaces.{map_itself, bodies_are, from_threads, from_outline, from_lines, from_obligations, from_claims}
use Rattle.trim_spec.proofs.DocumentInverse.{Documented, documented}
use Rattle.source.specs.Written as W
use Rattle.source.specs.Written.{written}
use Rattle.source.proofs.PrefixForm.{formula_encode}
use Rattle.source_agrees.specs.SourceOf.{listed_of, threads_of, line_of, claim_of, source_of}
use Rattle.source_agrees.proofs.DocumentWritten.{twos_same, line_same, claim_same, framed_same, alike, mapped, total, outline_same, threads_same}
use Rattle.source_agrees.proofs.HeaderWritten.{header_same}
use Rattle.std.specs.Prelude.{Ok}

each_left : {A : Type 0} (F : A → Type 0) (d : A) (l m : List A) → Each F d (l ++ m) → Each F d l
each_left F d [] m h i b = absurd (omega arith)
each_left F d (x ∷ l) m h zero b = h 0 (omega arith)
each_left F d (x ∷ l) m h (suc i) b = each_left F d l m (λ j c. h (suc j) (omega arith)) i (omega arith)

each_right : {A : Type 0} (F : A → Type 0) (d : A) (l m : List A) → Each F d (l ++ m) → Each F d m
each_right F d [] m h = h
each_right F d (x ∷ l) m h = each_right F d l m (λ j c. h (suc j) (omega arith))

total_append : (r q : List (List Coded)) → total (r ++ q) ≡ total r + total q
unfolding total
total_append [] q = omega arith
total_append (is ∷ r) q = let e = total_append r q in omega arith

pub threads_length : (r : List (List Coded)) (os : List ℕ) → length (threads_of r os) ≡ length r
unfolding threads_of
threads_length [] os = refl
threads_length (is ∷ r) os = ap suc (threads_length r _)

right : (a b c d e f g : List ℕ) → a ++ b ++ c ++ d ++ e ++ f ++ g ≡ a ++ (b ++ (c ++ (d ++ (e ++ (f ++ g)))))
right a b c d e f g = simp append_assoc

encode_is : (D : Document) → encode D
    ≡ Encode.framed (entry Kinds.header D.header)
    ++ (flat Encode.framed (entries Kinds.formula itself D.formulas)
    ++ (flat Encode.framed (entries Kinds.thread thread_bytes D.threads)
    ++ (Encode.framed (entry Kinds.outline (number_bytes D.outline))
    ++ (flat Encode.framed (entries Kinds.line line_bytes D.lines)
    ++ (Encode.framed (entry Kinds.obligations (number_bytes D.obligations))
    ++ flat Encode.framed (entries Kinds.claim claim_bytes D.claims))))))
unfolding encode entries_of
encode_is D = simp flat_append

short : (n : ℕ) → n < 9 → Short n
short n h = omega arith

module _ (s : List ℕ) (z : Sizes) (bs : Bytes s) (ok : decoded s ≡ Ok z) where
  abbrev pub l : List (List ℕ)
  l = bodies s

  abbrev pub D : Document
  D = document_of z l

  pub doc : Documented s z
  doc = documented s z bs ok

  pub c : Checks z l
  c = doc.checks

  all_framable : Each Framable [] (D.header ∷ (D.formulas ++ from_threads D))
  all_framable = subst (Each Framable []) (sym doc.describes.body ∙ bodies_are D) doc.framable

  formulas_written : map W.formula (map listed_of D.formulas) ≡ map itself D.formulas
  unfolding document_of listed_of
  formulas_written =
      mapped (λ (b : List ℕ). W.formula (listed_of b) ≡ b) [] W.formula itself listed_of (λ x h. h) D.formulas
      (part_each (λ (b : List ℕ). W.formula (listed_of b) ≡ b) [] 1 z.formulas l (λ k b.
      formula_encode (listed_of (get_or l (1 + k) [])) ∙ sym (reading_bytes (get_or l (1 + k) []) (counts_of z) (sort_of (get_or l (1 + k) []))
      (formula_read z l c (1 + k) (omega arith) (omega arith) (sort_of (get_or l (1 + k) [])) refl))))

  thread_ranged : (k : ℕ) → k < z.threads
      → every (ranged (length (instructions (thread_body z l (k + 1)))) z) (instructions (thread_body z l (k + 1))) ≡ true
  unfolding Threads.thread thread_numbers numbered
  thread_ranged k b =
      let p = (also_passed _ _ (thread_passed z l c (k + 1) (omega arith) (omega arith))).0 in
      let q = (unless_passed _ _ _ (unless_passed _ _ _ (unless_passed _ _ _ p).1).1).0 in
      rw (instructions_length (thread_body z l (k + 1)))
      (and_true (within 1 Limits.points (get_or (thread_body z l (k + 1)) 0 0))
      (every (ranged (last_point (thread_body z l (k + 1))) z) (instructions (thread_body z l (k + 1)))) q).1

  abbrev pub Ranged : List Coded → Type 0
  Ranged is = every (ranged (length is) z) is ≡ true

  pub all_ranged : Each Ranged [] D.threads
  unfolding document_of thread_body
  all_ranged =
      each_map Ranged [] (λ (b : List ℕ). Ranged (instructions b)) [] instructions (λ x h. h) (part (z.formulas + 1) z.threads l)
      (part_each (λ (b : List ℕ). Ranged (instructions b)) [] (z.formulas + 1) z.threads l (λ k b.
      let q : z.formulas + 1 + k ≡ z.formulas + (k + 1) = omega arith in
      rw q (thread_ranged k b)))

  threads_written : map W.thread (threads_of D.threads D.outline) ≡ map thread_bytes D.threads
  threads_written = threads_same z D.threads D.outline (λ i b k q. (
    every_at (ranged (length (get_or D.threads i [])) z) (get_or D.threads i []) k nothing (all_ranged i b) q,
    (doc.describes.canonical.threads i b).each k q,
  ))

  abbrev pub from : List (List ℕ)
  from = drop (z.formulas + 1) l

  pub many : z.threads ≤ length from
  unfolding document_of sizes_of
  many =
      let a = ap (λ (y : Sizes). y.threads) c.sizes in
      let b = doc.describes.threads in
      let d = length-map (take z.threads from) instructions in
      let e = length-take z.threads from in
      omega (arith, a, b, d, e)

  pub tallied : (n : ℕ) → n ≤ z.threads → (point_counts_to z l n).points ≡ total (map instructions (take n from))
  unfolding point_counts_to thread_counts thread_body total
  tallied zero h = refl
  tallied (suc n) h =
      let x : List ℕ = get_or from n [] in
      let e : total (map instructions (take (suc n) from)) ≡ total (map instructions (take n from)) + (length (instructions x) + 1 + 0) =
      ap (λ (m : List (List ℕ)). total (map instructions m)) (take-suc from n [] (omega (arith, many)))
      ∙ ap total (map-append instructions (take n from) (x ∷ []))
      ∙ total_append (map instructions (take n from)) (instructions x ∷ []) in
      let q : z.formulas + 1 + n ≡ z.formulas + suc n = omega arith in
      let g : x ≡ thread_body z l (suc n) = get_or-drop (z.formulas + 1) l n [] ∙ ap (λ (k : ℕ). get_or l k []) q in
      let i : length (instructions x) ≡ last_point (thread_body z l (suc n)) = instructions_length x ∙ ap last_point g in
      omega (arith, e, i, tallied n (omega arith))

  pub points_total : length D.outline ≡ total D.threads
  unfolding document_of point_counts
  points_total = doc.describes.outline ∙ tallied z.threads (omega arith)

  pub header_written : W.header (source_of D) ≡ D.header
  unfolding W.header source_of header headed document_of
  header_written =
      let h : List ℕ = get_or l 0 [] in
      let p = unless_passed _ _ _ (header_passed z l c) in
      let q = unless_passed _ _ _ p.1 in
      let r = (unless_passed _ _ _ q.1).0 in
      let o : Bool = every (within 1 (thread_count h)) (owners h) in
      let w : Bool = every (within 0 1) (marks h) in
      let v : Bool = every (within 0 (value_range h - 1)) (start_values h) in
      let m = (and_true o w (and_true v (o && w) (and_true (Header.counted c.counted h) (v && (o && w)) r).1).1).1 in
      rw (threads_length D.threads D.outline, ← doc.describes.threads)
      (header_same h p.0 (eqb-true (length h) (header_size h) q.0) m)

  outline_written : W.outline (source_of D) ≡ number_bytes D.outline
  unfolding W.outline source_of
  outline_written =
      ap (flat W.two) (outline_same D.threads D.outline points_total)
      ∙ twos_same D.outline doc.describes.canonical.outline

  obligations_written : W.obligations (source_of D) ≡ number_bytes D.obligations
  unfolding W.obligations source_of
  obligations_written = twos_same D.obligations doc.describes.canonical.obligations

  pub written_document : written (source_of D) ≡ s
  unfolding written source_of
  written_document =
      let k = doc.describes.canonical in
      let f1 = each_tail Framable [] D.header (D.formulas ++ from_threads D) all_framable in
      let f2 = each_right Framable [] D.formulas (from_threads D) f1 in
      let f3 = each_right Framable [] (map thread_bytes D.threads) (from_outline D) f2 in
      let f4 = each_tail Framable [] (number_bytes D.outline) (from_lines D) f3 in
      let f5 = each_right Framable [] (map line_bytes D.lines) (from_obligations D) f4 in
      let f6 = each_tail Framable [] (number_bytes D.obligations) (from_claims D) f5 in
      let p1 = ap (W.framed 1) header_written ∙ framed_same 1 D.header (short 1 (omega arith)) (all_framable 0 (omega arith)) in
      let p2 = alike 2 W.formula itself (map listed_of D.formulas) D.formulas formulas_written (short 2 (omega arith))
      (subst (Each Framable []) (sym (map_itself D.formulas)) (each_left Framable [] D.formulas (from_threads D) f1)) in
      let p3 = alike 3 W.thread thread_bytes (threads_of D.threads D.outline) D.threads threads_written (short 3 (omega arith))
      (each_left Framable [] (map thread_bytes D.threads) (from_outline D) f2) in
      let p4 = ap (W.framed 4) outline_written ∙ framed_same 4 (number_bytes D.outline) (short 4 (omega arith)) (f3 0 (omega arith)) in
      let p5 = alike 5 W.line line_bytes (map line_of D.lines) D.lines
      (mapped LineFits no_line W.line line_bytes line_of line_same D.lines k.lines) (short 5 (omega arith))
      (each_left Framable [] (map line_bytes D.lines) (from_obligations D) f4) in
      let p6 = ap (W.framed 6) obligations_written
      ∙ framed_same 6 (number_bytes D.obligations) (short 6 (omega arith)) (f5 0 (omega arith)) in
      let p7 = alike 8 W.claim claim_bytes (map claim_of D.claims) D.claims
      (mapped ClaimFits no_claim W.claim claim_bytes claim_of claim_same D.claims k.claims) (short 8 (omega arith)) f6 in
      right (W.framed 1 (W.header (source_of D))) (W.each 2 W.formula (map listed_of D.formulas))
      (W.each 3 W.thread (threads_of D.threads D.outline)) (W.framed 4 (W.outline (source_of D))) (W.each 5 W.line (map line_of D.lines))
      (W.framed 6 (W.obligations (source_of D))) (W.each 8 W.claim (map claim_of D.claims))
      ∙ (λ i. p1 i ++ (p2 i ++ (p3 i ++ (p4 i ++ (p5 i ++ (p6 i ++ p7 i))))))
      ∙ sym (encode_is D) ∙ doc.encodes
