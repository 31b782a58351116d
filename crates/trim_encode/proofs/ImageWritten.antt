-- What is written is the trimmed document's bytes.
use mathlib.Core.Path.{◌≡◌, refl, ap, sym, ◌∙◌, fun_ext}
use mathlib.Core.Bool.{Bool, false, cond}
use mathlib.Core.List.{List, [], ◌++◌, map}
use Prim.Native.Nat.{ℕ, ◌+◌, ◌≤◌}
use native.Mathlib.Omega.{arith}
use lib.ListN.{length, get_or, drop}
use Rattle.logic.specs.Obligations.{flat}
use Rattle.limits.specs.Numbers.{numbers}
use Rattle.image_frames.specs.Kinds as Kinds
use Rattle.image_header.specs.Thread.{instructions}
use Rattle.image_header.specs.declared.sizes.Sizes.{Sizes}
use Rattle.image_header.specs.declared.instruction.Instruction.{Instruction}
use Rattle.image.specs.Decode.{record_count}
use Rattle.image_meaning.proofs.Sums.{flat_append}
use Rattle.trim_spec.specs.Document.{Document, ClaimRecord}
use Rattle.trim_spec.specs.Encode.{framed, entry, entries, itself, thread_bytes, number_bytes, line_bytes, claim_bytes, entries_of, encode}
use Rattle.trim_spec.specs.Parse.{line_record, claim_record, part, document_of}
use Rattle.trim_spec.specs.Live.{chosen, selected, renumbered, new_numbers}
use Rattle.trim_spec.specs.Trim.{half_by, instruction_by, line_by, claim_by, trimmed_by}
use Rattle.trim_encode.specs.Pieces.{joined}
use Rattle.trim_encode.specs.Records.{renewed_body, record_bytes, record_piece, live_piece, list_bytes}
use Rattle.trim_encode.specs.Renumbered.{renewed, renewed_instruction, renewed_line, renewed_claim}
use Rattle.trim_encode.specs.WholeImage.{formulas_bytes, threads_bytes, outline_bytes, lines_bytes, obligations_bytes, claims_bytes}
use Rattle.trim_encode.specs.WholeImage.{whole_bytes}
use Rattle.trim_encode.proofs.FlatPieces.{flat_map, chosen_map, joined_part, joined_kept}
use Rattle.trim_encode.proofs.NumberTables.{renewed_new}

-- an instruction names no line, a claim no formula
instruction-by : (a b c : ℕ → ℕ) (i : Instruction) → instruction_by a b i ≡ instruction_by a c i
unfolding instruction_by half_by
instruction-by a b c i = refl

claim-by : (a b c : ℕ → ℕ) (v : ClaimRecord) → claim_by a c v ≡ claim_by b c v
unfolding claim_by
claim-by a b c v = refl

-- the tables f and g renew as a and c say; l are the bodies of all records
module _ (f g : List ℕ) (a c : ℕ → ℕ) (ef : renewed f ≡ a) (eg : renewed g ≡ c) (l : List (List ℕ)) where
  thread-body : (b : List ℕ) → renewed_body f g Kinds.thread b ≡ thread_bytes (map (instruction_by a c) (instructions b))
  unfolding renewed_body renewed_instruction
  thread-body b =
      ap (λ h. thread_bytes (map (λ i. instruction_by h h i) (instructions b))) ef
      ∙ ap (λ h. thread_bytes (map h (instructions b))) (fun_ext (instruction-by a a c))

  line-body : (b : List ℕ) → renewed_body f g Kinds.line b ≡ line_bytes (line_by a c (line_record b))
  unfolding renewed_body renewed_line
  line-body b = rw (ef, eg)

  claim-body : (b : List ℕ) → renewed_body f g Kinds.claim b ≡ claim_bytes (claim_by a c (claim_record b))
  unfolding renewed_body renewed_claim
  claim-body b = rw eg (ap claim_bytes (claim-by c a c (claim_record b)))

  header_are : record_bytes f g l Kinds.header 0 ≡ framed (entry Kinds.header (get_or l 0 []))
  unfolding record_bytes renewed_body
  header_are = refl

  list_are : (t : List ℕ) (d : ℕ → ℕ) → renewed t ≡ d → (k n m : ℕ)
      → list_bytes t l k n m ≡ framed (entry k (number_bytes (map d (numbers m (get_or l n [])))))
  unfolding list_bytes
  list_are t d e k n m = rw e

  module _ (n m : ℕ) (there : n + m ≤ length l) where
    formulas_are : (u : List Bool)
        → joined (live_piece f g l u Kinds.formula n) m ≡ flat framed (entries Kinds.formula itself (selected u (part n m l)))
    unfolding live_piece record_bytes renewed_body selected
    formulas_are u =
        joined_kept (λ b. framed (entry Kinds.formula b)) [] l n m (live_piece f g l u Kinds.formula n) there u (λ i. refl)
        ∙ sym (flat_map (λ b. entry Kinds.formula b) framed (chosen (drop 1 u) (part n m l)))

    threads_are : joined (record_piece f g l Kinds.thread n) m
        ≡ flat framed (entries Kinds.thread thread_bytes (map (λ b. map (instruction_by a c) b) (map instructions (part n m l))))
    unfolding record_piece record_bytes
    threads_are =
        joined_part (λ b. framed (entry Kinds.thread (thread_bytes (map (instruction_by a c) (instructions b))))) [] l n m
        (record_piece f g l Kinds.thread n) there
        (λ i. ap (λ b. framed (entry Kinds.thread b)) (thread-body (get_or l (n + i) [])))
        ∙ sym (flat_map (λ x. entry Kinds.thread (thread_bytes x)) framed
        (map (λ b. map (instruction_by a c) b) (map instructions (part n m l)))
        ∙ (flat_map (λ b. map (instruction_by a c) b) (λ x. framed (entry Kinds.thread (thread_bytes x))) (map instructions (part n m l))
        ∙ flat_map instructions (λ b. framed (entry Kinds.thread (thread_bytes (map (instruction_by a c) b)))) (part n m l)))

    lines_are : (k : List Bool) → joined (live_piece f g l k Kinds.line n) m
        ≡ flat framed (entries Kinds.line line_bytes (map (line_by a c) (selected k (map line_record (part n m l)))))
    unfolding live_piece record_bytes selected
    lines_are k =
        joined_kept (λ b. framed (entry Kinds.line (line_bytes (line_by a c (line_record b))))) [] l n m
        (live_piece f g l k Kinds.line n) there k
        (λ i. ap (λ b. cond (get_or k (i + 1) false) (framed (entry Kinds.line b)) []) (line-body (get_or l (n + i) [])))
        ∙ sym (flat_map (λ x. entry Kinds.line (line_bytes x)) framed (map (line_by a c) (chosen (drop 1 k) (map line_record (part n m l))))
        ∙ (flat_map (line_by a c) (λ x. framed (entry Kinds.line (line_bytes x))) (chosen (drop 1 k) (map line_record (part n m l)))
        ∙ (ap (flat (λ x. framed (entry Kinds.line (line_bytes (line_by a c x))))) (chosen_map line_record (drop 1 k) (part n m l))
        ∙ flat_map line_record (λ x. framed (entry Kinds.line (line_bytes (line_by a c x)))) (chosen (drop 1 k) (part n m l)))))

    claims_are : joined (record_piece f g l Kinds.claim n) m
        ≡ flat framed (entries Kinds.claim claim_bytes (map (claim_by a c) (map claim_record (part n m l))))
    unfolding record_piece record_bytes
    claims_are =
        joined_part (λ b. framed (entry Kinds.claim (claim_bytes (claim_by a c (claim_record b))))) [] l n m
        (record_piece f g l Kinds.claim n) there
        (λ i. ap (λ b. framed (entry Kinds.claim b)) (claim-body (get_or l (n + i) [])))
        ∙ sym (flat_map (λ x. entry Kinds.claim (claim_bytes x)) framed (map (claim_by a c) (map claim_record (part n m l)))
        ∙ (flat_map (claim_by a c) (λ x. framed (entry Kinds.claim (claim_bytes x))) (map claim_record (part n m l))
        ∙ flat_map claim_record (λ x. framed (entry Kinds.claim (claim_bytes (claim_by a c x)))) (part n m l)))

-- record by record
encode_is : (D : Document) → encode D
    ≡ framed (entry Kinds.header D.header)
    ++ (flat framed (entries Kinds.formula itself D.formulas)
    ++ (flat framed (entries Kinds.thread thread_bytes D.threads)
    ++ (framed (entry Kinds.outline (number_bytes D.outline))
    ++ (flat framed (entries Kinds.line line_bytes D.lines)
    ++ (framed (entry Kinds.obligations (number_bytes D.obligations))
    ++ flat framed (entries Kinds.claim claim_bytes D.claims))))))
unfolding encode entries_of
encode_is D = simp flat_append

module _ (z : Sizes) (l : List (List ℕ)) (u k : List Bool) (f g : List ℕ) (ef : f ≡ new_numbers u) (eg : g ≡ new_numbers k)
    (el : length l ≡ record_count z) where
  by_f : renewed f ≡ renumbered u
  by_f = ap renewed ef ∙ renewed_new u

  by_g : renewed g ≡ renumbered k
  by_g = ap renewed eg ∙ renewed_new k

  count : 3 + z.formulas + z.threads + z.lines + z.claims ≤ length l
  unfolding record_count
  count = omega arith

  abbrev trimmed : Document
  trimmed = trimmed_by u k (document_of z l)

  formulas_so : formulas_bytes z f g l u ≡ flat framed (entries Kinds.formula itself trimmed.formulas)
  unfolding formulas_bytes document_of
  formulas_so = let h = count in formulas_are f g (renumbered u) (renumbered k) by_f by_g l 1 z.formulas (omega arith) u

  threads_so : threads_bytes z f g l ≡ flat framed (entries Kinds.thread thread_bytes trimmed.threads)
  unfolding threads_bytes document_of
  threads_so = let h = count in threads_are f g (renumbered u) (renumbered k) by_f by_g l (z.formulas + 1) z.threads (omega arith)

  outline_so : outline_bytes z f l ≡ framed (entry Kinds.outline (number_bytes trimmed.outline))
  unfolding outline_bytes document_of
  outline_so = list_are f g (renumbered u) (renumbered k) by_f by_g l f (renumbered u) by_f Kinds.outline (z.formulas + z.threads + 1) _

  lines_so : lines_bytes z f g l k ≡ flat framed (entries Kinds.line line_bytes trimmed.lines)
  unfolding lines_bytes document_of
  lines_so =
      let h = count in lines_are f g (renumbered u) (renumbered k) by_f by_g l (z.formulas + z.threads + 2) z.lines (omega arith) k

  obligations_so : obligations_bytes z g l ≡ framed (entry Kinds.obligations (number_bytes trimmed.obligations))
  unfolding obligations_bytes document_of
  obligations_so =
      list_are f g (renumbered u) (renumbered k) by_f by_g l g (renumbered k) by_g Kinds.obligations
      (z.formulas + z.threads + 1 + z.lines + 1) _

  claims_so : claims_bytes z f g l ≡ flat framed (entries Kinds.claim claim_bytes trimmed.claims)
  unfolding claims_bytes document_of
  claims_so =
      let h = count in
      claims_are f g (renumbered u) (renumbered k) by_f by_g l (z.formulas + z.threads + 1 + z.lines + 2) z.claims (omega arith)

  header_so : record_bytes f g l Kinds.header 0 ≡ framed (entry Kinds.header trimmed.header)
  unfolding document_of
  header_so = header_are f g (renumbered u) (renumbered k) by_f by_g l

  pub whole_encodes : whole_bytes z f g l u k ≡ encode (trimmed_by u k (document_of z l))
  unfolding whole_bytes
  whole_encodes = rw (header_so, formulas_so, threads_so, outline_so, lines_so, obligations_so, claims_so, encode_is trimmed)
