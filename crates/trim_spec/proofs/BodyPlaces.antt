-- Which body of a document's records is whose.
use mathlib.Core.Path.{◌≡◌, refl, ap, sym, ◌∙◌}
use mathlib.Core.List.{List, [], ◌∷◌, ◌++◌, map, append-nil, map-append}
use Prim.Native.Nat.{ℕ, ◌+◌, ◌≤◌, ◌<◌}
use native.Mathlib.Omega.{arith}
use lib.ListN.{length, get_or, drop, length-append, length-map}
use Rattle.limits.specs.Numbers.{nth}
use Rattle.image_header.specs.declared.sizes.Sizes.{Sizes}
use Rattle.image_header.specs.Header.{thread_count}
use Rattle.image_bodies.specs.RecordPlaces.{thread_body}
use Rattle.image.specs.Decode.{record_count, sizes_of}
use Rattle.image_meaning.specs.Program.{outline_body}
use Rattle.image_meaning.specs.Certificate.{line_body}
use Rattle.image_meaning.specs.Image.{obligations_body, claim_body}
use Rattle.trim_spec.specs.Document.{Document}
use Rattle.trim_spec.specs.Canonical.{no_line, no_claim}
use Rattle.trim_spec.specs.Encode.{entries, itself, thread_bytes, number_bytes, line_bytes, claim_bytes, entries_of, bodies_of}
use Rattle.trim_spec.specs.Parse.{part, sizes}
use Rattle.trim_spec.proofs.ListParts.{part_is, part_behind, member_is, made_at, made_nth}

-- the number of the first body of each kind, counted from 0; the header's is 0, the first formula's 1
module _ (z : Sizes) where
  abbrev pub threads_start : ℕ
  threads_start = z.formulas + 1

  abbrev pub outline_start : ℕ
  outline_start = z.formulas + z.threads + 1

  abbrev pub lines_start : ℕ
  lines_start = z.formulas + z.threads + 2

  abbrev pub obligations_start : ℕ
  obligations_start = z.formulas + z.threads + 1 + z.lines + 1

  abbrev pub claims_start : ℕ
  claims_start = z.formulas + z.threads + 1 + z.lines + 2

entries_bodies : {A : Type 0} (k : ℕ) (f : A → List ℕ) (l : List A) → map (λ e. e.body) (entries k f l) ≡ map f l
entries_bodies k f [] = refl
entries_bodies k f (x ∷ l) = ap (λ (m : List (List ℕ)). f x ∷ m) (entries_bodies k f l)

pub map_itself : (l : List (List ℕ)) → map itself l ≡ l
map_itself [] = refl
map_itself (b ∷ l) = ap (λ (m : List (List ℕ)). b ∷ m) (map_itself l)

-- the bodies from the first of a kind on
module _ (D : Document) where
  abbrev pub from_claims : List (List ℕ)
  from_claims = map claim_bytes D.claims

  abbrev pub from_obligations : List (List ℕ)
  from_obligations = number_bytes D.obligations ∷ from_claims

  abbrev pub from_lines : List (List ℕ)
  from_lines = map line_bytes D.lines ++ from_obligations

  abbrev pub from_outline : List (List ℕ)
  from_outline = number_bytes D.outline ∷ from_lines

  abbrev pub from_threads : List (List ℕ)
  from_threads = map thread_bytes D.threads ++ from_outline

  pub bodies_are : bodies_of D ≡ D.header ∷ (D.formulas ++ from_threads)
  unfolding bodies_of entries_of
  bodies_are = simp (map-append, entries_bodies, map_itself)

  abbrev z : Sizes
  z = sizes D

  abbrev l : List (List ℕ)
  l = bodies_of D

  -- where they stand
  module _ (same : thread_count D.header ≡ length D.threads) where
    at_formulas : drop 1 l ≡ D.formulas ++ from_threads
    at_formulas = rw bodies_are

    at_threads : drop (threads_start z) l ≡ from_threads
    unfolding sizes sizes_of
    at_threads = part_behind 1 z.formulas l D.formulas from_threads at_formulas refl (threads_start z) (omega arith)

    threads_length : length (map thread_bytes D.threads) ≡ z.threads
    unfolding sizes sizes_of
    threads_length = length-map D.threads thread_bytes ∙ sym same

    at_outline : drop (outline_start z) l ≡ from_outline
    at_outline =
        part_behind (threads_start z) z.threads l (map thread_bytes D.threads) from_outline at_threads threads_length (outline_start z)
        (omega arith)

    at_lines : drop (lines_start z) l ≡ from_lines
    at_lines =
        part_behind (outline_start z) 1 l (number_bytes D.outline ∷ []) from_lines at_outline refl (lines_start z) (omega arith)

    lines_length : length (map line_bytes D.lines) ≡ z.lines
    unfolding sizes sizes_of
    lines_length = length-map D.lines line_bytes

    at_obligations : drop (obligations_start z) l ≡ from_obligations
    at_obligations =
        part_behind (lines_start z) z.lines l (map line_bytes D.lines) from_obligations at_lines lines_length (obligations_start z)
        (omega arith)

    at_claims : drop (claims_start z) l ≡ from_claims
    at_claims =
        part_behind (obligations_start z) 1 l (number_bytes D.obligations ∷ []) from_claims at_obligations refl (claims_start z)
        (omega arith)

    -- the parts
    pub formulas_part : part 1 z.formulas l ≡ D.formulas
    unfolding sizes sizes_of
    formulas_part = part_is 1 z.formulas l D.formulas from_threads at_formulas refl

    pub threads_part : part (threads_start z) z.threads l ≡ map thread_bytes D.threads
    threads_part = part_is (threads_start z) z.threads l (map thread_bytes D.threads) from_outline at_threads threads_length

    pub lines_part : part (lines_start z) z.lines l ≡ map line_bytes D.lines
    lines_part = part_is (lines_start z) z.lines l (map line_bytes D.lines) from_obligations at_lines lines_length

    claims_alone : drop (claims_start z) l ≡ from_claims ++ []
    claims_alone = at_claims ∙ sym (append-nil from_claims)

    pub claims_part : part (claims_start z) z.claims l ≡ map claim_bytes D.claims
    unfolding sizes sizes_of
    claims_part = part_is (claims_start z) z.claims l from_claims [] claims_alone (length-map D.claims claim_bytes)

    -- the bodies
    pub header_at : get_or l 0 [] ≡ D.header
    header_at = rw bodies_are

    pub formula-at : (k : ℕ) → 1 ≤ k → k ≤ length D.formulas → get_or l k [] ≡ nth D.formulas k []
    formula-at k a b = made_nth itself D.formulas [] 1 l from_threads [] (rw map_itself at_formulas) k k a b (omega arith)

    pub thread-at : (t : ℕ) → 1 ≤ t → t ≤ length D.threads → thread_body z l t ≡ thread_bytes (nth D.threads t [])
    unfolding thread_body
    thread-at t a b =
        made_nth thread_bytes D.threads [] (threads_start z) l from_outline [] at_threads t (z.formulas + t) a b (omega arith)

    pub outline-at : outline_body z l ≡ number_bytes D.outline
    outline-at = member_is (outline_start z) l (number_bytes D.outline) from_lines [] at_outline

    pub line_at : (n : ℕ) → 1 ≤ n → n ≤ length D.lines → line_body z l n ≡ line_bytes (nth D.lines n no_line)
    unfolding line_body
    line_at n a b =
        made_nth line_bytes D.lines no_line (lines_start z) l from_obligations [] at_lines n (outline_start z + n) a b (omega arith)

    pub obligations_at : obligations_body z l ≡ number_bytes D.obligations
    obligations_at = member_is (obligations_start z) l (number_bytes D.obligations) from_claims [] at_obligations

    pub claim-at : (i : ℕ) → i < length D.claims → claim_body z l i ≡ claim_bytes (get_or D.claims i no_claim)
    unfolding claim_body
    claim-at i b = made_at claim_bytes D.claims no_claim (claims_start z) l [] [] claims_alone i (claims_start z + i) b refl

    pub bodies_length : length l ≡ record_count z
    unfolding record_count sizes sizes_of
    bodies_length = rw bodies_are (simp (length-append, length-map) (omega arith))
