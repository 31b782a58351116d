-- The length of the trimmed image: what stays has as many bytes as before.
use mathlib.Core.Path.{◌≡◌, refl, ap, ap₂, sym, ◌∙◌}
use mathlib.Core.Bool.{Bool, true, false, cond}
use mathlib.Core.List.{List, [], ◌∷◌, ◌++◌, map}
use Prim.Native.Nat.{ℕ, suc, ◌+◌, ◌-◌, ◌*◌, ◌≤◌, ◌<◌}
use native.Mathlib.Omega.{arith}
use lib.ListN.{length, get_or, drop, length-append}
use Rattle.logic.specs.Obligations.{flat}
use Rattle.limits.specs.Limits as Limits
use Rattle.image_frames.specs.Records.{bodies}
use Rattle.image_frames.specs.Kinds as Kinds
use Rattle.limits.specs.Numbers.{numbers}
use Rattle.limits.proofs.Numbers.{numbers_length}
use Rattle.image_header.specs.Instruction.{twofold}
use Rattle.image_header.specs.declared.sizes.Sizes.{Sizes}
use Rattle.image_header.specs.declared.instruction.Instruction.{Instruction}
use Rattle.image_bodies.specs.Line.{premises, line_size}
use Rattle.image.specs.Decode.{record_count}
use Rattle.image_meaning.specs.Certificate.{line_body}
use Rattle.trim_spec.specs.Document.{Document, LineRecord, ClaimRecord}
use Rattle.trim_spec.specs.Encode.{Entry, framed, entry, entries, itself, entries_of, encode}
use Rattle.trim_spec.specs.Encode.{half_bytes, instruction_bytes, thread_bytes, number_bytes, line_bytes, claim_bytes}
use Rattle.trim_spec.specs.Parse.{line_record, part, document_of}
use Rattle.trim_spec.specs.Live.{chosen, selected, renumbered, kept, used}
use Rattle.trim_spec.specs.Trim.{half_by, instruction_by, line_by, claim_by, trimmed_by, trim}
use Rattle.trim_encode.specs.LeftOutBytes.{left_one, left_out, left_behind, Lengths}
use Rattle.trim_encode.proofs.LeftOutBranches.{one_stays, one_left, one_short, behind_start}
use Rattle.trim_encode.proofs.DocumentBodies.{part_at, part_length}

-- THE BYTES OF RECORDS, whose bodies have such lengths

unfoldable pub total : {A : Type 0} → (A → ℕ) → List A → ℕ
total f [] = 0
total f (x ∷ l) = f x + 4 + total f l

total_map : {A B : Type 0} (g : A → B) (f : B → ℕ) (h : A → ℕ) → ((x : A) → f (g x) ≡ h x) → (l : List A) → total f (map g l) ≡ total h l
unfolding total
total_map g f h e [] = refl
total_map g f h e (x ∷ l) = ap₂ (λ (a b : ℕ). a + 4 + b) (e x) (total_map g f h e l)

-- with a mark, or left out
total_split : {A : Type 0} (f : A → ℕ) (m : List Bool) (l : List A) → total f (chosen m l) + left_out m (map f l) ≡ total f l
unfolding total chosen left_out left_one
total_split f [] [] = refl
total_split f (b ∷ m) [] = refl
total_split f [] (x ∷ l) = let h = total_split f [] l in omega arith
total_split f (true ∷ m) (x ∷ l) = let h = total_split f m l in omega arith
total_split f (false ∷ m) (x ∷ l) = let h = total_split f m l in omega arith

framed_length : (e : Entry) → length (framed e) ≡ length e.body + 4
unfolding framed
framed_length e = omega arith

flat_length : (a b : List Entry) → length (flat framed (a ++ b)) ≡ length (flat framed a) + length (flat framed b)
flat_length [] b = omega arith
flat_length (e ∷ a) b =
    rw (length-append (framed e) (flat framed (a ++ b)), length-append (framed e) (flat framed a), flat_length a b) (omega arith)

entries_length : {A : Type 0} (k : ℕ) (f : A → List ℕ) (l : List A) → length (flat framed (entries k f l)) ≡ total (λ x. length (f x)) l
unfolding total
entries_length k f [] = refl
entries_length k f (x ∷ l) =
    length-append (framed (entry k (f x))) (flat framed (entries k f l)) ∙ ap₂ ◌+◌ (framed_length (entry k (f x))) (entries_length k f l)

-- the lengths of bodies
abbrev thread_length : List Instruction → ℕ
thread_length l = length (thread_bytes l)

abbrev pub line_length : LineRecord → ℕ
line_length v = length (line_bytes v)

abbrev claim_length : ClaimRecord → ℕ
claim_length c = length (claim_bytes c)

encode_length : (D : Document) → length (encode D) ≡
    length D.header + 4
    + (total length D.formulas
    + (total thread_length D.threads
    + (length (number_bytes D.outline) + 4
    + (total line_length D.lines
    + (length (number_bytes D.obligations) + 4
    + total claim_length D.claims)))))
unfolding encode entries_of
encode_length D =
    first Kinds.header D.header behind_header
    ∙ ap (λ (n : ℕ). length D.header + 4 + n)
    (flat_length (entries Kinds.formula itself D.formulas) behind_formulas
    ∙ ap₂ ◌+◌ (entries_length Kinds.formula itself D.formulas)
    (flat_length (entries Kinds.thread thread_bytes D.threads) behind_threads
    ∙ ap₂ ◌+◌ (entries_length Kinds.thread thread_bytes D.threads)
    (first Kinds.outline (number_bytes D.outline) behind_outline
    ∙ ap (λ (n : ℕ). length (number_bytes D.outline) + 4 + n)
    (flat_length (entries Kinds.line line_bytes D.lines) behind_lines
    ∙ ap₂ ◌+◌ (entries_length Kinds.line line_bytes D.lines)
    (first Kinds.obligations (number_bytes D.obligations) (entries Kinds.claim claim_bytes D.claims)
    ∙ ap (λ (n : ℕ). length (number_bytes D.obligations) + 4 + n) (entries_length Kinds.claim claim_bytes D.claims))))))
  where
    first : (k : ℕ) (b : List ℕ) (l : List Entry) → length (flat framed (entry k b ∷ l)) ≡ length b + 4 + length (flat framed l)
    first k b l =
        length-append (framed (entry k b)) (flat framed l) ∙ ap (λ (n : ℕ). n + length (flat framed l)) (framed_length (entry k b))

    behind_lines : List Entry
    behind_lines = entry Kinds.obligations (number_bytes D.obligations) ∷ entries Kinds.claim claim_bytes D.claims

    behind_outline : List Entry
    behind_outline = entries Kinds.line line_bytes D.lines ++ behind_lines

    behind_threads : List Entry
    behind_threads = entry Kinds.outline (number_bytes D.outline) ∷ behind_outline

    behind_formulas : List Entry
    behind_formulas = entries Kinds.thread thread_bytes D.threads ++ behind_threads

    behind_header : List Entry
    behind_header = entries Kinds.formula itself D.formulas ++ behind_formulas

-- OTHER NUMBERS, AS MANY BYTES

numbers_by : (f : ℕ → ℕ) (l : List ℕ) → length (number_bytes (map f l)) ≡ length (number_bytes l)
unfolding number_bytes
numbers_by f [] = refl
numbers_by f (n ∷ l) = ap (λ (k : ℕ). suc (suc k)) (numbers_by f l)

abbrev five : ℕ → ℕ
five n = suc (suc (suc (suc (suc n))))

module _ (f g : ℕ → ℕ) where
  instruction-by : (i : Instruction) → length (instruction_bytes (instruction_by f g i)) ≡ length (instruction_bytes i)
  unfolding instruction_bytes instruction_by half_bytes half_by
  instruction-by i = go (twofold i.operation)
    where
      go : (b : Bool) → five (length (cond b (half_bytes (half_by f g i.second)) [])) ≡ five (length (cond b (half_bytes i.second) []))
      go true = refl
      go false = refl

  thread_by : (l : List Instruction) → length (thread_bytes (map (instruction_by f g) l)) ≡ length (thread_bytes l)
  unfolding thread_bytes
  thread_by l = ap suc (go l)
    where
      go : (l : List Instruction) → length (flat instruction_bytes (map (instruction_by f g) l)) ≡ length (flat instruction_bytes l)
      go [] = refl
      go (i ∷ l) =
          length-append (instruction_bytes (instruction_by f g i)) (flat instruction_bytes (map (instruction_by f g) l))
          ∙ ap₂ ◌+◌ (instruction-by i) (go l)
          ∙ sym (length-append (instruction_bytes i) (flat instruction_bytes l))

  line-by : (v : LineRecord) → length (line_bytes (line_by f g v)) ≡ length (line_bytes v)
  unfolding line_bytes line_by
  line-by v = ap (λ (n : ℕ). five (suc (suc (suc n)))) (numbers_by g v.premises)

  claim-by : (c : ClaimRecord) → length (claim_bytes (claim_by f g c)) ≡ length (claim_bytes c)
  unfolding claim_bytes claim_by
  claim-by c = refl

-- WHAT STAYS AND WHAT IS LEFT OUT are all
pub trimmed_and_left : (u k : List Bool) (D : Document)
    → length (encode (trimmed_by u k D)) + (left_out (drop 1 u) (map length D.formulas) + left_out (drop 1 k) (map line_length D.lines))
    ≡ length (encode D)
unfolding selected
trimmed_and_left u k D =
    let f : ℕ → ℕ = renumbered u in
    let g : ℕ → ℕ = renumbered k in
    let before = encode_length D in
    let after = encode_length (trimmed_by u k D) in
    let formulas = total_split length (drop 1 u) D.formulas in
    let threads = total_map (λ l. map (instruction_by f g) l) thread_length thread_length (thread_by f g) D.threads in
    let outline = numbers_by f D.outline in
    let lines = total_map (line_by f g) line_length line_length (line-by f g) (chosen (drop 1 k) D.lines) in
    let split = total_split line_length (drop 1 k) D.lines in
    let obligations = numbers_by g D.obligations in
    let claims = total_map (claim_by f g) claim_length claim_length (claim-by f g) D.claims in
    omega arith

-- THE BODIES HAVE THESE LENGTHS

numbers_long : (l : List ℕ) → length (number_bytes l) ≡ 2 * length l
unfolding number_bytes
numbers_long [] = refl
numbers_long (n ∷ l) = let h = numbers_long l in omega arith

line_long : (b : List ℕ) → line_length (line_record b) ≡ line_size b
unfolding line_bytes line_record line_size premises
line_long b = let p = numbers_long (numbers (get_or b 7 0) (drop 8 b)) in let n = numbers_length (get_or b 7 0) (drop 8 b) in omega arith

map_by : {A B C : Type 0} (f : B → C) (g : A → B) (h : A → C) (d : A) (l : List A)
    → ((i : ℕ) → i < length l → h (get_or l i d) ≡ f (g (get_or l i d)))
    → map h l ≡ map f (map g l)
map_by f g h d [] e = refl
map_by f g h d (x ∷ l) e = ap₂ ◌∷◌ (e 0 (omega arith)) (map_by f g h d l (λ i b. e (suc i) (omega arith)))

module _ (z : Sizes) (s : List ℕ) (y : Lengths z s) where
  abbrev l : List (List ℕ)
  l = bodies s

  abbrev D : Document
  D = document_of z l

  pub room_formulas : 0 + 1 + z.formulas ≤ length (bodies s)
  unfolding record_count
  room_formulas = omega (arith, y.records)

  pub room_lines : z.formulas + z.threads + 1 + 1 + z.lines ≤ length (bodies s)
  unfolding record_count
  room_lines = omega (arith, y.records)

  pub bytes_few : length s ≤ Limits.image_bytes
  bytes_few = y.short

  abbrev bodied : List (List ℕ)
  bodied = part (z.formulas + z.threads + 2) z.lines l

  line-length : (i : ℕ) → i < z.lines → length (get_or bodied i []) ≡ line_length (line_record (get_or bodied i []))
  unfolding line_body
  line-length i b =
      let n : z.formulas + z.threads + 2 + i ≡ z.formulas + z.threads + 1 + suc i = omega arith in
      let q : get_or bodied i [] ≡ line_body z l (suc i) =
      part_at (z.formulas + z.threads + 2) z.lines l i [] b ∙ ap (λ (k : ℕ). get_or l k []) n in
      rw q (y.lines (suc i) (omega arith) (omega arith) ∙ sym (line_long (line_body z l (suc i))))

  formulas_out : (m : List Bool) → left_behind l 0 z.formulas m 0 ≡ left_out (drop 1 m) (map length D.formulas)
  unfolding left_behind document_of
  formulas_out m = refl

  lines_out : (m : List Bool) → left_behind l (z.formulas + z.threads + 1) z.lines m 0 ≡ left_out (drop 1 m) (map line_length D.lines)
  unfolding left_behind document_of
  lines_out m =
      let q : z.formulas + z.threads + 1 + 1 ≡ z.formulas + z.threads + 2 = omega arith in
      let room : z.formulas + z.threads + 2 + z.lines ≤ length l = let r = room_lines in omega arith in
      let len = part_length (z.formulas + z.threads + 2) z.lines l room in
      ap (λ (k : ℕ). left_out (drop 1 m) (map length (part k z.lines l))) q
      ∙ ap (left_out (drop 1 m)) (map_by line_length line_record length [] bodied (λ i b. line-length i (omega arith)))

  module _ (k u : List Bool) (ek : k ≡ kept D) (eu : u ≡ used D) (a b : ℕ)
      (ea : a ≡ left_behind l 0 z.formulas u 0) (eb : b ≡ left_behind l (z.formulas + z.threads + 1) z.lines k 0) where
    all_bytes : length (encode (trim D)) + (a + b) ≡ length s
    unfolding trim
    all_bytes =
        ap (λ (n : ℕ). length (encode (trim D)) + n)
        (ap₂ ◌+◌ (ea ∙ formulas_out u ∙ ap (λ (m : List Bool). left_out (drop 1 m) (map length D.formulas)) eu)
        (eb ∙ lines_out k ∙ ap (λ (m : List Bool). left_out (drop 1 m) (map line_length D.lines)) ek))
        ∙ trimmed_and_left (used D) (kept D) D
        ∙ y.document

    pub left_within : a + b ≤ length s
    left_within = let q = all_bytes in omega arith

    pub trimmed_is : length s - (a + b) ≡ length (encode (trim D))
    trimmed_is = let q = all_bytes in omega arith

pub ruleset trimmed_length_branches = (
  one_stays,
  one_left,
  one_short,
  behind_start,
  left_within,
  trimmed_is,
  bytes_few,
  room_formulas,
  room_lines,
)
