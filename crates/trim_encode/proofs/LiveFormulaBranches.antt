-- Which formulas stay: the ways through the code.
use mathlib.Core.Path.{◌≡◌, refl, ap, ap₂, sym, ◌∙◌}
use mathlib.Core.Bool.{Bool, true, false, cond}
use mathlib.Core.List.{List, [], ◌∷◌, ◌++◌}
use Prim.Native.Nat.{ℕ, zero, suc, ◌+◌, ◌≤◌, ◌<◌}
use native.Mathlib.Numerals.{add-one}
use native.Mathlib.Omega.{arith}
use lib.ListN.{length, get_or, set, drop, replicate, drop_of_length-le}
use lib.Seq.{drop-cons}
use Rattle.logic.specs.Obligations.{flat}
use Rattle.limits.specs.Limits as Limits
use Rattle.limits.specs.Numbers.{le16, numbers}
use Rattle.image_header.specs.declared.sizes.Sizes.{Sizes}
use Rattle.image_header.specs.declared.instruction.Instruction.{Instruction}
use Rattle.image_header.specs.Thread.{last_point, instructions, nothing}
use Rattle.image_header.proofs.ThreadBranches.{instructions_length}
use Rattle.image_bodies.specs.RecordPlaces.{thread_body}
use Rattle.image_bodies.specs.PointCounts.{point_counts}
use Rattle.image_bodies.specs.declared.point_counts.PointCounts.{PointCounts}
use Rattle.image.specs.Decode.{record_count}
use Rattle.image_meaning.specs.Certificate.{line_body}
use Rattle.trim_spec.specs.Document.{LineRecord}
use Rattle.trim_spec.specs.Canonical.{no_line}
use Rattle.trim_spec.specs.Parse.{line_record, document_of}
use Rattle.trim_spec.specs.Live.{marked_by, chosen, selected, instruction_formulas, line_formulas, named_formulas, kept, used}
use Rattle.trim_encode.specs.NamedNumbers.{body_formulas, thread_formulas, sides_of, marked_sides, marked_formulas}
use Rattle.trim_encode.proofs.MarkBranches.{noted_nil, noting, note_two, note_three, flat_more, flat_all}
use Rattle.trim_encode.proofs.DocumentBodies.{thread-at, line_at, threads_length, lines_length}

-- a thread's instructions, one after the other
module _ (b : List ℕ) (m₀ m : List Bool) where
  pub body_more : (p n : ℕ) (i : Instruction) (after : List Bool) → p < n → n ≡ last_point b
      → marked_by m₀ (body_formulas b 0) ≡ marked_by m (body_formulas b p)
      → i ≡ get_or (instructions b) p nothing → after ≡ marked_by m (instruction_formulas i)
      → marked_by m₀ (body_formulas b 0) ≡ marked_by after (body_formulas b (p + 1))
  unfolding body_formulas
  body_more p n i after h en e d u =
      let len = instructions_length b in
      flat_more instruction_formulas (instructions b) nothing p m after (marked_by m₀ (body_formulas b 0)) (omega arith) e (rw d at u)

  pub body_all : (p n : ℕ) → n ≤ p → n ≡ last_point b → marked_by m₀ (body_formulas b 0) ≡ marked_by m (body_formulas b p)
      → m ≡ marked_by m₀ (body_formulas b 0)
  unfolding body_formulas
  body_all p n h en e =
      let len = instructions_length b in
      flat_all instruction_formulas (instructions b) p m (marked_by m₀ (body_formulas b 0)) (omega arith) e

-- the threads, one after the other
module _ (z : Sizes) (l : List (List ℕ)) (m₀ m : List Bool) (whole : length l ≡ record_count z) where
  abbrev given : List Bool
  given = marked_by m₀ (thread_formulas z l 0)

  pub threads_more : (t : ℕ) (b : List ℕ) (after : List Bool) → t < z.threads → given ≡ marked_by m (thread_formulas z l t)
      → b ≡ get_or l (z.formulas + (t + 1)) []
      → after ≡ marked_by m (body_formulas b 0) → given ≡ marked_by after (thread_formulas z l (t + 1))
  unfolding thread_formulas body_formulas thread_body
  threads_more t b after h e d u =
      let len = threads_length z l whole in
      let q : b ≡ thread_body z l (suc t) = rw (← add-one t) d in
      flat_more (λ i. flat instruction_formulas i) (document_of z l).threads [] t m after given (omega arith) e
      (u ∙ ap (λ (x : List ℕ). marked_by m (flat instruction_formulas (instructions x))) q
      ∙ ap (λ (x : List Instruction). marked_by m (flat instruction_formulas x)) (sym (thread-at z l t h)))

  pub threads_all : (t : ℕ) → z.threads ≤ t → given ≡ marked_by m (thread_formulas z l t) → m ≡ given
  unfolding thread_formulas
  threads_all t h e =
      let len = threads_length z l whole in
      flat_all (λ i. flat instruction_formulas i) (document_of z l).threads t m given (omega arith) e

pub outline_is : (z : Sizes) (l : List (List ℕ)) (b : List ℕ) (c : PointCounts) (m after : List Bool)
    → b ≡ get_or l (z.formulas + z.threads + 1) [] → c ≡ point_counts z l
    → after ≡ marked_by m (numbers c.points b) → after ≡ marked_by m (document_of z l).outline
unfolding document_of
outline_is z l b c m after eb ec e = rw (← eb, ← ec) e

-- one line

pub sides_are : (b : List ℕ) (x y : ℕ) (m between after : List Bool) → x ≡ le16 (drop 3 b) → between ≡ set m x true → y ≡ le16 (drop 5 b)
    → after ≡ set between y true
    → after ≡ marked_by m (sides_of b)
unfolding sides_of
sides_are b x y m between after ex e ey d = rw (← ex, ← ey) (note_two m between after x y e d)

module _ (z : Sizes) (l : List (List ℕ)) (k : List Bool) (n : ℕ) (m : List Bool) (b : Bool) (e : b ≡ get_or k n false) where
  pub sides_noted : (c : List ℕ) (after : List Bool) → b ≡ true → c ≡ get_or l (z.formulas + z.threads + 1 + n) []
      → after ≡ marked_by m (sides_of c)
      → after ≡ marked_by m (marked_sides z l k n)
  unfolding marked_sides line_body
  sides_noted c after h d u = rw (← e, h, ← d) u

  pub sides_passed : b ≡ false → m ≡ marked_by m (marked_sides z l k n)
  unfolding marked_sides
  sides_passed h = rw (← e, h, noted_nil)

-- the lines that stay, one after the other

chosen_step : {A : Type 0} (k : List Bool) (j : ℕ) (x : A) (l : List A)
    → chosen (drop j k) (x ∷ l) ≡ cond (get_or k j false) (x ∷ chosen (drop (suc j) k) l) (chosen (drop (suc j) k) l)
unfolding chosen
chosen_step [] zero x l = refl
chosen_step [] (suc j) x l = refl
chosen_step (b ∷ k) zero x l = refl
chosen_step (b ∷ k) (suc j) x l = chosen_step k j x l

chosen_nil : {A : Type 0} (k : List Bool) → chosen {A = A} k [] ≡ []
unfolding chosen
chosen_nil [] = refl
chosen_nil (b ∷ k) = refl

flat_cond : (b : Bool) (v : LineRecord) (l : List LineRecord)
    → flat line_formulas (cond b (v ∷ l) l) ≡ cond b (line_formulas v) [] ++ flat line_formulas l
flat_cond true v l = refl
flat_cond false v l = refl

module _ (z : Sizes) (l : List (List ℕ)) (k m₀ m : List Bool) (whole : length l ≡ record_count z) where
  abbrev wanted : List Bool
  wanted = marked_by m₀ (marked_formulas z l k 0)

  marked_step : (n : ℕ) → n < z.lines → marked_formulas z l k n ≡ marked_sides z l k (suc n) ++ marked_formulas z l k (suc n)
  unfolding marked_formulas marked_sides sides_of line_record
  marked_step n h =
      let len = lines_length z l whole in
      let i : n < length (document_of z l).lines = omega arith in
      ap (λ (x : List LineRecord). flat line_formulas (chosen (drop (suc n) k) x)) (drop-cons (document_of z l).lines n no_line i)
      ∙ ap (λ (v : LineRecord). flat line_formulas (chosen (drop (suc n) k) (v ∷ drop (suc n) (document_of z l).lines))) (line_at z l n h)
      ∙ ap (λ (x : List LineRecord). flat line_formulas x) (chosen_step k (suc n) this behind)
      ∙ flat_cond (get_or k (suc n) false) this (chosen (drop (suc (suc n)) k) behind)
    where
      this : LineRecord
      this = line_record (line_body z l (suc n))

      behind : List LineRecord
      behind = drop (suc n) (document_of z l).lines

  pub marked_more : (n : ℕ) (after : List Bool) → n < z.lines → wanted ≡ marked_by m (marked_formulas z l k n)
      → after ≡ marked_by m (marked_sides z l k (n + 1))
      → wanted ≡ marked_by after (marked_formulas z l k (n + 1))
  marked_more n after h e u =
      rw (add-one n)
      (noting m after wanted (marked_formulas z l k n) (marked_sides z l k (suc n)) (marked_formulas z l k (suc n)) e (marked_step n h)
      (rw (add-one n) at u))

  pub marked_all : (n : ℕ) → z.lines ≤ n → wanted ≡ marked_by m (marked_formulas z l k n) → m ≡ wanted
  unfolding marked_formulas marked_by
  marked_all n h e =
      let len = lines_length z l whole in
      let i : length (document_of z l).lines ≤ n = omega arith in
      sym (e
      ∙ ap (λ (x : List LineRecord). marked_by m (flat line_formulas (chosen (drop (suc n) k) x))) (drop_of_length-le (document_of z l).lines i)
      ∙ ap (λ (x : List LineRecord). marked_by m (flat line_formulas x)) (chosen_nil (drop (suc n) k)))

pub used_is : (z : Sizes) (l : List (List ℕ)) (k m₀ m₁ m₂ m₃ : List Bool) → k ≡ kept (document_of z l)
    → m₀ ≡ replicate (suc Limits.formulas) false
    → m₁ ≡ marked_by m₀ (thread_formulas z l 0) → m₂ ≡ marked_by m₁ (document_of z l).outline → m₃ ≡ marked_by m₂ (marked_formulas z l k 0)
    → m₃ ≡ used (document_of z l)
unfolding used named_formulas selected thread_formulas marked_formulas
used_is z l k m₀ m₁ m₂ m₃ ek e₀ e₁ e₂ e₃ =
    note_three m₀ m₁ m₂ m₃ (thread_formulas z l 0) (document_of z l).outline (marked_formulas z l k 0) e₁ e₂ e₃
    ∙ ap₂ (λ (m x : List Bool). marked_by m (thread_formulas z l 0 ++ ((document_of z l).outline ++ marked_formulas z l x 0))) e₀ ek

pub ruleset live_formulas_branches = (
  body_more,
  body_all,
  threads_more,
  threads_all,
  outline_is,
  sides_are,
  sides_noted,
  sides_passed,
  marked_more,
  marked_all,
  used_is,
  note_two,
)
