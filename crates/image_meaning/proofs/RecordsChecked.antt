-- In a sound image the check of every record is passed.
use mathlib.Core.Path.{◌≡◌, refl, ap, sym, ◌∙◌, subst}
use mathlib.Core.List.{List, []}
use Prim.Native.Nat.{ℕ, zero, suc, ◌+◌, ◌-◌, ◌≤◌, ◌<◌}
use native.Mathlib.Omega.{arith}
use lib.ListN.{get_or, drop}
use lib.Seq.{get_or-drop}
use borrow.Author.Tests.{ne_eqb, le-leb, lt-leb}
use Rattle.image_frames.specs.Frames.{whole_image, Framing}
use Rattle.image_frames.proofs.KindCounts.{Counts, counts_few}
use Rattle.image_frames.specs.Records.{bodies}
use Rattle.image_frames.specs.declared.fault.Refusal.{Refusal}
use Rattle.image_header.specs.declared.sizes.Sizes.{Sizes}
use Rattle.image_header.specs.Header.{header}
use Rattle.image_bodies.specs.RecordPlaces.{thread_body}
use Rattle.image_bodies.specs.Claim as Claims
use Rattle.image_bodies.specs.FormulaBody as Formulas
use Rattle.image_bodies.specs.ThreadBody as Threads
use Rattle.image_bodies.specs.ListBody as Lists
use Rattle.image_bodies.specs.LineBody as Lines
use Rattle.image.specs.declared.body.Place.TheVariants.{Formula, Thread, Outline, Line, Obligations, Claim}
use Rattle.image.specs.Body.{formulas_end, threads_end, outline_at, lines_end, place_of, check}
use Rattle.image.specs.Decode.{record_count, sizes_of, unless_faulty, first_fault, behind_frames, decoded, Decoded}
use Rattle.image_meaning.specs.Program.{outline_body}
use Rattle.image_meaning.specs.Certificate.{line_body}
use Rattle.image_meaning.specs.Image.{obligations_body, claim_body}
use Rattle.image_frames.specs.Fault.{Checked, passed}
use Rattle.std.specs.Prelude.{Ok, Err}

-- what the checks of all records leave of an image with sizes z and bodies l; body i is that of record i + 1
pub record Checks (z : Sizes) (l : List (List ℕ)) : Type 0 where
  -- how many thread records there are
  pub counted : ℕ
  pub few : Counts z.formulas z.lines z.claims
  pub sizes : z ≡ sizes_of (get_or l 0 []) z.formulas z.lines z.claims
  pub passed : (i : ℕ) → i < record_count z → check counted z l (place_of z (i + 1)) (get_or l i []) ≡ passed

pub refused_sound : (r : Refusal) (z : Sizes) → ◌≡◌ {A = Decoded} (Err r) (Ok z) → ⊥
refused_sound r z e = let q : ◌≡◌ {A = ℕ} 0 1 = cc in omega arith

sound_sizes : (y z : Sizes) → ◌≡◌ {A = Decoded} (Ok y) (Ok z) → y ≡ z
sound_sizes y z e = cc

step_passed : (c : Checked) (i : ℕ) (d : Decoded) (z : Sizes) → unless_faulty c i d ≡ Ok z → (c ≡ passed) × (d ≡ Ok z)
step_passed (Ok _) i d z e = (refl, e)
step_passed (Err f) i d z e = absurd (refused_sound (record { fault = f; «record» = i }) z e)

module _ (t : ℕ) (z : Sizes) (l : List (List ℕ)) (y : Sizes) where
  abbrev here : ℕ → List (List ℕ) → Checked
  here i m = check t z l (place_of z i) (get_or m 0 [])

  abbrev behind : ℕ → ℕ → List (List ℕ) → Decoded
  behind i n m = first_fault t z l (i + 1) n (drop 1 m)

  pub fault_sizes : (i n : ℕ) (m : List (List ℕ)) → first_fault t z l i n m ≡ Ok y → z ≡ y
  unfolding first_fault
  fault_sizes i zero m e = sound_sizes z y e
  fault_sizes i (suc n) m e = fault_sizes (i + 1) n (drop 1 m) (step_passed (here i m) i (behind i n m) y e).1

  pub fault_passed : (i n j : ℕ) (m : List (List ℕ)) → j < n → first_fault t z l i n m ≡ Ok y
      → check t z l (place_of z (i + j)) (get_or m j []) ≡ passed
  unfolding first_fault
  fault_passed i zero j m b e = absurd (omega arith)
  fault_passed i (suc n) zero m b e = let q : i + 0 ≡ i = omega arith in rw q (step_passed (here i m) i (behind i n m) y e).0
  fault_passed i (suc n) (suc j) m b e =
      let h = fault_passed (i + 1) n j (drop 1 m) (omega arith) (step_passed (here i m) i (behind i n m) y e).1 in
      let q : i + suc j ≡ i + 1 + j = omega arith in
      let k : 1 + j ≡ suc j = omega arith in
      let g : get_or m (suc j) [] ≡ get_or (drop 1 m) j [] = sym (get_or-drop 1 m j [] ∙ ap (λ (n : ℕ). get_or m n []) k) in
      rw (q, g) h

pub sound_checks : (s : List ℕ) (z : Sizes) → decoded s ≡ Ok z → Checks z (bodies s)
unfolding decoded sizes_of
sound_checks s z e = go (whole_image s) refl e
  where
    go : (g : Framing) → whole_image s ≡ g → behind_frames (bodies s) g ≡ Ok z → Checks z (bodies s)
    go (Err r) w d = absurd (refused_sound r z d)
    go (Ok n) w d = subst (λ (x : Sizes). Checks x (bodies s))
        (fault_sizes n.threads y (bodies s) z 1 (record_count y) (bodies s) d) (record {
          counted = n.threads;
          few = counts_few s n.formulas n.threads n.lines n.claims w;
          sizes = refl;
          passed = λ i b. let q : i + 1 ≡ 1 + i = omega arith in rw q (fault_passed n.threads y (bodies s) z 1 (record_count y) i (bodies s) b d);
        })
      where
        y : Sizes
        y = sizes_of (get_or (bodies s) 0 []) n.formulas n.lines n.claims

-- which record is where

module _ (z : Sizes) where
  pub place_formula : (k : ℕ) → 1 ≤ k → k ≤ z.formulas → place_of z (k + 1) ≡ Formula
  unfolding place_of
  place_formula k a b = let q : k + 1 ≡ 1 → ⊥ = omega arith in rw (ne_eqb (k + 1) 1 q, le-leb (k + 1) (formulas_end z) (omega arith))

  pub place_thread : (t : ℕ) → 1 ≤ t → t ≤ z.threads → place_of z (z.formulas + t + 1) ≡ Thread t
  unfolding place_of
  place_thread t a b =
      let q : z.formulas + t + 1 ≡ 1 → ⊥ = omega arith in
      let d : z.formulas + t + 1 - formulas_end z ≡ t = omega arith in
      rw (
        ne_eqb (z.formulas + t + 1) 1 q,
        lt-leb (z.formulas + t + 1) (formulas_end z) (omega arith),
        le-leb (z.formulas + t + 1) (threads_end z) (omega arith),
        d,
      )

  pub place_outline : place_of z (z.formulas + z.threads + 1 + 1) ≡ Outline
  unfolding place_of
  place_outline =
      let i : ℕ = z.formulas + z.threads + 1 + 1 in
      let q : i ≡ 1 → ⊥ = omega arith in
      rw (ne_eqb i 1 q, lt-leb i (formulas_end z) (omega arith), lt-leb i (threads_end z) (omega arith), le-leb i (outline_at z) (omega arith))

  pub place_line : (n : ℕ) → 1 ≤ n → n ≤ z.lines → place_of z (z.formulas + z.threads + 1 + n + 1) ≡ Line (n - 1)
  unfolding place_of
  place_line n a b =
      let i : ℕ = z.formulas + z.threads + 1 + n + 1 in
      let q : i ≡ 1 → ⊥ = omega arith in
      let d : i - outline_at z - 1 ≡ n - 1 = omega arith in
      rw (
        ne_eqb i 1 q,
        lt-leb i (formulas_end z) (omega arith),
        lt-leb i (threads_end z) (omega arith),
        lt-leb i (outline_at z) (omega arith),
        le-leb i (lines_end z) (omega arith),
        d,
      )

  pub place_obligations : place_of z (z.formulas + z.threads + 1 + z.lines + 1 + 1) ≡ Obligations
  unfolding place_of
  place_obligations =
      let i : ℕ = z.formulas + z.threads + 1 + z.lines + 1 + 1 in
      let q : i ≡ 1 → ⊥ = omega arith in
      rw (
        ne_eqb i 1 q,
        lt-leb i (formulas_end z) (omega arith),
        lt-leb i (threads_end z) (omega arith),
        lt-leb i (outline_at z) (omega arith),
        lt-leb i (lines_end z) (omega arith),
        le-leb i (lines_end z + 1) (omega arith),
      )

  pub place_claim : (k : ℕ) → k < z.claims → place_of z (z.formulas + z.threads + 1 + z.lines + 2 + k + 1) ≡ Claim
  unfolding place_of
  place_claim k b =
      let i : ℕ = z.formulas + z.threads + 1 + z.lines + 2 + k + 1 in
      let q : i ≡ 1 → ⊥ = omega arith in
      rw (
        ne_eqb i 1 q,
        lt-leb i (formulas_end z) (omega arith),
        lt-leb i (threads_end z) (omega arith),
        lt-leb i (outline_at z) (omega arith),
        lt-leb i (lines_end z) (omega arith),
        lt-leb i (lines_end z + 1) (omega arith),
      )

module _ (z : Sizes) (l : List (List ℕ)) (c : Checks z l) where
  pub header_passed : header c.counted (get_or l 0 []) ≡ passed
  unfolding check place_of record_count
  header_passed = c.passed 0 (omega arith)

  pub formula_passed : (k : ℕ) → 1 ≤ k → k ≤ z.formulas → Formulas.formula z (get_or l k []) ≡ passed
  unfolding check record_count
  formula_passed k a b = rw (place_formula z k a b) at (c.passed k (omega arith))

  pub thread_passed : (t : ℕ) → 1 ≤ t → t ≤ z.threads → Threads.thread z l t (thread_body z l t) ≡ passed
  unfolding check record_count thread_body
  thread_passed t a b = rw (place_thread z t a b) at (c.passed (z.formulas + t) (omega arith))

  pub outline_passed : Lists.outline z l (outline_body z l) ≡ passed
  unfolding check record_count
  outline_passed = rw (place_outline z) at (c.passed (z.formulas + z.threads + 1) (omega arith))

  pub line_passed : (n : ℕ) → 1 ≤ n → n ≤ z.lines → Lines.line z l (n - 1) (line_body z l n) ≡ passed
  unfolding check record_count line_body
  line_passed n a b = rw (place_line z n a b) at (c.passed (z.formulas + z.threads + 1 + n) (omega arith))

  pub obligations_passed : Lists.obligations z l (obligations_body z l) ≡ passed
  unfolding check record_count
  obligations_passed = rw (place_obligations z) at (c.passed (z.formulas + z.threads + 1 + z.lines + 1) (omega arith))

  pub claim_passed : (k : ℕ) → k < z.claims → Claims.claim z l (claim_body z l k) ≡ passed
  unfolding check record_count claim_body
  claim_passed k b = rw (place_claim z k b) at (c.passed (z.formulas + z.threads + 1 + z.lines + 2 + k) (omega arith))
