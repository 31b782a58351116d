-- Every record of an image passes its check, if those of each kind do; then the image has no fault.
use mathlib.Core.Path.{◌≡◌, refl, subst}
use mathlib.Core.Bool.{Bool, true, false}
use mathlib.Core.List.{List, []}
use Prim.Native.Nat.{ℕ, zero, suc, ◌+◌, ◌-◌, ◌≤◌, ◌<◌}
use native.Mathlib.Omega.{arith}
use lib.Dec.{ltb}
use lib.ListN.{get_or, drop}
use lib.Seq.{get_or-drop}
use borrow.Author.Tests.{ltb-true, ltb-false}
use Rattle.image_header.specs.declared.sizes.Sizes.{Sizes}
use Rattle.image_header.specs.Header.{header}
use Rattle.image_bodies.specs.RecordPlaces.{thread_body}
use Rattle.image_bodies.specs.Claim as Claims
use Rattle.image_bodies.specs.FormulaBody as Formulas
use Rattle.image_bodies.specs.ThreadBody as Threads
use Rattle.image_bodies.specs.ListBody as Lists
use Rattle.image_bodies.specs.LineBody as Lines
use Rattle.image.specs.Body.{place_of, check}
use Rattle.image.specs.Decode.{record_count, first_fault}
use Rattle.image_meaning.specs.Program.{outline_body}
use Rattle.image_meaning.specs.Certificate.{line_body}
use Rattle.image_meaning.specs.Image.{obligations_body, claim_body}
use Rattle.image_meaning.proofs.RecordsChecked.{place_formula, place_thread, place_outline, place_line, place_obligations, place_claim}
use Rattle.image_frames.specs.Fault.{passed}
use Rattle.std.specs.Prelude.{Ok}

-- before it, or not
by_order : {P : Type 0} (i m : ℕ) → (i < m → P) → (m ≤ i → P) → P
by_order {P} i m g h = go (ltb i m) refl
  where
    go : (b : Bool) → ltb i m ≡ b → P
    go true e = g (ltb-true i m e)
    go false e = h (ltb-false i m e)

-- an image with sizes z and bodies l, in which t thread records were counted
module _ (t : ℕ) (z : Sizes) (l : List (List ℕ)) where
  -- record i + 1
  abbrev pub PassedAt : ℕ → Type 0
  PassedAt i = check t z l (place_of z (i + 1)) (get_or l i []) ≡ passed

  -- by kinds
  pub record AllPassed : Type 0 where
    pub head : header t (get_or l 0 []) ≡ passed
    pub formula : (k : ℕ) → 1 ≤ k → k ≤ z.formulas → Formulas.formula z (get_or l k []) ≡ passed
    pub thread : (n : ℕ) → 1 ≤ n → n ≤ z.threads → Threads.thread z l n (thread_body z l n) ≡ passed
    pub outline : Lists.outline z l (outline_body z l) ≡ passed
    pub line : (n : ℕ) → 1 ≤ n → n ≤ z.lines → Lines.line z l (n - 1) (line_body z l n) ≡ passed
    pub obligations : Lists.obligations z l (obligations_body z l) ≡ passed
    pub claim : (n : ℕ) → n < z.claims → Claims.claim z l (claim_body z l n) ≡ passed

  -- the bodies of the last thread and of the last line
  abbrev threads : ℕ
  threads = z.formulas + z.threads

  abbrev lines : ℕ
  lines = threads + 1 + z.lines

  module _ (a : AllPassed) where
    moved : (i j : ℕ) → j ≡ i → PassedAt j → PassedAt i
    moved i j e h = subst PassedAt e h

    at_head : PassedAt 0
    unfolding check place_of
    at_head = a.head

    at_formula : (i : ℕ) → 1 ≤ i → i ≤ z.formulas → PassedAt i
    unfolding check
    at_formula i b c = rw (place_formula z i b c) (a.formula i b c)

    -- behind the formulas, behind the outline, behind the obligations

    at_thread : (i : ℕ) → z.formulas < i → i ≤ threads → PassedAt i
    unfolding check thread_body
    at_thread i b c =
        let n : ℕ = i - z.formulas in
        let p : 1 ≤ n = omega arith in
        let q : n ≤ z.threads = omega arith in
        moved i (z.formulas + n) (omega arith) (rw (place_thread z n p q) (a.thread n p q))

    at_outline : PassedAt (threads + 1)
    unfolding check
    at_outline = rw (place_outline z) a.outline

    at_line : (i : ℕ) → threads + 1 < i → i ≤ lines → PassedAt i
    unfolding check line_body
    at_line i b c =
        let n : ℕ = i - (threads + 1) in
        let p : 1 ≤ n = omega arith in
        let q : n ≤ z.lines = omega arith in
        moved i (threads + 1 + n) (omega arith) (rw (place_line z n p q) (a.line n p q))

    at_obligations : PassedAt (lines + 1)
    unfolding check
    at_obligations = rw (place_obligations z) a.obligations

    at_claim : (i : ℕ) → lines + 1 < i → i < record_count z → PassedAt i
    unfolding check claim_body record_count
    at_claim i b c =
        let n : ℕ = i - (lines + 2) in
        let q : n < z.claims = omega arith in
        moved i (lines + 2 + n) (omega arith) (rw (place_claim z n q) (a.claim n q))

    pub all_passed : (i : ℕ) → i < record_count z → PassedAt i
    all_passed i b =
        by_order i 1 (λ c. moved i 0 (omega arith) at_head) (λ p.
        by_order i (z.formulas + 1) (λ c. at_formula i p (omega arith)) (λ q.
        by_order i (threads + 1) (λ c. at_thread i (omega arith) (omega arith)) (λ r.
        by_order i (threads + 2) (λ c. moved i (threads + 1) (omega arith) at_outline) (λ s.
        by_order i (lines + 1) (λ c. at_line i (omega arith) (omega arith)) (λ v.
        by_order i (lines + 2) (λ c. moved i (lines + 1) (omega arith) at_obligations) (λ w.
        at_claim i (omega arith) b))))))

  -- no record has a fault, so the image has none
  none_from : (i n : ℕ) (m : List (List ℕ)) → ((j : ℕ) → j < n → check t z l (place_of z (i + j)) (get_or m j []) ≡ passed)
      → first_fault t z l i n m ≡ Ok z
  unfolding first_fault
  none_from i zero m h = refl
  none_from i (suc n) m h =
      let q : i + 0 ≡ i = omega arith in
      rw (rw q at (h 0 (omega arith)))
      (none_from (i + 1) n (drop 1 m) (λ j b.
      let s : i + suc j ≡ i + 1 + j = omega arith in
      let d : 1 + j ≡ suc j = omega arith in
      rw (get_or-drop 1 m j [], d, ← s) (h (suc j) (omega arith))))

  pub fault_none : ((i : ℕ) → i < record_count z → PassedAt i) → first_fault t z l 1 (record_count z) l ≡ Ok z
  fault_none h = none_from 1 (record_count z) l (λ j b. let q : 1 + j ≡ j + 1 = omega arith in rw q (h j b))
