-- Trimming again changes nothing: of what is left every line is rested on and every formula used.
use mathlib.Core.Path.{◌≡◌, refl, ap, ◌∙◌, subst}
use mathlib.Core.Bool.{Bool, true, false}
use mathlib.Core.List.{List, [], ◌∷◌, map}
use Prim.Native.Nat.{ℕ, zero, suc, ◌+◌, ◌≤◌, ◌<◌}
use native.Mathlib.Omega.{arith}
use lib.ListN.{length, get_or, drop}
use lib.Seq.{get_or-drop}
use Rattle.limits.specs.Numbers.{nth}
use Rattle.image_header.specs.Thread.{nothing}
use Rattle.image_header.specs.declared.instruction.Instruction.{Instruction}
use Rattle.trim_spec.specs.Document.{Document, LineRecord, ClaimRecord}
use Rattle.trim_spec.specs.Canonical.{no_line, no_claim}
use Rattle.trim_spec.specs.Live.{set_below, chosen, selected, renumbered, kept, used}
use Rattle.trim_spec.specs.Trim.{half_by, instruction_by, line_by, claim_by, trimmed_by, trim}
use Rattle.trim_spec.specs.Rests.{Rests, obligation, claim, premise, Uses, instruction, second, outline, left, right}
use Rattle.trim_spec.proofs.MarkCounts.{clash, renumbered_mono, renumbered_low, selected_few, Selected, selected_from}
use Rattle.trim_spec.proofs.LiveLines.{Named, kept_rests, rests_kept}
use Rattle.trim_spec.proofs.LiveFormulas.{Written, used_uses, uses_used}
use Rattle.trim_spec.proofs.Renumbered as Moved

-- where every mark is set, all stay with their numbers

module _ {A : Type 0} where
  chosen_all : (m : List Bool) (l : List A) → ((i : ℕ) → i < length l → get_or m i false ≡ true) → chosen m l ≡ l
  unfolding chosen
  chosen_all [] [] h = refl
  chosen_all [] (x ∷ l) h = absurd (clash (h 0 (omega arith)))
  chosen_all (b ∷ m) [] h = refl
  chosen_all (true ∷ m) (x ∷ l) h = ap (λ (r : List A). x ∷ r) (chosen_all m l (λ i w. h (suc i) (omega arith)))
  chosen_all (false ∷ m) (x ∷ l) h = absurd (clash (h 0 (omega arith)))

  -- a map that changes no member
  map_same : (h : A → A) (d : A) (l : List A) → ((i : ℕ) → i < length l → h (get_or l i d) ≡ get_or l i d) → map h l ≡ l
  map_same h d [] e = refl
  map_same h d (x ∷ l) e =
      let q : h x ≡ x = e 0 (omega arith) in
      let r : map h l ≡ l = map_same h d l (λ i w. e (suc i) (omega arith)) in
      rw (q, r)

below_all : (m : List Bool) (n : ℕ) → ((i : ℕ) → i < n → get_or m i false ≡ true) → set_below n m ≡ n
unfolding set_below
below_all m zero h = refl
below_all [] (suc n) h = absurd (clash (h 0 (omega arith)))
below_all (true ∷ m) (suc n) h = let q = below_all m n (λ i w. h (suc i) (omega arith)) in omega arith
below_all (false ∷ m) (suc n) h = absurd (clash (h 0 (omega arith)))

module _ {A : Type 0} (m : List Bool) (l : List A) (all : (n : ℕ) → 1 ≤ n → n ≤ length l → get_or m n false ≡ true) where
  behind : (i : ℕ) → i < length l → get_or (drop 1 m) i false ≡ true
  behind i b = let q : 1 + i ≡ suc i = omega arith in
      get_or-drop 1 m i false ∙ ap (λ (n : ℕ). get_or m n false) q ∙ all (suc i) (omega arith) (omega arith)

  selected_all : selected m l ≡ l
  unfolding selected
  selected_all = chosen_all (drop 1 m) l behind

  number_same : (n : ℕ) → n ≤ length l → renumbered m n ≡ n
  unfolding renumbered
  number_same n h = below_all (drop 1 m) n (λ i w. behind i (omega arith))

-- the trimmed document

module _ (D : Document) (N : Named D) (F : Written D) where
  abbrev u : List Bool
  u = used D

  abbrev k : List Bool
  k = kept D

  abbrev E : Document
  E = trimmed_by u k D

  abbrev f : ℕ → ℕ
  f = renumbered u

  abbrev g : ℕ → ℕ
  g = renumbered k

  pub named_again : Named E
  unfolding claim_by
  named_again = record {
    few = let q = Moved.lines_length u k D in let w = selected_few k D.lines in let h = N.few in omega arith;
    lower = λ j i a b. lower j i (Moved.line_from u k D j a b);
    obligations = λ i b. rw (Moved.obligation_at u k D i)
        (Moved.line_there u k D (get_or D.obligations i 0) (N.obligations i (let q = Moved.obligations_length u k D in omega arith)));
    claims = λ i b. rw (Moved.claim-at u k D i) (Moved.line_there u k D (get_or D.claims i no_claim).line
        (N.claims i (let q = Moved.claims_length u k D in omega arith)));
  }
    where
      lower : (j i : ℕ) → Selected k D.lines j → i < length (nth E.lines j no_line).premises
          → get_or (nth E.lines j no_line).premises i 0 < j
      lower j i s h =
          let n : ℕ = s.old in
          subst (λ (x : ℕ). i < length (nth E.lines x no_line).premises → get_or (nth E.lines x no_line).premises i 0 < x) s.now
          (λ w. rw (Moved.premise_at u k D n i s.low s.high s.mark)
          (renumbered_mono k (get_or (nth D.lines n no_line).premises i 0) n
          (N.lower n i s.low s.high (let q = Moved.premises_length u k D n s.low s.high s.mark in omega arith)) s.mark))
          h

  -- what rests, rests again
  rests_again : (n : ℕ) → Rests D n → Rests E (g n)
  unfolding claim_by
  rests_again n (obligation i b) = subst (Rests E) (Moved.obligation_at u k D i)
      (obligation i (let q = Moved.obligations_length u k D in omega arith))
  rests_again n (claim i b) = subst (Rests E) (ap (λ (c : ClaimRecord). c.line) (Moved.claim-at u k D i))
      (claim i (let q = Moved.claims_length u k D in omega arith))
  rests_again n (premise j i a b r h) =
      let mark = (rests_kept D N j r).1 in
      subst (Rests E) (Moved.premise_at u k D j i a b mark)
      (premise (g j) i (renumbered_low k j a mark) (Moved.line_there u k D j b) (rests_again j r)
      (let q = Moved.premises_length u k D j a b mark in omega arith))

  -- what is used, is used again
  uses_again : (n : ℕ) → Uses D n → Uses E (f n)
  unfolding instruction_by half_by line_by
  uses_again n (instruction t p a b) =
      subst (Uses E) (ap (λ (i : Instruction). i.formula) (Moved.instruction_at u k D t p))
      (instruction t p (let q = Moved.threads_length u k D in omega arith) (let q = Moved.instructions_length u k D t in omega arith))
  uses_again n (second t p a b) =
      subst (Uses E) (ap (λ (i : Instruction). i.second.formula) (Moved.instruction_at u k D t p))
      (second t p (let q = Moved.threads_length u k D in omega arith) (let q = Moved.instructions_length u k D t in omega arith))
  uses_again n (outline i b) = subst (Uses E) (Moved.outline-at u k D i) (outline i (let q = Moved.outline_length u k D in omega arith))
  uses_again n (left j a b r) =
      let mark = (rests_kept D N j r).1 in
      subst (Uses E) (ap (λ (v : LineRecord). v.left) (Moved.line_at u k D j a b mark))
      (left (g j) (renumbered_low k j a mark) (Moved.line_there u k D j b) (rests_again j r))
  uses_again n (right j a b r) =
      let mark = (rests_kept D N j r).1 in
      subst (Uses E) (ap (λ (v : LineRecord). v.right) (Moved.line_at u k D j a b mark))
      (right (g j) (renumbered_low k j a mark) (Moved.line_there u k D j b) (rests_again j r))

  pub written_again : Written E
  unfolding instruction_by half_by line_by
  written_again = record { few = let w = selected_few u D.formulas in let h = F.few in omega arith; there = there }
    where
      line_side : (h : LineRecord → ℕ) → ((v : LineRecord) → h (line_by f g v) ≡ f (h v))
          → ((n : ℕ) → 1 ≤ n → n ≤ length D.lines → Rests D n → Uses D (h (nth D.lines n no_line)))
          → (j : ℕ) → Selected k D.lines j → h (nth E.lines j no_line) ≤ length E.formulas
      line_side h e w j s =
          subst (λ (x : ℕ). h (nth E.lines x no_line) ≤ length E.formulas) s.now
          (rw (Moved.line_at u k D s.old s.low s.high s.mark, e (nth D.lines s.old no_line))
          (Moved.formula_there u k D (h (nth D.lines s.old no_line))
          (F.there _ (w s.old s.low s.high (kept_rests D N s.old s.mark)))))

      there : (n : ℕ) → Uses E n → n ≤ length E.formulas
      there n (instruction t p a b) =
          rw (Moved.instruction_at u k D t p)
          (Moved.formula_there u k D _
          (F.there _ (instruction t p (let q = Moved.threads_length u k D in omega arith)
          (let q = Moved.instructions_length u k D t in omega arith))))
      there n (second t p a b) =
          rw (Moved.instruction_at u k D t p)
          (Moved.formula_there u k D _
          (F.there _ (second t p (let q = Moved.threads_length u k D in omega arith)
          (let q = Moved.instructions_length u k D t in omega arith))))
      there n (outline i b) = rw (Moved.outline-at u k D i)
          (Moved.formula_there u k D _ (F.there _ (outline i (let q = Moved.outline_length u k D in omega arith))))
      there n (left j a b r) = line_side (λ v. v.left) (λ v. refl) (λ x y z w. left x y z w) j (Moved.line_from u k D j a b)
      there n (right j a b r) = line_side (λ v. v.right) (λ v. refl) (λ x y z w. right x y z w) j (Moved.line_from u k D j a b)

  -- every line that is left is one on which something rests
  pub each_rests : (j : ℕ) → 1 ≤ j → j ≤ length E.lines → Rests E j
  each_rests j a b = let s = Moved.line_from u k D j a b in
      subst (Rests E) s.now (rests_again s.old (kept_rests D N s.old s.mark))

  -- every formula that is left is used
  pub each_used : (j : ℕ) → 1 ≤ j → j ≤ length E.formulas → Uses E j
  each_used j a b = let s = selected_from u D.formulas j a b in
      subst (Uses E) s.now (uses_again s.old (used_uses D N F s.old s.mark))

  all_kept : (j : ℕ) → 1 ≤ j → j ≤ length E.lines → get_or (kept E) j false ≡ true
  all_kept j a b = (rests_kept E named_again j (each_rests j a b)).1

  all_used : (j : ℕ) → 1 ≤ j → j ≤ length E.formulas → get_or (used E) j false ≡ true
  all_used j a b = uses_used E named_again written_again j (each_used j a b)

  abbrev f' : ℕ → ℕ
  f' = renumbered (used E)

  abbrev g' : ℕ → ℕ
  g' = renumbered (kept E)

  formula_same : (n : ℕ) → Uses E n → f' n ≡ n
  formula_same n w = number_same (used E) E.formulas all_used n (written_again.there n w)

  line_same : (n : ℕ) → n ≤ length E.lines → g' n ≡ n
  line_same n w = number_same (kept E) E.lines all_kept n w

  threads_same : map (λ (l : List Instruction). map (instruction_by f' g') l) E.threads ≡ E.threads
  unfolding instruction_by half_by
  threads_same =
      map_same (λ (l : List Instruction). map (instruction_by f' g') l) [] E.threads
      (λ t a. map_same (instruction_by f' g') nothing (get_or E.threads t [])
      (λ p b. rw (formula_same _ (instruction t p a b), formula_same _ (second t p a b))))

  lines_same : map (line_by f' g') E.lines ≡ E.lines
  unfolding line_by nth
  lines_same = map_same (line_by f' g') no_line E.lines (λ i b. here i b)
    where
      here : (i : ℕ) → i < length E.lines → line_by f' g' (get_or E.lines i no_line) ≡ get_or E.lines i no_line
      here i b =
          let a : 1 ≤ suc i = omega arith in
          let c : suc i ≤ length E.lines = omega arith in
          let r = each_rests (suc i) a c in
          let ps : List ℕ = (get_or E.lines i no_line).premises in
          let q : map g' ps ≡ ps = map_same g' 0 ps (λ x h. line_same (get_or ps x 0)
          (let w = named_again.lower (suc i) x a c h in omega arith)) in
          rw (formula_same _ (left (suc i) a c r), formula_same _ (right (suc i) a c r), q)

  claims_same : map (claim_by f' g') E.claims ≡ E.claims
  unfolding claim_by
  claims_same = map_same (claim_by f' g') no_claim E.claims (λ i b. rw (line_same _ (named_again.claims i b)))

  pub again : trim (trim D) ≡ trim D
  unfolding trim
  again = rw (
    selected_all (used E) E.formulas all_used,
    selected_all (kept E) E.lines all_kept,
    threads_same,
    map_same f' 0 E.outline (λ i b. formula_same _ (outline i b)),
    lines_same,
    map_same g' 0 E.obligations (λ i b. line_same _ (named_again.obligations i b)),
    claims_same,
  )
