-- The formulas that stay are those that are used; and nothing that is named is left out.
use mathlib.Core.Path.{◌≡◌, refl, ap, sym, ◌∙◌, subst}
use mathlib.Core.Bool.{true, false}
use mathlib.Core.List.{List, [], ◌∷◌, ◌++◌}
use mathlib.Core.Logic.{◌⊎◌, inl, inr}
use Prim.Native.Nat.{ℕ, zero, suc, ◌≤◌, ◌<◌}
use native.Mathlib.Omega.{arith}
use lib.ListN.{length, get_or, replicate}
use Rattle.logic.specs.Obligations.{flat}
use Rattle.limits.specs.Limits as Limits
use Rattle.limits.specs.Numbers.{nth}
use Rattle.image_header.specs.Thread.{nothing}
use Rattle.image_header.specs.declared.instruction.Instruction.{Instruction}
use Rattle.trim_spec.specs.Document.{Document, LineRecord}
use Rattle.trim_spec.specs.Canonical.{no_line}
use Rattle.trim_spec.specs.Live.{marked_by, selected, renumbered, kept, named_formulas, used, instruction_formulas, line_formulas}
use Rattle.trim_spec.specs.Rests.{Rests, obligation, claim, premise, Uses, instruction, second, outline, left, right}
use Rattle.trim_spec.proofs.Closed.{Closed}
use Rattle.trim_spec.proofs.MarkCounts.{noted_length, noted_sets, noted_from, renumbered_low, renumbered_high, selected_nth, Selected, selected_from, Found}
use Rattle.trim_spec.proofs.ListMembers.{Within, found_at, found_left, found_right, found_either, found_flat, flat_found}
use Rattle.trim_spec.proofs.LiveLines.{none-set, replicate_length, Named, kept_length, kept_rests, rests_kept}

-- two numbers
found_first : (a b : ℕ) → Found (a ∷ b ∷ []) a
found_first a b = record { place = 0; there = omega arith; is = refl }

found_second : (a b : ℕ) → Found (a ∷ b ∷ []) b
found_second a b = record { place = 1; there = omega arith; is = refl }

found_two : (a b n : ℕ) → Found (a ∷ b ∷ []) n → (a ≡ n) ⊎ (b ≡ n)
found_two a b n f = go f.place f.there f.is
  where
    go : (i : ℕ) → i < 2 → get_or (a ∷ b ∷ []) i 0 ≡ n → (a ≡ n) ⊎ (b ≡ n)
    go zero h e = inl e
    go (suc zero) h e = inr e
    go (suc (suc i)) h e = absurd (omega arith)

module _ (D : Document) (N : Named D) where
  abbrev of_thread : List Instruction → List ℕ
  of_thread l = flat instruction_formulas l

  abbrev of_lines : List ℕ
  of_lines = flat line_formulas (selected (kept D) D.lines)

  -- the lines that stay, by their old numbers
  kept_lines : (n : ℕ) → Found of_lines n → Uses D n
  unfolding nth
  kept_lines n f = go (flat_found line_formulas no_line (selected (kept D) D.lines) n f)
    where
      go : Within line_formulas no_line (selected (kept D) D.lines) n → Uses D n
      go w = on (selected_from (kept D) D.lines (suc w.member) (omega arith) (let h = w.there in omega arith))
        where
          on : Selected (kept D) D.lines (suc w.member) → Uses D n
          on s = pick (found_two (get_or (selected (kept D) D.lines) w.member no_line).left
              (get_or (selected (kept D) D.lines) w.member no_line).right n w.found)
            where
              same : get_or (selected (kept D) D.lines) w.member no_line ≡ nth D.lines s.old no_line
              same = subst (λ (j : ℕ). nth (selected (kept D) D.lines) j no_line ≡ nth D.lines s.old no_line) s.now
                  (selected_nth (kept D) D.lines no_line s.old s.low s.high s.mark)

              rests : Rests D s.old
              rests = kept_rests D N s.old s.mark

              pick : ((get_or (selected (kept D) D.lines) w.member no_line).left ≡ n)
                  ⊎ ((get_or (selected (kept D) D.lines) w.member no_line).right ≡ n) → Uses D n
              pick (inl e) = subst (Uses D) (ap (λ (v : LineRecord). v.left) (sym same) ∙ e) (left s.old s.low s.high rests)
              pick (inr e) = subst (Uses D) (ap (λ (v : LineRecord). v.right) (sym same) ∙ e) (right s.old s.low s.high rests)

  instructions_use : (n : ℕ) → Found (flat of_thread D.threads) n → Uses D n
  instructions_use n f = go (flat_found of_thread [] D.threads n f)
    where
      go : Within of_thread [] D.threads n → Uses D n
      go w = on (flat_found instruction_formulas nothing (get_or D.threads w.member []) n w.found)
        where
          on : Within instruction_formulas nothing (get_or D.threads w.member []) n → Uses D n
          on v = pick (found_two i.formula i.second.formula n v.found)
            where
              i : Instruction
              i = get_or (get_or D.threads w.member []) v.member nothing

              pick : (i.formula ≡ n) ⊎ (i.second.formula ≡ n) → Uses D n
              pick (inl e) = subst (Uses D) e (instruction w.member v.member w.there v.there)
              pick (inr e) = subst (Uses D) e (second w.member v.member w.there v.there)

  named_uses : (n : ℕ) → Found (named_formulas D) n → Uses D n
  unfolding named_formulas
  named_uses n f = go (found_either (flat of_thread D.threads) (D.outline ++ of_lines) n f)
    where
      on : Found D.outline n ⊎ Found of_lines n → Uses D n
      on (inl g) = subst (Uses D) g.is (outline g.place g.there)
      on (inr g) = kept_lines n g

      go : Found (flat of_thread D.threads) n ⊎ Found (D.outline ++ of_lines) n → Uses D n
      go (inl g) = instructions_use n g
      go (inr g) = on (found_either D.outline of_lines n g)

  -- a formula of a line on which something rests
  line_found : (n k : ℕ) → 1 ≤ n → n ≤ length D.lines → Rests D n → Found (line_formulas (nth D.lines n no_line)) k → Found of_lines k
  unfolding nth
  line_found n k a b r f = go (renumbered (kept D) n) refl
    where
      mark : get_or (kept D) n false ≡ true
      mark = (rests_kept D N n r).1

      go : (j : ℕ) → renumbered (kept D) n ≡ j → Found of_lines k
      go zero e = absurd (let h = renumbered_low (kept D) n a mark in omega arith)
      go (suc i) e =
          let high = renumbered_high (kept D) D.lines n b in
          let q : nth (selected (kept D) D.lines) (suc i) no_line ≡ nth D.lines n no_line =
          subst (λ (x : ℕ). nth (selected (kept D) D.lines) x no_line ≡ nth D.lines n no_line) e
          (selected_nth (kept D) D.lines no_line n a b mark) in
          found_flat line_formulas no_line (selected (kept D) D.lines) i k (omega arith)
          (subst (λ (v : LineRecord). Found (line_formulas v) k) (sym q) f)

  instruction_found : (t p k : ℕ) → t < length D.threads → p < length (get_or D.threads t [])
      → Found (instruction_formulas (get_or (get_or D.threads t []) p nothing)) k
      → Found (flat of_thread D.threads) k
  instruction_found t p k a b f = found_flat of_thread [] D.threads t k a
      (found_flat instruction_formulas nothing (get_or D.threads t []) p k b f)

  uses_named : (n : ℕ) → Uses D n → Found (named_formulas D) n
  unfolding named_formulas
  uses_named n (instruction t p a b) =
      let i : Instruction = get_or (get_or D.threads t []) p nothing in
      found_left (flat of_thread D.threads) (D.outline ++ of_lines) _
      (instruction_found t p i.formula a b (found_first i.formula i.second.formula))
  uses_named n (second t p a b) =
      let i : Instruction = get_or (get_or D.threads t []) p nothing in
      found_left (flat of_thread D.threads) (D.outline ++ of_lines) _
      (instruction_found t p i.second.formula a b (found_second i.formula i.second.formula))
  uses_named n (outline i b) =
      found_right (flat of_thread D.threads) (D.outline ++ of_lines) _ (found_left D.outline of_lines _ (found_at D.outline i b))
  uses_named n (left k a b r) =
      let v : LineRecord = nth D.lines k no_line in
      found_right (flat of_thread D.threads) (D.outline ++ of_lines) _
      (found_right D.outline of_lines _ (line_found k v.left a b r (found_first v.left v.right)))
  uses_named n (right k a b r) =
      let v : LineRecord = nth D.lines k no_line in
      found_right (flat of_thread D.threads) (D.outline ++ of_lines) _
      (found_right D.outline of_lines _ (line_found k v.right a b r (found_second v.left v.right)))

-- what the checks leave of the formulas that are named
pub record Written (D : Document) : Type 0 where
  pub few : length D.formulas ≤ Limits.formulas
  pub there : (n : ℕ) → Uses D n → n ≤ length D.formulas

module _ (D : Document) where
  pub used_length : length (used D) ≡ suc Limits.formulas
  unfolding used
  used_length = noted_length (replicate (suc Limits.formulas) false) (named_formulas D) ∙ replicate_length (suc Limits.formulas) false

  module _ (N : Named D) (F : Written D) where
    -- no formula stays that is not used
    pub used_uses : (n : ℕ) → get_or (used D) n false ≡ true → Uses D n
    unfolding used
    used_uses n e = go (noted_from (replicate (suc Limits.formulas) false) (named_formulas D) n e)
      where
        go : (get_or (replicate (suc Limits.formulas) false) n false ≡ true) ⊎ Found (named_formulas D) n → Uses D n
        go (inl q) = absurd (none-set (suc Limits.formulas) n q)
        go (inr f) = named_uses D N n f

    -- every formula stays that is used
    pub uses_used : (n : ℕ) → Uses D n → get_or (used D) n false ≡ true
    unfolding used
    uses_used n u =
        let f = uses_named D N n u in
        subst (λ (x : ℕ). get_or (marked_by (replicate (suc Limits.formulas) false) (named_formulas D)) x false ≡ true) f.is
        (noted_sets (replicate (suc Limits.formulas) false) (named_formulas D) f.place f.there
        (let q = replicate_length (suc Limits.formulas) false in let e = f.is in let h = F.there n u in let w = F.few in omega arith))

    -- nothing that is named is left out
    pub nothing_left_out : Closed (used D) (kept D) D
    nothing_left_out = record {
      formulas = let q = used_length in let h = F.few in omega arith;
      lines = let q = kept_length D in let h = N.few in omega arith;
      instruction = λ t p a b z. uses_used _ (instruction t p a b);
      second = λ t p a b z. uses_used _ (second t p a b);
      outline = λ i b z. uses_used _ (outline i b);
      left = λ n a b m z. uses_used _ (left n a b (kept_rests D N n m));
      right = λ n a b m z. uses_used _ (right n a b (kept_rests D N n m));
      premise = λ n i a b m h z. (rests_kept D N _ (premise n i a b (kept_rests D N n m) h)).1;
      obligation = λ i b z. (rests_kept D N _ (obligation i b)).1;
      claim = λ i b z. (rests_kept D N _ (claim i b)).1;
    }
