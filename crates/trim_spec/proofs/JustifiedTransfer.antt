-- A justified line is justified in every certificate that has it, and what it rests on, under other numbers.
use mathlib.Core.Path.{◌≡◌, refl, ap, sym, ◌∙◌, subst}
use mathlib.Core.List.{List, [], ◌∷◌, map}
use Prim.Native.Nat.{ℕ, suc, ◌<◌}
use native.Mathlib.Omega.{arith}
use lib.ListN.{length, get_or, length-map, get_or-map}
use Rattle.semantics.specs.Base.{Within}
use Rattle.semantics.specs.Machine.{Program}
use Rattle.logic_outline.specs.Lines.{Certificate, saying, Justified, justified}
use Rattle.trim_spec.proofs.AbsentPoints.{with_points, repointed}

-- of C in B: the lines that stay, by their new numbers
pub record Carried (C B : Certificate) (Stays : ℕ → Type 0) (g : ℕ → ℕ) : Type 0 where
  pub there : (n : ℕ) → Stays n → Within B.count (g n)
  pub rule : (n : ℕ) → Stays n → (B.line (g n)).rule ≡ (C.line n).rule
  pub says : (n : ℕ) → Stays n → (B.line (g n)).says ≡ (C.line n).says
  pub premises : (n : ℕ) → Stays n → (B.line (g n)).premises ≡ map g (C.line n).premises
  pub rests : (n i : ℕ) → Stays n → i < length (C.line n).premises → Stays (get_or (C.line n).premises i 0)

module _ (P : Program) (p : ℕ → ℕ) (C B : Certificate) (Stays : ℕ → Type 0) (g : ℕ → ℕ) (zero_same : g 0 ≡ 0)
    (K : Carried C B Stays g) where
  abbrev Q : Program
  Q = with_points P p

  -- what the premises say
  said : (l : List ℕ) → ((i : ℕ) → i < length l → Stays (get_or l i 0)) → saying Q B (map g l) ≡ saying P C l
  said [] h = refl
  said (n ∷ l) h =
      let q : (B.line (g n)).says ≡ (C.line n).says = K.says n (h 0 (omega arith)) in
      let r : saying Q B (map g l) ≡ saying P C l = said l (λ i b. h (suc i) (omega arith)) in
      rw (q, r)

  pub carried : {n : ℕ} → Justified P C n → Stays n → Justified Q B (g n)
  carried {n = n} (justified w i ps) s =
      let e : (B.line (g n)).premises ≡ map g (C.line n).premises = K.premises n s in
      justified (K.there n s)
      (rw (K.rule n s, K.says n s, e, said (C.line n).premises (λ j b. K.rests n j s b)) (repointed P p i))
      (λ j b.
      let c : j < length (C.line n).premises = let q = length-map (C.line n).premises g in
      let r : length (B.line (g n)).premises ≡ length (map g (C.line n).premises) = ap length e in omega arith in
      let d : get_or (B.line (g n)).premises j 0 ≡ g (get_or (C.line n).premises j 0) =
      ap (λ (l : List ℕ). get_or l j 0) e ∙ subst (λ (x : ℕ). get_or (map g (C.line n).premises) j x ≡ g (get_or (C.line n).premises j 0))
      zero_same (get_or-map g (C.line n).premises j 0) in
      subst (Justified Q B) (sym d) (carried (ps j c) (K.rests n j s c)))
