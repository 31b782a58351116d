-- A line has a mark exactly if it is justified; then what it says is derived.
use mathlib.Core.Path.{◌≡◌, refl, ap, sym, ◌∙◌, subst}
use mathlib.Core.Bool.{Bool, true, false, cond, ◌&&◌}
use mathlib.Core.List.{List, [], ◌∷◌, map}
use Prim.Native.Nat.{ℕ, zero, suc, ◌≤◌, ◌<◌}
use native.Mathlib.Omega.{arith}
use lib.Dec.{T, eqb}
use borrow.Author.Tests.{eqb-true, eqb-false, eq-eqb, ne_eqb}
use lib.ListN.{length, get_or}
use Rattle.semantics.specs.Base.{all, Within}
use Rattle.semantics.specs.Machine.{Program}
use Rattle.logic.specs.Statement.{Statement, admitted}
use Rattle.logic.specs.Derivation.{Derived, by_rule}
use Rattle.semantics.proofs.Base.{and_left, and_right, and_both}
use Rattle.logic_schemas.proofs.Rules.{fits_rule, rule_fits}
use Rattle.logic_outline.specs.Lines.{Certificate, saying, line_fits, marked, Justified, justified}

-- each member of a list, by its place
pub each_at : (f : ℕ → Bool) (l : List ℕ) → T (all f l) → (i : ℕ) → i < length l → T (f (get_or l i 0))
each_at f [] h i b = absurd (omega arith)
each_at f (x ∷ l) h zero b = and_left (f x) (all f l) h
each_at f (x ∷ l) h (suc i) b = each_at f l (and_right (f x) (all f l) h) i (omega arith)

pub all-at : (f : ℕ → Bool) (l : List ℕ) → ((i : ℕ) → i < length l → T (f (get_or l i 0))) → T (all f l)
all-at f [] h = tt
all-at f (x ∷ l) h = and_both (f x) (all f l) (h 0 (omega arith)) (all-at f l (λ i b. h (suc i) (omega arith)))

module _ (P : Program) (C : Certificate) where
  mark_new : (n : ℕ) → marked P C (suc n) (suc n) ≡ line_fits P C (suc n) && all (marked P C n) (C.line (suc n)).premises
  unfolding marked
  mark_new n = rw (eq-eqb (suc n) (suc n) refl)

  mark_old : (n k : ℕ) → k ≤ n → marked P C (suc n) k ≡ marked P C n k
  unfolding marked
  mark_old n k h = rw (ne_eqb k (suc n) (λ (e : k ≡ suc n). omega arith))

  -- a mark stays as it is
  mark_stays : (n m k : ℕ) → k ≤ m → m ≤ n → marked P C n k ≡ marked P C m k
  mark_stays zero m k h g = ap (λ (z : ℕ). marked P C z k) (let e : 0 ≡ m = omega arith in e)
  mark_stays (suc n) m k h g = go (eqb m (suc n)) refl (λ b. mark_stays n m k h b)
    where
      go : (b : Bool) → eqb m (suc n) ≡ b → (m ≤ n → marked P C n k ≡ marked P C m k) → marked P C (suc n) k ≡ marked P C m k
      go true e ih = ap (λ (z : ℕ). marked P C z k) (sym (eqb-true m (suc n) e))
      go false e ih = let q = eqb-false m (suc n) e in let b : m ≤ n = omega arith in mark_old n k (omega arith) ∙ ih b

  -- only lines from 1 to n have marks
  marks_in : (n k : ℕ) → T (marked P C n k) → Within n k
  unfolding marked
  marks_in zero k h = absurd h
  marks_in (suc n) k h = go (eqb k (suc n)) refl h (λ g. marks_in n k g)
    where
      go : (b : Bool) → eqb k (suc n) ≡ b → T (cond b (line_fits P C (suc n) && all (marked P C n) (C.line (suc n)).premises)
          (marked P C n k)) → (T (marked P C n k) → Within n k) → Within (suc n) k
      go true e h ih = let q = eqb-true k (suc n) e in (omega arith, omega arith)
      go false e h ih = let w = ih h in (w.0, omega (arith, w.1))

  -- a marked line fits, and its premises are marked
  mark_gives : (k : ℕ) → T (marked P C C.count k)
      → T (line_fits P C k) × ((i : ℕ) → i < length (C.line k).premises
      → T (marked P C C.count (get_or (C.line k).premises i 0)) × (get_or (C.line k).premises i 0 < k))
  mark_gives zero h = let w = marks_in C.count 0 h in absurd (omega (arith, w.0))
  mark_gives (suc n) h =
      let w = marks_in C.count (suc n) h in
      let g : T (line_fits P C (suc n) && all (marked P C n) (C.line (suc n)).premises) =
      subst T (mark_stays C.count (suc n) (suc n) (omega arith) w.1 ∙ mark_new n) h in (
        and_left (line_fits P C (suc n)) _ g,
        λ i b. earlier i
            (each_at (marked P C n) (C.line (suc n)).premises
            (and_right (line_fits P C (suc n)) (all (marked P C n) (C.line (suc n)).premises) g) i b) w.1,
      )
    where
      earlier : (i : ℕ) → T (marked P C n (get_or (C.line (suc n)).premises i 0)) → suc n ≤ C.count
          → T (marked P C C.count (get_or (C.line (suc n)).premises i 0)) × (get_or (C.line (suc n)).premises i 0 < suc n)
      earlier i g b =
          let w = marks_in n (get_or (C.line (suc n)).premises i 0) g in
          (subst T (sym (mark_stays C.count n (get_or (C.line (suc n)).premises i 0) w.1 (omega arith))) g, omega (arith, w.1))

  mark_takes : (k : ℕ) → Within C.count k → T (line_fits P C k)
      → ((i : ℕ) → i < length (C.line k).premises → T (marked P C C.count (get_or (C.line k).premises i 0))
      × (get_or (C.line k).premises i 0 < k))
      → T (marked P C C.count k)
  mark_takes zero w f h = absurd (omega (arith, w.0))
  mark_takes (suc n) w f h =
      subst T (sym (mark_stays C.count (suc n) (suc n) (omega arith) w.1 ∙ mark_new n))
      (and_both (line_fits P C (suc n)) (all (marked P C n) (C.line (suc n)).premises) f
      (all-at (marked P C n) (C.line (suc n)).premises
      (λ i b. let z = h i b in subst T (mark_stays C.count n (get_or (C.line (suc n)).premises i 0) (omega (arith, z.1))
      (omega (arith, w.1))) z.0)))

  -- marked: justified. By induction on a bound of the line's number
  just_below : (n k : ℕ) → k ≤ n → T (marked P C C.count k) → Justified P C k
  just_below zero k b h = let w = marks_in C.count k h in absurd (omega (arith, w.0))
  just_below (suc n) k b h =
      let g = mark_gives k h in
      justified (marks_in C.count k h) (fits_rule P (C.line k).rule (C.line k).says (saying P C (C.line k).premises) g.0)
      (λ i c. just_below n (get_or (C.line k).premises i 0) (omega (arith, (g.1 i c).1)) (g.1 i c).0)

  pub marked_justified : (k : ℕ) → T (marked P C C.count k) → Justified P C k
  marked_justified k h = just_below k k (omega arith) h

  -- every line rests on lower lines
  pub record Lower : Type 0 where
    pub lower : (n : ℕ) → Within C.count n → (i : ℕ) → i < length (C.line n).premises → get_or (C.line n).premises i 0 < n

  pub justified_marked : Lower → (k : ℕ) → Justified P C k → T (marked P C C.count k)
  justified_marked L k (justified w d f) =
      mark_takes k w (rule_fits P (C.line k).rule (C.line k).says (saying P C (C.line k).premises) d)
      (λ i b. (justified_marked L (get_or (C.line k).premises i 0) (f i b), L.lower k w i b))

  -- justified: derived
  pub justified_derived : ((n : ℕ) → Within C.count n → T (admitted P (C.line n).says)) → (k : ℕ) → Justified P C k
      → Derived P (C.line k).says
  justified_derived ok k (justified w d f) =
      by_rule d (ok k w) (λ i b. at_place (λ p. (C.line p).says) (C.line k).premises i (C.line k).says
      (λ c. justified_derived ok (get_or (C.line k).premises i 0) (f i c)) b)
    where
      at_place : (g : ℕ → Statement) (l : List ℕ) (i : ℕ) (d : Statement) → (i < length l → Derived P (g (get_or l i 0)))
          → i < length (map g l) → Derived P (get_or (map g l) i d)
      at_place g [] i d h b = absurd (omega arith)
      at_place g (x ∷ l) zero d h b = h (omega arith)
      at_place g (x ∷ l) (suc i) d h b = at_place g l i d (λ c. h (omega arith)) (omega arith)
