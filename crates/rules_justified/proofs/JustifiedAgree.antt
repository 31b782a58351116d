-- The marks that the pass sets are those of the lines that the rules justify.
use mathlib.Core.Path.{◌≡◌, refl, ap, ap₂, sym, ◌∙◌, subst}
use mathlib.Core.Bool.{Bool, true, false, cond, ◌&&◌}
use mathlib.Core.List.{List, [], ◌∷◌}
use Prim.Native.Nat.{ℕ, zero, suc, ◌≤◌, ◌<◌}
use native.Mathlib.Omega.{arith}
use lib.Dec.{T, eqb}
use lib.ListN.{length, get_or}
use borrow.Author.Tests.{eqb-true, eqb-false}
use Rattle.semantics.specs.Base.{all}
use Rattle.semantics.specs.Machine.{Program}
use Rattle.semantics.proofs.Base.{bool_ext}
use Rattle.limits.specs.Limits as Limits
use Rattle.image_frames.specs.Records.{bodies}
use Rattle.image_header.specs.declared.sizes.Sizes.{Sizes}
use Rattle.image_bodies.specs.Line.{premises}
use Rattle.logic_outline.specs.Lines.{Certificate, line_fits, marked}
use Rattle.logic_outline.proofs.Marks.{each_at, all-at}
use Rattle.image_meaning.specs.Certificate.{line_body, certificate_of}
use Rattle.image_access.specs.AccessPlaces.{line_in}
use Rattle.image_meaning.specs.Program.{program_of}
use Rattle.image_meaning.proofs.RecordsChecked.{Checks}
use Rattle.image_meaning.proofs.LinesAdmitted.{premise-count}
use Rattle.rules_table.specs.RuleTable.{templates}
use Rattle.rules_line.specs.LineConclusion.{line_at}
use Rattle.rules_line.proofs.InstanceInLogic.{fits_is}
use Rattle.rules_justified.specs.Marks.{is_marked, with_mark}
use Rattle.rules_justified.specs.declared.marks.Marks.{Marks}
use Rattle.rules_justified.proofs.MarkBranches.{none_marked, none_length, with_length, marked_same, marked_other}
use Rattle.rules_justified.specs.Justify.{premises_marked, is_justified, marks_to}

module _ (s : List ℕ) (z : Sizes) (n : ℕ) (m : Marks) where
  abbrev ps : List ℕ
  ps = premises (line_body z (bodies s) n)

  -- the first k premises, one by one
  first_marked : (k : ℕ) → T (premises_marked s z n m k) → (i : ℕ) → i < k → T (is_marked m (get_or ps i 0))
  unfolding premises_marked
  first_marked zero h i b = absurd (omega arith)
  first_marked (suc k) h i b = go (premises_marked s z n m k) refl h (λ g c. first_marked k g i c)
    where
      go : (p : Bool) → premises_marked s z n m k ≡ p → T (cond p (is_marked m (get_or ps k 0)) false)
          → (T (premises_marked s z n m k) → i < k → T (is_marked m (get_or ps i 0))) → T (is_marked m (get_or ps i 0))
      go true e h ih = at (eqb i k) refl
        where
          at : (q : Bool) → eqb i k ≡ q → T (is_marked m (get_or ps i 0))
          at true d = subst (λ (j : ℕ). T (is_marked m (get_or ps j 0))) (sym (eqb-true i k d)) h
          at false d = let f = eqb-false i k d in ih (subst T (sym e) tt) (omega arith)
      go false e h ih = absurd h

  all_marked : (k : ℕ) → ((i : ℕ) → i < k → T (is_marked m (get_or ps i 0))) → T (premises_marked s z n m k)
  unfolding premises_marked
  all_marked zero h = tt
  all_marked (suc k) h = go (premises_marked s z n m k) (all_marked k (λ i b. h i (omega arith)))
    where
      go : (p : Bool) → T p → T (cond p (is_marked m (get_or ps k 0)) false)
      go true g = h k (omega arith)
      go false g = absurd g

  premises_are : premises_marked s z n m (length ps) ≡ all (is_marked m) ps
  premises_are = bool_ext (premises_marked s z n m (length ps)) (all (is_marked m) ps)
      (λ h. all-at (is_marked m) ps (first_marked (length ps) h)) (λ h. all_marked (length ps) (each_at (is_marked m) ps h))

all_same : (f g : ℕ → Bool) → ((k : ℕ) → f k ≡ g k) → (l : List ℕ) → all f l ≡ all g l
all_same f g h [] = refl
all_same f g h (k ∷ l) = ap₂ ◌&&◌ (h k) (all_same f g h l)

module _ (s : List ℕ) (z : Sizes) (c : Checks z (bodies s)) where
  abbrev P : Program
  P = program_of z (bodies s)

  abbrev C : Certificate
  C = certificate_of z (bodies s)

  sized : (n : ℕ) → length (marks_to s z n).on ≡ Limits.lines
  unfolding marks_to
  sized zero = none_length
  sized (suc n) = with_length (marks_to s z n) (suc n) (is_justified s templates z (suc n) (marks_to s z n)) ∙ sized n

  module _ (n : ℕ) (b : suc n ≤ z.lines) (same : (k : ℕ) → is_marked (marks_to s z n) k ≡ marked P C n k) where
    abbrev m : Marks
    m = marks_to s z n

    count_is : (line_at s z (suc n)).count ≡ length (premises (line_body z (bodies s) (suc n)))
    unfolding line_at line_in
    count_is = sym (premise-count z (bodies s) c (suc n) (omega arith) b)

    line_justified : is_justified s templates z (suc n) m ≡ line_fits P C (suc n) && all (marked P C n) (C.line (suc n)).premises
    unfolding is_justified
    line_justified =
        ap₂ (λ (p f : Bool). cond p f false)
        (ap (premises_marked s z (suc n) m) count_is ∙ premises_are s z (suc n) m
        ∙ all_same (is_marked m) (marked P C n) same (premises (line_body z (bodies s) (suc n))))
        (fits_is s z c (suc n) (omega arith, b))
        ∙ swap (all (marked P C n) (C.line (suc n)).premises) (line_fits P C (suc n))
      where
        swap : (p f : Bool) → cond p f false ≡ f && p
        swap true true = refl
        swap true false = refl
        swap false true = refl
        swap false false = refl

    step : (k : ℕ) → is_marked (marks_to s z (suc n)) k ≡ marked P C (suc n) k
    unfolding marks_to marked
    step k = go (eqb k (suc n)) refl
      where
        new : Bool
        new = is_justified s templates z (suc n) m

        go : (e : Bool) → eqb k (suc n) ≡ e → is_marked (with_mark m (suc n) new) k ≡ cond e
            (line_fits P C (suc n) && all (marked P C n) (C.line (suc n)).premises) (marked P C n k)
        go true e = subst (λ (j : ℕ). is_marked (with_mark m (suc n) new) j ≡ line_fits P C (suc n)
            && all (marked P C n) (C.line (suc n)).premises) (sym (eqb-true k (suc n) e))
            (marked_same m (suc n) new (sized n) (omega arith) (omega (arith, c.few)) ∙ line_justified)
        go false e = marked_other m (suc n) new k (eqb-false k (suc n) e) ∙ same k

  marks-to : (n : ℕ) → n ≤ z.lines → (k : ℕ) → is_marked (marks_to s z n) k ≡ marked P C n k
  unfolding marks_to marked
  marks-to zero b k = none_marked k
  marks-to (suc n) b k = step n b (marks-to n (omega arith)) k

  -- a line has a mark exactly if it is justified (`marked-justified` and `justified-marked` of certificate)
  pub marks_are : (k : ℕ) → is_marked (marks_to s z z.lines) k ≡ marked P C C.count k
  marks_are k = marks-to z.lines (omega arith) k
