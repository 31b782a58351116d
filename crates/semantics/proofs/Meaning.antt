-- Truth of intervals in the scope page's sentences, both ways, for every list of views and whatever the names stand for.
use mathlib.Core.Path.{◌≡◌, refl, sym, ◌∙◌, subst}
use mathlib.Core.List.{List, [], ◌∷◌, ◌++◌}
use mathlib.Core.Logic.{◌⊎◌}
use Prim.Native.Nat.{ℕ, zero, suc, ◌<◌}
use native.Mathlib.Omega.{arith}
use lib.Dec.{T}
use lib.ListN.{length, get_or, take, drop, take-append-drop}
use lib.Seq.{take-append_seam, drop-append_seam}
use Rattle.semantics.specs.Base.{All}
use Rattle.semantics.specs.Formula.{Test, Interval, Formula.box, Formula.one, Formula.chop, Formula.both, Formula.either}
use Rattle.semantics.specs.Eval.{Env, test}
use Rattle.semantics.specs.Machine.{View}
use Rattle.semantics.specs.Truth.{Sat}

-- the view at a place of the list
abbrev pub nth : List View → ℕ → View
nth l i = get_or l i (λ x. 0)

pub each_place : (Q : View → Type 0) (l : List View) → All Q l → (i : ℕ) → i < length l → Q (nth l i)
each_place Q [] h i b = absurd (omega arith)
each_place Q (v ∷ l) h zero b = h.0
each_place Q (v ∷ l) h (suc i) b = each_place Q l h.1 i (omega arith)

pub all_places : (Q : View → Type 0) (l : List View) → ((i : ℕ) → i < length l → Q (nth l i)) → All Q l
all_places Q [] h = tt
all_places Q (v ∷ l) h = (h 0 (omega arith), all_places Q l (λ i b. h (suc i) (omega arith)))

module _ (R : ℕ) (ρ : View → Env) where
  -- [E]: test E is true at each view
  pub box_says : (e : Test) (l : List View) → Sat R ρ (box e) l → (i : ℕ) → i < length l → T (test R (ρ (nth l i)) e)
  box_says e l h = each_place (λ v. T (test R (ρ v) e)) l h

  pub says_box : (e : Test) (l : List View) → ((i : ℕ) → i < length l → T (test R (ρ (nth l i)) e)) → Sat R ρ (box e) l
  says_box e l h = all_places (λ v. T (test R (ρ v) e)) l h

  -- one x: all views name the same write of x
  pub one_says : (x : ℕ) (l : List View) → Sat R ρ (one x) l → (i j : ℕ) → i < length l → j < length l → nth l i x ≡ nth l j x
  one_says x l h i j b c = each_place (λ v. v x ≡ h.0) l h.1 i b ∙ sym (each_place (λ v. v x ≡ h.0) l h.1 j c)

  pub says_one : (x : ℕ) (l : List View) → ((i j : ℕ) → i < length l → j < length l → nth l i x ≡ nth l j x) → Sat R ρ (one x) l
  says_one x [] h = (0, tt)
  says_one x (v ∷ l) h = (v x, all_places (λ w. w x ≡ v x) (v ∷ l) (λ i b. h i 0 b (omega arith)))

  -- I;J: the list is cut in two, either part perhaps empty, the first satisfying I and the second J
  pub chop_says : (i j : Interval) (l : List View) → Sat R ρ (chop i j) l
      → (a : List View) × (b : List View) × (a ++ b ≡ l) × Sat R ρ i a × Sat R ρ j b
  chop_says i j l h = (take h.0 l, drop h.0 l, take-append-drop h.0 l, h.1, h.2)

  pub says_chop : (i j : Interval) (a b : List View) → Sat R ρ i a → Sat R ρ j b → Sat R ρ (chop i j) (a ++ b)
  says_chop i j a b h g = (length a, subst (Sat R ρ i) (sym (take-append_seam a b)) h, subst (Sat R ρ j) (sym (drop-append_seam a b)) g)

  -- both and either: two intervals on the same list
  pub both_says : (i j : Interval) (l : List View) → Sat R ρ (both i j) l ≡ (Sat R ρ i l × Sat R ρ j l)
  both_says i j l = refl

  pub either_says : (i j : Interval) (l : List View) → Sat R ρ (either i j) l ≡ (Sat R ρ i l ⊎ Sat R ρ j l)
  either_says i j l = refl
