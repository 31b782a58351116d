-- The ways through the pass, one law for each.
use mathlib.Core.Path.{◌≡◌, refl, sym, ◌∙◌, subst}
use mathlib.Core.Bool.{Bool, true, false}
use mathlib.Core.List.{List}
use Prim.Native.Nat.{ℕ, zero, suc, ◌+◌, ◌-◌, ◌≤◌, ◌<◌}
use native.Mathlib.Numerals.{add-one}
use native.Mathlib.Omega.{arith}
use lib.Dec.{eqb}
use lib.ListN.{get_or, replicate}
use borrow.Author.Tests.{eqb-true, eqb-false}
use Rattle.limits.specs.Limits.{lines}
use Rattle.image_frames.specs.Records.{bodies}
use Rattle.image_header.specs.declared.sizes.Sizes.{Sizes}
use Rattle.image_bodies.specs.Line.{premises}
use Rattle.image_meaning.specs.Certificate.{line_body}
use Rattle.image_access.specs.AccessPlaces.{line_in}
use Rattle.image_access.specs.declared.line.Line.{Line}
use Rattle.rules_table.specs.RuleTable.{templates}
use Rattle.rules_line.specs.LineConclusion.{line_at}
use Rattle.rules_line.specs.RuleInstance.{fits_line}
use Rattle.rules_justified.specs.Marks.{as_marks, no_marks, is_marked, with_mark}
use Rattle.rules_justified.specs.declared.marks.Marks.{Marks}
use Rattle.rules_justified.specs.Justify.{premises_marked, is_justified, marks_to}

module _ (s : List ℕ) (z : Sizes) (n : ℕ) (m : Marks) where
  -- one that has no mark is enough
  missing : (k j : ℕ) → false ≡ premises_marked s z n m j → j ≤ k → false ≡ premises_marked s z n m k
  unfolding premises_marked
  missing zero j h g = let q : j ≡ 0 = omega arith in rw q at h
  missing (suc k) j h g = go (eqb j (suc k)) refl (λ b. missing k j h b)
    where
      go : (b : Bool) → eqb j (suc k) ≡ b → (j ≤ k → false ≡ premises_marked s z n m k) → false ≡ premises_marked s z n m (suc k)
      go true e ih = subst (λ (i : ℕ). false ≡ premises_marked s z n m i) (eqb-true j (suc k) e) h
      go false e ih = let q = eqb-false j (suc k) e in let b : j ≤ k = omega arith in rw (← ih b)

  pub premises_none : true ≡ premises_marked s z n m 0
  unfolding premises_marked
  premises_none = refl

  module _ (j p : ℕ) (b : Bool) (so : true ≡ premises_marked s z n m j) (e : p ≡ get_or (premises (line_body z (bodies s) n)) j 0)
      (d : b ≡ is_marked m p) where
    premises_step : b ≡ premises_marked s z n m (j + 1)
    unfolding premises_marked
    premises_step = rw (add-one j, ← so, ← e) d

    pub premises_more : b ≡ true → true ≡ premises_marked s z n m (j + 1)
    premises_more h = sym h ∙ premises_step

    pub premises_miss : (count : ℕ) → b ≡ false → j < count → false ≡ premises_marked s z n m count
    premises_miss count h g = missing count (j + 1) (sym h ∙ premises_step) (omega arith)

pub ruleset premises_marked_branches = (premises_none, premises_more, premises_miss)

module _ (s t : List ℕ) (z : Sizes) (n : ℕ) (m : Marks) (l : Line) (a : Bool) (e : l ≡ line_in s (line_body z (bodies s) n))
    (d : a ≡ premises_marked s z n m l.count) where
  pub justified_fits : (b : Bool) → a ≡ true → b ≡ fits_line s t z n → b ≡ is_justified s t z n m
  unfolding is_justified line_at
  justified_fits b h f = rw (← e, ← d, h) f

  pub justified_not : a ≡ false → false ≡ is_justified s t z n m
  unfolding is_justified line_at
  justified_not h = rw (← e, ← d, h)

pub ruleset is_justified_branches = (justified_fits, justified_not)

module _ (s : List ℕ) (z : Sizes) where
  abbrev These : List Bool → ℕ → Type 0
  These on n = as_marks on ≡ marks_to s z n

  pub marks_none : These (replicate lines false) 0
  unfolding marks_to no_marks
  marks_none = refl

  -- line n is judged by the marks of those before it
  pub marks_more : (t : List ℕ) (n k : ℕ) (on after : List Bool) (b : Bool) → t ≡ templates → 1 ≤ n → k ≡ n → These on (n - 1)
      → b ≡ is_justified s t z n (as_marks on)
      → after ≡ (with_mark (as_marks on) n b).on → These after k
  unfolding marks_to
  marks_more t n k on after b e h i d f g =
      let p : k ≡ suc (n - 1) = omega arith in
      let q : suc (n - 1) ≡ n = omega arith in
      subst (λ (m : ℕ). These after m) (sym p) (rw (← d, q, ← e, ← f, g))

  pub marks_all : (n k : ℕ) (on : List Bool) → These on (n - 1) → k ≡ n - 1 → These on k
  marks_all n k on e a = subst (λ (m : ℕ). These on m) (sym a) e
