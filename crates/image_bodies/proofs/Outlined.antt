-- The table of formulas that may stand in an outline or a triple. `l` are the bodies of the image.
use Prim.Native.Nat.{ℕ, zero, suc, ◌+◌, ◌≤◌, ◌<◌}
use mathlib.Core.Path.{◌≡◌, refl, ◌∙◌}
use mathlib.Core.List.{List, []}
use mathlib.Core.Bool.{Bool, true, false}
use native.Mathlib.Numerals.{add-one}
use native.Mathlib.Omega.{arith}
use lib.ListN.{length, get_or, set, replicate, length-set, length-replicate}
use lib.Seq.{get_or-set_same, get_or-set_other}
use lib.Dec.{eqb}
use borrow.Author.Tests.{eqb-true, eqb-false}
use Rattle.limits.specs.Limits as Limits
use Rattle.image_header.specs.declared.sizes.Sizes.{Sizes}
use Rattle.image_bodies.specs.FormulaUse.{outlined}
use Rattle.image_bodies.specs.ListBody.{outlined_at}
use Rattle.image_bodies.specs.OutlineFormulas.{entries, outlined_to, outlined_of}

-- filled entry by entry

pub table_none : (l : List (List ℕ)) → replicate (Limits.formulas + 1) false ≡ outlined_to l 0
unfolding outlined_to
table_none l = refl

pub table_more : (l : List (List ℕ)) (a : List Bool) (k : ℕ) (b : List ℕ) (u : Bool) → a ≡ outlined_to l k → b ≡ get_or l k []
    → u ≡ outlined b → set a k u ≡ outlined_to l (k + 1)
unfolding outlined_to outlined_at
table_more l a k b u ea eb eu = rw (add-one k, eu, eb, ea)

pub table_all : (z : Sizes) (l : List (List ℕ)) (a : List Bool) (k n : ℕ) → n ≡ entries z → k ≤ n → n ≤ k → a ≡ outlined_to l k
    → a ≡ outlined_of z l
unfolding outlined_of
table_all z l a k n en h g e = let q : k ≡ entries z = omega arith in rw (← q) e

entries_low : (z : Sizes) → entries z ≤ Limits.formulas + 1
unfolding entries
entries_low z = omega arith

pub entries_fit : (z : Sizes) (n : ℕ) → n ≡ entries z → n ≤ Limits.formulas + 1
entries_fit z n e = omega (arith, entries_low z)

pub table_long : (a : List Bool) (k : ℕ) (u : Bool) (n : ℕ) → length a ≡ n → length (set a k u) ≡ n
table_long a k u n e = length-set a k u ∙ e

pub ruleset outlined_of_branches = (table_none, table_more, table_all, entries_fit, table_long)

-- looked up

to_length : (l : List (List ℕ)) (n : ℕ) → length (outlined_to l n) ≡ Limits.formulas + 1
unfolding outlined_to
to_length l zero = length-replicate {A = Bool} (Limits.formulas + 1) false
to_length l (suc k) = length-set (outlined_to l k) k (outlined_at l k) ∙ to_length l k

to_entry : (l : List (List ℕ)) (n k : ℕ) → k < n → n ≤ Limits.formulas + 1 → get_or (outlined_to l n) k false ≡ outlined_at l k
unfolding outlined_to
to_entry l zero k h g = absurd (omega arith)
to_entry l (suc n) k h g = go (eqb k n) refl (λ a. to_entry l n k a (omega arith))
  where
    go : (b : Bool) → eqb k n ≡ b → (k < n → get_or (outlined_to l n) k false ≡ outlined_at l k)
        → get_or (set (outlined_to l n) n (outlined_at l n)) k false ≡ outlined_at l k
    go true e f =
        let q = eqb-true k n e in
        let z : n < length (outlined_to l n) = rw (to_length l n) (omega arith) in
        rw q (get_or-set_same (outlined_to l n) n (outlined_at l n) false z)
    go false e f =
        let q = eqb-false k n e in
        get_or-set_other (outlined_to l n) n k (outlined_at l n) false q ∙ f (omega arith)

pub entry_low : (z : Sizes) (k n : ℕ) → n ≡ entries z → k < n → k < Limits.formulas + 1
entry_low z k n e h = omega (arith, entries_low z)

pub entry_is : (z : Sizes) (l : List (List ℕ)) (a : List Bool) (k n : ℕ) → a ≡ outlined_of z l → n ≡ entries z → k < n
    → get_or a k false ≡ outlined_at l k
unfolding outlined_of
entry_is z l a k n e en h = rw e (to_entry l (entries z) k (omega arith) (entries_low z))
