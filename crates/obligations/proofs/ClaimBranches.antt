-- The loop over the claims.
use mathlib.Core.Path.{◌≡◌}
use mathlib.Core.Bool.{Bool, true, false}
use mathlib.Core.List.{List}
use Prim.Native.Nat.{ℕ, suc, ◌+◌, ◌-◌, ◌≤◌, ◌<◌}
use native.Mathlib.Numerals.{add-one}
use native.Mathlib.Omega.{arith}
use Rattle.std.specs.Prelude.{Option, None, Some, IfSome}
use Rattle.limits.proofs.BranchTests.{tests}
use Rattle.image_header.specs.declared.sizes.Sizes.{Sizes}
use Rattle.rules_justified.specs.declared.marks.Marks.{Marks}
use Rattle.obligations.specs.Concludes.{sustained_at}
use Rattle.obligations.specs.Claims.{first_denied}

module _ (s : List ℕ) (z : Sizes) (m : Marks) where
  pub none_first : z.claims ≡ 0 → None ≡ first_denied s z m z.claims 0
  unfolding first_denied
  none_first e = rw e

  -- all below i are borne out
  unfoldable pub Borne : ℕ → Type 0
  Borne i = first_denied s z m (z.claims - i) i ≡ first_denied s z m z.claims 0

  pub borne_none : Borne 0
  unfolding Borne
  borne_none = let e : z.claims - 0 ≡ z.claims = omega arith in rw e

  module _ (n i : ℕ) (e : n ≡ z.claims) (d : Borne i) where
    module _ (b : Bool) (g : b ≡ sustained_at s z m i) (h : i < n) where
      one_less : z.claims - i ≡ suc (z.claims - (i + 1))
      one_less = omega arith

      pub borne_more : b ≡ true → Borne (i + 1)
      unfolding Borne first_denied
      borne_more t = rw (add-one i) (rw (one_less, ← g, t, add-one i) at d)

      pub first_here : b ≡ false → Some i ≡ first_denied s z m z.claims 0
      unfolding Borne first_denied
      first_here t = rw (one_less, ← g, t) at d

    pub first_past : i ≡ n → None ≡ first_denied s z m z.claims 0
    unfolding Borne first_denied
    first_past h = let f : z.claims - i ≡ 0 = omega arith in rw f at d

-- y and w: the image's bytes and sizes, as they are counted
module _ (s y : List ℕ) (z w : Sizes) (m : Marks) (r : Option ℕ) (e : y ≡ s) (d : w ≡ z) where
  pub denied_counted : r ≡ first_denied y w m w.claims 0 → r ≡ first_denied s z m z.claims 0
  denied_counted h = rw (← e, ← d) h

  pub within_counted : IfSome r (λ i. i < w.claims) → IfSome r (λ i. i < z.claims)
  within_counted h = rw (← d) h

pub ruleset denied_branches = (none_first, borne_none, borne_more, first_here, first_past, denied_counted, within_counted, tests)
