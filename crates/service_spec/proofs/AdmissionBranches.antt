-- The ways to an admission, one law for each.
use mathlib.Core.Path.{◌≡◌, refl, sym, ◌∙◌}
use mathlib.Core.Bool.{Bool, true, false, cond}
use mathlib.Core.List.{List}
use Prim.Native.Nat.{ℕ, ◌-◌, ◌≤◌, ◌<◌}
use native.Mathlib.Omega.{arith}
use lib.ListN.{length, get_or, get_or-eq_default}
use borrow.Author.Tests.{eq-eqb, ne_eqb, le-leb, lt-leb}
use Rattle.service_spec.specs.declared.rights.Denied.{Denied}
use Rattle.service_spec.specs.declared.rights.Denied.TheVariants.{NoCaller, NoRight}
use Rattle.service_spec.specs.declared.rights.Right.{Right}
use Rattle.service_spec.specs.declared.rights.Right.TheVariants.{Check, Replay, Bill}
use Rattle.service_spec.specs.Account.{callers, holds, is_caller, account_of, denied_code, admission_at, admission}
use Rattle.service_spec.proofs.AccountNumbers.{caller_last, no_account}

-- no right in a number that is not there
none_held : (r : Right) → holds r 0 ≡ false
unfolding holds
none_held Check = refl
none_held Replay = refl
none_held Bill = refl

module _ (r : Right) (s : List ℕ) (c : ℕ) where
  pub zero_unknown : c ≡ 0 → 35 ≡ admission r s c
  unfolding admission account_of
  zero_unknown e = rw (eq-eqb c 0 e)

  module _ (h : c ≡ 0 → ⊥) where
    pub past_unknown : callers < c → 35 ≡ admission r s c
    unfolding admission account_of
    past_unknown g = rw (ne_eqb c 0 h, lt-leb c callers g)

    module _ (g : c ≤ callers) where
      by_right : (b : Bool) → b ≡ holds r (get_or s (c - 1) 0) → cond b 0 36 ≡ admission r s c
      unfolding admission account_of
      by_right b e = rw (ne_eqb c 0 h, le-leb c callers g, ← e)

      pub short_refused : length s < c → 36 ≡ admission r s c
      short_refused l =
          let past : length s ≤ c - 1 = omega arith in
          by_right false (rw (get_or-eq_default s 0 past) (sym (none_held r)))

      pub holder_admitted : (b : Bool) → b ≡ holds r (get_or s (c - 1) 0) → b ≡ true → admission r s c ≡ 0
      holder_admitted b e q = sym (by_right true (sym q ∙ e))

      pub other_refused : (b : Bool) → b ≡ holds r (get_or s (c - 1) 0) → b ≡ false → 36 ≡ admission r s c
      other_refused b e q = by_right false (sym q ∙ e)

-- one who is admitted is a caller
pub admitted_caller : (r : Right) (s : List ℕ) (c : ℕ) → admission r s c ≡ 0 → c ≤ callers
unfolding admission
admitted_caller r s c e = go (is_caller c) refl
  where
    go : (b : Bool) → is_caller c ≡ b → c ≤ callers
    go true h = caller_last c h
    go false h = let x : admission_at r (account_of s c) ≡ 35 = rw (no_account s c h) in absurd (omega arith)

pub ruleset admitted_branches = (zero_unknown, past_unknown, short_refused, holder_admitted, other_refused)

-- a refusal has a code
pub denied_apart : (d : Denied) → denied_code d ≡ 0 → ⊥
unfolding denied_code
denied_apart NoCaller e = omega arith
denied_apart NoRight e = omega arith
