-- What an opened service holds of each caller, and the ways to open one.
use mathlib.Core.Path.{◌≡◌, refl, ap, ap₂, sym, ◌∙◌}
use mathlib.Core.List.{List, [], ◌∷◌, ◌++◌}
use mathlib.Core.Bool.{Bool, true, false}
use mathlib.Core.Option.{Option, some}
use Prim.Native.Nat.{ℕ, zero, suc, ◌+◌, ◌-◌, ◌≤◌, ◌<◌}
use native.Mathlib.Omega.{arith}
use lib.ListN.{length, get_or, drop, replicate, get_or-append, get_or-replicate}
use lib.Seq.{get_or-append-add}
use borrow.Author.Tests.{lt-ltb, le-ltb}
use Rattle.service_spec.specs.Account.{Account, callers, is_caller, number_place, account_at, account_of}
use Rattle.service_spec.proofs.AccountNumbers.{caller_first, caller_last, has_account, no_account, read_there}
use Rattle.service_spec.specs.Opening.{places, rights_given, given_from, opened, opening_code, service_for}

pub sixteen : (r : List ℕ) (a b c d e f g h : ℕ) → a ≡ rights_given r 0 → b ≡ rights_given r 1 → c ≡ rights_given r 2 → d ≡ rights_given r 3 → e ≡ rights_given r 4
    → f ≡ rights_given r 5
    → g ≡ rights_given r 6 → h ≡ rights_given r 7 → a ∷ b ∷ c ∷ d ∷ e ∷ f ∷ g ∷ h ∷ 0 ∷ 0 ∷ 0 ∷ 0 ∷ 0 ∷ 0 ∷ 0 ∷ 0 ∷ [] ≡ opened r
unfolding opened
sixteen r a b c d e f g h ea eb ec ed ee ef eg eh = rw (ea, eb, ec, ed, ee, ef, eg, eh)

module _ (r room : List ℕ) where
  pub short_code : length room < places → 1 ≡ opening_code room
  unfolding opening_code
  short_code h = rw (lt-ltb _ _ h)

  pub short_stays : length room < places → room ≡ service_for r room
  unfolding service_for
  short_stays h = rw (lt-ltb _ _ h)

  pub whole_code : places ≤ length room → 0 ≡ opening_code room
  unfolding opening_code
  whole_code h = rw (le-ltb _ _ h)

  pub whole_opened : (v after : List ℕ) → places ≤ length room → v ≡ opened r → after ≡ v ++ drop places room → after ≡ service_for r room
  unfolding service_for
  whole_opened v after h e d = rw (le-ltb _ _ h, ← e) d

pub ruleset open_service_branches = (short_code, short_stays, whole_code, whole_opened)

-- what an opened service holds of a caller: the rights given to it, and a number of 0

given_at : (r : List ℕ) (i n k : ℕ) → k < n → get_or (given_from r i n) k 0 ≡ rights_given r (i + k)
given_at r i zero k h = absurd (omega arith)
given_at r i (suc n) zero h = let e : i + 0 ≡ i = omega arith in rw e
given_at r i (suc n) (suc k) h = let e : suc i + k ≡ i + suc k = omega arith in given_at r (suc i) n k (omega arith) ∙ ap (rights_given r) e

opened_account : (r x : List ℕ) (c : ℕ) → is_caller c ≡ true → account_at (opened r ++ x) c ≡ record { rights = rights_given r (c - 1); number = some 0 }
unfolding opened
opened_account r x c h =
    let first = caller_first c h in
    let last = caller_last c h in
    let v = given_from r 0 callers in
    let k : c - 1 < callers = omega arith in
    let e : number_place c ≡ callers + (c - 1) = omega arith in
    let z : 0 + (c - 1) ≡ c - 1 = omega arith in
    ap₂ (λ (a : ℕ) (n : Option ℕ). record { rights = a; number = n })
    (get_or-append (v ++ replicate callers 0) x 0 (c - 1) (omega arith) ∙ get_or-append v (replicate callers 0) 0 (c - 1) k
    ∙ given_at r 0 callers (c - 1) k ∙ ap (rights_given r) z)
    (read_there (v ++ replicate callers 0 ++ x) (number_place c) (omega arith) ∙ ap (λ (n : ℕ). some n)
    (ap (λ (i : ℕ). get_or (v ++ replicate callers 0 ++ x) i 0) e ∙ get_or-append-add v (replicate callers 0 ++ x) (c - 1) 0
    ∙ get_or-append (replicate callers 0) x 0 (c - 1) k ∙ get_or-replicate callers (c - 1) 0 0 k))

-- two openings that give a caller the same rights hold the same of it
pub opened_alike : (r q x y : List ℕ) (c : ℕ) → rights_given r (c - 1) ≡ rights_given q (c - 1) → account_of (opened r ++ x) c ≡ account_of (opened q ++ y) c
opened_alike r q x y c e = go (is_caller c) refl
  where
    account : ℕ → Option Account
    account a = some (record { rights = a; number = some 0 })

    held : (p z : List ℕ) → is_caller c ≡ true → account_of (opened p ++ z) c ≡ account (rights_given p (c - 1))
    held p z h = has_account (opened p ++ z) c h ∙ ap (λ (d : Account). some d) (opened_account p z c h)

    go : (b : Bool) → is_caller c ≡ b → account_of (opened r ++ x) c ≡ account_of (opened q ++ y) c
    go true h = held r x h ∙ ap account e ∙ sym (held q y h)
    go false h = no_account (opened r ++ x) c h ∙ sym (no_account (opened q ++ y) c h)
