-- What a caller sees is what it sees alone; so it does not go by the others.
use mathlib.Core.Path.{◌≡◌, refl, ap, ap₂, sym, ◌∙◌, subst}
use mathlib.Core.Logic.{◌≢◌}
use mathlib.Core.Bool.{Bool, true, false, cond}
use mathlib.Core.List.{List, [], ◌∷◌, ◌++◌}
use mathlib.Core.Option.{Option, none, some}
use Prim.Native.Nat.{ℕ, zero, suc, ◌+◌, ◌-◌}
use native.Mathlib.Omega.{arith}
use lib.Dec.{eqb}
use lib.ListN.{get_or, get_elem?, set, take}
use lib.Seq.{get_or-set_other, take-set-le}
use borrow.Author.Tests.{eqb-true, eqb-false}
use Rattle.service_spec.specs.Account.{Account, callers, is_caller, number_place, account_at, account_of}
use Rattle.service_spec.specs.Opening.{opened}
use Rattle.service_spec.specs.Serving.{Call, Conduct, raised, reply_from, counted_from, serve_by, serve_all_by, requests_of, observed_by}
use Rattle.service_spec.specs.Isolation.{Isolated}
use Rattle.service_spec.proofs.AccountNumbers.{caller_first, caller_last, has_account, no_account}
use Rattle.service_spec.proofs.OpeningBranches.{opened_alike}

-- a number one higher, if it is there
abbrev higher : Option ℕ → Option ℕ
higher none = none
higher (some n) = some (n + 1)

read_raised : (s : List ℕ) (i : ℕ) → get_elem? (set s i (get_or s i 0 + 1)) i ≡ higher (get_elem? s i)
read_raised [] i = refl
read_raised (x ∷ s) zero = refl
read_raised (x ∷ s) (suc i) = read_raised s i

read_other : (s : List ℕ) (i j n : ℕ) → j ≢ i → get_elem? (set s i n) j ≡ get_elem? s j
read_other [] i j n h = refl
read_other (x ∷ s) zero zero n h = absurd (h refl)
read_other (x ∷ s) zero (suc j) n h = refl
read_other (x ∷ s) (suc i) zero n h = refl
read_other (x ∷ s) (suc i) (suc j) n h = read_other s i j n (λ e. h (ap suc e))

abbrev up : Account → Account
up d = record { rights = d.rights; number = higher d.number }

account_raised : (s : List ℕ) (c : ℕ) → is_caller c ≡ true → account_at (raised s c) c ≡ up (account_at s c)
unfolding raised
account_raised s c h =
    let first = caller_first c h in
    let apart : c - 1 ≢ number_place c = λ e. omega arith in
    ap₂ (λ (r : ℕ) (n : Option ℕ). record { rights = r; number = n })
    (get_or-set_other s (number_place c) (c - 1) (get_or s (number_place c) 0 + 1) 0 apart) (read_raised s (number_place c))

account_other : (s : List ℕ) (c b : ℕ) → is_caller c ≡ true → is_caller b ≡ true → b ≢ c → account_at (raised s b) c ≡ account_at s c
unfolding raised
account_other s c b h g q =
    let last = caller_last c h in
    let first = caller_first b g in
    let start = caller_first c h in
    let apart : c - 1 ≢ number_place b = λ e. omega arith in
    let others : number_place c ≢ number_place b = λ e. q (omega arith) in
    ap₂ (λ (r : ℕ) (n : Option ℕ). record { rights = r; number = n })
    (get_or-set_other s (number_place b) (c - 1) (get_or s (number_place b) 0 + 1) 0 apart)
    (read_other s (number_place b) (number_place c) (get_or s (number_place b) 0 + 1) others)

module _ {Q R : Type 0} (v : Conduct Q R) where
  -- a account after a request of its caller
  abbrev next : Option Account → Q → Option Account
  next none q = none
  next (some d) q = some (cond (v.counted d q) (up d) d)

  own : (s : List ℕ) (k : Call Q) → account_of (serve_by v s k).service k.caller ≡ next (account_of s k.caller) k.request
  unfolding serve_by
  own s k = go (is_caller k.caller) refl
    where
      counting : is_caller k.caller ≡ true → (b : Bool)
          → account_of (cond b (raised s k.caller) s) k.caller ≡ some (cond b (up (account_at s k.caller)) (account_at s k.caller))
      counting h true = has_account (raised s k.caller) k.caller h ∙ ap (λ (d : Account). some d) (account_raised s k.caller h)
      counting h false = has_account s k.caller h

      go : (b : Bool) → is_caller k.caller ≡ b
          → account_of (cond (counted_from v (account_of s k.caller) k.request) (raised s k.caller) s) k.caller ≡ next
          (account_of s k.caller) k.request
      go true h = rw (has_account s k.caller h) (counting h (v.counted (account_at s k.caller) k.request))
      go false h = rw (no_account s k.caller h) (no_account s k.caller h)

  -- the service of a call is the one before, or the caller's number is raised
  by_service : (P : List ℕ → Type 0) (s : List ℕ) (k : Call Q) → P s → (is_caller k.caller ≡ true → P (raised s k.caller))
      → P (serve_by v s k).service
  unfolding serve_by
  by_service P s k same more = go (is_caller k.caller) refl
    where
      counting : is_caller k.caller ≡ true → (b : Bool) → P (cond b (raised s k.caller) s)
      counting h true = more h
      counting h false = same

      go : (b : Bool) → is_caller k.caller ≡ b → P (cond (counted_from v (account_of s k.caller) k.request) (raised s k.caller) s)
      go true h = rw (has_account s k.caller h) (counting h (v.counted (account_at s k.caller) k.request))
      go false h = rw (no_account s k.caller h) same

  elsewhere : (c : ℕ) (s : List ℕ) (k : Call Q) → k.caller ≢ c → account_of (serve_by v s k).service c ≡ account_of s c
  elsewhere c s k q = by_service (λ t. account_of t c ≡ account_of s c) s k refl (λ g. go g (is_caller c) refl)
    where
      go : is_caller k.caller ≡ true → (b : Bool) → is_caller c ≡ b → account_of (raised s k.caller) c ≡ account_of s c
      go g true h = has_account (raised s k.caller) c h ∙ ap (λ (d : Account). some d) (account_other s c k.caller h g q) ∙ sym
          (has_account s c h)
      go g false h = no_account (raised s k.caller) c h ∙ sym (no_account s c h)

  fixed : (s : List ℕ) (k : Call Q) → take callers (serve_by v s k).service ≡ take callers s
  unfolding raised
  fixed s k = by_service (λ t. take callers t ≡ take callers s) s k refl
      (λ g. take-set-le callers s (number_place k.caller) (get_or s (number_place k.caller) 0 + 1)
      (let first = caller_first k.caller g in omega arith))

  -- a caller that is alone
  alone : Option Account → List Q → List (R × Option Account)
  alone d [] = []
  alone d (q ∷ l) = (reply_from v d q, next d q) ∷ alone (next d q) l

  seen_alone : (c : ℕ) (s : List ℕ) (l : List (Call Q)) → observed_by c (serve_all_by v s l) ≡ alone (account_of s c) (requests_of c l)
  unfolding alone serve_by
  seen_alone c s [] = refl
  seen_alone c s (k ∷ l) = go (eqb k.caller c) refl (seen_alone c (serve_by v s k).service l)
    where
      after : List ℕ
      after = (serve_by v s k).service

      rest : List (R × Option Account)
      rest = observed_by c (serve_all_by v after l)

      go : (b : Bool) → eqb k.caller c ≡ b → rest ≡ alone (account_of after c) (requests_of c l)
          → cond b (((serve_by v s k).reply, account_of after c) ∷ rest) rest ≡ alone (account_of s c)
          (cond b (k.request ∷ requests_of c l) (requests_of c l))
      go true e h =
          let q = eqb-true k.caller c e in
          let d : account_of after c ≡ next (account_of s c) k.request = subst (λ x. account_of after x ≡ next (account_of s x) k.request) q
          (own s k) in
          ap₂ (λ (x : R × Option Account) (r : List (R × Option Account)). x ∷ r)
          (ap₂ (λ (x : R) (y : Option Account). (x, y)) (ap (λ x. reply_from v (account_of s x) k.request) q) d)
          (h ∙ ap (λ (x : Option Account). alone x (requests_of c l)) d)
      go false e h = h ∙ ap (λ (d : Option Account). alone d (requests_of c l)) (elsewhere c s k (eqb-false k.caller c e))

  alike : (c : ℕ) (s t : List ℕ) (l m : List (Call Q)) → account_of s c ≡ account_of t c → requests_of c l ≡ requests_of c m
      → observed_by c (serve_all_by v s l) ≡ observed_by c (serve_all_by v t m)
  alike c s t l m d r = seen_alone c s l ∙ ap₂ alone d r ∙ sym (seen_alone c t m)

  pub isolated : Isolated v
  isolated = record {
    same = alike;
    opening = λ c r q x y l m e. alike c (opened r ++ x) (opened q ++ y) l m (opened_alike r q x y c e);
    others = elsewhere;
    rights = fixed;
  }
