-- WHAT A CALLER OF THE SERVICE MAY CONCLUDE, from the promise of its calls and from isolation alone, in the order and words of Change 13.
use mathlib.Core.Path.{◌≡◌, refl, ap, sym, ◌∙◌}
use mathlib.Core.Bool.{Bool, true, false, cond, ◌&&◌, and-false}
use mathlib.Core.List.{List, ◌++◌}
use mathlib.Core.Logic.{◌≢◌}
use mathlib.Core.Option.{Option}
use Prim.Native.Nat.{ℕ, ◌+◌, ◌-◌, ◌≤◌, ◌<◌}
use native.Mathlib.Omega.{arith}
use lib.Dec.{eqb}
use lib.ListN.{get_or, get_elem?, set, take}
use borrow.Author.Tests.{le-leb, lt-leb, eq-eqb, ne_eqb}
use Rattle.service_spec.specs.Account.{holds, account_of, admission}
use Rattle.service_spec.specs.Opening.{rights_given, opened}
use Rattle.service_spec.specs.Serving.{Call, raised, serve_by, requests_of, observed_by}
use Rattle.service_spec.specs.Isolation.{Isolated}
use Rattle.service_spec.specs.Request.{Request, to_check, to_trim, to_bill, to_hand_over, to_replay, to_replay_across, Reply, right_for, is_bill, refused, answered, conduct, serve, serve_all}
use Rattle.service_spec.specs.Promise.{Promise}

refused_code : (a : ℕ) (q : Request) → (refused a q).code ≡ a
refused_code a (to_check image buffer) = refl
refused_code a (to_trim image buffer) = refl
refused_code a (to_bill image f room) = refl
refused_code a (to_hand_over old new table) = refl
refused_code a (to_replay image trace given table room) = refl
refused_code a (to_replay_across old new points first second given table room) = refl

-- a refusal is no bill without an error
none_counted : (a : ℕ) (q : Request) → eqb a 0 ≡ false → (is_bill q && eqb (refused a q).code 0) ≡ false
none_counted a q e = rw (refused_code a q, e, and-false (is_bill q))

module _ (service : List ℕ) (caller : ℕ) (q : Request) (after : List ℕ) (reply : Reply) (Own : Type 0)
    (p : Promise service caller q after reply Own) where
  -- "35 caller not 1 to 8": callers 0, and 9 and above
  pub zero_refused : caller ≡ 0 → reply ≡ refused 35 q
  unfolding serve_by account_of
  zero_refused h = p.replies ∙ rw (eq-eqb caller 0 h)

  pub nine_refused : 8 < caller → reply ≡ refused 35 q
  unfolding serve_by account_of
  nine_refused h = let z : caller ≢ 0 = λ e. omega arith in p.replies ∙ rw (ne_eqb caller 0 z, lt-leb caller 8 h)

  -- "neither changes a number": the service stays
  pub zero_kept : caller ≡ 0 → after ≡ service
  unfolding serve_by account_of
  zero_kept h = p.kept ∙ rw (eq-eqb caller 0 h)

  pub nine_kept : 8 < caller → after ≡ service
  unfolding serve_by account_of
  nine_kept h = let z : caller ≢ 0 = λ e. omega arith in p.kept ∙ rw (ne_eqb caller 0 z, lt-leb caller 8 h)

  -- a caller, 1 to 8
  module _ (low : 1 ≤ caller) (high : caller ≤ 8) where
    known : caller ≢ 0
    known e = omega arith

    -- the caller's own number
    abbrev pub number : Option ℕ
    number = get_elem? service (7 + caller)

    -- "36 right missing": as above
    module _ (missing : holds (right_for q) (get_or service (caller - 1) 0) ≡ false) where
      pub right_refused : reply ≡ refused 36 q
      unfolding serve_by account_of
      right_refused = p.replies ∙ rw (ne_eqb caller 0 known, le-leb caller 8 high, missing)

      pub right_kept : after ≡ service
      unfolding serve_by account_of
      right_kept =
          p.kept
          ∙ rw (ne_eqb caller 0 known, le-leb caller 8 high, missing)
          (ap (λ (b : Bool). cond b (raised service caller) service) (none_counted 36 q refl))

    -- the right is there
    module _ (right : holds (right_for q) (get_or service (caller - 1) 0) ≡ true) where
      pub is_admitted : admission (right_for q) service caller ≡ 0
      unfolding admission account_of
      is_admitted = rw (ne_eqb caller 0 known, le-leb caller 8 high, right)

      -- the reply of the call without a service, for a bill by the caller's own number
      pub own_reply : reply ≡ answered number q
      unfolding serve_by account_of
      own_reply = p.replies ∙ rw (ne_eqb caller 0 known, le-leb caller 8 high, right)

      -- and all that it promises
      pub own_promise : Own
      own_promise = p.own is_admitted

      -- "each bill without an error adds one" to the caller's number, and to no other
      pub number_raised : is_bill q ≡ true → reply.code ≡ 0 → after ≡ set service (7 + caller) (get_or service (7 + caller) 0 + 1)
      unfolding serve_by account_of raised
      number_raised b e =
          p.kept
          ∙ rw (ne_eqb caller 0 known, le-leb caller 8 high, right, b, eq-eqb (answered number q).code 0 (ap (λ (r : Reply). r.code) (sym own_reply) ∙ e))

      -- any other call, and a bill with an error, changes no number
      pub no_bill_kept : is_bill q ≡ false → after ≡ service
      unfolding serve_by account_of
      no_bill_kept b = p.kept ∙ rw (ne_eqb caller 0 known, le-leb caller 8 high, right, b)

      pub error_kept : reply.code ≢ 0 → after ≡ service
      unfolding serve_by account_of
      error_kept e =
          let d : (answered number q).code ≢ 0 = λ z. e (ap (λ (r : Reply). r.code) own_reply ∙ z) in
          p.kept
          ∙ rw (ne_eqb caller 0 known, le-leb caller 8 high, right, ne_eqb (answered number q).code 0 d, and-false (is_bill q))

-- ISOLATION
module _ (v : Isolated conduct) where
  -- "In two runs from the opening that give a caller the same rights and the same calls in the same order, its bills and numbers are the
  -- same, whoever else calls between them": r and g are the rights given, x and y what the buffers hold behind the sixteen numbers
  pub same_from_opening : (c : ℕ) (r g x y : List ℕ) (l m : List (Call Request)) → rights_given r (c - 1) ≡ rights_given g (c - 1)
      → requests_of c l ≡ requests_of c m
      → observed_by c (serve_all (opened r ++ x) l) ≡ observed_by c (serve_all (opened g ++ y) m)
  same_from_opening = v.opening

  -- and from any two services with the same account of the caller
  pub same_from_account : (c : ℕ) (s t : List ℕ) (l m : List (Call Request)) → account_of s c ≡ account_of t c
      → requests_of c l ≡ requests_of c m
      → observed_by c (serve_all s l) ≡ observed_by c (serve_all t m)
  same_from_account = v.same

  -- another caller's call leaves the account of c
  pub others_apart : (c : ℕ) (s : List ℕ) (k : Call Request) → k.caller ≢ c → account_of (serve s k).service c ≡ account_of s c
  others_apart = v.others

  -- "given by us before the service opens and fixed while it runs"
  pub rights_fixed : (s : List ℕ) (k : Call Request) → take 8 (serve s k).service ≡ take 8 s
  rights_fixed = v.rights
