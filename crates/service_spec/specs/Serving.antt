-- Calls to one service, whatever is asked and answered, where a reply goes by the caller's account alone.
use Rattle.std.specs.Prelude.{Bool, false, cond, List, [], ◌∷◌, ℕ, ◌+◌, eqb, get_or, set}
use Rattle.std.proofs.Math.Option.{Option, none, some}
use Rattle.service_spec.specs.Account.{Account, account_of, number_place}

-- a caller and what it asks for
pub record Call (Q : Type 0) : Type 0 where
  pub caller : ℕ
  pub request : Q

-- the service after a call, and the reply
pub record Served (R : Type 0) : Type 0 where
  pub service : List ℕ
  pub reply : R

-- a call that was served
pub record Turn (R : Type 0) : Type 0 where
  pub caller : ℕ
  pub served : Served R

-- how requests are answered
pub record Conduct (Q R : Type 0) : Type 0 where
  -- the reply to one who is no caller
  pub unknown : Q → R
  -- the reply to a caller with this account
  pub reply : Account → Q → R
  -- whether the caller's number is one higher afterwards
  pub counted : Account → Q → Bool

-- the service s with the number of caller c one higher
unfoldable pub raised : List ℕ → ℕ → List ℕ
raised s c = set s (number_place c) (get_or s (number_place c) 0 + 1)

module _ {Q R : Type 0} (v : Conduct Q R) where
  -- the reply by the account, if there is one
  abbrev pub reply_from : Option Account → Q → R
  reply_from none q = v.unknown q
  reply_from (some d) q = v.reply d q

  -- whether the number rises, by the account, if there is one
  abbrev pub counted_from : Option Account → Q → Bool
  counted_from none q = false
  counted_from (some d) q = v.counted d q

  -- a service and a call: the service afterwards, and the reply
  unfoldable pub serve_by : List ℕ → Call Q → Served R
  serve_by s k = record {
    service = cond (counted_from (account_of s k.caller) k.request) (raised s k.caller) s;
    reply = reply_from (account_of s k.caller) k.request;
  }

  -- the turns of a list of calls, one after the other
  abbrev pub serve_all_by : List ℕ → List (Call Q) → List (Turn R)
  serve_all_by s [] = []
  serve_all_by s (k ∷ l) = record { caller = k.caller; served = serve_by s k } ∷ serve_all_by (serve_by s k).service l

-- the requests of caller c, in order
abbrev pub requests_of : {Q : Type 0} → ℕ → List (Call Q) → List Q
requests_of c [] = []
requests_of c (k ∷ l) = cond (eqb k.caller c) (k.request ∷ requests_of c l) (requests_of c l)

-- what caller c sees: the reply to each of its calls, and its account after it
abbrev pub observed_by : {R : Type 0} → ℕ → List (Turn R) → List (R × Option Account)
observed_by c [] = []
observed_by c (t ∷ l) = cond (eqb t.caller c) ((t.served.reply, account_of t.served.service c) ∷ observed_by c l) (observed_by c l)
