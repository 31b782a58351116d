-- THE ISOLATION of callers (noninterference), for every conduct that goes by the caller's account alone.
use Rattle.std.specs.Prelude.{◌≡◌, ◌≢◌, List, ◌++◌, ℕ, ◌-◌, take}
use Rattle.service_spec.specs.Account.{callers, account_of}
use Rattle.service_spec.specs.Opening.{rights_given, opened}
use Rattle.service_spec.specs.Serving.{Call, Conduct, serve_by, serve_all_by, requests_of, observed_by}

-- what a caller c sees depends on its own account and its own calls alone
pub record Isolated {Q R : Type 0} (v : Conduct Q R) : Type 0 where
  -- "its bills and numbers are the same, whoever else calls between them": of two services with the same account of c, and two lists of
  -- calls with the same calls of c in the same order, whatever is refused
  pub same : (c : ℕ) (s t : List ℕ) (l m : List (Call Q)) → account_of s c ≡ account_of t c → requests_of c l ≡ requests_of c m
      → observed_by c (serve_all_by v s l) ≡ observed_by c (serve_all_by v t m)
  -- "In two runs from the opening that give a caller the same rights and the same calls in the same order": x and y are whatever the
  -- buffers hold behind the sixteen numbers
  pub opening : (c : ℕ) (r q x y : List ℕ) (l m : List (Call Q)) → rights_given r (c - 1) ≡ rights_given q (c - 1) → requests_of c l ≡ requests_of c m
      → observed_by c (serve_all_by v (opened r ++ x) l) ≡ observed_by c (serve_all_by v (opened q ++ y) m)
  -- a call of another caller leaves the account of c as it was
  pub others : (c : ℕ) (s : List ℕ) (k : Call Q) → k.caller ≢ c → account_of (serve_by v s k).service c ≡ account_of s c
  -- rights are "fixed while it runs": no call changes one
  pub rights : (s : List ℕ) (k : Call Q) → take callers (serve_by v s k).service ≡ take callers s
