-- The account of a caller: its rights and its number of billed images. A service is sixteen numbers: the rights of callers 1 to 8, then
-- the number of each.
use Rattle.std.specs.Prelude.{Bool, not, cond, ◌&&◌, List, ℕ, ◌+◌, ◌-◌, ◌/◌, ◌%◌, eqb, leb, get_or}
use Rattle.std.proofs.Math.Option.{Option, none, some}
use Rattle.std.proofs.Math.ListN.{get_elem?}
use Rattle.service_spec.specs.declared.rights.Denied.{Denied}
use Rattle.service_spec.specs.declared.rights.Denied.TheVariants.{NoCaller, NoRight}
use Rattle.service_spec.specs.declared.rights.Right.{Right}
use Rattle.service_spec.specs.declared.rights.Right.TheVariants.{Check, Replay, Bill}

-- "Up to eight callers use one service."
abbrev pub callers : ℕ
callers = 8

-- whether the rights n, a bit for each, include this right
unfoldable pub holds : Right → ℕ → Bool
holds Check n = eqb (n % 2) 1
holds Replay n = eqb (n / 2 % 2) 1
holds Bill n = eqb (n / 4 % 2) 1

-- an account; in a service that is too short, rights that are not there are none, and the number may be missing
pub record Account : Type 0 where
  pub rights : ℕ
  pub number : Option ℕ

-- callers are 1 to 8
abbrev pub is_caller : ℕ → Bool
is_caller c = not (eqb c 0) && leb c callers

-- the index of a caller's number, behind the rights
abbrev pub number_place : ℕ → ℕ
number_place c = 7 + c

-- the account of caller c in the service s
abbrev pub account_at : List ℕ → ℕ → Account
account_at s c = record { rights = get_or s (c - 1) 0; number = get_elem? s (number_place c) }

-- the account of c, if c is a caller
unfoldable pub account_of : List ℕ → ℕ → Option Account
account_of s c = cond (is_caller c) (some (account_at s c)) none

-- the code of a refusal: "35 caller not 1 to 8; 36 right missing"
unfoldable pub denied_code : Denied → ℕ
denied_code NoCaller = 35
denied_code NoRight = 36

-- "35 caller not 1 to 8; 36 right missing"; 0 if the account has the right
abbrev pub admission_at : Right → Option Account → ℕ
admission_at r none = 35
admission_at r (some d) = cond (holds r d.rights) 0 36

-- the code for caller c and the right r
unfoldable pub admission : Right → List ℕ → ℕ → ℕ
admission r s c = admission_at r (account_of s c)
