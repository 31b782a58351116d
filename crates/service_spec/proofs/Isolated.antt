-- THE ISOLATION of callers of this service: its replies go by what it holds of the caller.
use Rattle.service_spec.specs.Isolation.{Isolated}
use Rattle.service_spec.specs.Request.{conduct}
use Rattle.service_spec.proofs.Isolation.{isolated}

pub accounts_isolated : Isolated conduct
accounts_isolated = isolated conduct
