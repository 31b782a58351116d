-- Derivations: statements that rules give, down to the last premise; a program and an outline whose obligations are all derived.
use Rattle.std.specs.Prelude.{List, ℕ, ◌<◌, T, length, get_or}
use Rattle.semantics.specs.Base.{All}
use Rattle.semantics.specs.Machine.{Program}
use Rattle.logic.specs.Statement.{Statement, admitted}
use Rattle.logic.specs.Rule.{Rule}
use Rattle.logic.specs.Inference.{Inference}
use Rattle.semantics.specs.EveryRun.{Outline}
use Rattle.logic.specs.Obligations.{obligations, wants}

-- a derived statement: some rule gives it from premises that are derived, and an image may state it
pub data Derived (P : Program) : Statement → Type 0 where
  by_rule : {n : Rule} {ps : List Statement} {s : Statement} → Inference P n ps s → T (admitted P s)
      → ((i : ℕ) → i < length ps → Derived P (get_or ps i s)) → Derived P s

-- the statement of each obligation is derived
abbrev pub Proved : Program → Outline → Type 0
Proved P O = All (λ o. Derived P (wants P O o)) (obligations P)
