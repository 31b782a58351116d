-- Derivations by the published and the further rules together.
use Rattle.std.specs.Prelude.{List, ℕ, ◌<◌, T, length, get_or}
use Rattle.semantics.specs.Base.{All}
use Rattle.semantics.specs.Machine.{Program}
use Rattle.semantics.specs.EveryRun.{Outline}
use Rattle.logic.specs.Statement.{Statement, admitted}
use Rattle.logic.specs.Rule.{Rule}
use Rattle.logic.specs.Inference.{Inference}
use Rattle.logic.specs.Obligations.{obligations, wants}
use Rattle.logic_further.specs.Further.{FurtherRule, Further}

-- a derived statement: some rule of the published or of the further ones gives it from premises that are derived
pub data DerivedFurther (P : Program) : Statement → Type 0 where
  by_published : {n : Rule} {ps : List Statement} {s : Statement} → Inference P n ps s → T (admitted P s)
      → ((i : ℕ) → i < length ps → DerivedFurther P (get_or ps i s)) → DerivedFurther P s
  by_further : {n : FurtherRule} {ps : List Statement} {s : Statement} → Further P n ps s → T (admitted P s)
      → ((i : ℕ) → i < length ps → DerivedFurther P (get_or ps i s)) → DerivedFurther P s

-- the statement of each obligation is derived
abbrev pub ProvedFurther : Program → Outline → Type 0
ProvedFurther P O = All (λ o. DerivedFurther P (wants P O o)) (obligations P)
