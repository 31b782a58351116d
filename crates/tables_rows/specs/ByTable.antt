-- Implications as bits of a truth table.
use Rattle.std.specs.Prelude.{ℕ, List, not}
use Rattle.tables_columns.specs.declared.slot.Slot.{Slot}
use Rattle.tables_bits.specs.TruthTable.{by_leaves, Shows}
use Rattle.tables_rows.specs.Entailment.{ImpT, imp_at, all_at, entails_at}
use Rattle.tables_rows.specs.declared.entailment.Implication.{Implication}
use Rattle.tables_rows.specs.declared.entailment.Task.{Task}

-- the table a has the rows at which an implication fails
unfoldable pub ImpBits : List ℕ → ℕ → List Slot → ImpT → List ℕ → Type 0
ImpBits s n q c a = Shows n q (λ p v. not (imp_at s by_leaves p v c)) a

-- the table a has the rows at which all of the implications are true
unfoldable pub AllBits : List ℕ → ℕ → List Slot → List ImpT → List ℕ → Type 0
AllBits s n q cs a = Shows n q (λ p v. all_at s by_leaves p v cs) a

-- the table a has the rows at which the entailment fails
unfoldable pub FailBits : List ℕ → (ℕ → Implication) → Task → ℕ → List Slot → List ℕ → Type 0
FailBits s pairs t n q a = Shows n q (λ p v. not (entails_at s pairs t by_leaves p v)) a
