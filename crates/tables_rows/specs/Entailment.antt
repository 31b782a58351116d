-- Entailment at each row: the line is true where all premises are.
use Rattle.std.specs.Prelude.{ℕ, zero, suc, ◌+◌, ◌-◌, List, [], ◌∷◌, ◌++◌, Bool, true, false, not, ◌||◌, cond, get_or, eqb}
use Rattle.semantics.specs.Base.{all}
use Rattle.formula.specs.Tree.{Tree, parse_tree}
use Rattle.tables_columns.specs.Gather.{Gathered, keys, leaves_t, gather_t}
use Rattle.tables_columns.specs.Column.{column}
use Rattle.tables_columns.specs.declared.slot.Slot.{Slot}
use Rattle.tables_digits.specs.SlotColumn.{row_in}
use Rattle.tables_digits.specs.ValueColumn.{value_t, row_value}
use Rattle.tables_digits.specs.declared.value_column.Reading.{Reading}
use Rattle.tables_rows.specs.declared.entailment.Implication.{Implication}
use Rattle.tables_rows.specs.declared.entailment.Pairs.{Pairs}
use Rattle.tables_rows.specs.declared.entailment.Pairs.TheVariants.{Joined, Apart}
use Rattle.tables_rows.specs.declared.entailment.Task.{Task}

-- an implication: left and right
pub record ImpT : Type 0 where
  pub left : Tree
  pub right : Tree

module _ (w : Reading) where
  -- the implication is true, where ν gives the values of the leaves
  abbrev pub imp_t : (Tree → ℕ) → ImpT → Bool
  imp_t ν p = not (eqb (value_t w ν p.left) 1) || eqb (value_t w ν p.right) 1

  -- the line c is true, or some premise is not
  abbrev pub entails_t : List ImpT → ImpT → (Tree → ℕ) → Bool
  entails_t ps c ν = not (all (imp_t ν) ps) || imp_t ν c

-- the leaves of all implications
abbrev pub leaves_all : ℕ → List ImpT → List Tree
leaves_all w [] = []
leaves_all w (p ∷ ps) = (leaves_t w p.left ++ leaves_t w p.right) ++ leaves_all w ps

-- the leaves of an implication, gathered from right to left
unfoldable pub gather_imp : ℕ → ImpT → Gathered → Gathered
gather_imp w p m = gather_t w p.left (gather_t w p.right m)

-- the leaves of all implications, gathered from right to left
unfoldable pub gather_imps : ℕ → List ImpT → Gathered → Gathered
gather_imps w [] m = m
gather_imps w (p ∷ ps) m = gather_imp w p (gather_imps w ps m)

-- implication i of a list, by its positions; at 0 past the end
abbrev pub pair_in : List Implication → ℕ → Implication
pair_in pairs i = get_or pairs i (record { left = 0; right = 0 })

-- implication i, by its positions; a position that is not there is 0
unfoldable pub pair_at : Pairs → ℕ → Implication
pair_at (Joined pairs) i = pair_in pairs.now i
pair_at (Apart lefts rights) i = record { left = get_or lefts.now i 0; right = get_or rights.now i 0 }

-- implication i, as trees: 0 is the line, the premises begin at 1. `pairs` gives its positions
unfoldable pub imp_of : List ℕ → (ℕ → Implication) → Task → ℕ → ImpT
imp_of s pairs t i = record {
  left = (parse_tree s t.left (pairs i).left).tree;
  right = (parse_tree s t.right (pairs i).right).tree;
}

-- d implications from number i on
unfoldable pub imps_from : List ℕ → (ℕ → Implication) → Task → ℕ → ℕ → List ImpT
imps_from s pairs t i zero = []
imps_from s pairs t i (suc d) = imp_of s pairs t i ∷ imps_from s pairs t (suc i) d

-- the premises after the first i
unfoldable pub premises_from : List ℕ → (ℕ → Implication) → Task → ℕ → List ImpT
premises_from s pairs t i = imps_from s pairs t (i + 1) (t.premises - i)

-- the implication is true at a row
unfoldable pub imp_at : List ℕ → Reading → List Slot → List ℕ → ImpT → Bool
imp_at s w q values p = cond (eqb (row_value s w q values p.left) 1) (eqb (row_value s w q values p.right) 1) true

-- all implications are true at a row
unfoldable pub all_at : List ℕ → Reading → List Slot → List ℕ → List ImpT → Bool
all_at s w q values [] = true
all_at s w q values (p ∷ ps) = cond (imp_at s w q values p) (all_at s w q values ps) false

-- the line is true at a row, or some premise is not
unfoldable pub entails_at : List ℕ → (ℕ → Implication) → Task → Reading → List Slot → List ℕ → Bool
entails_at s pairs t w q values = cond (imp_at s w q values (imp_of s pairs t 0)) true
    (not (all_at s w q values (premises_from s pairs t 0)))

-- the leaves of the line and its premises
unfoldable pub gather_all : List ℕ → (ℕ → Implication) → Task → ℕ → Gathered
gather_all s pairs t w = gather_imp w (imp_of s pairs t 0) (gather_imps w (premises_from s pairs t 0) (keys []))

-- 1 at the rows at which an implication fails
unfoldable pub imp_fails : List ℕ → Reading → List Slot → List ℕ → ℕ → ImpT → List ℕ
imp_fails s w q ms n p = column (λ i. cond (imp_at s w q (row_in ms i) p) 0 1) n
