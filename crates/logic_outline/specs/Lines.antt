-- A certificate: numbered lines, each with the rule that it names, its statement and its premises; which lines are justified.
use Rattle.std.specs.Prelude.{Bool, false, cond, ◌&&◌, List, map, ℕ, zero, suc, ◌<◌, eqb, length, get_or}
use Rattle.semantics.specs.Base.{all, Within}
use Rattle.semantics.specs.Machine.{Program}
use Rattle.logic.specs.Statement.{Statement}
use Rattle.logic.specs.Rule.{Rule}
use Rattle.logic.specs.Inference.{Inference}
use Rattle.logic_schemas.specs.Fits.{fits}

-- a line of the certificate: the rule that it names, its statement, its premises by line number
pub record Line : Type 0 where
  pub rule : Rule
  pub says : Statement
  pub premises : List ℕ

-- a certificate of lines 1 to `count`
pub record Certificate : Type 0 where
  pub count : ℕ
  pub line : ℕ → Line

module _ (P : Program) (C : Certificate) where
  -- the statements of the lines with these numbers
  abbrev pub saying : List ℕ → List Statement
  saying l = map (λ n. (C.line n).says) l

  -- "A line is justified if it fits its row and shape .. and each premise is justified": here its rule gives its statement from theirs
  pub data Justified : ℕ → Type 0 where
    justified : {n : ℕ} → Within C.count n → Inference P (C.line n).rule (saying (C.line n).premises) (C.line n).says
        → ((i : ℕ) → i < length (C.line n).premises → Justified (get_or (C.line n).premises i 0)) → Justified n

  -- line n is an instance of its rule's schema, as a test that computes
  abbrev pub line_fits : ℕ → Bool
  line_fits n = fits P (C.line n).rule (C.line n).says (saying (C.line n).premises)

  -- justification as a test that computes: after the first n lines are judged in order, line k has a mark. A line has a mark if it is
  -- an instance of its rule and its premises have marks
  unfoldable pub marked : ℕ → ℕ → Bool
  marked zero k = false
  marked (suc n) k = cond (eqb k (suc n)) (line_fits (suc n) && all (marked n) (C.line (suc n)).premises) (marked n k)
