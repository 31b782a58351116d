-- Certificates over both sets of rules, as lists of lines, with a test that computes.
use Rattle.std.specs.Prelude.{Bool, true, false, ◌&&◌, List, [], ◌∷◌, map, ℕ, ◌-◌, leb, length}
use Rattle.semantics.specs.Base.{all}
use Rattle.semantics.specs.Formula.{Formula.one}
use Rattle.semantics.specs.Machine.{Program}
use Rattle.semantics.specs.EveryRun.{Outline}
use Rattle.logic.specs.Statement.{Statement, inside, admitted}
use Rattle.logic.specs.Rule.{Rule}
use Rattle.logic.specs.Obligations.{Obligation, obligations, wants}
use Rattle.logic_schemas.specs.Fits.{fits, same_statement, same_all}
use Rattle.logic_further.specs.Further.{FurtherRule, Further}
use Rattle.logic_further.specs.Example.{nth}

-- a line: a statement by a published rule, which is tested, or by a further rule, which is given; and its premises by line number, from 1
pub data Line (P : Program) : Type 0 where
  by : Rule → Statement → List ℕ → Line P
  further : {n : FurtherRule} (ps : List Statement) (s : Statement) → Further P n ps s → List ℕ → Line P

module _ (P : Program) where
  abbrev pub says : Line P → Statement
  says (by n s l) = s
  says (further ps s d l) = s

  -- the statement of line k, where `earlier` has the statements so far, the last one first
  abbrev pub named : List Statement → ℕ → Statement
  named earlier k = nth (inside (one 0) (one 0)) earlier (length earlier - k)

  abbrev pub is_there : List Statement → ℕ → Bool
  is_there earlier k = leb 1 k && leb k (length earlier)

  -- the line follows by its rule from earlier ones
  abbrev pub follows : List Statement → Line P → Bool
  follows earlier (by n s l) = all (is_there earlier) l && (admitted P s && fits P n s (map (named earlier) l))
  follows earlier (further ps s d l) = all (is_there earlier) l && (admitted P s && same_all ps (map (named earlier) l))

  -- each line follows from those before it
  abbrev pub checked : List Statement → List (Line P) → Bool
  checked earlier [] = true
  checked earlier (l ∷ ls) = elim (follows earlier l) [ true ↦ checked (says l ∷ earlier) ls | false ↦ false ]

  -- the statements of all lines, the last one first
  abbrev pub statements : List Statement → List (Line P) → List Statement
  statements earlier [] = earlier
  statements earlier (l ∷ ls) = statements (says l ∷ earlier) ls

  -- the line k states s
  abbrev pub states : List Statement → Statement → ℕ → Bool
  states all_lines s k = is_there all_lines k && same_statement s (named all_lines k)

  -- each obligation has a line that states it
  abbrev pub meets : Outline → List Statement → List Obligation → List ℕ → Bool
  meets O all_lines [] [] = true
  meets O all_lines [] (k ∷ ks) = false
  meets O all_lines (o ∷ os) [] = false
  meets O all_lines (o ∷ os) (k ∷ ks) = states all_lines (wants P O o) k && meets O all_lines os ks

  -- the lines follow, and the obligations are met by the lines named
  abbrev pub certified : Outline → List (Line P) → List ℕ → Bool
  certified O ls ks = checked [] ls && meets O (statements [] ls) (obligations P) ks
