-- Live lines are reachable from obligations and claims; live formulas are named by the program, the outline or a live line. They stay.
use Rattle.std.specs.Prelude.{Bool, true, false, cond, List, [], ◌∷◌, ◌++◌, map, ℕ, zero, suc, ◌+◌, length, get_or, set, replicate, drop}
use Rattle.logic.specs.Obligations.{flat}
use Rattle.limits.specs.Limits as Limits
use Rattle.limits.specs.Numbers.{nth}
use Rattle.image_header.specs.declared.instruction.Instruction.{Instruction}
use Rattle.trim_spec.specs.Document.{Document, LineRecord}
use Rattle.trim_spec.specs.Canonical.{no_line}

-- the marks m, with those of the listed numbers set
unfoldable pub marked_by : List Bool → List ℕ → List Bool
marked_by m [] = m
marked_by m (n ∷ l) = marked_by (set m n true) l

-- how many of the first n marks are set
unfoldable pub set_below : ℕ → List Bool → ℕ
set_below zero m = 0
set_below (suc n) [] = 0
set_below (suc n) (b ∷ m) = cond b 1 0 + set_below n m

-- the members whose marks are set
unfoldable pub chosen : {A : Type 0} → List Bool → List A → List A
chosen [] l = []
chosen (b ∷ m) [] = []
chosen (b ∷ m) (x ∷ l) = cond b (x ∷ chosen m l) (chosen m l)

-- the members whose numbers are marked: numbers count from 1, and mark 0 belongs to none
unfoldable pub selected : {A : Type 0} → List Bool → List A → List A
selected m l = chosen (drop 1 m) l

-- the new number of n: how many of the numbers 1 to n are marked
unfoldable pub renumbered : List Bool → ℕ → ℕ
renumbered m n = set_below n (drop 1 m)

-- the table of new numbers, filled for the old numbers below n and 0 from there on
unfoldable pub numbers_to : List Bool → ℕ → List ℕ
numbers_to m zero = replicate (length m) 0
numbers_to m (suc n) = set (numbers_to m n) n (renumbered m n)

-- the table of new numbers, an entry for each mark
unfoldable pub new_numbers : List Bool → List ℕ
new_numbers m = numbers_to m (length m)

-- the lines that obligations and claims name
abbrev pub named_lines : Document → List ℕ
named_lines D = D.obligations ++ map (λ c. c.line) D.claims

-- the marks after a pass from line n down to line 1 that marks the premises of marked lines; premises have lower numbers, so one pass does
unfoldable pub kept_to : List LineRecord → ℕ → List Bool → List Bool
kept_to l zero m = m
kept_to l (suc n) m = kept_to l n (cond (get_or m (suc n) false) (marked_by m (nth l (suc n) no_line).premises) m)

-- live lines: those "on which some obligation rests" (Change 2), and what claims rest on (Change 5)
unfoldable pub kept : Document → List Bool
kept D = kept_to D.lines (length D.lines) (marked_by (replicate (suc Limits.lines) false) (named_lines D))

-- the formulas that an instruction and its second half name, 0 for none
abbrev pub instruction_formulas : Instruction → List ℕ
instruction_formulas i = i.formula ∷ i.second.formula ∷ []

-- the formulas that a line names
abbrev pub line_formulas : LineRecord → List ℕ
line_formulas v = v.left ∷ v.right ∷ []

-- the formulas that instructions, the outline and live lines name
unfoldable pub named_formulas : Document → List ℕ
named_formulas D =
    flat (λ l. flat instruction_formulas l) D.threads ++ (D.outline ++ flat line_formulas (selected (kept D) D.lines))

-- live formulas: those "that are still used" (Change 2)
unfoldable pub used : Document → List Bool
used D = marked_by (replicate (suc Limits.formulas) false) (named_formulas D)
