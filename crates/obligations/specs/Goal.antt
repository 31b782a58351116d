-- The goal of an obligation, its formulas by position: a template with every hole filled.
use Rattle.std.specs.Prelude.{cond, List, [], ◌∷◌, ℕ, ◌+◌, eqb, ltb}
use Rattle.semantics.specs.Code
use Rattle.semantics.specs.Code.{byte}
use Rattle.logic.specs.Opcode as Opcode
use Rattle.limits.specs.Limits.{nesting, points}
use Rattle.image_frames.specs.Records.{bodies}
use Rattle.image_header.specs.declared.sizes.Sizes.{Sizes}
use Rattle.image_header.specs.declared.instruction.Instruction.{Instruction}
use Rattle.image_header.specs.Instruction.{pair_operation}
use Rattle.image_bodies.specs.RecordPlaces.{instruction_of}
use Rattle.formula_match.specs.Template.{first_hole}
use Rattle.formula_match.specs.declared.bind.Bind.{Bind}
use Rattle.rules_table.specs.declared.rule.Form.{Form}
use Rattle.rules_table.specs.declared.rule.Form.TheVariants.{Implication, Triple, Pair}
use Rattle.image_meaning.specs.Program.{outline_number}
use Rattle.image_access.specs.AccessPlaces.{formula_at}
use Rattle.image_access.specs.declared.claim.Claimed.{Claimed}
use Rattle.verdict_record.specs.declared.obligation.Obligation.{Obligation}
use Rattle.verdict_record.specs.declared.obligation.Obligation.TheVariants.{Start, Step, Taken, Interference}
use Rattle.obligations.specs.declared.goal.Goal.{Goal}

-- the templates of goals, left and right side of each: start gives an assertion; one is taken to another; an assertion and a negated test
-- give another; with the test as it is; two are taken to the first; false from two
abbrev pub goal_bytes : List ℕ
goal_bytes =
    byte Code.start ∷ first_hole
    ∷ first_hole ∷ (first_hole + 1)
    ∷ byte Code.both_a ∷ first_hole ∷ byte Code.holds ∷ byte Code.not ∷ (first_hole + 1) ∷ (first_hole + 2)
    ∷ byte Code.both_a ∷ first_hole ∷ byte Code.holds ∷ (first_hole + 1) ∷ (first_hole + 2)
    ∷ byte Code.both_a ∷ first_hole ∷ (first_hole + 1) ∷ first_hole
    ∷ byte Code.both_a ∷ first_hole ∷ (first_hole + 1) ∷ byte Code.holds ∷ byte Code.false
    ∷ []

-- where the template of each goal begins. Class 1: start gives an assertion
abbrev pub start_at : ℕ
start_at = 0

-- class 2: one assertion is taken to another
abbrev pub step_at : ℕ
step_at = 2

-- class 2 for a branch: an assertion and the negated test give another
abbrev pub next_at : ℕ
next_at = 4

-- class 3: an assertion and the test give another
abbrev pub target_at : ℕ
target_at = 10

-- class 4: two assertions are taken to the first
abbrev pub kept_at : ℕ
kept_at = 15

-- a claim: false from two assertions
abbrev pub claim_at : ℕ
claim_at = 19

-- the first hole is filled by the formula at a position; the others are empty
unfoldable pub one_hole : ℕ → Bind
one_hole a = record { at = a ∷ 0 ∷ 0 ∷ 0 ∷ 0 ∷ []; left = nesting ∷ 0 ∷ 0 ∷ 0 ∷ 0 ∷ []; num = 0 ∷ 0 ∷ 0 ∷ 0 ∷ 0 ∷ [] }

-- the first two holes are filled
unfoldable pub two_holes : ℕ → ℕ → Bind
two_holes a b = record { at = a ∷ b ∷ 0 ∷ 0 ∷ 0 ∷ []; left = nesting ∷ nesting ∷ 0 ∷ 0 ∷ 0 ∷ []; num = 0 ∷ 0 ∷ 0 ∷ 0 ∷ 0 ∷ [] }

-- the first three holes are filled
unfoldable pub three_holes : ℕ → ℕ → ℕ → Bind
three_holes a b c = record { at = a ∷ b ∷ c ∷ 0 ∷ 0 ∷ []; left = nesting ∷ nesting ∷ nesting ∷ 0 ∷ 0 ∷ []; num = 0 ∷ 0 ∷ 0 ∷ 0 ∷ 0 ∷ [] }

-- the point after k; no thread has a point past the limit
unfoldable pub next_point : ℕ → ℕ
next_point k = cond (ltb k points) (k + 1) k

-- the goal of an implication
abbrev pub implied : ℕ → Bind → Goal
implied i b = record { form = Implication; thread = 0; point = 0; template = i; bind = b }

-- the form of a line about an instruction: a triple, for a pair a triple of the whole pair
unfoldable pub acting_form : ℕ → Form
acting_form op = cond (pair_operation op) Pair Triple

-- the goal of a triple, of the form f, at point k of t
abbrev pub kept : Form → ℕ → ℕ → ℕ → Bind → Goal
kept f t k i b = record { form = f; thread = t; point = k; template = i; bind = b }

module _ (s : List ℕ) (z : Sizes) where
  -- the position of the assertion at point k of t
  abbrev pub asserted_at : ℕ → ℕ → ℕ
  asserted_at t k = formula_at s (outline_number z (bodies s) t k)

  -- class 1: start implies the assertion at point 0 of t
  unfoldable pub goal_start : ℕ → Goal
  goal_start t = implied start_at (one_hole (asserted_at t 0))

  -- class 2: the instruction takes its point's assertion to the next point's
  unfoldable pub goal_action : ℕ → ℕ → Instruction → Goal
  goal_action t k i = kept (acting_form i.operation) t k step_at (two_holes (asserted_at t k) (asserted_at t (next_point k)))

  -- class 2 for a branch: its point's assertion and the negated test imply the next point's
  unfoldable pub goal_next : ℕ → ℕ → Instruction → Goal
  goal_next t k i = implied next_at (three_holes (asserted_at t k) (formula_at s i.formula) (asserted_at t (next_point k)))

  -- class 2 for the instruction at point k of t
  unfoldable pub goal_step : ℕ → ℕ → Goal
  goal_step t k = cond (eqb (instruction_of z (bodies s) t k).operation Opcode.branch) (goal_next t k (instruction_of z (bodies s) t k))
      (goal_action t k (instruction_of z (bodies s) t k))

  -- class 3: the assertion at the branch's point and its test imply the target's
  unfoldable pub goal_target : ℕ → ℕ → Goal
  goal_target t k = implied target_at (three_holes (asserted_at t k) (formula_at s (instruction_of z (bodies s) t k).formula)
      (asserted_at t (instruction_of z (bodies s) t k).a))

  -- class 4: the assertion of u at point j is stable under the instruction at point k of t
  unfoldable pub goal_stable : ℕ → ℕ → ℕ → ℕ → Goal
  goal_stable u j t k = kept (acting_form (instruction_of z (bodies s) t k).operation) t k kept_at (two_holes (asserted_at u j) (asserted_at t k))

  -- the goal of a claim: false from the assertions at its two points, the lower thread's first
  unfoldable pub goal_claim : Claimed → Goal
  goal_claim c =
      cond (ltb c.thread c.other) (implied claim_at
      (two_holes (asserted_at c.thread c.point) (asserted_at c.other c.other_point)))
      (implied claim_at (two_holes (asserted_at c.other c.other_point) (asserted_at c.thread c.point)))

  -- the goal of an obligation
  unfoldable pub goal_at : Obligation → Goal
  goal_at (Start t) = goal_start t
  goal_at (Step t k) = goal_step t k
  goal_at (Taken t k) = goal_target t k
  goal_at (Interference u j t k) = goal_stable u j t k
