-- The ways through the functions that say what an obligation wants, one law for each.
use mathlib.Core.Path.{◌≡◌}
use mathlib.Core.Bool.{Bool, true, false}
use mathlib.Core.List.{List}
use Prim.Native.Nat.{ℕ, ◌+◌, ◌≤◌, ◌<◌}
use lib.ListN.{set, replicate}
use borrow.Author.Tests.{eq-eqb, ne_eqb, lt-ltb, le-ltb}
use Rattle.logic.specs.Opcode as Opcode
use Rattle.image_frames.specs.Records.{bodies}
use Rattle.image_header.specs.declared.sizes.Sizes.{Sizes}
use Rattle.image_header.specs.declared.instruction.Instruction.{Instruction}
use Rattle.image_bodies.specs.RecordPlaces.{instruction_of}
use Rattle.formula_match.specs.declared.bind.Bind.{Bind}
use Rattle.image_access.specs.AccessPlaces.{formula_at}
use Rattle.image_access.specs.declared.claim.Claimed.{Claimed}
use Rattle.verdict_record.specs.declared.obligation.Obligation.{Obligation}
use Rattle.verdict_record.specs.declared.obligation.Obligation.TheVariants.{Start, Step, Taken, Interference}
use Rattle.image_header.specs.Instruction.{pair_operation}
use Rattle.limits.specs.Limits.{nesting, points}
use Rattle.limits.proofs.BranchTests.{tests}
use Rattle.rules_table.specs.declared.rule.Form.{Form}
use Rattle.rules_table.specs.declared.rule.Form.TheVariants.{Triple, Pair}
use Rattle.obligations.specs.declared.goal.Goal.{Goal}
use Rattle.obligations.specs.Goal.{start_at, step_at, next_at, target_at, kept_at, claim_at, one_hole, two_holes, three_holes, next_point, implied, acting_form, kept, asserted_at, goal_start, goal_action, goal_next, goal_step, goal_target, goal_stable, goal_claim, goal_at}

module _ (op : ℕ) (p : Bool) (e : p ≡ pair_operation op) where
  pub form_pair : p ≡ true → Pair ≡ acting_form op
  unfolding acting_form
  form_pair h = rw (← e, h)

  pub form_alone : p ≡ false → Triple ≡ acting_form op
  unfolding acting_form
  form_alone h = rw (← e, h)

pub point_next : (k : ℕ) → k < points → k + 1 ≡ next_point k
unfolding next_point
point_next k h = rw (lt-ltb _ _ h)

pub point_last : (k : ℕ) → points ≤ k → k ≡ next_point k
unfolding next_point
point_last k h = rw (le-ltb _ _ h)

-- holes filled one after the other
abbrev filled : Bind → ℕ → ℕ → Bind
filled b j a = record { at = set b.at j a; left = set b.left j nesting; num = b.num }

abbrev empty : Bind
empty = record { at = replicate 5 0; left = replicate 5 0; num = replicate 5 0 }

pub hole_one : (a : ℕ) (b : Bind) → b ≡ filled empty 0 a → b ≡ one_hole a
unfolding one_hole
hole_one a b e = e

pub hole_two : (a c : ℕ) (b d : Bind) → b ≡ one_hole a → d ≡ filled b 1 c → d ≡ two_holes a c
unfolding one_hole two_holes
hole_two a c b d e h = rw e at h

pub hole_three : (a c f : ℕ) (b d : Bind) → b ≡ two_holes a c → d ≡ filled b 2 f → d ≡ three_holes a c f
unfolding two_holes three_holes
hole_three a c f b d e h = rw e at h

module _ (s : List ℕ) (z : Sizes) (t k : ℕ) where
  pub start_wanted : (a : ℕ) (b : Bind) (g : Goal) → a ≡ asserted_at s z t 0 → b ≡ one_hole a → g ≡ implied start_at b → g ≡ goal_start s z t
  unfolding goal_start
  start_wanted a b g ea eb eg = rw (← ea, ← eb) eg

  pub action_wanted : (i : Instruction) (f : Form) (a n d : ℕ) (b : Bind) → f ≡ acting_form i.operation → b ≡ two_holes a d
      → d ≡ asserted_at s z t n → n ≡ next_point k → a ≡ asserted_at s z t k
      → kept f t k step_at b ≡ goal_action s z t k i
  unfolding goal_action
  action_wanted i f a n d b ef eb ed en ea = rw (ef, eb, ea, ed, en)

  pub next_wanted : (i : Instruction) (a e n d : ℕ) (b : Bind) (g : Goal) → a ≡ asserted_at s z t k → e ≡ formula_at s i.formula
      → n ≡ next_point k → d ≡ asserted_at s z t n → b ≡ three_holes a e d → g ≡ implied next_at b → g ≡ goal_next s z t k i
  unfolding goal_next
  next_wanted i a e n d b g ea ee en ed eb eg = rw (← ea, ← ee, ← en, ← ed, ← eb) eg

  module _ (i : Instruction) (h : i ≡ instruction_of z (bodies s) t k) where
    pub branch_wanted : (r : Goal) → i.operation ≡ Opcode.branch → r ≡ goal_next s z t k i → r ≡ goal_step s z t k
    unfolding goal_step
    branch_wanted r e d = rw (← h, eq-eqb _ _ e) d

    pub act_wanted : (r : Goal) → (i.operation ≡ Opcode.branch → ⊥) → r ≡ goal_action s z t k i → r ≡ goal_step s z t k
    unfolding goal_step
    act_wanted r e d = rw (← h, ne_eqb _ _ e) d

    pub target_wanted : (a e d : ℕ) (b : Bind) (g : Goal) → a ≡ asserted_at s z t k → e ≡ formula_at s i.formula → d ≡ asserted_at s z t i.a
        → b ≡ three_holes a e d → g ≡ implied target_at b → g ≡ goal_target s z t k
    unfolding goal_target
    target_wanted a e d b g ea ee ed eb eg = rw (← h, ← ea, ← ee, ← ed, ← eb) eg

pub kept_wanted : (s : List ℕ) (z : Sizes) (u j t k : ℕ) (i : Instruction) (f : Form) (a d : ℕ) (b : Bind) → i ≡ instruction_of z (bodies s) t k
    → f ≡ acting_form i.operation
    → a ≡ asserted_at s z u j → d ≡ asserted_at s z t k → b ≡ two_holes a d → kept f t k kept_at b ≡ goal_stable s z u j t k
unfolding goal_stable
kept_wanted s z u j t k i f a d b ei ef ea ed eb = rw (ef, ei, eb, ea, ed)

module _ (s : List ℕ) (z : Sizes) (c : Claimed) (a d : ℕ) (b : Bind) (g : Goal) (ea : a ≡ asserted_at s z c.thread c.point)
    (ed : d ≡ asserted_at s z c.other c.other_point) (eg : g ≡ implied claim_at b) where
  pub claim_lower : c.thread < c.other → b ≡ two_holes a d → g ≡ goal_claim s z c
  unfolding goal_claim
  claim_lower h eb = rw (lt-ltb _ _ h, ← ea, ← ed, ← eb) eg

  pub claim_higher : c.other ≤ c.thread → b ≡ two_holes d a → g ≡ goal_claim s z c
  unfolding goal_claim
  claim_higher h eb = rw (le-ltb _ _ h, ← ea, ← ed, ← eb) eg

module _ (s : List ℕ) (z : Sizes) (o : Obligation) (r : Goal) where
  pub goal-start : (t : ℕ) → o ≡ Start t → r ≡ goal_start s z t → r ≡ goal_at s z o
  unfolding goal_at
  goal-start t e d = rw e d

  pub goal-step : (t k : ℕ) → o ≡ Step t k → r ≡ goal_step s z t k → r ≡ goal_at s z o
  unfolding goal_at
  goal-step t k e d = rw e d

  pub wanted_taken : (t k : ℕ) → o ≡ Taken t k → r ≡ goal_target s z t k → r ≡ goal_at s z o
  unfolding goal_at
  wanted_taken t k e d = rw e d

  pub goal-stable : (u j t k : ℕ) → o ≡ Interference u j t k → r ≡ goal_stable s z u j t k → r ≡ goal_at s z o
  unfolding goal_at
  goal-stable u j t k e d = rw e d

pub ruleset goal_branches = (
  form_pair,
  form_alone,
  point_next,
  point_last,
  hole_one,
  hole_two,
  hole_three,
  start_wanted,
  action_wanted,
  next_wanted,
  branch_wanted,
  act_wanted,
  target_wanted,
  kept_wanted,
  claim_lower,
  claim_higher,
  goal-start,
  goal-step,
  wanted_taken,
  goal-stable,
  tests,
)
