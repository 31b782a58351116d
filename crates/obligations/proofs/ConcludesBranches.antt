-- The ways through the functions that hold a line against what is wanted, one law for each.
use mathlib.Core.Path.{◌≡◌}
use mathlib.Core.Bool.{Bool, true, false}
use mathlib.Core.List.{List}
use Prim.Native.Nat.{ℕ}
use borrow.Author.Tests.{eq-eqb, ne_eqb}
use Rattle.std.specs.Prelude.{Result, Ok, Err, Option, is_some}
use Rattle.limits.proofs.BranchTests.{tests}
use Rattle.obligations.specs.declared.concludes.Unmet.TheVariants.{NoLine, SaysElse, Unjustified}
use Rattle.image_frames.specs.Records.{bodies}
use Rattle.image_header.specs.declared.sizes.Sizes.{Sizes}
use Rattle.formula_match.specs.declared.matching_whole.Whole.{Whole}
use Rattle.image_meaning.specs.Image.{claim_body}
use Rattle.image_access.specs.AccessPlaces.{claimed_in}
use Rattle.image_access.specs.declared.claim.Claimed.{Claimed}
use Rattle.rules_line.specs.Conclusion.{match_conclusion}
use Rattle.rules_line.specs.LineConclusion.{conclusion_of}
use Rattle.rules_line.specs.declared.conclusion.Conclusion.{Conclusion}
use Rattle.rules_justified.specs.Marks.{is_marked}
use Rattle.rules_justified.specs.declared.marks.Marks.{Marks}
use Rattle.verdict_record.specs.declared.obligation.Obligation.{Obligation}
use Rattle.obligations.specs.declared.goal.Goal.{Goal}
use Rattle.obligations.specs.Goal.{goal_bytes, goal_claim, goal_at}
use Rattle.obligations.specs.Concludes.{meets, concludes_at, sustained_at, code_at}

-- y: the image's bytes
pub said_is : (s y : List ℕ) (z : Sizes) (w : Goal) (n : ℕ) (c : Conclusion) (m : Option Whole) (b : Bool) → y ≡ s → c ≡ conclusion_of s z n
    → m ≡ match_conclusion y goal_bytes w.template w.form w.thread w.point c w.bind → b ≡ is_some m → b ≡ meets s z w n
unfolding meets
said_is s y z w n c m b e ec em d = rw (← ec, ← e, ← em) d

pub concludes_is : (s : List ℕ) (z : Sizes) (o : Obligation) (n : ℕ) (w : Goal) (r : Bool) → w ≡ goal_at s z o → r ≡ meets s z w n
    → r ≡ concludes_at s z o n
unfolding concludes_at
concludes_is s z o n w r ew er = rw (← ew) er

module _ (s : List ℕ) (z : Sizes) (m : Marks) (i : ℕ) (c : Claimed) (e : c ≡ claimed_in (claim_body z (bodies s) i)) where
  pub sustained_none : c.line ≡ 0 → false ≡ sustained_at s z m i
  unfolding sustained_at
  sustained_none h = rw (← e, eq-eqb _ _ h)

  module _ (n : c.line ≡ 0 → ⊥) (w : Goal) (b : Bool) (ew : w ≡ goal_claim s z c) (eb : b ≡ meets s z w c.line) where
    pub sustained_else : b ≡ false → false ≡ sustained_at s z m i
    unfolding sustained_at
    sustained_else h = rw (← e, ne_eqb _ _ n, ← ew, ← eb, h)

    pub sustained_marked : (r : Bool) → b ≡ true → r ≡ is_marked m c.line → r ≡ sustained_at s z m i
    unfolding sustained_at
    sustained_marked r h d = rw (← e, ne_eqb _ _ n, ← ew, ← eb, h) d

module _ (s : List ℕ) (z : Sizes) (m : Marks) (o : Obligation) (n : ℕ) where
  pub code_none : n ≡ 0 → Err NoLine ≡ code_at s z m o n
  unfolding code_at
  code_none h = rw (eq-eqb _ _ h)

  module _ (h : n ≡ 0 → ⊥) (b : Bool) (e : b ≡ concludes_at s z o n) where
    pub code_else : b ≡ false → Err SaysElse ≡ code_at s z m o n
    unfolding code_at
    code_else f = rw (ne_eqb _ _ h, ← e, f)

    module _ (f : b ≡ true) (c : Bool) (d : c ≡ is_marked m n) where
      pub code_unmarked : c ≡ false → Err Unjustified ≡ code_at s z m o n
      unfolding code_at
      code_unmarked g = rw (ne_eqb _ _ h, ← e, f, ← d, g)

      pub code_met : c ≡ true → Ok tt ≡ code_at s z m o n
      unfolding code_at
      code_met g = rw (ne_eqb _ _ h, ← e, f, ← d, g)

pub ruleset concludes_branches = (
  said_is,
  concludes_is,
  sustained_none,
  sustained_else,
  sustained_marked,
  code_none,
  code_else,
  code_unmarked,
  code_met,
  tests,
)
