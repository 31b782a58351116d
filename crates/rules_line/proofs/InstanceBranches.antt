-- The ways through the functions that judge whether a line fits, one law for each.
use mathlib.Core.Path.{◌≡◌}
use mathlib.Core.Bool.{Bool, true, false}
use mathlib.Core.List.{List}
use Prim.Native.Nat.{ℕ, suc}
use native.Mathlib.Omega.{arith}
use borrow.Author.Tests.{ne_eqb}
use Rattle.std.specs.Prelude.{Option, None, Some}
use Rattle.limits.proofs.BranchTests.{tests}
use Rattle.formula.specs.Codes.{member}
use Rattle.image_frames.specs.Records.{bodies}
use Rattle.image_header.specs.declared.sizes.Sizes.{Sizes}
use Rattle.image_bodies.specs.RecordPlaces.{instruction_of}
use Rattle.formula_match.specs.declared.bind.Bind.{Bind}
use Rattle.formula_match.specs.declared.matching_whole.Whole.{Whole}
use Rattle.image_meaning.specs.Certificate.{line_body}
use Rattle.image_access.specs.AccessPlaces.{acting_of, line_in}
use Rattle.image_access.specs.declared.line.Line.{Line}
use Rattle.image_access.specs.declared.acting_instruction.Acting.{Acting}
use Rattle.rules_table.specs.RuleTable.{rule_row}
use Rattle.rules_table.specs.declared.rule.Form.TheVariants.{Inclusion, Implication, Triple, Pair, Unlisted, Other}
use Rattle.rules_table.specs.declared.rule.Rule.{Rule}
use Rattle.rules_line.specs.Conclusion.{match_conclusion}
use Rattle.rules_line.specs.LineConclusion.{conclusion_by, line_at}
use Rattle.rules_line.specs.Premises.{premises_of, match_premises}
use Rattle.rules_line.specs.Preset.{preset_at}
use Rattle.rules_line.specs.SideConditions.{asked}
use Rattle.rules_line.specs.RuleInstance.{is_allowed, rest_at, line_match, fits_row, acting_in, fits_line}
use Rattle.rules_line.specs.declared.conclusion.Conclusion.{Conclusion}
use Rattle.rules_line.specs.declared.conclusion.Premises.{Premises}

module _ (w : Rule) (a : Acting) where
  pub allowed_triple : (b : Bool) → w.form ≡ Triple → b ≡ member w.operations a.operation → b ≡ is_allowed w a
  unfolding is_allowed
  allowed_triple b e d = rw e d

  pub allowed_pair : (b : Bool) → w.form ≡ Pair → b ≡ member w.operations a.whole → b ≡ is_allowed w a
  unfolding is_allowed
  allowed_pair b e d = rw e d

  pub allowed_inclusion : w.form ≡ Inclusion → true ≡ is_allowed w a
  unfolding is_allowed
  allowed_inclusion e = rw e

  pub allowed_implication : w.form ≡ Implication → true ≡ is_allowed w a
  unfolding is_allowed
  allowed_implication e = rw e

  pub allowed_unlisted : w.form ≡ Unlisted → true ≡ is_allowed w a
  unfolding is_allowed
  allowed_unlisted e = rw e

  pub allowed_other : (n : ℕ) → w.form ≡ Other n → true ≡ is_allowed w a
  unfolding is_allowed
  allowed_other n e =
      let no_triple : suc (suc (suc (suc (suc n)))) ≡ 2 → ⊥ = omega arith in
      let no_pair : suc (suc (suc (suc (suc n)))) ≡ 3 → ⊥ = omega arith in
      rw (e, ne_eqb _ 2 no_triple, ne_eqb _ 3 no_pair)

module _ (s : List ℕ) (w : Rule) (a : Acting) (c : Conclusion) (p : Premises) (b : Bind) (o : Bool) (e : o ≡ is_allowed w a) where
  pub rest_asked : (r : Bool) → o ≡ true → r ≡ asked s w.side b a c p → r ≡ rest_at s w a c p b
  unfolding rest_at
  rest_asked r h d = rw (← e, h) d

  pub rest_refused : o ≡ false → false ≡ rest_at s w a c p b
  unfolding rest_at
  rest_refused h = rw (← e, h)

pub line_matched : (s t : List ℕ) (w : Rule) (l : Line) (a : Acting) (c : Conclusion) (b : Bind) (r : Option Whole)
    → b ≡ preset_at l.thread a.word a.register a.formula
    → r ≡ match_conclusion s t w.template w.form c.thread c.point c b → r ≡ line_match s t w l a c
unfolding line_match
line_matched s t w l a c b r e d = rw (← e) d

-- y: the image's bytes
module _ (s t y : List ℕ) (l : Line) (a : Acting) (p : Premises) (w : Rule) (c : Conclusion) (m : Option Whole) (v : y ≡ s)
    (ew : w ≡ rule_row l.rule) (ec : c ≡ conclusion_by l a.whole) (em : m ≡ line_match y t w l a c) where
  pub row_conclusion : m ≡ None → false ≡ fits_row s t l a p
  unfolding fits_row
  row_conclusion h = rw (← ew, ← ec, ← v, ← em, h)

  module _ (x : Whole) (h : m ≡ Some x) (q : Option Whole) (eq : q ≡ match_premises y t x.tpl w c.thread c.point p x.bind) where
    pub row_premises : q ≡ None → false ≡ fits_row s t l a p
    unfolding fits_row
    row_premises g = rw (← ew, ← ec, ← v, ← em, h, ← eq, g)

    pub row_rest : (z : Whole) (r : Bool) → q ≡ Some z → r ≡ rest_at s w a c p z.bind → r ≡ fits_row s t l a p
    unfolding fits_row
    row_rest z r g d = rw (← ew, ← ec, ← v, ← em, h, ← eq, g) (rw (← v) at d)

pub line-fits : (s t : List ℕ) (z : Sizes) (n : ℕ) (l : Line) (a : Acting) (p : Premises) (r : Bool)
    → l ≡ line_in s (line_body z (bodies s) n) → a ≡ acting_of s (instruction_of z (bodies s) l.thread l.point)
    → p ≡ premises_of s z n l.count → r ≡ fits_row s t l a p → r ≡ fits_line s t z n
unfolding fits_line acting_in line_at
line-fits s t z n l a p r e d f g = rw (← e, ← d, ← f) g

pub ruleset rule_instance_branches = (
  allowed_triple,
  allowed_pair,
  allowed_inclusion,
  allowed_implication,
  allowed_unlisted,
  allowed_other,
  rest_asked,
  rest_refused,
  line_matched,
  row_conclusion,
  row_premises,
  row_rest,
  line-fits,
  tests,
)
