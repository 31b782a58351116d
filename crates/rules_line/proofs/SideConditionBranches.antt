-- The ways through what is asked besides, one law for each.
use mathlib.Core.Path.{◌≡◌}
use mathlib.Core.Bool.{Bool, true}
use mathlib.Core.List.{List, [], ◌∷◌}
use Prim.Native.Nat.{ℕ, ◌+◌}
use native.Mathlib.Omega.{arith}
use lib.ListN.{get_or}
use borrow.Author.Tests.{eq-eqb, ne_eqb}
use Rattle.logic.specs.Opcode
use Rattle.limits.proofs.BranchTests.{tests}
use Rattle.limits.specs.Limits.{nesting}
use Rattle.formula_compare.specs.declared.replace.Replacing.TheVariants.{Formula, Word}
use Rattle.std.specs.Prelude.{Some}
use Rattle.formula_compare.specs.declared.replace.Name.{Name}
use Rattle.formula_compare.specs.declared.replace.Substitution.{Substitution}
use Rattle.tables_rows.specs.ByRows.{rows_t, table_t, line_of, premises_of}
use Rattle.tables_rows.specs.declared.by_rows.Implications.{Implications}
use Rattle.tables_rows.specs.declared.entailment.Implication.{Implication}
use Rattle.image_frames.specs.Records.{bodies}
use Rattle.image_header.specs.Header.{value_range, cleared}
use Rattle.formula_match.specs.declared.bind.Bind.{Bind}
use Rattle.image_access.specs.declared.acting_instruction.Acting.{Acting}
use Rattle.rules_table.specs.declared.rule.Side.{Side}
use Rattle.rules_table.specs.declared.rule.Side.TheVariants.{Nothing, Kept, Assigned, Loaded, WordAbsent, Stored, ByRows, ByTable, StartValue, NewValue, StartsAtZero}
use Rattle.rules_line.specs.Conclusion.{conclusion_at}
use Rattle.rules_line.specs.NewValue.{fresh_is}
use Rattle.rules_line.specs.SideTests.{hole_of, number_in, tree_of, apart, keeps, one_by, is_with, stored_by, is_start}
use Rattle.rules_line.specs.SideConditions.{substitution_of, assigned_by, loaded_by, pair_of, implications_of, of_names, asked}
use Rattle.rules_line.specs.declared.conclusion.Conclusion.{Conclusion}
use Rattle.rules_line.specs.declared.conclusion.Premises.{Premises}
use Rattle.rules_line.specs.declared.side_tests.Position.{Position}

module _ (a : Acting) where
  pub substitutes_one : (w : Substitution) → a.whole ≡ Opcode.assign → w ≡ one_by (Name.Register a.register) (Formula a.formula nesting)
      → w ≡ substitution_of a
  unfolding substitution_of
  substitutes_one w h e = rw (eq-eqb _ _ h) e

  pub substitutes_two : a.whole ≡ Opcode.assign_two
      → record { name = Name.Register a.register; by = Formula a.formula nesting; second = Some (a.noted, Formula a.note nesting) }
      ≡ substitution_of a
  unfolding substitution_of
  substitutes_two h = let n : a.whole ≡ 0 → ⊥ = omega arith in rw (ne_eqb _ _ n, eq-eqb _ _ h)

  pub substitutes_note : (w : Substitution) → (a.whole ≡ Opcode.assign → ⊥) → (a.whole ≡ Opcode.assign_two → ⊥)
      → w ≡ one_by (Name.Register a.noted) (Formula a.note nesting) → w ≡ substitution_of a
  unfolding substitution_of
  substitutes_note w n h e = rw (ne_eqb _ _ n, ne_eqb _ _ h) e

module _ (s : List ℕ) (b : Bind) (a : Acting) (w : Substitution) (p q : Position) (r : Bool) where
  pub assigned_is : w ≡ substitution_of a → p ≡ hole_of b 0 → q ≡ hole_of b 1 → r ≡ is_with s w (tree_of s p) (tree_of s q) → r ≡ assigned_by s b a
  unfolding assigned_by
  assigned_is h e d g = rw (← h, ← e, ← d) g

  pub loaded_is : w ≡ one_by (Name.Register a.register) (Word a.word) → p ≡ hole_of b 3 → q ≡ hole_of b 2
      → r ≡ is_with s w (tree_of s p) (tree_of s q) → r ≡ loaded_by s b a
  unfolding loaded_by
  loaded_is h e d g = rw (← h, ← e, ← d) g

pub implications_is : (c : Conclusion) (p : Premises) (n : ℕ) (d e f g : Implication) → n ≡ p.count → d ≡ pair_of (conclusion_at p 0)
    → e ≡ pair_of (conclusion_at p 1) → f ≡ pair_of (conclusion_at p 2) → g ≡ pair_of (conclusion_at p 3)
    → record { count = n + 1; pairs = pair_of c ∷ d ∷ e ∷ f ∷ g ∷ [] } ≡ implications_of c p
unfolding implications_of
implications_is c p n d e f g v x y z w = rw (v, x, y, z, w)

-- y: the image's bytes
pub names_is : (s y h : List ℕ) (b : Bind) (p q : Position) (n : ℕ) (r : Bool) → y ≡ s → p ≡ hole_of b 2 → q ≡ hole_of b 3
    → h ≡ get_or (bodies s) 0 [] → n ≡ value_range h → r ≡ rows_t n (tree_of y p) (tree_of y q) → r ≡ of_names s b
unfolding of_names
names_is s y h b p q n r v e d f i g = rw (← e, ← d, ← f, ← i, ← v) g

module _ (s : List ℕ) (side : Side) (b : Bind) (a : Acting) (c : Conclusion) (p : Premises) where
  pub asks_nothing : side ≡ Nothing → true ≡ asked s side b a c p
  unfolding asked
  asks_nothing k = rw k

  module _ (r : Bool) where
    pub asks_rows : side ≡ ByRows → r ≡ of_names s b → r ≡ asked s side b a c p
    unfolding asked
    asks_rows k d = rw k d

    module _ (y : List ℕ) (v : y ≡ s) where
      pub asks_kept : (q : Position) → side ≡ Kept → q ≡ hole_of b 0 → r ≡ keeps a.operation a.word a.register (tree_of y q)
          → r ≡ asked s side b a c p
      unfolding asked
      asks_kept q k e d = rw (k, ← e, ← v) d

      pub asks_assigned : side ≡ Assigned → r ≡ assigned_by y b a → r ≡ asked s side b a c p
      unfolding asked
      asks_assigned k d = rw (k, ← v) d

      pub asks_loaded : side ≡ Loaded → r ≡ loaded_by y b a → r ≡ asked s side b a c p
      unfolding asked
      asks_loaded k d = rw (k, ← v) d

      pub asks_apart : (q : Position) → side ≡ WordAbsent → q ≡ hole_of b 1 → r ≡ apart a.operation a.word a.register (tree_of y q)
          → r ≡ asked s side b a c p
      unfolding asked
      asks_apart q k e d = rw (k, ← e, ← v) d

      pub asks_stored : (q o : Position) → side ≡ Stored → q ≡ hole_of b 3 → o ≡ hole_of b 2
          → r ≡ stored_by y a.word a.formula (tree_of y q) (tree_of y o) → r ≡ asked s side b a c p
      unfolding asked
      asks_stored q o k e g d = rw (k, ← e, ← g, ← v) d

      pub asks_table : (i : Implications) → side ≡ ByTable → i ≡ implications_of c p → r ≡ table_t (premises_of y i) (line_of y i)
          → r ≡ asked s side b a c p
      unfolding asked
      asks_table i k e d = rw (k, ← e, ← v) d

      pub asks_new : (q : Position) → side ≡ NewValue → q ≡ hole_of b 0 → r ≡ fresh_is y a.operation a.register a.formula (tree_of y q)
          → r ≡ asked s side b a c p
      unfolding asked
      asks_new q k e d = rw (k, ← e, ← v) d

      pub asks_start : (h : List ℕ) (x : ℕ) (q : Position) → side ≡ StartValue → h ≡ get_or (bodies s) 0 [] → x ≡ number_in b 4
          → q ≡ hole_of b 0 → r ≡ is_start h x (tree_of y q) → r ≡ asked s side b a c p
      unfolding asked
      asks_start h x q k e g f d = rw (k, ← e, ← f, ← g, ← v) d

    pub asks_mark : (h : List ℕ) (x : ℕ) → side ≡ StartsAtZero → h ≡ get_or (bodies s) 0 [] → x ≡ number_in b 4 → r ≡ cleared h x
        → r ≡ asked s side b a c p
    unfolding asked
    asks_mark h x k e g d = rw (k, ← e, ← g) d

pub ruleset side_conditions_branches = (
  substitutes_one,
  substitutes_two,
  substitutes_note,
  assigned_is,
  loaded_is,
  asks_kept,
  asks_assigned,
  asks_loaded,
  asks_stored,
  asks_new,
  asks_apart,
  implications_is,
  names_is,
  asks_nothing,
  asks_rows,
  asks_table,
  asks_start,
  asks_mark,
  tests,
)
