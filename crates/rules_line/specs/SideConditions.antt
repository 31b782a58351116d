-- The side conditions of rules, and the holes that each speaks of.
use Rattle.std.specs.Prelude.{Bool, true, cond, Some, List, [], ◌∷◌, ℕ, ◌+◌, eqb, get_or}
use Rattle.logic.specs.Opcode
use Rattle.limits.specs.Limits.{nesting}
use Rattle.formula_compare.specs.declared.replace.Replacing.TheVariants.{Formula, Word}
use Rattle.formula_compare.specs.declared.replace.Name.{Name}
use Rattle.formula_compare.specs.declared.replace.Substitution.{Substitution}
use Rattle.tables_rows.specs.ByRows.{rows_t, table_t, line_of, premises_of}
use Rattle.tables_rows.specs.declared.by_rows.Implications.{Implications}
use Rattle.tables_rows.specs.declared.entailment.Implication.{Implication}
use Rattle.image_frames.specs.Records.{bodies}
use Rattle.image_header.specs.Header.{value_range, cleared}
use Rattle.formula_match.specs.declared.bind.Bind.{Bind}
use Rattle.image_access.specs.declared.acting_instruction.Acting.{Acting}
use Rattle.rules_table.specs.declared.rule.Side.{Side}
use Rattle.rules_table.specs.declared.rule.Side.TheVariants.{Nothing, Kept, Assigned, Loaded, WordAbsent, Stored, ByRows, ByTable, StartValue, NewValue, StartsAtZero}
use Rattle.rules_line.specs.Conclusion.{conclusion_at}
use Rattle.rules_line.specs.NewValue.{fresh_is}
use Rattle.rules_line.specs.SideTests.{hole_of, number_in, tree_of, apart, keeps, one_by, is_with, stored_by, is_start}
use Rattle.rules_line.specs.declared.conclusion.Conclusion.{Conclusion}
use Rattle.rules_line.specs.declared.conclusion.Premises.{Premises}

-- the substitution that an instruction's assignments denote: one register, two at once, or the second half of a pair
unfoldable pub substitution_of : Acting → Substitution
substitution_of a =
    cond (eqb a.whole Opcode.assign) (one_by (Name.Register a.register) (Formula a.formula nesting))
    (cond (eqb a.whole Opcode.assign_two)
    (record { name = Name.Register a.register; by = Formula a.formula nesting; second = Some (a.noted, Formula a.note nesting) })
    (one_by (Name.Register a.noted) (Formula a.note nesting)))

-- rules 2 and 50: the formula in hole 0 is the one in hole 1 after that substitution
unfoldable pub assigned_by : List ℕ → Bind → Acting → Bool
assigned_by s b a = is_with s (substitution_of a) (tree_of s (hole_of b 0)) (tree_of s (hole_of b 1))

-- rules 3, 4 and 47: the test in hole 3 is the one in hole 2 with the instruction's register replaced by its word
unfoldable pub loaded_by : List ℕ → Bind → Acting → Bool
loaded_by s b a = is_with s (one_by (Name.Register a.register) (Word a.word)) (tree_of s (hole_of b 3)) (tree_of s (hole_of b 2))

-- the two sides of a conclusion
abbrev pub pair_of : Conclusion → Implication
pair_of c = record { left = c.left; right = c.right }

-- the line and its premises as implications, the line first
unfoldable pub implications_of : Conclusion → Premises → Implications
implications_of c p = record {
  count = p.count + 1;
  pairs = pair_of c ∷ pair_of (conclusion_at p 0) ∷ pair_of (conclusion_at p 1) ∷ pair_of (conclusion_at p 2) ∷ pair_of (conclusion_at p 3) ∷ [];
}

-- rules 21, 23, 24 and 30: the test in hole 2 implies the one in hole 3, by rows over the range in the header
unfoldable pub of_names : List ℕ → Bind → Bool
of_names s b = rows_t (value_range (get_or (bodies s) 0 [])) (tree_of s (hole_of b 2)) (tree_of s (hole_of b 3))

-- the side condition holds: by rows, by truth table, by the header's start values and marks, or of the instruction
unfoldable pub asked : List ℕ → Side → Bind → Acting → Conclusion → Premises → Bool
asked s Nothing b a c p = true
asked s Kept b a c p = keeps a.operation a.word a.register (tree_of s (hole_of b 0))
asked s Assigned b a c p = assigned_by s b a
asked s Loaded b a c p = loaded_by s b a
asked s WordAbsent b a c p = apart a.operation a.word a.register (tree_of s (hole_of b 1))
asked s Stored b a c p = stored_by s a.word a.formula (tree_of s (hole_of b 3)) (tree_of s (hole_of b 2))
asked s ByRows b a c p = of_names s b
asked s ByTable b a c p = table_t (premises_of s (implications_of c p)) (line_of s (implications_of c p))
asked s StartValue b a c p = is_start (get_or (bodies s) 0 []) (number_in b 4) (tree_of s (hole_of b 0))
asked s NewValue b a c p = fresh_is s a.operation a.register a.formula (tree_of s (hole_of b 0))
asked s StartsAtZero b a c p = cleared (get_or (bodies s) 0 []) (number_in b 4)
