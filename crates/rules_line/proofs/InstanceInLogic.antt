-- A line of a sound image fits by positions exactly if it fits its rule in the logic.
use mathlib.Core.Path.{◌≡◌, refl, ap, ap₂, sym, ◌∙◌, subst}
use mathlib.Core.Bool.{Bool, true, false}
use mathlib.Core.List.{List, [], ◌∷◌, map}
use Prim.Native.Nat.{ℕ, ◌-◌, ◌≤◌}
use native.Mathlib.Omega.{arith}
use lib.ListN.{length}
use Rattle.semantics.specs.Base.{Within}
use Rattle.logic.specs.Opcode
use Rattle.semantics.specs.Machine.{Program, Mode.store, Mode.swap, Mode.exchange, Mode.fetch_add, Access.none, Access.load, Access.write, Instr, Instr.act, Instr.branch}
use Rattle.logic.specs.Statement.{Statement, first}
use Rattle.logic_schemas.specs.Fits.{opcode}
use Rattle.limits.specs.Limits as Limits
use Rattle.limits.specs.Numbers.{within, every}
use Rattle.image_frames.specs.Records.{bodies}
use Rattle.image_header.specs.declared.sizes.Sizes.{Sizes}
use Rattle.image_bodies.specs.Line.{premises}
use Rattle.image_bodies.specs.RecordPlaces.{instruction_of}
use Rattle.formula_trees.specs.StatementTree as Said
use Rattle.formula_trees.specs.StatementTree.{TreeConclusion, concluded, acting}
use Rattle.rules_table.specs.FitTree.{fits_t}
use Rattle.logic_outline.specs.Lines.{Certificate, line_fits}
use Rattle.rules_table.proofs.FitTreeAgrees.{bridge}
use Rattle.image_meaning.specs.Certificate.{line_body, certificate_of}
use Rattle.image_access.specs.AccessPlaces.{line_in}
use Rattle.image_meaning.specs.Program.{program_of}
use Rattle.logic.specs.RuleNumbers.{rule_of}
use Rattle.image_access.specs.AccessTrees.{acting_at}
use Rattle.image_access.specs.declared.line.Line.{Line}
use Rattle.limits.proofs.PassedTests.{and_true, within_true}
use Rattle.image_meaning.proofs.RecordsChecked.{Checks}
use Rattle.image_meaning.proofs.WellFormedProgram.{range_two}
use Rattle.image_meaning.proofs.LinesAdmitted.{in_range, premises_few, premise-count, line_bounded}
use Rattle.image_access.proofs.AccessAgree.{acting_whole, acting_first, line_acting}
use Rattle.rules_table.specs.RuleTable.{templates}
use Rattle.rules_line.specs.Conclusion.{concluded_at, conclusion_at, conclusions_from}
use Rattle.rules_line.specs.LineConclusion.{conclusion_by, line_at, operation_at, conclusion_of}
use Rattle.rules_line.specs.Premises.{premise_conclusion, premises_of}
use Rattle.rules_line.specs.RuleInstance.{acting_in, fits_line}
use Rattle.rules_line.specs.declared.conclusion.Premises as Conclusions
use Rattle.rules_line.proofs.LineStatements.{rule_number, line_listed, conclusion_trees}
use Rattle.rules_line.proofs.SideConditionsAgree.{setup_in}
use Rattle.rules_line.proofs.InstanceAgrees.{Known, says, fits_same}

-- operations are 0 to 12
opcode_known : (c : Instr) → opcode c ≤ Opcode.assign_two
opcode_known (act none []) = omega arith
opcode_known (act none (n ∷ [])) = omega arith
opcode_known (act none (n ∷ m ∷ ns)) = omega arith
opcode_known (act (load true r x) ns) = omega arith
opcode_known (act (load false r x) ns) = omega arith
opcode_known (act (write (store true) x f) []) = omega arith
opcode_known (act (write (store true) x f) (n ∷ ns)) = omega arith
opcode_known (act (write (store false) x f) []) = omega arith
opcode_known (act (write (store false) x f) (n ∷ ns)) = omega arith
opcode_known (act (write swap x f) []) = omega arith
opcode_known (act (write swap x f) (n ∷ ns)) = omega arith
opcode_known (act (write (exchange r) x f) ns) = omega arith
opcode_known (act (write (fetch_add r) x f) ns) = omega arith
opcode_known (branch e a) = omega arith

module _ (s : List ℕ) (z : Sizes) (c : Checks z (bodies s)) where
  abbrev l : List (List ℕ)
  l = bodies s

  abbrev P : Program
  P = program_of z l

  abbrev C : Certificate
  C = certificate_of z l

  module _ (n : ℕ) (w : Within z.lines n) where
    abbrev its : Line
    its = line_at s z n

    abbrev ps : List ℕ
    ps = premises (line_body z l n)

    abbrev p : Conclusions.Premises
    p = premises_of s z n its.count

    -- the premises as many as they are
    conclusions_are : (qs : List ℕ) → ps ≡ qs → length qs ≤ Limits.premises → its.count ≡ length qs
        → conclusions_from p p.count 0 ≡ map (conclusion_of s z) qs
    unfolding premises_of conclusion_at premise_conclusion
    conclusions_are [] e h d = rw d
    conclusions_are (a ∷ []) e h d = rw (d, e)
    conclusions_are (a ∷ b ∷ []) e h d = rw (d, e)
    conclusions_are (a ∷ b ∷ c ∷ []) e h d = rw (d, e)
    conclusions_are (a ∷ b ∷ c ∷ d ∷ []) e h f = rw (f, e)
    conclusions_are (a ∷ b ∷ c ∷ d ∷ f ∷ qs) e h g = absurd (omega arith)

    lower_concluded : (qs : List ℕ) → every (within 1 (n - 1)) qs ≡ true
        → map (concluded_at s) (map (conclusion_of s z) qs) ≡ map concluded (map (λ m. (C.line m).says) qs)
    unfolding every
    lower_concluded [] e = refl
    lower_concluded (m ∷ qs) e =
        let h = and_true (within 1 (n - 1) m) (every (within 1 (n - 1)) qs) e in
        let r = within_true 1 (n - 1) m h.0 in
        ap₂ ◌∷◌ (conclusion_trees s z c m (r.0, omega (arith, r.1, w.1))) (lower_concluded qs h.1)

    count_is : its.count ≡ length ps
    unfolding line_at line_in
    count_is = sym (premise-count z l c n w.0 w.1)

    count_few : its.count ≤ Limits.premises
    unfolding line_at line_in
    count_few = premises_few z l c n w.0 w.1

    premises_concluded : says s p ≡ map concluded (map (λ m. (C.line m).says) ps)
    premises_concluded = ap (map (concluded_at s)) (conclusions_are ps refl (subst (λ (k : ℕ). k ≤ Limits.premises) count_is count_few)
        count_is) ∙ lower_concluded ps (in_range z l c n w.0 w.1).2

    acting_concluded : acting (P.code its.thread its.point) ≡ acting_at s (acting_in s z its)
    unfolding acting_in line_at line_in
    acting_concluded = line_acting s z c n w

    acting_known : Known (acting_in s z its)
    unfolding acting_in
    acting_known = record {
      operation = subst (λ (k : ℕ). k ≤ Opcode.assign_two) (ap (λ (a : Said.Acting). a.operation) acting_concluded)
          (opcode_known (first (P.code its.thread its.point)));
      whole = subst (λ (k : ℕ). k ≤ Opcode.assign_two) (ap (λ (a : Said.Acting). a.whole) acting_concluded)
          (opcode_known (P.code its.thread its.point));
      first = acting_first s (instruction_of z l its.thread its.point);
    }

    premises_few_here : p.count ≤ Limits.premises
    unfolding premises_of
    premises_few_here = count_few

    abbrev S : Statement
    S = (C.line n).says

    acting_there : acting_at s (acting_in s z its) ≡ acting (P.code (concluded S).thread (concluded S).point)
    unfolding conclusion_of conclusion_by
    acting_there = sym acting_concluded ∙ ap₂ (λ (t k : ℕ). acting (P.code t k))
        (ap (λ (v : TreeConclusion). v.thread) (conclusion_trees s z c n w))
        (ap (λ (v : TreeConclusion). v.point) (conclusion_trees s z c n w))

    abbrev fitted : Said.Acting → TreeConclusion → List TreeConclusion → Bool
    fitted a v vs = fits_t (setup_in s) a (rule_of its.rule) v vs

    whole_is : (acting_in s z its).whole ≡ operation_at s z its
    unfolding acting_in
    whole_is = acting_whole s (instruction_of z l its.thread its.point)

    -- what the code answers is what the rules say
    pub fits_is : fits_line s templates z n ≡ line_fits P C n
    unfolding fits_line conclusion_of line_at line_in
    fits_is =
        sym (fits_same s (rule_of its.rule) its (sym (rule_number its.rule (line_listed s z c n w))) (acting_in s z its) acting_known
        p premises_few_here)
        ∙ ap (λ (op : ℕ). fitted (acting_at s (acting_in s z its)) (concluded_at s (conclusion_by its op)) (says s p)) whole_is
        ∙ ap₂ (λ (v : TreeConclusion) (vs : List TreeConclusion). fitted (acting_at s (acting_in s z its)) v vs)
        (conclusion_trees s z c n w) premises_concluded
        ∙ ap (λ (a : Said.Acting). fitted a (concluded S) (map concluded (map (λ m. (C.line m).says) ps))) acting_there
        ∙ bridge P (range_two z l c) (rule_of its.rule) S (map (λ m. (C.line m).says) ps) (line_bounded z l c n w.0 w.1)
