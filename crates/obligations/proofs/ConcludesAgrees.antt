-- A line concludes what an obligation wants exactly if it says what the obligation asks for.
use mathlib.Core.Path.{◌≡◌, refl, ap, ap₂, sym, ◌∙◌, subst}
use mathlib.Core.Bool.{Bool, true, false, cond, ◌&&◌, true≢false}
use mathlib.Core.List.{List}
use Prim.Native.Nat.{ℕ, suc, ◌<◌}
use native.Mathlib.Numerals.{add-one}
use native.Mathlib.Omega.{arith}
use lib.ListN.{get_or}
use lib.Dec.{T, eqb, ltb, ltb→lt}
use borrow.Author.Tests.{eqb-true, eqb-false, eq-eqb, ne_eqb, lt-ltb}
use Rattle.semantics.specs.Base.{Within}
use Rattle.semantics.specs.Formula.{Sort, Formula, Assertion, Test, Formula.start, Formula.both_a, Formula.holds, same}
use Rattle.logic.specs.Opcode as Opcode
use Rattle.semantics.specs.Names.{only, is_reg}
use Rattle.semantics.specs.Machine.{Program, Instr, Instr.act, Instr.branch}
use Rattle.logic.specs.Statement.{Statement, inside, implies, triple, pair, is_branch, is_pair, taking}
use Rattle.logic_schemas.specs.Fits.{same_statement}
use Rattle.logic.specs.Obligations as Logic
use Rattle.logic.specs.Claims.{impossible}
use Rattle.semantics.specs.EveryRun.{Outline}
use Rattle.logic.specs.Obligations.{wants_next, wants_target}
use Rattle.logic.specs.WellFormed.{proper}
use Rattle.semantics.proofs.Base.{and_right}
use Rattle.limits.specs.Limits as Limits
use Rattle.image_frames.specs.Records.{bodies}
use Rattle.formula.specs.Tree.{Tree}
use Rattle.image_header.specs.declared.sizes.Sizes.{Sizes}
use Rattle.image_header.specs.declared.instruction.Instruction.{Instruction}
use Rattle.image_header.specs.Instruction.{pair_operation}
use Rattle.image_bodies.specs.RecordPlaces.{instruction_of}
use Rattle.formula_compare.specs.Same.{same_tree}
use Rattle.formula_trees.specs.ToTree.{to_tree}
use Rattle.formula_trees.proofs.TreeAgree.{to_tree_same}
use Rattle.formula_trees.specs.StatementTree.{concluded, implication, hoare, paired}
use Rattle.logic_outline.specs.Verdict.{asks, forbids}
use Rattle.logic_outline.proofs.Ranged.{InRange}
use Rattle.image_meaning.specs.Formulas.{formula}
use Rattle.image_meaning.specs.Program.{point_count, program_of, outline_of}
use Rattle.image_access.specs.AccessPlaces.{formula_at, claimed_in}
use Rattle.image_access.specs.AccessTrees.{tree_at}
use Rattle.image_meaning.specs.Certificate.{certificate_of}
use Rattle.image_meaning.specs.Image.{image_of, claim_body}
use Rattle.image_meaning.proofs.Instructions.{branch_is, branch_read, pair_is}
use Rattle.image_meaning.proofs.RecordsChecked.{Checks}
use Rattle.image_meaning.proofs.LinesAdmitted.{Claimed, claim_fine}
use Rattle.image_meaning.proofs.WellFormedProgram.{points_few, well-formed}
use Rattle.image_access.proofs.AccessAgree.{outline_is, test_is}
use Rattle.rules_table.specs.RuleTable.{form_number}
use Rattle.rules_table.specs.declared.rule.Form.TheVariants.{Triple, Pair}
use Rattle.rules_line.specs.LineConclusion.{conclusion_of}
use Rattle.rules_line.proofs.LineStatements.{conclusion_trees}
use Rattle.obligations.specs.Goal.{next_point, acting_form, asserted_at, goal_start, goal_action, goal_next, goal_step, goal_target, goal_stable, goal_claim, goal_at, implied, two_holes, claim_at}
use Rattle.verdict_record.specs.ObligationPlace.{obligation}
use Rattle.obligations.specs.Concludes.{meets, concludes_at}
use Rattle.obligations.proofs.GoalCompared.{starting, falsity, claim_compared, both, holding, negated, compared, start_compared, step_compared, kept_compared, next_compared, target_compared}

eqb_same : (a b : ℕ) → eqb a b ≡ eqb b a
eqb_same a b = go (eqb b a) refl
  where
    go : (x : Bool) → eqb b a ≡ x → eqb a b ≡ eqb b a
    go true e = eq-eqb a b (sym (eqb-true b a e)) ∙ sym e
    go false e = ne_eqb a b (λ q. eqb-false b a e (sym q)) ∙ sym e

-- trees are compared as formulas are
module _ (f g : Assertion) (u w : Tree) (p : to_tree f ≡ u) (q : to_tree g ≡ w) where
  sides_same : (a b : Assertion) → (same_tree u (to_tree a) && same_tree w (to_tree b)) ≡ (same f a && same g b)
  sides_same a b = rw (← p, ← q) (ap₂ ◌&&◌ (to_tree_same f a) (to_tree_same g b))

  implied_same : (x : Statement) → compared implication 0 0 u w (concluded x) ≡ same_statement (implies f g) x
  implied_same (inside i j) = refl
  implied_same (implies a b) = sides_same a b
  implied_same (triple t k a b) = refl
  implied_same (pair t k a b) = refl

  kept_same : (t k : ℕ) (x : Statement) → compared hoare t k u w (concluded x) ≡ same_statement (triple t k f g) x
  kept_same t k (inside i j) = refl
  kept_same t k (implies a b) = refl
  kept_same t k (triple i j a b) = ap₂ ◌&&◌ (ap₂ ◌&&◌ (eqb_same i t) (eqb_same j k)) (sides_same a b)
  kept_same t k (pair i j a b) = refl

  pair_same : (t k : ℕ) (x : Statement) → compared paired t k u w (concluded x) ≡ same_statement (pair t k f g) x
  pair_same t k (inside i j) = refl
  pair_same t k (implies a b) = refl
  pair_same t k (triple i j a b) = refl
  pair_same t k (pair i j a b) = ap₂ ◌&&◌ (ap₂ ◌&&◌ (eqb_same i t) (eqb_same j k)) (sides_same a b)

  -- of an instruction, of a pair its whole
  taking_same : (t k : ℕ) (c : Instr) (op : ℕ) → is_pair c ≡ pair_operation op → (x : Statement)
      → compared (form_number (acting_form op)) t k u w (concluded x) ≡ same_statement (taking t k c f g) x
  unfolding acting_form
  taking_same t k c op e x = rw (← e) (go (is_pair c))
    where
      go : (b : Bool) → compared (form_number (cond b Pair Triple)) t k u w (concluded x) ≡ same_statement
          (elim b [ true ↦ pair t k f g | false ↦ triple t k f g ]) x
      go true = pair_same t k x
      go false = kept_same t k x

module _ (s : List ℕ) (z : Sizes) (c : Checks z (bodies s)) where
  abbrev l : List (List ℕ)
  l = bodies s

  abbrev P : Program
  P = program_of z l

  abbrev O : Outline
  O = outline_of z l

  abbrev says : ℕ → Statement
  says n = ((certificate_of z l).line n).says

  abbrev its : ℕ → ℕ → Instruction
  its t k = instruction_of z l t k

  asserted_is : (t k : ℕ) → Within z.threads t → k < P.points t → to_tree (O t k) ≡ tree_at s (asserted_at s z t k)
  asserted_is = outline_is s z c

  next_is : (t k : ℕ) → Within z.threads t → suc k < P.points t → next_point k ≡ suc k
  unfolding next_point
  next_is t k w h = rw (lt-ltb k Limits.points (let q = points_few z l c t w.0 w.1 in omega arith)) (add-one k)

  behind_is : (t k : ℕ) → Within z.threads t → suc k < P.points t → to_tree (O t (suc k)) ≡ tree_at s (asserted_at s z t (next_point k))
  behind_is t k w h = rw (next_is t k w h) (asserted_is t (suc k) w h)

  module _ (n : ℕ) (wn : Within z.lines n) where
    start_asked : (t : ℕ) → Within z.threads t → meets s z (goal_start s z t) n ≡ same_statement (implies start (O t 0)) (says n)
    unfolding meets goal_start point_count
    start_asked t w =
        start_compared s (conclusion_of s z n) (asserted_at s z t 0)
        ∙ ap (compared implication 0 0 starting (tree_at s (asserted_at s z t 0))) (conclusion_trees s z c n wn)
        ∙ implied_same start (O t 0) starting (tree_at s (asserted_at s z t 0)) refl (asserted_is t 0 w (omega arith)) (says n)

    module _ (t k : ℕ) (w : Within z.threads t) (h : suc k < P.points t) where
      abbrev here : Tree
      here = tree_at s (asserted_at s z t k)

      abbrev following : Tree
      following = tree_at s (asserted_at s z t (next_point k))

      abbrev tested : Tree
      tested = tree_at s (formula_at s (its t k).formula)

      abbrev test : Test
      test = formula l Sort.test (its t k).formula

      here_is : to_tree (O t k) ≡ here
      here_is = asserted_is t k w (omega arith)

      action_asked : meets s z (goal_action s z t k (its t k)) n ≡ same_statement (taking t k (P.code t k) (O t k) (O t (suc k))) (says n)
      unfolding meets goal_action
      action_asked =
          step_compared s (conclusion_of s z n) (asserted_at s z t k) (asserted_at s z t (next_point k)) (acting_form (its t k).operation) t k
          ∙ ap (compared (form_number (acting_form (its t k).operation)) t k here following) (conclusion_trees s z c n wn)
          ∙ taking_same (O t k) (O t (suc k)) here following here_is (behind_is t k w h) t k (P.code t k) (its t k).operation
          (pair_is l (its t k)) (says n)

      module _ (e : (its t k).operation ≡ Opcode.branch) where
        next_asked : meets s z (goal_next s z t k (its t k)) n ≡ same_statement
            (implies (both_a (O t k) (holds (Formula.not test))) (O t (suc k))) (says n)
        unfolding meets goal_next
        next_asked =
            next_compared s (conclusion_of s z n) (asserted_at s z t k) (formula_at s (its t k).formula) (asserted_at s z t (next_point k))
            ∙ ap (compared implication 0 0 (both here (holding (negated tested))) following) (conclusion_trees s z c n wn)
            ∙ implied_same (both_a (O t k) (holds (Formula.not test))) (O t (suc k)) (both here (holding (negated tested))) following
            (ap₂ (λ (x y : Tree). both x (holding (negated y))) here_is (test_is s z c t k w h e)) (behind_is t k w h) (says n)

        target_there : (its t k).a < P.points t
        target_there =
            let p : T (proper P (P.points t) (branch test (its t k).a)) =
            subst (λ (x : Instr). T (proper P (P.points t) x)) (branch_read l (its t k) e)
            ((well-formed z l c).instructions t k w h) in
            ltb→lt (its t k).a (P.points t) (and_right (only is_reg test) (ltb (its t k).a (P.points t)) p)

        abbrev aim : Tree
        aim = tree_at s (asserted_at s z t (its t k).a)

        target_asked : meets s z (goal_target s z t k) n ≡ same_statement (implies (both_a (O t k) (holds test)) (O t (its t k).a)) (says n)
        unfolding meets goal_target
        target_asked =
            target_compared s (conclusion_of s z n) (asserted_at s z t k) (formula_at s (its t k).formula) (asserted_at s z t (its t k).a)
            ∙ ap (compared implication 0 0 (both here (holding tested)) aim) (conclusion_trees s z c n wn)
            ∙ implied_same (both_a (O t k) (holds test)) (O t (its t k).a) (both here (holding tested)) aim
            (ap₂ (λ (x y : Tree). both x (holding y)) here_is (test_is s z c t k w h e)) (asserted_is t (its t k).a w target_there)
            (says n)

      -- an action, or a branch
      act_wants : (x : Instr) → is_branch x ≡ false → wants_next P O t k x ≡ taking t k x (O t k) (O t (suc k))
      act_wants (act A ns) e = refl
      act_wants (branch a b) e = absurd (true≢false e)

      step_asked : meets s z (goal_step s z t k) n ≡ same_statement (wants_next P O t k (P.code t k)) (says n)
      unfolding goal_step
      step_asked = go (eqb (its t k).operation Opcode.branch) refl
        where
          go : (b : Bool) → eqb (its t k).operation Opcode.branch ≡ b
              → meets s z (goal_step s z t k) n ≡ same_statement (wants_next P O t k (P.code t k)) (says n)
          go true e = let d = eqb-true (its t k).operation Opcode.branch e in
              rw e (next_asked d ∙ ap (λ (x : Instr). same_statement (wants_next P O t k x) (says n)) (sym (branch_read l (its t k) d)))
          go false e = rw e (action_asked ∙ ap (λ (x : Statement). same_statement x (says n))
              (sym (act_wants (P.code t k) (branch_is l (its t k) ∙ e))))

      taken_asked : is_branch (P.code t k) ≡ true → meets s z (goal_target s z t k) n ≡ same_statement (wants_target P O t k (P.code t k))
          (says n)
      taken_asked b =
          let d = eqb-true (its t k).operation Opcode.branch (sym (branch_is l (its t k)) ∙ b) in
          target_asked d ∙ ap (λ (x : Instr). same_statement (wants_target P O t k x) (says n)) (sym (branch_read l (its t k) d))

    kept_asked : (u j t k : ℕ) → Within z.threads u → j < P.points u → Within z.threads t → suc k < P.points t
        → meets s z (goal_stable s z u j t k) n ≡ same_statement (taking t k (P.code t k) (both_a (O u j) (O t k)) (O u j)) (says n)
    unfolding meets goal_stable
    kept_asked u j t k w h y g =
        let p = asserted_is u j w h in
        let q = asserted_is t k y (omega arith) in
        kept_compared s (conclusion_of s z n) (asserted_at s z u j) (asserted_at s z t k) (acting_form (its t k).operation) t k
        ∙ ap (compared (form_number (acting_form (its t k).operation)) t k (both (tree_at s (asserted_at s z u j)) (tree_at s (asserted_at s z t k)))
        (tree_at s (asserted_at s z u j))) (conclusion_trees s z c n wn)
        ∙ taking_same (both_a (O u j) (O t k)) (O u j) (both (tree_at s (asserted_at s z u j)) (tree_at s (asserted_at s z t k)))
        (tree_at s (asserted_at s z u j)) (ap₂ both p q) p t k
        (P.code t k) (its t k).operation (pair_is l (its t k)) (says n)

    -- a line that is there concludes what is wanted exactly if it says what is asked for
    pub concludes_asked : (o : Logic.Obligation) → InRange P o
        → concludes_at s z (obligation o) n ≡ same_statement (asks (image_of z l) o) (says n)
    unfolding concludes_at goal_at
    concludes_asked (Logic.start t) r = start_asked t r
    concludes_asked (Logic.step t k) r = step_asked t k r.0 r.1
    concludes_asked (Logic.taken t k) r = taken_asked t k r.0 r.1.0 r.1.1
    concludes_asked (Logic.interference u j t k) r = kept_asked u j t k r.0.0 r.0.1 r.1.0 r.1.1

    -- a claim's line, likewise
    both_asked : (t k u j : ℕ) → Within z.threads t → k < P.points t → Within z.threads u → j < P.points u
        → meets s z (implied claim_at (two_holes (asserted_at s z t k) (asserted_at s z u j))) n ≡ same_statement
        (implies (both_a (O t k) (O u j)) (holds Formula.false)) (says n)
    unfolding meets
    both_asked t k u j w h y g =
        claim_compared s (conclusion_of s z n) (asserted_at s z t k) (asserted_at s z u j)
        ∙ ap (compared implication 0 0 (both (tree_at s (asserted_at s z t k)) (tree_at s (asserted_at s z u j))) falsity)
        (conclusion_trees s z c n wn)
        ∙ implied_same (both_a (O t k) (O u j)) (holds Formula.false)
        (both (tree_at s (asserted_at s z t k)) (tree_at s (asserted_at s z u j))) falsity
        (ap₂ both (asserted_is t k w h) (asserted_is u j y g)) refl (says n)

    pub claim_asked : (i : ℕ) → i < z.claims → meets s z (goal_claim s z (claimed_in (claim_body z l i))) n ≡ same_statement
        (forbids (image_of z l) i) (says n)
    unfolding goal_claim claimed_in
    claim_asked i b =
        let f = claim_fine z l c i b in
        go (ltb (get_or (claim_body z l i) 0 0) (get_or (claim_body z l i) 2 0)) f
      where
        go : (x : Bool) → Claimed z l (claim_body z l i)
            → meets s z
            (cond x
            (implied claim_at (two_holes (asserted_at s z (get_or (claim_body z l i) 0 0) (get_or (claim_body z l i) 1 0))
            (asserted_at s z (get_or (claim_body z l i) 2 0) (get_or (claim_body z l i) 3 0))))
            (implied claim_at (two_holes (asserted_at s z (get_or (claim_body z l i) 2 0) (get_or (claim_body z l i) 3 0))
            (asserted_at s z (get_or (claim_body z l i) 0 0) (get_or (claim_body z l i) 1 0))))) n
            ≡ same_statement (impossible x (O (get_or (claim_body z l i) 0 0) (get_or (claim_body z l i) 1 0))
            (O (get_or (claim_body z l i) 2 0) (get_or (claim_body z l i) 3 0))) (says n)
        go true f = both_asked (get_or (claim_body z l i) 0 0) (get_or (claim_body z l i) 1 0) (get_or (claim_body z l i) 2 0)
            (get_or (claim_body z l i) 3 0) f.thread f.point f.other f.beyond
        go false f = both_asked (get_or (claim_body z l i) 2 0) (get_or (claim_body z l i) 3 0) (get_or (claim_body z l i) 0 0)
            (get_or (claim_body z l i) 1 0) f.other f.beyond f.thread f.point
