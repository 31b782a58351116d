-- What is asked of holes by position, is what the logic's rows ask of trees.
use mathlib.Core.Path.{◌≡◌, refl, ap, ap₂, sym, ◌∙◌, subst}
use mathlib.Core.Bool.{Bool, true, false, not, cond, ◌&&◌, ◌||◌, true≢false}
use mathlib.Core.List.{List, [], map}
use mathlib.Core.Option.{none, some}
use Prim.Native.Nat.{ℕ, zero, suc, ◌-◌, ◌≤◌}
use native.Mathlib.Omega.{arith}
use lib.Dec.{T, eqb}
use lib.ListN.{get_or}
use borrow.Author.Tests.{eqb-true, ne_eqb, le-ltb, lt-leb}
use Rattle.semantics.specs.Base.{all}
use Rattle.semantics.specs.Code
use Rattle.semantics.specs.Code.{byte}
use Rattle.logic.specs.Opcode
use Rattle.logic.specs.Rule.{Rule, r1, r2, r3, r4, r5, r6, r7, r8, r9, r10, r11, r12, r13, r14, r15, r16, r20, r21, r22, r23, r24, r25, r26, r27, r30, r31, r32, r33, r34, r35, r36, r37, r38, r39, r40, r41, r42, r43, r44, r45, r46, r47, r48, r49, r50}
use Rattle.logic_schemas.specs.Rules
use Rattle.logic_schemas.specs.Rules.{row}
use Rattle.logic_schemas.specs.Fits.{is_among}
use Rattle.semantics.proofs.Base.{bool_ext}
use Rattle.limits.specs.Limits as Limits
use Rattle.limits.specs.Limits.{nesting}
use Rattle.limits.specs.Numbers.{nth}
use Rattle.formula.specs.Tree.{Tree, Tree.node, parse_tree}
use Rattle.formula_compare.specs.Same.{same_tree}
use Rattle.std.specs.Prelude.{None, Some}
use Rattle.formula_compare.specs.Replace.{NoteT, replace_t, is_named, one_name, named, stands_for, replacing_of, put_for, substituted}
use Rattle.formula_compare.specs.declared.replace.Name.{Name}
use Rattle.formula_compare.specs.declared.replace.Replacing.{Replacing}
use Rattle.formula_compare.proofs.ByPair.{one_alone}
use Rattle.formula_compare.specs.declared.replace.Replacing.TheVariants.{Formula, Word}
use Rattle.formula_compare.specs.Occurs.{occurs, register, word_any_role, flag}
use Rattle.formula_trees.proofs.TreeAgree.{tree_eq, tree_refl}
use Rattle.tables_rows.specs.Entailment.{imp_of, imps_from, premises_from}
use Rattle.tables_rows.specs.ByRows.{rows_t, table_t, line_of, premises_of}
use Rattle.image_frames.specs.Records.{bodies}
use Rattle.image_header.specs.Header.{start_values, cleared, value_range}
use Rattle.image_header.specs.Instruction.{pair_operation, first_operation}
use Rattle.formula_match.specs.MatchPlaces.{taken_of}
use Rattle.formula_match.specs.declared.bind.Bind.{Bind}
use Rattle.formula_trees.specs.StatementTree as Said
use Rattle.rules_table.specs.FitTree as FitT
use Rattle.formula_trees.specs.StatementTree.{TreeConclusion, form_of}
use Rattle.rules_table.specs.FitTree.{Setup, holes_from, or_else, apart_t, keeps_t, fresh_t, side_t, operation_t}
use Rattle.image_access.specs.AccessTrees.{tree_at, gives_t, notes_by, acting_at}
use Rattle.image_access.specs.declared.acting_instruction.Acting.{Acting}
use Rattle.rules_table.specs.TableTest.{side_of}
use Rattle.rules_table.specs.declared.rule.Side.TheVariants.{Nothing}
use Rattle.rules_line.specs.Conclusion.{concluded_at, conclusions_from}
use Rattle.rules_line.specs.NewValue.{formula_is, sum_is, fresh_is}
use Rattle.rules_line.specs.SideTests.{hole_of, number_in, tree_of, apart, keeps, one_by, is_with, stored_by, is_start}
use Rattle.rules_line.specs.SideConditions.{substitution_of, assigned_by, loaded_by, implications_of, of_names, asked}
use Rattle.rules_line.specs.declared.conclusion.Conclusion.{Conclusion}
use Rattle.rules_line.specs.declared.conclusion.Premises.{Premises}

-- how many values there are, what words start with, and which registers start at 0
abbrev pub setup_in : List ℕ → Setup
setup_in s = record {
  range = value_range (get_or (bodies s) 0 []);
  init = λ x. nth (start_values (get_or (bodies s) 0 [])) x 0;
  cleared = cleared (get_or (bodies s) 0 []);
}

and_one : (b : Bool) → b && true ≡ b
and_one true = refl
and_one false = refl

same_sym : (u v : Tree) → same_tree u v ≡ same_tree v u
same_sym u v = bool_ext (same_tree u v) (same_tree v u) (λ h. subst (λ w. T (same_tree w u)) (tree_eq u v h) (tree_refl u))
    (λ h. subst (λ w. T (same_tree w v)) (tree_eq v u h) (tree_refl v))

plain : (o : Bool) → not o && true ≡ cond o false true
plain true = refl
plain false = refl

result : (o q : Bool) → not o && not q ≡ cond o false (not q)
result true q = refl
result false q = refl

abbrev acts : ℕ → ℕ → ℕ → ℕ → Tree → List NoteT → Said.Acting
acts op w x r v ns = record { operation = op; whole = w; word = x; register = r; formula = v; notes = ns }

-- operations that are not there return nothing and are no writes
past_returning : (n : ℕ) → 9 ≤ n → is_among n Rules.returning ≡ false
past_returning n h = rw (ne_eqb n 7 (λ e. omega arith), ne_eqb n 8 (λ e. omega arith))

past_writes : (n : ℕ) → 9 ≤ n → is_among n Rules.writes ≡ false
past_writes n h = rw (
  ne_eqb n 3 (λ e. omega arith),
  ne_eqb n 4 (λ e. omega arith),
  ne_eqb n 5 (λ e. omega arith),
  ne_eqb n 7 (λ e. omega arith),
  ne_eqb n 8 (λ e. omega arith),
)

past_loads : (n : ℕ) → 9 ≤ n → is_among n Rules.loads ≡ false
past_loads n h = rw (ne_eqb n 1 (λ e. omega arith), ne_eqb n 2 (λ e. omega arith))

apart_is : (op w x r : ℕ) (u v : Tree) (ns : List NoteT) → apart_t (acts op w x r v ns) u ≡ apart op x r u
unfolding apart
apart_is zero w x r u v ns = plain (occurs (word_any_role x) [] u)
apart_is (suc zero) w x r u v ns = plain (occurs (word_any_role x) [] u)
apart_is (suc (suc zero)) w x r u v ns = plain (occurs (word_any_role x) [] u)
apart_is (suc (suc (suc zero))) w x r u v ns = plain (occurs (word_any_role x) [] u)
apart_is (suc (suc (suc (suc zero)))) w x r u v ns = plain (occurs (word_any_role x) [] u)
apart_is (suc (suc (suc (suc (suc zero))))) w x r u v ns = plain (occurs (word_any_role x) [] u)
apart_is (suc (suc (suc (suc (suc (suc zero)))))) w x r u v ns = plain (occurs (word_any_role x) [] u)
apart_is (suc (suc (suc (suc (suc (suc (suc zero))))))) w x r u v ns = result (occurs (word_any_role x) [] u) (occurs (register r) [] u)
apart_is (suc (suc (suc (suc (suc (suc (suc (suc zero)))))))) w x r u v ns = result (occurs (word_any_role x) [] u) (occurs (register r) [] u)
apart_is (suc (suc (suc (suc (suc (suc (suc (suc (suc op))))))))) w x r u v ns =
    let n : ℕ = (suc (suc (suc (suc (suc (suc (suc (suc (suc op))))))))) in
    ap (λ (b : Bool). not (occurs (word_any_role x) [] u) && (not b || not (occurs (register r) [] u))) (past_returning n (omega arith))
    ∙ plain (occurs (word_any_role x) [] u)
    ∙ sym (rw (lt-leb n 6 (omega arith), lt-leb n 8 (omega arith)))

keeps_is : (op w x r : ℕ) (u v : Tree) (ns : List NoteT) → keeps_t (acts op w x r v ns) u ≡ keeps op x r u
unfolding keeps
keeps_is zero w x r u v ns = refl
keeps_is (suc zero) w x r u v ns = refl
keeps_is (suc (suc zero)) w x r u v ns = refl
keeps_is (suc (suc (suc zero))) w x r u v ns = apart_is 3 w x r u v ns
keeps_is (suc (suc (suc (suc zero)))) w x r u v ns = apart_is 4 w x r u v ns
keeps_is (suc (suc (suc (suc (suc zero))))) w x r u v ns = apart_is 5 w x r u v ns
keeps_is (suc (suc (suc (suc (suc (suc zero)))))) w x r u v ns = refl
keeps_is (suc (suc (suc (suc (suc (suc (suc zero))))))) w x r u v ns = apart_is 7 w x r u v ns
keeps_is (suc (suc (suc (suc (suc (suc (suc (suc zero)))))))) w x r u v ns = apart_is 8 w x r u v ns
keeps_is (suc (suc (suc (suc (suc (suc (suc (suc (suc op))))))))) w x r u v ns =
    let n : ℕ = (suc (suc (suc (suc (suc (suc (suc (suc (suc op))))))))) in
    rest (is_among n Rules.loads) (is_among n Rules.writes) (past_loads n (omega arith)) (past_writes n (omega arith))
    ∙ sym (rw (le-ltb n 1 (omega arith), lt-leb n 2 (omega arith), ne_eqb n 6 (λ e. omega arith), lt-leb n 8 (omega arith)))
  where
    rest : (a b : Bool) → a ≡ false → b ≡ false
        → elim a as (λ y. Bool) [
          | true ↦ not (occurs (register r) [] u)
          | false ↦ elim b as (λ y. Bool)
              [ true ↦ apart_t (acts (suc (suc (suc (suc (suc (suc (suc (suc (suc op))))))))) w x r v ns) u | false ↦ false ]
        ] ≡ false
    rest a b e d = rw (e, d)

module _ (s : List ℕ) (b : Bind) where
  -- what stands in a hole; where nothing was taken, no tree and 0
  hole_tree : (j : ℕ) → (holes_from (taken_of s b)).tree j ≡ tree_of s (hole_of b j)
  unfolding hole_of parse_tree
  hole_tree j = go (get_or b.left j 0) (eqb (get_or b.left j 0) 0) refl
    where
      go : (k : ℕ) (e : Bool) → eqb k 0 ≡ e → or_else Tree.none (cond e none (some (parse_tree s k (get_or b.at j 0)).tree)) ≡ (parse_tree s
          k (get_or b.at j 0)).tree
      go k true e = rw (eqb-true k 0 e)
      go k false e = refl

  hole_number : (j : ℕ) → (holes_from (taken_of s b)).num j ≡ number_in b j
  unfolding number_in
  hole_number j = go (get_or b.num j 0) (eqb (get_or b.num j 0) 0) refl
    where
      go : (n : ℕ) (e : Bool) → eqb n 0 ≡ e → or_else 0 (cond e none (some (n - 1))) ≡ n - 1
      go n true e = rw (eqb-true n 0 e)
      go n false e = refl

module _ (s : List ℕ) (b : Bind) (a : Acting) (c : Conclusion) (p : Premises) (few : p.count ≤ Limits.premises)
    (whole : a.operation ≡ first_operation a.whole) where
  abbrev vs : List TreeConclusion
  vs = map (concluded_at s) (conclusions_from p p.count 0)

  abbrev holds : Rule → Bool
  holds n = all (side_t (setup_in s) (acting_at s a) (holes_from (taken_of s b)) (concluded_at s c) vs) (row n).sides

  -- the rule's row allows the operation
  abbrev allowed : Rule → Bool
  allowed n = operation_t (acting_at s a) (form_of (row n).says) (row n).operations

  -- the line's premises, as implications
  table_is : (n : ℕ) → p.count ≡ n → n ≤ Limits.premises
      → map FitT.imp_of (map (concluded_at s) (conclusions_from p n 0)) ≡ premises_of s (implications_of c p)
  unfolding implications_of premises_from imps_from imp_of
  table_is zero e h = rw e
  table_is (suc zero) e h = rw e
  table_is (suc (suc zero)) e h = rw e
  table_is (suc (suc (suc zero))) e h = rw e
  table_is (suc (suc (suc (suc zero)))) e h = rw e
  table_is (suc (suc (suc (suc (suc n))))) e h = absurd (omega arith)

  line_is : FitT.imp_of (concluded_at s c) ≡ line_of s (implications_of c p)
  unfolding implications_of imp_of
  line_is = refl

  -- each condition, of the holes that it speaks of
  kept_is : holds r1 ≡ asked s (side_of (row r1).sides) b a c p
  unfolding asked
  kept_is = and_one _ ∙ keeps_is a.operation a.whole a.word a.register ((holes_from (taken_of s b)).tree 0)
      (acting_at s a).formula (acting_at s a).notes ∙ ap (keeps a.operation a.word a.register) (hole_tree s b 0)

  -- the instruction's notes and what the code puts for registers
  abbrev Notes : ℕ → Type 0
  Notes w =
      replace_t (named (notes_by w (gives_t a.register (tree_at s a.formula)) (gives_t a.noted (tree_at s a.note))))
      ≡ replace_t
      (substituted s
      (substitution_of
      (record {
        operation = a.operation;
        whole = w;
        word = a.word;
        register = a.register;
        formula = a.formula;
        noted = a.noted;
        note = a.note;
      })))

  same : (f g : ℕ → ℕ → Tree) → ((k o : ℕ) → f k o ≡ g k o) → replace_t f ≡ replace_t g
  same f g h = ap replace_t (λ q k o. h k o q)

  -- one name alone
  alone : (n : Name) (by : Replacing) → replace_t (one_name n (stands_for s by).tree) ≡ replace_t (substituted s (one_by n by))
  unfolding one_by
  alone n by = same _ _ (λ k o. sym (one_alone s (record { name = n; by = by; second = None }) refl k o))

  assign_notes : Notes Opcode.assign
  unfolding notes_by substitution_of one_name
  assign_notes = alone (Name.Register a.register) (Formula a.formula nesting)

  two_notes : Notes Opcode.assign_two
  unfolding notes_by substitution_of substituted replacing_of
  two_notes = same _ _ (λ k o. go k o (is_named (Name.Register a.register) k o) (is_named (Name.Register a.noted) k o))
    where
      go : (k o : ℕ) (x y : Bool) → cond x (tree_at s a.formula) (cond y (tree_at s a.note) (node k o Tree.none Tree.none))
          ≡ put_for s (cond x (Some (Formula a.formula nesting)) (cond y (Some (Formula a.note nesting)) None)) k o
      go k o true y = refl
      go k o false true = refl
      go k o false false = refl

  pair_notes : (w : ℕ) → T (is_among w Rules.pairs) → Notes w
  unfolding notes_by substitution_of one_name pair_operation
  pair_notes w h = go (eqb w Opcode.pair_store) (eqb w Opcode.pair_release) (eqb w Opcode.pair_swap) refl refl refl h
    where
      go : (x y v : Bool) → eqb w Opcode.pair_store ≡ x → eqb w Opcode.pair_release ≡ y → eqb w Opcode.pair_swap ≡ v
          → T (x || (y || (v || false))) → Notes w
      go true y v e d f h = rw (eqb-true w Opcode.pair_store e) (alone (Name.Register a.noted) (Formula a.note nesting))
      go false true v e d f h = rw (eqb-true w Opcode.pair_release d) (alone (Name.Register a.noted) (Formula a.note nesting))
      go false false true e d f h = rw (eqb-true w Opcode.pair_swap f) (alone (Name.Register a.noted) (Formula a.note nesting))
      go false false false e d f h = absurd h

  by_notes_is : Notes a.whole → holds r2 ≡ asked s (side_of (row r2).sides) b a c p
  unfolding asked assigned_by is_with
  by_notes_is e =
      and_one _ ∙ ap (λ (f : Tree → Tree). same_tree (f ((holes_from (taken_of s b)).tree 1)) ((holes_from (taken_of s b)).tree 0)) e
      ∙ ap₂ (λ (u v : Tree). same_tree (replace_t (substituted s (substitution_of a)) v) u) (hole_tree s b 0) (hole_tree s b 1)

  -- an operation among 0 and 12 is the whole instruction's
  assigned_is : allowed r2 ≡ true → holds r2 ≡ asked s (side_of (row r2).sides) b a c p
  unfolding first_operation
  assigned_is e = by_notes_is (go (eqb a.operation Opcode.assign) (eqb a.operation Opcode.assign_two) refl refl e)
    where
      alone : (k w : ℕ) → (k ≡ 3 → ⊥) → (k ≡ 4 → ⊥) → (k ≡ 5 → ⊥) → k ≡ first_operation w → w ≡ k
      alone k w n₃ n₄ n₅ q = pick (eqb w 9) (eqb w 10) (eqb w 11) q
        where
          pick : (x y v : Bool) → k ≡ cond x Opcode.store (cond y Opcode.release (cond v Opcode.swap w)) → w ≡ k
          pick true y v q = absurd (n₃ q)
          pick false true v q = absurd (n₄ q)
          pick false false true q = absurd (n₅ q)
          pick false false false q = sym q

      go : (x y : Bool) → eqb a.operation Opcode.assign ≡ x → eqb a.operation Opcode.assign_two ≡ y → (x || (y || false)) ≡ true
          → Notes a.whole
      go true y e₁ e₂ h =
          let q : a.operation ≡ Opcode.assign = eqb-true a.operation Opcode.assign e₁ in
          subst Notes (sym (alone 0 a.whole (λ z. omega arith) (λ z. omega arith) (λ z. omega arith) (sym q ∙ whole))) assign_notes
      go false true e₁ e₂ h =
          let q : a.operation ≡ Opcode.assign_two = eqb-true a.operation Opcode.assign_two e₂ in
          subst Notes (sym (alone 12 a.whole (λ z. omega arith) (λ z. omega arith) (λ z. omega arith) (sym q ∙ whole))) two_notes
      go false false e₁ e₂ h = absurd (true≢false (sym h))

  loaded_is : holds r3 ≡ asked s (side_of (row r3).sides) b a c p
  unfolding asked loaded_by is_with
  loaded_is =
      and_one _
      ∙ ap₂ (λ (u v : Tree). same_tree (replace_t (one_name (Name.Register a.register) (stands_for s (Word a.word)).tree) v) u)
      (hole_tree s b 3) (hole_tree s b 2)
      ∙ ap (λ (f : Tree → Tree). same_tree (f (tree_of s (hole_of b 2))) (tree_of s (hole_of b 3)))
      (alone (Name.Register a.register) (Word a.word))

  absent_is : holds r8 ≡ asked s (side_of (row r8).sides) b a c p
  unfolding asked
  absent_is =
      and_one _ ∙ apart_is a.operation a.whole a.word a.register ((holes_from (taken_of s b)).tree 1) (acting_at s a).formula
      (acting_at s a).notes
      ∙ ap (apart a.operation a.word a.register) (hole_tree s b 1)

  new_is : holds r48 ≡ asked s (side_of (row r48).sides) b a c p
  unfolding asked fresh_is sum_is formula_is
  new_is =
      and_one _ ∙ ap (λ (u : Tree). same_tree u (fresh_t (acting_at s a))) (hole_tree s b 0)
      ∙ same_sym (tree_of s (hole_of b 0)) (fresh_t (acting_at s a)) ∙ go (eqb a.operation Opcode.fetch_add)
    where
      go : (x : Bool) → same_tree (elim x as (λ y. Tree) [
        | true ↦ node (byte Code.sum) 0 (node (byte Code.reg) a.register Tree.none Tree.none)
            (parse_tree s nesting a.formula).tree
        | false ↦ (parse_tree s nesting a.formula).tree
      ]) (tree_of s (hole_of b 0))
          ≡ cond x
          (same_tree (node (byte Code.sum) 0 (node (byte Code.reg) a.register Tree.none Tree.none)
          (parse_tree s nesting a.formula).tree) (tree_of s (hole_of b 0)))
          (same_tree (parse_tree s nesting a.formula).tree (tree_of s (hole_of b 0)))
      go true = refl
      go false = refl

  stored_is : holds r9 ≡ asked s (side_of (row r9).sides) b a c p
  unfolding asked stored_by is_with
  stored_is =
      ap₂ (λ (u v : Tree). same_tree (replace_t (one_name (Name.Word a.word) (stands_for s (Formula a.formula nesting)).tree) v) u
      && (not (occurs (flag a.word) [] v) && true)) (hole_tree s b 3) (hole_tree s b 2)
      ∙ ap (λ (f : Tree → Tree). same_tree (f (tree_of s (hole_of b 2))) (tree_of s (hole_of b 3))
      && (not (occurs (flag a.word) [] (tree_of s (hole_of b 2))) && true))
      (alone (Name.Word a.word) (Formula a.formula nesting))
      ∙ go (occurs (flag a.word) [] (tree_of s (hole_of b 2))) _
    where
      go : (o e : Bool) → e && (not o && true) ≡ cond o false e
      go true true = refl
      go true false = refl
      go false true = refl
      go false false = refl

  table_asked : holds r20 ≡ asked s (side_of (row r20).sides) b a c p
  unfolding asked
  table_asked = and_one _ ∙ ap₂ table_t (table_is p.count refl few) line_is

  rows_asked : holds r21 ≡ asked s (side_of (row r21).sides) b a c p
  unfolding asked of_names
  rows_asked = and_one _ ∙ ap₂ (rows_t (setup_in s).range) (hole_tree s b 2) (hole_tree s b 3)

  start_asked : holds r26 ≡ asked s (side_of (row r26).sides) b a c p
  unfolding asked is_start
  start_asked =
      and_one _
      ∙ ap₂ (λ (u : Tree) (x : ℕ). same_tree u (node (byte Code.const) ((setup_in s).init x) Tree.none Tree.none)) (hole_tree s b 0)
      (hole_number s b 4)
      ∙ same_sym (tree_of s (hole_of b 0)) (node (byte Code.const) ((setup_in s).init (number_in b 4)) Tree.none Tree.none)

  cleared_asked : holds r27 ≡ asked s (side_of (row r27).sides) b a c p
  unfolding asked
  cleared_asked = and_one _ ∙ ap (cleared (get_or (bodies s) 0 [])) (hole_number s b 4)

  none_asked : true ≡ asked s Nothing b a c p
  unfolding asked
  none_asked = refl

  pub sides_are : (n : Rule) → allowed n ≡ true → holds n ≡ asked s (side_of (row n).sides) b a c p
  sides_are r1 e = kept_is
  sides_are r2 e = assigned_is e
  sides_are r3 e = loaded_is
  sides_are r4 e = loaded_is
  sides_are r5 e = none_asked
  sides_are r6 e = none_asked
  sides_are r7 e = none_asked
  sides_are r8 e = absent_is
  sides_are r9 e = stored_is
  sides_are r10 e = none_asked
  sides_are r11 e = none_asked
  sides_are r12 e = none_asked
  sides_are r13 e = absent_is
  sides_are r14 e = none_asked
  sides_are r15 e = none_asked
  sides_are r16 e = none_asked
  sides_are r20 e = table_asked
  sides_are r21 e = rows_asked
  sides_are r22 e = none_asked
  sides_are r23 e = rows_asked
  sides_are r24 e = rows_asked
  sides_are r25 e = none_asked
  sides_are r26 e = start_asked
  sides_are r27 e = cleared_asked
  sides_are r30 e = rows_asked
  sides_are r31 e = none_asked
  sides_are r32 e = none_asked
  sides_are r33 e = none_asked
  sides_are r34 e = none_asked
  sides_are r35 e = none_asked
  sides_are r36 e = none_asked
  sides_are r37 e = none_asked
  sides_are r38 e = none_asked
  sides_are r39 e = none_asked
  sides_are r40 e = none_asked
  sides_are r41 e = none_asked
  sides_are r42 e = none_asked
  sides_are r43 e = none_asked
  sides_are r44 e = none_asked
  sides_are r45 e = none_asked
  sides_are r46 e = none_asked
  sides_are r47 e = loaded_is
  sides_are r48 e = new_is
  sides_are r49 e = new_is
  sides_are r50 e = by_notes_is (pair_notes a.whole (subst T (sym e) tt))
