-- What the code works out on trees is whether the line fits its rule.
use mathlib.Core.Path.{◌≡◌, refl, ap, ap₂, sym, ◌∙◌, subst, subst₂}
use mathlib.Core.Bool.{Bool, true, false, not, ◌&&◌}
use mathlib.Core.List.{List, [], ◌∷◌, ◌++◌, map}
use mathlib.Core.Option.{Option, none, some}
use Prim.Native.Nat.{ℕ, suc, ◌≤◌}
use native.Mathlib.Omega.{arith}
use lib.Dec.{T, eqb, leb, eqb→eq, eqb_refl}
use borrow.Author.Tests.{eqb-true}
use lib.ListN.{length}
use Rattle.semantics.specs.Base.{all, All}
use Rattle.semantics.specs.Limits
use Rattle.semantics.specs.Formula.{Sort, Formula, Assertion, Formula.const, Formula.word, same}
use Rattle.semantics.specs.Names.{Name, names, only, not_reg, not_word, not_flag}
use Rattle.semantics.specs.Eval.{bounded}
use Rattle.semantics.specs.Replace.{Sub, replace, notes, reg_by, word_by}
use Rattle.semantics.specs.Machine.{Program, Mode.store, Mode.swap, Mode.exchange, Mode.fetch_add, Access.none, Access.load, Access.write, Instr, Instr.act, Instr.branch}
use Rattle.logic.specs.Statement
use Rattle.logic.specs.Statement.{Statement, half, is_imp}
use Rattle.logic_schemas.specs.Pattern
use Rattle.logic_schemas.specs.Pattern.{Pattern, Given, Fill, number, inst}
use Rattle.logic.specs.Rule.{Rule}
use Rattle.logic_schemas.specs.Rules.{Shape, Shape.inside, Shape.implies, Shape.triple, Shape.pair, Premises, these, implications, By, by_notes, r_by_x, x_by_f, Side, ◌is◌with◌, start_of, starts_at_0, is_new, kept, lacks_x, no_flag, by_rows, by_table, Row, row}
use Rattle.logic.specs.Inference.{keeps}
use Rattle.logic_schemas.specs.Fits.{word_of, reg_of, formula_of, apart_of, fresh_of, notes_of, thread_of, point_of, given, by, filled, filled_all, side_holds, operation_fits, found, fits}
use Rattle.semantics.proofs.Base.{bool_ext, and_left, and_right, and_both, all_All}
use Rattle.semantics.proofs.Encoding.{same_eq, same_refl}
use Rattle.logic_schemas.proofs.Fit.{All-all, Fit, PremisesFit, fit}
use Rattle.logic_schemas.proofs.Rules.{rule-of, rule_fits}
use Rattle.formula.specs.Tree.{Tree}
use Rattle.formula_compare.specs.Same.{same_tree}
use Rattle.formula_compare.specs.Replace.{replace_t}
use Rattle.formula_compare.specs.Occurs.{occurs, register, word_any_role, flag}
use Rattle.formula_trees.specs.ToTree.{to_tree, of_tree}
use Rattle.tables_rows.specs.Entailment.{ImpT}
use Rattle.tables_rows.specs.ByRows.{rows_t, table_t}
use Rattle.formula_trees.proofs.TreeAgree.{of_tree_to_tree, to_tree_same}
use Rattle.formula_trees.proofs.ReplaceAgree.{to_tree_reg, to_tree_word, to_tree_notes}
use Rattle.formula_trees.proofs.OccursAgree
use Rattle.formula_trees.proofs.OccursAgree.{no_register, no_word}
use Rattle.tables_rows.proofs.LogicAgrees.{imp_to_tree, to_tree_rows, to_tree_table}
use Rattle.formula_match.specs.Template.{shapes, formula_hole, num_hole, pattern_to_tree, Holes, inst_t, fill_of}
use Rattle.formula_match.specs.Match.{Taken, and_then, when, match_t}
use Rattle.rules_table.specs.FitTree as FitT
use Rattle.formula_trees.specs.StatementTree.{TreeConclusion, concluded, Acting, acting, placed, form_of}
use Rattle.rules_table.specs.FitTree.{left_of, right_of, match_sides, match_line, match_all, is_implication, match_premises, preset, or_else, holes_from, replacing, apart_t, keeps_t, fresh_t, side_t, operation_t, setup, rest_t, answer, fits_at, fits_t}
use Rattle.rules_table.proofs.HolesAgree.{Hole, holes, all_left, all_right, all_join, fill_at, At, same_filled, agree_at}
use Rattle.rules_table.proofs.RowHoles.{is_in, all_in, shape_holes, premise_holes, row_holes, single, is_test_hole, is_implies, is_any, side_right, row_right, filled_holes, all_filled, rows_right}
use Rattle.logic_outline.proofs.Bounded.{bounded_sides}
use Rattle.formula_match.proofs.MatchFills.{Has, match_sound, then_some, when_some, Goes, goes_then, goes_when, match_goes}
use Rattle.formula_match.proofs.TemplateFilled.{Agrees, from_tree}

-- LINES AGAINST SHAPES

-- the line has the form and place, and its sides are the templates filled
pub record FitSides (c : Holes) (i k f : ℕ) (p q : Tree) (v : TreeConclusion) : Type 0 where
  pub placed : T (placed f i k v)
  pub left : inst_t c p ≡ v.left
  pub right : inst_t c q ≡ v.right

abbrev pub Fits : Holes → ℕ → ℕ → Shape → TreeConclusion → Type 0
Fits c i k m v = FitSides c i k (form_of m) (left_of m) (right_of m) v

abbrev pub FitAll : Holes → ℕ → ℕ → List Shape → List TreeConclusion → Type 0
FitAll c i k [] [] = Unit {0}
FitAll c i k [] (v ∷ vs) = ⊥
FitAll c i k (p ∷ l) [] = ⊥
FitAll c i k (p ∷ l) (v ∷ vs) = Fits c i k p v × FitAll c i k l vs

abbrev pub FitPremises : Holes → ℕ → ℕ → Premises → List TreeConclusion → Type 0
FitPremises c i k (these l) vs = FitAll c i k l vs
FitPremises c i k implications vs = T (leb (length vs) Limits.premises && all is_implication vs)

none_some : {Z : Type 0} (z : Taken) → none ≡ some z → Z
none_some z e = let q : ◌≡◌ {A = ℕ} 0 1 = cc in absurd (omega arith)

module _ (c : Holes) (i k : ℕ) where
  -- what was matched fits
  pub sides_sound : (f : ℕ) (p q : Tree) (v : TreeConclusion) (b z : Taken) → match_sides i k f p q v b ≡ some z → Has c z
      → Has c b × FitSides c i k f p q v
  sides_sound f p q v b z e h =
      then_some (when (placed f i k v) b) _ z e λ b₀ e₀ k₀.
      then_some (match_t p v.left b₀) _ z k₀ λ b₁ e₁ k₁.
      let y = match_sound c q v.right b₁ z k₁ h in
      let x = match_sound c p v.left b₀ b₁ e₁ y.0 in
      let w = when_some (placed f i k v) b b₀ e₀ in
      (subst (Has c) (sym w.1) x.0, record { placed = w.0; left = x.1; right = y.1 })

  line_sound : (m : Shape) (v : TreeConclusion) (b z : Taken) → match_line i k m v b ≡ some z → Has c z → Has c b × Fits c i k m v
  line_sound m = sides_sound (form_of m) (left_of m) (right_of m)

  all_sound : (l : List Shape) (vs : List TreeConclusion) (b z : Taken) → match_all i k l vs b ≡ some z → Has c z
      → Has c b × FitAll c i k l vs
  all_sound [] [] b z e h = (subst (Has c) (let q : z ≡ b = cc in q) h, tt)
  all_sound [] (v ∷ vs) b z e h = none_some z e
  all_sound (p ∷ l) [] b z e h = none_some z e
  all_sound (p ∷ l) (v ∷ vs) b z e h = go (λ b z e h. all_sound l vs b z e h)
    where
      go : ((b z : Taken) → match_all i k l vs b ≡ some z → Has c z → Has c b × FitAll c i k l vs) → Has c b × FitAll c i k (p ∷ l) (v ∷ vs)
      go ih =
          then_some (match_line i k p v b) (match_all i k l vs) z e λ b₁ e₁ k₁.
          let y = ih b₁ z k₁ h in
          let x = line_sound p v b b₁ e₁ y.0 in
          (x.0, (x.1, y.1))

  premises_sound : (W : Premises) (vs : List TreeConclusion) (b z : Taken) → match_premises i k W vs b ≡ some z → Has c z
      → Has c b × FitPremises c i k W vs
  premises_sound (these l) vs b z e h = all_sound l vs b z e h
  premises_sound implications vs b z e h = let y = when_some (leb (length vs) Limits.premises && all is_implication vs) b z e in
      (subst (Has c) (sym y.1) h, y.0)

  -- what fits is matched
  pub sides_goes : (f : ℕ) (p q : Tree) (v : TreeConclusion) (b : Taken) → FitSides c i k f p q v → Has c b
      → Goes c (match_sides i k f p q v b)
  sides_goes f p q v b g h =
      goes_then c (when (placed f i k v) b) _ (goes_when c (placed f i k v) b g.placed h) λ b₀ h₀.
      goes_then c (match_t p v.left b₀) _ (subst (λ (u : Tree). Goes c (match_t p u b₀)) g.left (match_goes c p b₀ h₀)) λ b₁ h₁.
      subst (λ (u : Tree). Goes c (match_t q u b₁)) g.right (match_goes c q b₁ h₁)

  line_goes : (m : Shape) (v : TreeConclusion) (b : Taken) → Fits c i k m v → Has c b → Goes c (match_line i k m v b)
  line_goes m = sides_goes (form_of m) (left_of m) (right_of m)

  all_goes : (l : List Shape) (vs : List TreeConclusion) (b : Taken) → FitAll c i k l vs → Has c b → Goes c (match_all i k l vs b)
  all_goes [] [] b f h = record { to = b; is = refl; has = h }
  all_goes [] (v ∷ vs) b f h = absurd f
  all_goes (p ∷ l) [] b f h = absurd f
  all_goes (p ∷ l) (v ∷ vs) b f h = goes_then c (match_line i k p v b) (match_all i k l vs) (line_goes p v b f.0 h)
      (λ z hz. all_goes l vs z f.1 hz)

  premises_goes : (W : Premises) (vs : List TreeConclusion) (b : Taken) → FitPremises c i k W vs → Has c b
      → Goes c (match_premises i k W vs b)
  premises_goes (these l) vs b f h = all_goes l vs b f h
  premises_goes implications vs b f h = goes_when c (leb (length vs) Limits.premises && all is_implication vs) b f h

-- a filling that has what was taken
pub has_from : (b : Taken) → Has (holes_from b) b
has_from b = record { num = λ j n e. ap (or_else 0) e; tree = λ j u e. ap (or_else Tree.none) e }

-- STATEMENTS

imp_concluded : (s : Statement) → is_implication (concluded s) ≡ is_imp s
imp_concluded (Statement.inside a b) = refl
imp_concluded (Statement.implies a b) = refl
imp_concluded (Statement.triple j m a b) = refl
imp_concluded (Statement.pair j m a b) = refl

all_imp_concluded : (ps : List Statement) → all is_implication (map concluded ps) ≡ all is_imp ps
all_imp_concluded [] = refl
all_imp_concluded (s ∷ ps) = ap₂ ◌&&◌ (imp_concluded s) (all_imp_concluded ps)

length_concluded : (ps : List Statement) → length (map concluded ps) ≡ length ps
length_concluded [] = refl
length_concluded (s ∷ ps) = ap (λ (n : ℕ). suc n) (length_concluded ps)

-- the implications among them; of the others any: they have none
imps_concluded : (ps : List Statement) → T (all is_imp ps) → map FitT.imp_of (map concluded ps) ≡ map imp_to_tree (map Statement.imp_of ps)
imps_concluded [] h = refl
imps_concluded (Statement.inside a b ∷ ps) h = absurd h
imps_concluded (Statement.implies a b ∷ ps) h = ap (λ (l : List ImpT). imp_to_tree (record { left = a; right = b }) ∷ l) (imps_concluded ps h)
imps_concluded (Statement.triple j m a b ∷ ps) h = absurd h
imps_concluded (Statement.pair j m a b ∷ ps) h = absurd h

module _ (P : Program) (i k : ℕ) (c : Holes) (ag : Agrees (given P i k) c) where
  -- of an instruction: the same place and the same sides
  placed_from : (form : ℕ → ℕ → Assertion → Assertion → Statement) (p q : Pattern Sort.assertion) (j l : ℕ) (a b : Assertion)
      → T (eqb j i && eqb l k)
      → inst_t c (pattern_to_tree p) ≡ to_tree a → inst_t c (pattern_to_tree q) ≡ to_tree b
      → form i k (inst (given P i k) (fill_of c) p) (inst (given P i k) (fill_of c) q) ≡ form j l a b
  placed_from form p q j l a b h e d =
      go (eqb→eq j i (and_left (eqb j i) (eqb l k) h)) (eqb→eq l k (and_right (eqb j i) (eqb l k) h)) (from_tree (given P i k) c ag p a e)
      (from_tree (given P i k) c ag q b d)
    where
      go : j ≡ i → l ≡ k → inst (given P i k) (fill_of c) p ≡ a → inst (given P i k) (fill_of c) q ≡ b
          → form i k (inst (given P i k) (fill_of c) p) (inst (given P i k) (fill_of c) q) ≡ form j l a b
      go x y z w = cc

  -- a line that fits is the shape filled
  says_from : (m : Shape) (s : Statement) → Fits c i k m (concluded s) → filled P i k (fill_of c) m ≡ s
  says_from (inside p q) (Statement.inside a b) f =
      ap₂ Statement.inside (from_tree (given P i k) c ag p a f.left) (from_tree (given P i k) c ag q b f.right)
  says_from (inside p q) (Statement.implies a b) f = absurd f.placed
  says_from (inside p q) (Statement.triple j l a b) f = absurd f.placed
  says_from (inside p q) (Statement.pair j l a b) f = absurd f.placed
  says_from (implies p q) (Statement.inside a b) f = absurd f.placed
  says_from (implies p q) (Statement.implies a b) f =
      ap₂ Statement.implies (from_tree (given P i k) c ag p a f.left) (from_tree (given P i k) c ag q b f.right)
  says_from (implies p q) (Statement.triple j l a b) f = absurd f.placed
  says_from (implies p q) (Statement.pair j l a b) f = absurd f.placed
  says_from (triple p q) (Statement.inside a b) f = absurd f.placed
  says_from (triple p q) (Statement.implies a b) f = absurd f.placed
  says_from (triple p q) (Statement.triple j l a b) f = placed_from Statement.triple p q j l a b f.placed f.left f.right
  says_from (triple p q) (Statement.pair j l a b) f = absurd f.placed
  says_from (pair p q) (Statement.inside a b) f = absurd f.placed
  says_from (pair p q) (Statement.implies a b) f = absurd f.placed
  says_from (pair p q) (Statement.triple j l a b) f = absurd f.placed
  says_from (pair p q) (Statement.pair j l a b) f = placed_from Statement.pair p q j l a b f.placed f.left f.right

  all_from : (l : List Shape) (ps : List Statement) → FitAll c i k l (map concluded ps) → filled_all P i k (fill_of c) l ≡ ps
  all_from [] [] f = refl
  all_from [] (s ∷ ps) f = absurd f
  all_from (m ∷ l) [] f = absurd f
  all_from (m ∷ l) (s ∷ ps) f = ap₂ (λ (s : Statement) (l : List Statement). s ∷ l) (says_from m s f.0) (all_from l ps f.1)

  premises-from : (W : Premises) (ps : List Statement) → FitPremises c i k W (map concluded ps) → PremisesFit P i k (fill_of c) W ps
  premises-from (these l) ps f = all_from l ps f
  premises-from implications ps f = subst T (ap₂ (λ n b. leb n Limits.premises && b) (length_concluded ps) (all_imp_concluded ps)) f

same_comm : {s : Sort} (f h : Formula s) → same f h ≡ same h f
same_comm f h = bool_ext (same f h) (same h f) (λ z. subst (λ (w : Formula _). T (same w f)) (same_eq f h z) (same_refl f))
    (λ z. subst (λ (w : Formula _). T (same w h)) (same_eq h f z) (same_refl h))

not_of : (u v : Bool) → u ≡ not v → not u ≡ v
not_of u true e = rw e
not_of u false e = rw e

-- a name that is absent from the tree is absent from the formula
word_same : (x : ℕ) {s : Sort} (h : Formula s) → not (occurs (word_any_role x) [] (to_tree h)) ≡ only (not_word x) h
word_same x h = not_of (occurs (word_any_role x) [] (to_tree h)) (only (not_word x) h) (no_word x h)

register_same : (r : ℕ) {s : Sort} (h : Formula s) → not (occurs (register r) [] (to_tree h)) ≡ only (not_reg r) h
register_same r h = not_of (occurs (register r) [] (to_tree h)) (only (not_reg r) h) (no_register r h)

alone : {a b : Bool} → a ≡ b → a && true ≡ b
alone {a} {b} e = go a ∙ e
  where
    go : (x : Bool) → x && true ≡ x
    go true = refl
    go false = refl

-- two tests of every name at once
and_swap : (a b c d : Bool) → (a && c) && (b && d) ≡ (a && b) && (c && d)
and_swap true true c d = refl
and_swap true false true d = refl
and_swap true false false d = refl
and_swap false b c d = refl

all_both : (p q : Name → Bool) (l : List Name) → all p l && all q l ≡ all (λ n. p n && q n) l
all_both p q [] = refl
all_both p q (n ∷ l) = and_swap (p n) (q n) (all p l) (all q l) ∙ ap (λ (b : Bool). (p n && q n) && b) (all_both p q l)

both_same : (r x : ℕ) {s : Sort} (h : Formula s)
    → not (occurs (word_any_role x) [] (to_tree h)) && not (occurs (register r) [] (to_tree h)) ≡ all (λ n. not_word x n && not_reg r n) (names h)
both_same r x h = ap₂ ◌&&◌ (word_same x h) (register_same r h) ∙ all_both (not_word x) (not_reg r) (names h)

-- a replacement in trees that is one in formulas
as_formula : {s : Sort} {τ : Tree} (σ : Sub) (f h : Formula s) → τ ≡ to_tree (replace σ f) → same_tree τ (to_tree h) ≡ same h (replace σ f)
as_formula σ f h e = ap (λ (t : Tree). same_tree t (to_tree h)) e ∙ (to_tree_same (replace σ f) h ∙ same_comm (replace σ f) h)

-- SIDE CONDITIONS: each is the same of trees and of formulas, if the trees in the holes are those of the formulas
module _ (P : Program) (i k : ℕ) (σ : Fill) (d : Holes) (two : 2 ≤ P.range) where
  abbrev g : Given
  g = given P i k

  abbrev a : Acting
  a = acting (P.code i k)

  replaced_same : {s : Sort} (b : By) (f h : Formula s)
      → same_tree (replace_t (replacing a b) (to_tree f)) (to_tree h) ≡ same h (replace (by P i k b) f)
  replaced_same by_notes f h = as_formula (notes (notes_of (P.code i k))) f h (to_tree_notes (notes_of (P.code i k)) f)
  replaced_same r_by_x f h = as_formula (reg_by g.r (word g.x)) f h (to_tree_reg g.r (word g.x) f)
  replaced_same x_by_f f h = as_formula (word_by g.x g.f) f h (to_tree_word g.x g.f f)

  -- what rule 1 and rule 13 ask of a formula: the word in no role, nor the result register
  apart_same : {s : Sort} (c : Instr) (h : Formula s) → apart_t (acting c) (to_tree h) ≡ only (apart_of (Statement.first c)) h
  apart_same (act none []) h = alone (word_same 0 h)
  apart_same (act none (n ∷ [])) h = alone (word_same 0 h)
  apart_same (act none (n ∷ m ∷ ns)) h = alone (word_same 0 h)
  apart_same (act (load true r x) ns) h = alone (word_same x h)
  apart_same (act (load false r x) ns) h = alone (word_same x h)
  apart_same (act (write (store true) x f) ns) h = alone (word_same x h)
  apart_same (act (write (store false) x f) ns) h = alone (word_same x h)
  apart_same (act (write swap x f) ns) h = alone (word_same x h)
  apart_same (act (write (exchange r) x f) ns) h = both_same r x h
  apart_same (act (write (fetch_add r) x f) ns) h = both_same r x h
  apart_same (branch e n) h = alone (word_same 0 h)

  keeps_same : (c : Instr) (h : Assertion) → keeps_t (acting c) (to_tree h) ≡ keeps (Statement.first c) h
  keeps_same (act none []) h = refl
  keeps_same (act none (n ∷ [])) h = refl
  keeps_same (act none (n ∷ m ∷ ns)) h = refl
  keeps_same (act (load true r x) ns) h = register_same r h
  keeps_same (act (load false r x) ns) h = register_same r h
  keeps_same (act (write (store true) x f) ns) h = apart_same (act (write (store true) x f) ns) h
  keeps_same (act (write (store false) x f) ns) h = apart_same (act (write (store false) x f) ns) h
  keeps_same (act (write swap x f) ns) h = apart_same (act (write swap x f) ns) h
  keeps_same (act (write (exchange r) x f) ns) h = apart_same (act (write (exchange r) x f) ns) h
  keeps_same (act (write (fetch_add r) x f) ns) h = apart_same (act (write (fetch_add r) x f) ns) h
  keeps_same (branch e n) h = refl

  -- what the new write holds
  fresh_same : (c : Instr) → fresh_t (acting c) ≡ to_tree (fresh_of (Statement.first c))
  fresh_same (act none []) = refl
  fresh_same (act none (n ∷ [])) = refl
  fresh_same (act none (n ∷ m ∷ ns)) = refl
  fresh_same (act (load true r x) ns) = refl
  fresh_same (act (load false r x) ns) = refl
  fresh_same (act (write (store true) x f) ns) = refl
  fresh_same (act (write (store false) x f) ns) = refl
  fresh_same (act (write swap x f) ns) = refl
  fresh_same (act (write (exchange r) x f) ns) = refl
  fresh_same (act (write (fetch_add r) x f) ns) = refl
  fresh_same (branch e n) = refl

  -- the holes of a side condition
  abbrev Same : Statement → List Statement → Side → Type 0
  Same s ps z = side_t (setup P) a d (concluded s) (map concluded ps) z ≡ side_holds P i k σ s ps z

  is_same : {r : Sort} (p q : Pattern r) (b : By) (s : Statement) (ps : List Statement) → inst_t d (pattern_to_tree p) ≡ to_tree (inst g σ p)
      → inst_t d (pattern_to_tree q) ≡ to_tree (inst g σ q) → Same s ps (p is q with b)
  is_same p q b s ps e f =
      ap₂ (λ (u v : Tree). same_tree (replace_t (replacing a b) u) v) f e
      ∙ replaced_same b (inst g σ q) (inst g σ p)

  kept_same : (p : Pattern Sort.assertion) (s : Statement) (ps : List Statement) → inst_t d (pattern_to_tree p) ≡ to_tree (inst g σ p)
      → Same s ps (kept p)
  kept_same p s ps e = ap (keeps_t a) e ∙ keeps_same (P.code i k) (inst g σ p)

  lacks_same : (p : Pattern Sort.interval) (s : Statement) (ps : List Statement) → inst_t d (pattern_to_tree p) ≡ to_tree (inst g σ p)
      → Same s ps (lacks_x p)
  lacks_same p s ps e = ap (apart_t a) e ∙ apart_same (P.code i k) (inst g σ p)

  new_same : (p : Pattern Sort.value) (s : Statement) (ps : List Statement) → inst_t d (pattern_to_tree p) ≡ to_tree (inst g σ p)
      → Same s ps (is_new p)
  new_same p s ps e = ap₂ same_tree e (fresh_same (P.code i k)) ∙ to_tree_same (inst g σ p) (fresh_of (half P i k))

  flag_same : (p : Pattern Sort.test) (s : Statement) (ps : List Statement) → inst_t d (pattern_to_tree p) ≡ to_tree (inst g σ p)
      → Same s ps (no_flag p)
  flag_same p s ps e = ap (λ (u : Tree). not (occurs (flag g.x) [] u)) e
      ∙ not_of (occurs (flag g.x) [] (to_tree (inst g σ p))) (only (not_flag g.x) (inst g σ p)) (OccursAgree.no_flag g.x (inst g σ p))

  rows_same : (p q : Pattern Sort.test) (s : Statement) (ps : List Statement) → inst_t d (pattern_to_tree p) ≡ to_tree (inst g σ p)
      → inst_t d (pattern_to_tree q) ≡ to_tree (inst g σ q)
      → T (bounded P.range (inst g σ p)) → T (bounded P.range (inst g σ q)) → Same s ps (by_rows p q)
  rows_same p q s ps e f hp hq = ap₂ (rows_t P.range) e f ∙ to_tree_rows P.range two (inst g σ p) (inst g σ q) hp hq

  -- the line's sides, as trees: the templates filled with d are the patterns filled with σ
  abbrev Line : Shape → Type 0
  Line m = (inst_t d (left_of m) ≡ (concluded (filled P i k σ m)).left) × (inst_t d (right_of m) ≡ (concluded (filled P i k σ m)).right)

  -- a line that is a shape filled, and its premises, agree at the holes of their shapes
  line_at : (m : Shape) → Line m → All (At g σ d) (shape_holes m)
  line_at (inside p q) e = all_join (At g σ d) (holes p) (holes q) (agree_at g σ d p e.0) (agree_at g σ d q e.1)
  line_at (implies p q) e = all_join (At g σ d) (holes p) (holes q) (agree_at g σ d p e.0) (agree_at g σ d q e.1)
  line_at (triple p q) e = all_join (At g σ d) (holes p) (holes q) (agree_at g σ d p e.0) (agree_at g σ d q e.1)
  line_at (pair p q) e = all_join (At g σ d) (holes p) (holes q) (agree_at g σ d p e.0) (agree_at g σ d q e.1)

  premises_at : (W : Premises) (ps : List Statement) → PremisesFit P i k σ W ps → FitPremises d i k W (map concluded ps)
      → All (At g σ d) (premise_holes (shapes W))
  premises_at (these l) ps e f = go l (subst (λ (qs : List Statement). FitAll d i k l (map concluded qs)) (sym e) f)
    where
      go : (l : List Shape) → FitAll d i k l (map concluded (filled_all P i k σ l)) → All (At g σ d) (premise_holes l)
      go [] h = tt
      go (m ∷ l) h = all_join (At g σ d) (shape_holes m) (premise_holes l) (line_at m (h.0.left, h.0.right)) (go l h.1)
  premises_at implications ps e f = tt

  -- the constants of what stands in a hole are values
  abbrev Small : Hole → Type 0
  Small (Hole.formula s j) = T (bounded P.range (fill_at σ s j))
  Small (Hole.num n) = Unit {0}
  Small Hole.operand = Unit {0}

  small_holes : {s : Sort} (p : Pattern s) → T (bounded P.range (inst g σ p)) → All Small (holes p)
  small_holes (Pattern.any_a j) h = (h, tt)
  small_holes (Pattern.any_i j) h = (h, tt)
  small_holes (Pattern.any_e j) h = (h, tt)
  small_holes (Pattern.any_v j) h = (h, tt)
  small_holes Pattern.f h = (tt, tt)
  small_holes (Pattern.const n) h = tt
  small_holes (Pattern.reg n) h = (tt, tt)
  small_holes (Pattern.word n) h = (tt, tt)
  small_holes (Pattern.unsync n) h = (tt, tt)
  small_holes (Pattern.cov n) h = (tt, tt)
  small_holes (Pattern.one n) h = (tt, tt)
  small_holes (Pattern.equal p q) h = all_join Small (holes p) (holes q) (small_holes p (search and_left)) (small_holes q (search and_right))
  small_holes (Pattern.and p q) h = all_join Small (holes p) (holes q) (small_holes p (search and_left)) (small_holes q (search and_right))
  small_holes (Pattern.chop p q) h = all_join Small (holes p) (holes q) (small_holes p (search and_left)) (small_holes q (search and_right))
  small_holes (Pattern.both p q) h = all_join Small (holes p) (holes q) (small_holes p (search and_left)) (small_holes q (search and_right))
  small_holes (Pattern.either p q) h = all_join Small (holes p) (holes q) (small_holes p (search and_left)) (small_holes q (search and_right))
  small_holes (Pattern.both_a p q) h = all_join Small (holes p) (holes q) (small_holes p (search and_left)) (small_holes q (search and_right))
  small_holes (Pattern.either_a p q) h = all_join Small (holes p) (holes q) (small_holes p (search and_left)) (small_holes q (search and_right))
  small_holes (Pattern.box p) h = small_holes p h
  small_holes (Pattern.holds p) h = small_holes p h
  small_holes (Pattern.sees n p) h = (tt, small_holes p h)
  small_holes Pattern.start h = tt

  small_line : (m : Shape) → T (bounded_sides P.range (filled P i k σ m)) → All Small (shape_holes m)
  small_line (inside p q) h = all_join Small (holes p) (holes q) (small_holes p (search and_left)) (small_holes q (search and_right))
  small_line (implies p q) h = all_join Small (holes p) (holes q) (small_holes p (search and_left)) (small_holes q (search and_right))
  small_line (triple p q) h = all_join Small (holes p) (holes q) (small_holes p (search and_left)) (small_holes q (search and_right))
  small_line (pair p q) h = all_join Small (holes p) (holes q) (small_holes p (search and_left)) (small_holes q (search and_right))

  small_test : (p : Pattern Sort.test) → T (is_test_hole p) → All Small (holes p) → T (bounded P.range (inst g σ p))
  small_test (Pattern.any_e j) h a = a.0
  small_test (Pattern.equal p q) h a = absurd h
  small_test (Pattern.and p q) h a = absurd h
  small_test (Pattern.unsync n) h a = absurd h
  small_test (Pattern.cov n) h a = absurd h

  table_same : (m : Shape) (W : Premises) (ps : List Statement) → T (is_implies m) → T (is_any W) → PremisesFit P i k σ W ps
      → Same (filled P i k σ m) ps by_table
  table_same (inside p q) W ps h a f = absurd h
  table_same (implies p q) (these l) ps h a f = absurd a
  table_same (implies p q) implications ps h a f =
      ap (λ (l : List ImpT). table_t l (imp_to_tree (record { left = inst g σ p; right = inst g σ q })))
      (imps_concluded ps (and_right (leb (length ps) Limits.premises) (all is_imp ps) f))
      ∙ to_tree_table (map Statement.imp_of ps) (record { left = inst g σ p; right = inst g σ q })
  table_same (triple p q) W ps h a f = absurd h
  table_same (pair p q) W ps h a f = absurd h

  -- of a row that passes the test each side condition is the same
  module _ (W : Row) (ps : List Statement) (line : Line W.says) (f : PremisesFit P i k σ W.premises ps)
      (h : FitPremises d i k W.premises (map concluded ps)) (b : T (bounded_sides P.range (filled P i k σ W.says))) where
    row_at : All (At g σ d) (row_holes W)
    row_at = all_join (At g σ d) (shape_holes W.says) (premise_holes (shapes W.premises)) (line_at W.says line)
        (premises_at W.premises ps f h)

    one_same : {s : Sort} (p : Pattern s) → T (all (is_in (row_holes W)) (holes p)) → inst_t d (pattern_to_tree p) ≡ to_tree (inst g σ p)
    one_same p a = same_filled g σ d p (all_in (At g σ d) (row_holes W) (holes p) row_at a)

    side_same : (c : Side) → T (side_right W c) → Same (filled P i k σ W.says) ps c
    side_same (p is q with m) a =
        let e : All (At g σ d) (holes p ++ holes q) = all_in (At g σ d) (row_holes W) (holes p ++ holes q) row_at a in
        is_same p q m (filled P i k σ W.says) ps (same_filled g σ d p (all_left (At g σ d) (holes p) (holes q) e))
        (same_filled g σ d q (all_right (At g σ d) (holes p) (holes q) e))
    side_same (start_of n p) a =
        let e : All (At g σ d) (Hole.num n ∷ holes p) = all_in (At g σ d) (row_holes W) (Hole.num n ∷ holes p) row_at a in
        ap₂ (λ (u : Tree) (y : ℕ). same_tree u (to_tree (const (P.init y)))) (same_filled g σ d p e.1) e.0
        ∙ to_tree_same (inst g σ p) (const (P.init (number g σ n)))
    side_same (starts_at_0 n) a = ap P.cleared (all_in (At g σ d) (row_holes W) (Hole.num n ∷ []) row_at a).0
    side_same (is_new p) a = new_same p (filled P i k σ W.says) ps (one_same p a)
    side_same (kept p) a = kept_same p (filled P i k σ W.says) ps (one_same p a)
    side_same (lacks_x p) a = lacks_same p (filled P i k σ W.says) ps (one_same p a)
    side_same (no_flag p) a = flag_same p (filled P i k σ W.says) ps (one_same p a)
    side_same (by_rows p q) a =
        let l : List Hole = shape_holes W.says in
        let o : T (is_test_hole p && is_test_hole q) = and_left (is_test_hole p && is_test_hole q) (all (is_in l) (holes p ++ holes q)) a in
        let m : T (all (is_in l) (holes p ++ holes q)) = and_right (is_test_hole p && is_test_hole q) (all (is_in l) (holes p ++ holes q)) a in
        let e : All (At g σ d) (holes p ++ holes q) = all_in (At g σ d) l (holes p ++ holes q) (line_at W.says line) m in
        let v : All Small (holes p ++ holes q) = all_in Small l (holes p ++ holes q) (small_line W.says b) m in
        rows_same p q (filled P i k σ W.says) ps (same_filled g σ d p (all_left (At g σ d) (holes p) (holes q) e))
        (same_filled g σ d q (all_right (At g σ d) (holes p) (holes q) e))
        (small_test p (and_left (is_test_hole p) (is_test_hole q) o) (all_left Small (holes p) (holes q) v))
        (small_test q (and_right (is_test_hole p) (is_test_hole q) o) (all_right Small (holes p) (holes q) v))
    side_same by_table a =
        table_same W.says W.premises ps (and_left (is_implies W.says) (is_any W.premises) a)
        (and_right (is_implies W.says) (is_any W.premises) a) f

    pub sides_same : T (row_right W) → All (Same (filled P i k σ W.says) ps) W.sides
    sides_same a = go W.sides (and_right (all (single (row_holes W)) (row_holes W)) (all (side_right W) W.sides) a)
      where
        go : (l : List Side) → T (all (side_right W) l) → All (Same (filled P i k σ W.says) ps) l
        go [] a = tt
        go (c ∷ l) a = (side_same c (and_left (side_right W c) (all (side_right W) l) a), go l (and_right (side_right W c) (all (side_right W) l) a))

-- WHAT STANDS IN THE HOLES of a line that is a row's shape filled
module _ (P : Program) (i k : ℕ) (σ : Fill) where
  abbrev premises_of : Premises → List Statement
  premises_of (these l) = filled_all P i k σ l
  premises_of implications = []

  abbrev its : Rule → Holes
  its n = filled_holes (given P i k) σ (row_holes (row n))

  same_place : T (eqb i i && eqb k k)
  same_place = and_both (eqb i i) (eqb k k) (eqb_refl i) (eqb_refl k)

  -- a filled shape stands in its place
  its_place : (m : Shape) → T (placed (form_of m) i k (concluded (filled P i k σ m)))
  its_place (inside p q) = tt
  its_place (implies p q) = tt
  its_place (triple p q) = same_place
  its_place (pair p q) = same_place

  module _ (c : Holes) where
    abbrev A : Hole → Type 0
    A = At (given P i k) σ c

    sides-of : {s : Sort} (p q : Pattern s) → All A (holes p ++ holes q)
        → (inst_t c (pattern_to_tree p) ≡ to_tree (inst (given P i k) σ p)) × (inst_t c (pattern_to_tree q) ≡ to_tree (inst (given P i k) σ q))
    sides-of p q a = (
      same_filled (given P i k) σ c p (all_left A (holes p) (holes q) a),
      same_filled (given P i k) σ c q (all_right A (holes p) (holes q) a),
    )

    -- where the fillings agree at its holes, a shape filled fits the shape
    shape_fits : (m : Shape) → All A (shape_holes m) → Fits c i k m (concluded (filled P i k σ m))
    shape_fits (inside p q) a = record { placed = tt; left = (sides-of p q a).0; right = (sides-of p q a).1 }
    shape_fits (implies p q) a = record { placed = tt; left = (sides-of p q a).0; right = (sides-of p q a).1 }
    shape_fits (triple p q) a = record { placed = same_place; left = (sides-of p q a).0; right = (sides-of p q a).1 }
    shape_fits (pair p q) a = record { placed = same_place; left = (sides-of p q a).0; right = (sides-of p q a).1 }

    all_fit : (l : List Shape) → All A (premise_holes l) → FitAll c i k l (map concluded (filled_all P i k σ l))
    all_fit [] a = tt
    all_fit (m ∷ l) a =
        (shape_fits m (all_left A (shape_holes m) (premise_holes l) a), all_fit l (all_right A (shape_holes m) (premise_holes l) a))

    premises-fit : (W : Premises) → All A (premise_holes (shapes W)) → FitPremises c i k W (map concluded (premises_of W))
    premises-fit (these l) a = all_fit l a
    premises-fit implications a = tt

  its_holes : (n : Rule) → All (At (given P i k) σ (its n)) (row_holes (row n))
  its_holes n = all_filled (given P i k) σ (row_holes (row n)) (row_holes (row n))
      (and_left (all (single (row_holes (row n))) (row_holes (row n))) (all (side_right (row n)) (row n).sides) (rows_right n))

  line_filled : (n : Rule) → Fits (its n) i k (row n).says (concluded (filled P i k σ (row n).says))
  line_filled n = shape_fits (its n) (row n).says
      (all_left (At (given P i k) σ (its n)) (shape_holes (row n).says) (premise_holes (shapes (row n).premises)) (its_holes n))

  premises_filled : (n : Rule) → FitPremises (its n) i k (row n).premises (map concluded (premises_of (row n).premises))
  premises_filled n = premises-fit (its n) (row n).premises
      (all_right (At (given P i k) σ (its n)) (shape_holes (row n).says) (premise_holes (shapes (row n).premises)) (its_holes n))

-- BOTH WAYS
answer_some : {Z : Type 0} (o : Option Taken) (f : Taken → Bool) → T (answer o f) → ((z : Taken) → o ≡ some z → T (f z) → Z) → Z
answer_some none f h k = absurd h
answer_some (some z) f h k = k z refl h

module _ (P : Program) (two : 2 ≤ P.range) (i k : ℕ) (n : Rule) (s : Statement) (ps : List Statement)
    (values : T (bounded_sides P.range s)) where
  abbrev c₀ : Acting
  c₀ = acting (P.code i k)

  operation_same : (m : Shape) (ops : List ℕ) → operation_t c₀ (form_of m) ops ≡ operation_fits P i k m ops
  operation_same (inside p q) ops = refl
  operation_same (implies p q) ops = refl
  operation_same (triple p q) ops = refl
  operation_same (pair p q) ops = refl

  -- what was found in the match of a line that is σ's
  module _ (σ : Fill) (z b : Taken) (e : match_line i k (row n).says (concluded s) (preset i c₀) ≡ some b)
      (e' : match_premises i k (row n).premises (map concluded ps) b ≡ some z) where
    line-fits : Has (holes_from z) (preset i c₀) × Fits (holes_from z) i k (row n).says (concluded s)
    line-fits = line_sound (holes_from z) i k (row n).says (concluded s) (preset i c₀) b e
        (premises_sound (holes_from z) i k (row n).premises (map concluded ps) b z e' (has_from z)).0

    premises_found : FitPremises (holes_from z) i k (row n).premises (map concluded ps)
    premises_found = (premises_sound (holes_from z) i k (row n).premises (map concluded ps) b z e' (has_from z)).1

    -- the side conditions are the same, for any filling that the line is
    sides_at : filled P i k σ (row n).says ≡ s → PremisesFit P i k σ (row n).premises ps
        → All (λ d. side_t (setup P) c₀ (holes_from z) (concluded s) (map concluded ps) d ≡ side_holds P i k σ s ps d) (row n).sides
    sides_at q f =
        subst
        (λ (w : Statement). All (λ d. side_t (setup P) c₀ (holes_from z) (concluded w) (map concluded ps) d ≡ side_holds P i k σ w ps d)
        (row n).sides) q
        (sides_same P i k σ (holes_from z) two (row n) ps (
          line-fits.1.left ∙ ap (λ (w : Statement). (concluded w).left) (sym q),
          line-fits.1.right
              ∙ ap (λ (w : Statement). (concluded w).right) (sym q),
        ) f premises_found
        (subst (λ (w : Statement). T (bounded_sides P.range w)) (sym q) values) (rows_right n))

  all_over : (f h : Side → Bool) (l : List Side) → All (λ d. f d ≡ h d) l → All (λ d. T (f d)) l → All (λ d. T (h d)) l
  all_over f h [] e t = tt
  all_over f h (d ∷ l) e t = (subst T e.0 t.0, all_over f h l e.1 t.1)

  all_back : (f h : Side → Bool) (l : List Side) → All (λ d. f d ≡ h d) l → All (λ d. T (h d)) l → All (λ d. T (f d)) l
  all_back f h [] e t = tt
  all_back f h (d ∷ l) e t = (subst T (sym e.0) t.0, all_back f h l e.1 t.1)

  -- fits on trees: the row's shapes, filled with what stands in the holes
  pub tree_fit : {Z : Type 0} → T (fits_at (setup P) c₀ i k (row n) (concluded s) (map concluded ps))
      → ((σ : Fill) → Fit P i k σ (row n) s ps → Z) → Z
  tree_fit {Z} h goal =
      answer_some (and_then (match_line i k (row n).says (concluded s) (preset i c₀))
      (match_premises i k (row n).premises (map concluded ps))) _ h λ z ez rest.
      then_some (match_line i k (row n).says (concluded s) (preset i c₀)) (match_premises i k (row n).premises (map concluded ps)) z ez
      λ b eb kb.
      goal (fill_of (holes_from z)) (fitting z b eb kb rest)
    where
      fitting : (z b : Taken) → match_line i k (row n).says (concluded s) (preset i c₀) ≡ some b
          → match_premises i k (row n).premises (map concluded ps) b ≡ some z
          → T (rest_t (setup P) c₀ (row n) (concluded s) (map concluded ps) z) → Fit P i k (fill_of (holes_from z)) (row n) s ps
      fitting z b eb kb rest =
          let c : Holes = holes_from z in
          let x : Has c (preset i c₀) × Fits c i k (row n).says (concluded s) = line-fits (fill_of c) z b eb kb in
          let ag : Agrees (given P i k) c = record {
            t = x.0.num (num_hole Pattern.t) i refl;
            x = x.0.num (num_hole Pattern.x) (word_of (half P i k)) refl;
            r = x.0.num (num_hole Pattern.r) (reg_of (half P i k)) refl;
            f = ap (of_tree Sort.value) (x.0.tree formula_hole (to_tree (formula_of (half P i k))) refl)
                ∙ of_tree_to_tree (formula_of (half P i k));
          } in
          let says : filled P i k (fill_of c) (row n).says ≡ s = says_from P i k c ag (row n).says s x.1 in
          let premises : PremisesFit P i k (fill_of c) (row n).premises ps =
          premises-from P i k c ag (row n).premises ps (premises_found (fill_of c) z b eb kb) in
          let ops : Bool = operation_t c₀ (form_of (row n).says) (row n).operations in
          let sides : Bool = all (side_t (setup P) c₀ c (concluded s) (map concluded ps)) (row n).sides in
          record {
            says = says;
            premises = premises;
            op = subst T (operation_same (row n).says (row n).operations) (and_left ops sides rest);
            side = all_over _ _ (row n).sides (sides_at (fill_of c) z b eb kb says premises)
                (all_All _ (row n).sides (and_right ops sides rest));
          }

  -- what is set before the match is in the holes
  has_preset : (σ : Fill) → Has (its P i k σ n) (preset i c₀)
  has_preset σ = record { num = nums; tree = trees }
    where
      c : Holes
      c = its P i k σ n

      nums : (j m : ℕ) → (preset i c₀).num j ≡ some m → c.num j ≡ m
      nums j m e = go (eqb j (num_hole Pattern.t)) (eqb j (num_hole Pattern.x)) (eqb j (num_hole Pattern.r)) refl refl refl e
        where
          go : (b d f : Bool) → eqb j (num_hole Pattern.t) ≡ b → eqb j (num_hole Pattern.x) ≡ d → eqb j (num_hole Pattern.r) ≡ f
              → ◌≡◌ {A = Option ℕ}
              (elim b [
                | true ↦ some i
                | false ↦ elim d [
                  | true ↦ some (word_of (half P i k))
                  | false ↦ elim f
                      [ true ↦ some (reg_of (half P i k)) | false ↦ none ]
                ]
              ]) (some m) → c.num j ≡ m
          go true d f p q r e = ap c.num (eqb-true j (num_hole Pattern.t) p) ∙ (let z : i ≡ m = cc in z)
          go false true f p q r e = ap c.num (eqb-true j (num_hole Pattern.x) q)
              ∙ (let z : word_of (half P i k) ≡ m = cc in z)
          go false false true p q r e = ap c.num (eqb-true j (num_hole Pattern.r) r)
              ∙ (let z : reg_of (half P i k) ≡ m = cc in z)
          go false false false p q r e = let z : ◌≡◌ {A = ℕ} 0 1 = cc in absurd (omega arith)

      trees : (j : ℕ) (u : Tree) → (preset i c₀).tree j ≡ some u → c.tree j ≡ u
      trees j u e = go (eqb j formula_hole) refl e
        where
          go : (b : Bool) → eqb j formula_hole ≡ b → ◌≡◌ {A = Option Tree}
              (elim b [ true ↦ some (to_tree (formula_of (half P i k))) | false ↦ none ]) (some u) → c.tree j ≡ u
          go true q e = ap c.tree (eqb-true j formula_hole q)
              ∙ (let d : to_tree (formula_of (half P i k)) ≡ u = cc in d)
          go false q e = let q : ◌≡◌ {A = ℕ} 0 1 = cc in absurd (omega arith)

  premises_to : (c : Holes) (σ : Fill) (W : Premises) → FitPremises c i k W (map concluded (premises_of P i k σ W))
      → PremisesFit P i k σ W ps → FitPremises c i k W (map concluded ps)
  premises_to c σ (these l) f e = subst (λ (qs : List Statement). FitAll c i k l (map concluded qs)) e f
  premises_to c σ implications f e = subst T (sym (ap₂ (λ n b. leb n Limits.premises && b) (length_concluded ps) (all_imp_concluded ps))) e

  -- the row's shapes filled: fits on trees
  pub fit_tree : (σ : Fill) → Fit P i k σ (row n) s ps → T (fits_at (setup P) c₀ i k (row n) (concluded s) (map concluded ps))
  fit_tree σ f =
      let c : Holes = its P i k σ n in
      let here : Fits c i k (row n).says (concluded s) =
      subst (λ (w : Statement). Fits c i k (row n).says (concluded w)) f.says (line_filled P i k σ n) in
      let ga : Goes c (and_then (match_line i k (row n).says (concluded s) (preset i c₀))
      (match_premises i k (row n).premises (map concluded ps))) =
      goes_then c (match_line i k (row n).says (concluded s) (preset i c₀)) (match_premises i k (row n).premises (map concluded ps))
      (line_goes c i k (row n).says (concluded s) (preset i c₀) here (has_preset σ))
      (λ z hz. premises_goes c i k (row n).premises (map concluded ps) z (premises_to c σ (row n).premises (premises_filled P i k σ n) f.premises)
      hz) in
      subst (λ (o : Option Taken). T (answer o (rest_t (setup P) c₀ (row n) (concluded s) (map concluded ps)))) (sym ga.is)
      (rest ga.to ga.is)
    where
      rest : (z : Taken) → and_then (match_line i k (row n).says (concluded s) (preset i c₀))
          (match_premises i k (row n).premises (map concluded ps)) ≡ some z
          → T (rest_t (setup P) c₀ (row n) (concluded s) (map concluded ps) z)
      rest z ez =
          then_some (match_line i k (row n).says (concluded s) (preset i c₀)) (match_premises i k (row n).premises (map concluded ps)) z
          ez λ b eb kb.
          and_both (operation_t c₀ (form_of (row n).says) (row n).operations)
          (all (side_t (setup P) c₀ (holes_from z) (concluded s) (map concluded ps)) (row n).sides)
          (subst T (sym (operation_same (row n).says (row n).operations)) f.op)
          (All-all _ (row n).sides (all_back _ _ (row n).sides (sides_at σ z b eb kb f.says f.premises) f.side))

thread_concluded : (s : Statement) → (concluded s).thread ≡ thread_of s
thread_concluded (Statement.inside a b) = refl
thread_concluded (Statement.implies a b) = refl
thread_concluded (Statement.triple j m a b) = refl
thread_concluded (Statement.pair j m a b) = refl

point_concluded : (s : Statement) → (concluded s).point ≡ point_of s
point_concluded (Statement.inside a b) = refl
point_concluded (Statement.implies a b) = refl
point_concluded (Statement.triple j m a b) = refl
point_concluded (Statement.pair j m a b) = refl

-- THE BRIDGE
-- with two values at least, so that there are rows; and with constants that are values, so that sums are modulo the range
pub bridge : (P : Program) → 2 ≤ P.range → (n : Rule) (s : Statement) (ps : List Statement) → T (bounded_sides P.range s)
    → fits_t (setup P) (acting (P.code (concluded s).thread (concluded s).point)) n (concluded s) (map concluded ps) ≡ fits P n s ps
bridge P two n s ps values =
    subst₂ (λ (i k : ℕ). fits_at (setup P) (acting (P.code i k)) i k (row n) (concluded s) (map concluded ps) ≡ fits P n s ps)
    (sym (thread_concluded s)) (sym (point_concluded s))
    (bool_ext (fits_at (setup P) (acting (P.code (thread_of s) (point_of s))) (thread_of s) (point_of s) (row n) (concluded s)
    (map concluded ps)) (fits P n s ps)
    (λ h. tree_fit P two (thread_of s) (point_of s) n s ps values h (λ σ f. rule_fits P n s ps (rule-of P n σ s ps f)))
    (λ h. fit_tree P two (thread_of s) (point_of s) n s ps values (found (row n) s ps) (fit P n s ps h)))
