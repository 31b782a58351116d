-- Rules 51 and 52: rule 9 for exchange and for fetch-add.
use mathlib.Core.Path.{◌≡◌, refl, ap, sym, ◌∙◌, subst}
use mathlib.Core.Bool.{true, not}
use mathlib.Core.List.{List, [], ◌∷◌, map}
use Prim.Native.Nat.{ℕ, suc}
use native.Mathlib.Omega.{arith}
use lib.Dec.{T, eqb}
use borrow.Author.Tests.{eqb-true}
use Rattle.semantics.specs.Base.{All}
use Rattle.semantics.specs.Eval.{Env, value, test}
use Rattle.semantics.specs.Formula.{Value, Test, Assertion, Formula.word, Formula.sum, Formula.cov, Formula.box, Formula.chop, Formula.sees, Formula.both_a}
use Rattle.semantics.specs.Machine.{View, State, Write, Program, at}
use Rattle.semantics.specs.Names.{Name, n_reg, n_word, n_unsync, n_cov, names, only, is_reg, not_flag, not_reg, regs_in}
use Rattle.semantics.specs.Replace.{replace, word_by}
use Rattle.semantics.specs.Truth.{Sees}
use Rattle.semantics.proofs.Base.{upd_same, by_word, and_left, and_right, and_both, holds_true}
use Rattle.semantics.proofs.Halves
use Rattle.semantics.proofs.Halves.{Touch.write, into, worked_at, Good, cover_if}
use Rattle.logic.proofs.Agreement.{Same, same_trans, test_agree}
use Rattle.logic.proofs.Actions.{all_weaken, cover_same, write_act, with_notes, rule_9}
use Rattle.logic.proofs.Arrived.{Triple, head_off, bare}
use Rattle.logic.proofs.Inserted.{Insertion, result, old, row_new, result_same, result_prospect}
use Rattle.logic.proofs.Replacement.{replaced, under}
use Rattle.logic_further.specs.Further.{steady_exchange, steady_add}

-- what lacks the result register is not given a value
lacks_given : (r x : ℕ) (n : Name) → T (not_reg r n) → T (regs_in (Halves.kept (into r x [])) n)
lacks_given r x (n_reg q) h = and_both (not (eqb q r)) true h tt
lacks_given r x (n_word q) h = tt
lacks_given r x (n_unsync q) h = tt
lacks_given r x (n_cov q) h = tt

-- what a fetch-add leaves alone
add_given : (r x : ℕ) (n : Name) → T (steady_add r x n) → T (regs_in (Halves.kept (into r x [])) n)
add_given r x (n_reg q) h = and_both (not (eqb q r)) true h tt
add_given r x (n_word q) h = tt
add_given r x (n_unsync q) h = tt
add_given r x (n_cov q) h = tt

add_flag : (r x : ℕ) (n : Name) → T (steady_add r x n) → T (not_flag x n)
add_flag r x (n_reg q) h = tt
add_flag r x (n_word q) h = tt
add_flag r x (n_unsync q) h = absurd h
add_flag r x (n_cov q) h = absurd h

module _ (P : Program) (t r x u : ℕ) where
  pub rule_51 : (f : Value) (e : Test) → Good P (write true true x f) (into r x []) → T (only is_reg f) → T (only (steady_exchange r x) e)
      → Triple P t (write true true x f) (into r x []) (both_a (sees u (box e)) (sees u (box (replace (word_by x f) e)))) (sees u (box e))
  rule_51 f e g plain c =
      with_notes P t (write true true x f) (into r x []) (both_a (sees u (box e)) (sees u (box (replace (word_by x f) e)))) (sees u (box e))
      tt (all_weaken (steady_exchange r x) _ (λ n h. lacks_given r x n (and_right (not_flag x n) (not_reg r n) h)) (names e) c)
      (rule_9 P t x f true true (g.0, g.1, tt) plain u e
      (all_weaken (steady_exchange r x) _ (λ n h. and_left (not_flag x n) (not_reg r n) h) (names e) c))

  -- fetch-add stores the sum of what the picked write has and of f
  module _ (f : Value) (e : Test) (c : T (only (steady_add r x) e)) where
    abbrev plus : Value
    plus = sum (word x) f

    -- at a view that names the new write, and where t is, with the sum for x
    new_agrees : {s : State} (d : Insertion P s) → d.x ≡ x → (ρ : Env) → ρ.reg ≡ s.reg → value P.range ρ plus ≡ d.n → (v : View)
        → v d.x ≡ suc d.p → (n : Name) → T (steady_add r x n) → Same (under P.range (word_by x plus) ρ) (at P (result d) v) n
    new_agrees d ex ρ er ev v q (n_reg a) h = ap (λ (g : ℕ → ℕ). g a) er
    new_agrees d ex ρ er ev v q (n_word y) h =
        let ey : y ≡ x = eqb-true y x (holds_true (eqb y x) h) in
        subst (λ (y : ℕ). value P.range ρ ((word_by x plus).word y) ≡ (at P (result d) v).word y) (sym ey)
        (ap (value P.range ρ) (upd_same word x plus) ∙ ev
        ∙ subst (λ (y : ℕ). d.n ≡ (at P (result d) v).word y) ex (sym (ap (λ (w : Write). w.value) (row_new d v q))))
    new_agrees d ex ρ er ev v q (n_unsync y) h = absurd h
    new_agrees d ex ρ er ev v q (n_cov y) h = absurd h

    -- at each view: of the new write by the sum, of any other as before
    kept_at : (s : State) (p : ℕ) (d : Insertion P (cover_if true x p s)) → d.x ≡ x → worked_at P s t plus ≡ d.n
        → T (test P.range (at P s (s.view t)) (replace (word_by x plus) e)) → (v : View)
        → T (test P.range (at P s (old d v)) e) → T (test P.range (at P (result d) v) e)
    kept_at s p d ex ev here v before =
        by_word (suc d.p) (λ i. v d.x ≡ i → T (test P.range (at P (result d) v) e))
        (λ q. subst T (replaced P (word_by x plus) e (at P s (s.view t))
        ∙ test_agree P.range (record { same = new_agrees d ex (at P s (s.view t)) refl ev v q }) e c) here)
        (λ i n q. subst T (test_agree P.range (record {
          same = λ m h.
              same_trans (at P s (old d v)) (at P (cover_if true x p s) (old d v)) (at P (result d) v) m
              ((cover_same P true x p s (old d v)).same m (add_flag r x m h)) (result_same d v m (λ z y. n (sym q ∙ y)));
        }) e c) before)
        (v d.x) refl

    kept_all : (s : State) (p : ℕ) (d : Insertion P (cover_if true x p s)) → d.x ≡ x → worked_at P s t plus ≡ d.n
        → T (test P.range (at P s (s.view t)) (replace (word_by x plus) e)) → (l : List View)
        → All (λ v. T (test P.range (at P s v) e)) (map (old d) l) → All (λ v. T (test P.range (at P (result d) v) e)) l
    kept_all s p d ex ev here [] h = tt
    kept_all s p d ex ev here (v ∷ l) h = (kept_at s p d ex ev here v h.0, kept_all s p d ex ev here l h.1)

    abbrev before : Assertion
    before = both_a (sees u (box e)) (sees t (chop (box (cov x)) (box (replace (word_by x plus) e))))

    alone : Good P (write true true x plus) [] → Triple P t (write true true x plus) [] before (sees u (box e))
    unfolding write_act
    alone g s wf p arr h l pr =
        let d = write_act true true x plus [] g wf p arr in
        let own : Sees P s t (box (replace (word_by x plus) e)) =
        head_off wf t (cov x) (box (replace (word_by x plus) e)) (bare wf arr.0 arr.1) h.1 in
        kept_all s p d refl refl (own (s.view t ∷ []) (wf.view_in t, (λ y. omega arith), tt)).0 l
        (h.0 (map (old d) l) (result_prospect d u l pr))

    pub rule_52 : Good P (write true true x plus) (into r x []) → Triple P t (write true true x plus) (into r x []) before (sees u (box e))
    rule_52 g = with_notes P t (write true true x plus) (into r x []) before (sees u (box e)) tt
        (all_weaken (steady_add r x) _ (add_given r x) (names e) c) (alone (g.0, g.1, tt))
