-- Rules 1 to 13, 48 to 50, of states in which the thread has arrived at its pick.
use mathlib.Core.Path.{◌≡◌, refl, ap, sym, ◌∙◌, subst, fun_ext}
use mathlib.Core.Bool.{Bool, true, false, ◌&&◌}
use mathlib.Core.List.{List, [], ◌∷◌, map}
use mathlib.Core.Logic.{◌≢◌, inl, inr}
use Prim.Native.Nat.{ℕ, zero, suc, ◌≤◌}
use native.Mathlib.Omega.{arith}
use lib.Dec.{T, eqb}
use lib.ListN.{drop}
use Rattle.logic.proofs.Agreement.{Same, same_trans, Agree, agree_refl, value_agree, test_agree, sat_agree, keep}
use Rattle.logic.proofs.Arrived.{Arrived, Triple, head_off, synced, bare, sees_last}
use Rattle.semantics.proofs.Base.{upd_same, upd_other, upds, by_word, and_left, and_right, and_both, not_eqb, all_All, is_true}
use Rattle.semantics.proofs.Cuts.{All-map}
use Rattle.semantics.proofs.Halves.{Touch, Touch.none, Touch.load, Touch.write, worked_at, with_points, cover_if, memory, finish, kept, untouched, Good}
use Rattle.logic.proofs.Inserted.{Insertion, result, old, row_new, result_same, result_prospect, result_kept, result_wf}
use Rattle.semantics.proofs.Invariant.{Wf, cover_wf}
use Rattle.logic.proofs.Last.{last_own, last_other, last_sync}
use Rattle.semantics.proofs.Prospects.{from_all}
use Rattle.logic.proofs.Registers.{regs_same, noted_all, regs_kept, given_kept, given_true, given_test, worked_small}
use Rattle.logic.proofs.Replacement.{replaced, under}
use Rattle.semantics.specs.Base.{All, all, upd}
use Rattle.semantics.specs.Eval.{Env, value, test}
use Rattle.semantics.specs.Formula.{Value, Test, Interval, Assertion, Formula.const, Formula.word, Formula.unsync, Formula.cov, Formula.box, Formula.one, Formula.chop, Formula.sees, Formula.both_a, Formula.either_a, Formula.holds}
use Rattle.logic.specs.Inference.{newest, C}
use Rattle.semantics.specs.Machine.{View, State, Write, Program, at, with_regs}
use Rattle.semantics.specs.Names.{only, not_word, regs_in, not_flag, is_reg, startless, Name, n_reg, n_word, n_unsync, n_cov, names}
use Rattle.semantics.specs.Replace.{Note, noted, notes, replace, word_by}
use Rattle.semantics.specs.Truth.{Sat, True, Prospect, Names, Sees}

pub all_weaken : (f g : Name → Bool) → ((n : Name) → T (f n) → T (g n)) → (l : List Name) → T (all f l) → T (all g l)
all_weaken f g h [] c = tt
all_weaken f g h (n ∷ l) c = and_both (g n) (all g l) (h n (search and_left)) (all_weaken f g h l (search and_right))

-- a covered write: only the flag cov of x changes
pub cover_same : (P : Program) (b : Bool) (x p : ℕ) (s : State) (v : View) → Agree (not_flag x) (at P s v) (at P (cover_if b x p s) v)
cover_same P false x p s v = agree_refl
cover_same P true x p s v = record { same = go }
  where
    val : (y i : ℕ) → (s.row y i).value ≡ ((cover_if true x p s).row y i).value
    val = by_word x _ (by_word p _ (simp upds) (λ i q. simp upds)) (λ y q i. simp upds)

    go : (n : Name) → T (not_flag x n) → Same (at P s v) (at P (cover_if true x p s) v) n
    go (n_reg r) h = refl
    go (n_word y) h = val y (v y)
    go (n_unsync y) h = let n : y ≢ x = not_eqb y x h in simp upds
    go (n_cov y) h = let n : y ≢ x = not_eqb y x h in simp upds

flag_word : (x : ℕ) (n : Name) → T (not_word x n) → T (not_flag x n)
flag_word x (n_reg r) h = tt
flag_word x (n_word y) h = tt
flag_word x (n_unsync y) h = h
flag_word x (n_cov y) h = h

cover_sees : (P : Program) (b : Bool) (x p : ℕ) (s : State) (u : ℕ) (i : Interval) → T (only (not_word x) i) → Sees P s u i
    → Sees P (cover_if b x p s) u i
cover_sees P b x p s u i c h l pr =
    sat_agree P.range (not_flag x) (at P s) (at P (cover_if b x p s)) (cover_same P b x p s) i
    (all_weaken (not_word x) (not_flag x) (flag_word x) (names i) c) l (h l pr)

-- a word is written
module _ {P : Program} {t : ℕ} (rel swaps : Bool) (x : ℕ) (f : Value) (ns : List Note) (g : Good P (write rel swaps x f) ns) {s : State}
    (wf : Wf P s) (p : ℕ)
    (arr : Arrived (write rel swaps x f) t p s) where
  unfoldable pub write_act : Insertion P (cover_if swaps x p s)
  write_act = record {
    t = t;
    x = x;
    p = p;
    n = worked_at P s t f;
    releasing = rel;
    wf = cover_wf wf swaps x p arr.0.inside;
    x_in = g.0;
    inside = arr.0.inside;
    here = arr.0.here;
    small = worked_small P s t ns wf f g.1;
  }

  write_value : T (only is_reg f) → (v : View) → value P.range (at P (result write_act) v) f ≡ write_act.n
  unfolding write_act
  write_value c v = value_agree P.range (regs_same {ρ = at P (result write_act) v} {σ = at P s (s.view t)} refl) f c

  pub write_wf : Wf P (memory P (write rel swaps x f) t p s)
  unfolding write_act
  write_wf = result_wf write_act

  write_sees : (u : ℕ) (i : Interval) → T (only (not_word x) i) → Sees P s u i → Sees P (memory P (write rel swaps x f) t p s) u i
  unfolding write_act
  write_sees u i c h = result_kept write_act u i c (cover_sees P swaps x p s u i c h)

  write_keeps : (q : Assertion) → T (startless q) → T (only (not_word x) q) → True P s q → True P (memory P (write rel swaps x f) t p s) q
  write_keeps = keep P (not_word x) s (memory P (write rel swaps x f) t p s) write_sees agree_refl

-- 9: a write of f to x keeps a test that held, and would hold with f for x
module _ {P : Program} {s : State} (d : Insertion P s) (f : Value) (e : Test) (no_flag : T (only (not_flag d.x) e)) (ρ : View → Env)
    (ag : (v : View) → Agree (not_flag d.x) (ρ v) (at P s v)) (value-f : (v : View) → value P.range (ρ v) f ≡ d.n) where
  nine_new : (v : View) → v d.x ≡ suc d.p → (n : Name) → T (not_flag d.x n)
      → Same (under P.range (word_by d.x f) (ρ (old d v))) (at P (result d) v) n
  nine_new v q (n_reg r) h = (ag (old d v)).same (n_reg r) h
  nine_new v q (n_word y) h =
      by_word d.x (λ y. (under P.range (word_by d.x f) (ρ (old d v))).word y ≡ (at P (result d) v).word y)
      (ap (value P.range (ρ (old d v))) (upd_same word d.x f) ∙ value-f (old d v)
      ∙ sym (ap (λ (w : Write). w.value) (row_new d v q)))
      (λ y n. ap (value P.range (ρ (old d v))) (upd_other word d.x f y n) ∙ (ag (old d v)).same (n_word y) tt
      ∙ result_same d v (n_word y) (λ z. absurd (n z))) y
  nine_new v q (n_unsync y) h = (ag (old d v)).same (n_unsync y) h ∙ result_same d v (n_unsync y) (λ z. absurd (not_eqb y d.x h z))
  nine_new v q (n_cov y) h = (ag (old d v)).same (n_cov y) h ∙ result_same d v (n_cov y) (λ z. absurd (not_eqb y d.x h z))

  nine_old : (v : View) → v d.x ≢ suc d.p → (n : Name) → T (not_flag d.x n) → Same (ρ (old d v)) (at P (result d) v) n
  nine_old v k n h = same_trans (ρ (old d v)) (at P s (old d v)) (at P (result d) v) n ((ag (old d v)).same n h) (result_same d v n (λ z. k))

  nine_at : (v : View) → T (test P.range (ρ (old d v)) e) → T (test P.range (ρ (old d v)) (replace (word_by d.x f) e))
      → T (test P.range (at P (result d) v) e)
  nine_at v h g = by_word (suc d.p) (λ i. v d.x ≡ i → T (test P.range (at P (result d) v) e))
      (λ q. subst T (replaced P (word_by d.x f) e (ρ (old d v)) ∙ test_agree P.range (record { same = nine_new v q }) e no_flag) g)
      (λ i n q. subst T (test_agree P.range (record { same = nine_old v (λ z. n (sym q ∙ z)) }) e no_flag) h)
      (v d.x) refl

  nine_all : (l : List View) → All (λ v. T (test P.range (ρ v) e)) (map (old d) l)
      → All (λ v. T (test P.range (ρ v) (replace (word_by d.x f) e))) (map (old d) l)
      → All (λ v. T (test P.range (at P (result d) v) e)) l
  nine_all [] h g = tt
  nine_all (v ∷ l) h g = (nine_at v h.0 g.0, nine_all l h.1 g.1)

  nine : (u : ℕ) → ((l : List View) → Prospect s.size (s.view u) l → Sat P.range ρ (box e) l)
      → ((l : List View) → Prospect s.size (s.view u) l → Sat P.range ρ (box (replace (word_by d.x f) e)) l)
      → Sees P (result d) u (box e)
  nine u h g l pr = nine_all l (h (map (old d) l) (result_prospect d u l pr)) (g (map (old d) l) (result_prospect d u l pr))

-- 12, 13: once the last write is covered too, a thread that saw C sees covered writes alone
pub covered : (P : Program) (s : State) (p x : ℕ) → suc p ≡ s.size x → (u : ℕ) → Sees P s u (C x)
    → Sees P (cover_if true x p s) u (box (cov x))
covered P s p x last u h [] pr = elim pr [ ]
covered P s p x last u h (v ∷ l) pr = All-map _ _ each (v ∷ l) (from_all s.size (s.view u) (v ∷ l) pr)
  where
    first : (w : View) → w x ≢ p → Sat P.range (at P s) (C x) (w ∷ upd w x p ∷ []) → T (s.row x (w x)).covered
    first w n (zero, a, b) = absurd (n (b.1.0 ∙ sym b.1.1.0 ∙ upd_same w x p))
    first w n (suc k, a, b) = a.0

    each : (w : View) → Names s.size w × ((y : ℕ) → s.view u y ≤ w y) → T ((cover_if true x p s).row x (w x)).covered
    each w g = by_word p (λ i. i ≡ w x → T ((cover_if true x p s).row x i).covered) (λ e. simp upds tt)
        (λ i n e. simp upds (subst (λ (i : ℕ). T (s.row x i).covered) (sym e)
        (first w (λ q. n (e ∙ q)) (h (w ∷ upd w x p ∷ []) (
          g.0,
          g.1,
          (
            by_word x _ (simp upds (omega arith)) (λ y q. simp upds (g.0 y)),
            by_word x _ (simp upds (omega (arith, g.0 x))) (λ y q. simp upds (omega arith)),
            tt,
          ),
        )))))
        (w x) refl

both_left : (a b : Name → Bool) (l : List Name) → T (all (λ n. a n && b n) l) → T (all a l)
both_left a b = all_weaken (λ n. a n && b n) a (λ n. and_left (a n) (b n))

both_right : (a b : Name → Bool) (l : List Name) → T (all (λ n. a n && b n) l) → T (all b l)
both_right a b = all_weaken (λ n. a n && b n) b (λ n. and_right (a n) (b n))

module _ (P : Program) (t : ℕ) where
  module _ (A : Touch) (ns : List Note) where
    pub rule_3 : (e : Test) → T (only is_reg e) → Triple P t A ns (sees t (box (replace (notes ns) e))) (holds e)
    rule_3 e c s wf p arr h = subst T (given_test P s t ns e c) (h (s.view t ∷ []) (wf.view_in t, (λ y. omega arith), tt)).0

    pub rule_4 : (e : Test) → T (only is_reg e) → (i : Interval) (q : Assertion) → Triple P t A ns (sees t i) q
        → Triple P t A ns (sees t (chop (box (replace (notes ns) e)) i)) (either_a (holds e) q)
    rule_4 e c i q prem s wf p arr h = go (test P.range (at P s (s.view t)) (replace (notes ns) e)) refl
      where
        go : (b : Bool) → test P.range (at P s (s.view t)) (replace (notes ns) e) ≡ b
            → True P (finish P A ns t p s) (either_a (holds e) q)
        go true z = inl (is_true (sym (given_test P s t ns e c) ∙ z))
        go false z = inr (prem s wf p arr (head_off wf t (replace (notes ns) e) i z h))

  pub rule_1 : (A : Touch) (ns : List Note) → Good P A ns → (q : Assertion) → T (startless q) → T (only (untouched A ns) q)
      → Triple P t A ns q q
  rule_1 none ns g q z c s wf p arr h = regs_kept P s (λ r. worked_at P s t (noted ns r)) (upd s.point t (suc (s.point t))) (kept ns)
      (given_kept P s t ns) q z c h
  rule_1 (load a x) ns g q z c s wf p arr h = regs_kept P s (λ r. worked_at P s t (noted ns r)) (upd s.point t (suc (s.point t)))
      (kept ns) (given_kept P s t ns) q z c h
  rule_1 (write rel swaps x f) ns g q z c s wf p arr h =
      regs_kept P (memory P (write rel swaps x f) t p s) (λ r. worked_at P s t (noted ns r)) (upd s.point t (suc (s.point t)))
      (kept ns) (given_kept P s t ns) q z
      (both_left (regs_in (kept ns)) (not_word x) (names q) c)
      (write_keeps rel swaps x f ns g wf p arr q z (both_right (regs_in (kept ns)) (not_word x) (names q) c) h)

  pub rule_2 : (ns : List Note) (q : Assertion) → T (startless q) → T (all (λ (n : Note). only is_reg n.by) ns)
      → Triple P t none ns (replace (notes ns) q) q
  rule_2 ns q z c s wf p arr h = given_true P s t ns (upd s.point t (suc (s.point t))) (all_All _ ns c) q z h

  module _ (x : ℕ) (ns : List Note) (i : Interval) (q : Assertion) where
    pub rule_5_load : Triple P t (load true x) ns (sees t i) q → Triple P t (load true x) ns (sees t (chop (box (unsync x)) i)) q
    rule_5_load prem s wf p arr h = prem s wf p arr (head_off wf t (unsync x) i (synced wf arr) h)

    pub rule_5_swap : (f : Value) → Triple P t (write true true x f) ns (sees t i) q
        → Triple P t (write true true x f) ns (sees t (chop (box (unsync x)) i)) q
    rule_5_swap f prem s wf p arr h = prem s wf p arr (head_off wf t (unsync x) i (synced wf arr.0) h)

    pub rule_10 : (rel swaps : Bool) (f : Value) → Triple P t (write rel swaps x f) ns (sees t i) q
        → Triple P t (write rel swaps x f) ns (sees t (chop (box (cov x)) i)) q
    rule_10 rel swaps f prem s wf p arr h = prem s wf p arr (head_off wf t (cov x) i (bare wf arr.0 arr.1) h)

  module _ (x : ℕ) (f : Value) where
    -- 6 to 8, for stores
    module _ (rel : Bool) (g : Good P (write rel false x f) []) where
      store_last : (s : State) → Wf P s → (p : ℕ) → Arrived (write rel false x f) t p s → Sees P s t (one x) → suc p ≡ s.size x
      store_last s wf p arr h = omega (arith, sees_last wf t x h, arr.0.here)

      pub rule_6 : T (only is_reg f) → Triple P t (write rel false x f) [] (sees t (one x)) (sees t (newest x f))
      unfolding write_act
      rule_6 c s wf p arr h = last_own (write_act rel false x f [] g wf p arr) (store_last s wf p arr h) f
          (write_value rel false x f [] g wf p arr c)

      pub rule_7 : T (only is_reg f) → (u : ℕ) (i : Interval)
          → Triple P t (write rel false x f) [] (both_a (sees t (one x)) (sees u i)) (sees u (chop i (newest x f)))
      unfolding write_act
      rule_7 c u i s wf p arr h =
          last_other (write_act rel false x f [] g wf p arr) (store_last s wf p arr h.0) f (write_value rel false x f [] g wf p arr c)
          u i h.1

    pub rule_8 : Good P (write true false x f) [] → (u : ℕ) (i j : Interval) → T (only (not_word x) j)
        → Triple P t (write true false x f) [] (both_a (sees t (one x)) (both_a (sees u i) (sees t j)))
        (sees u (chop i (chop (box (unsync x)) j)))
    unfolding write_act
    rule_8 g u i j no-x s wf p arr h =
        last_sync (write_act true false x f [] g wf p arr) (store_last true g s wf p arr h.0) refl j no-x h.1.1 u i h.1.0

    -- 11 to 13, for swaps
    pub swap_last : (s : State) → Wf P s → (p : ℕ) → Arrived (write true true x f) t p s → Sees P s t (C x) → suc p ≡ s.size x
    swap_last s wf p arr h = omega (arith, sees_last wf t x (head_off wf t (cov x) (one x) (bare wf arr.0 arr.1) h), arr.0.here)

    module _ (g : Good P (write true true x f) []) where
      pub rule_11 : T (only is_reg f) → Triple P t (write true true x f) [] (sees t (C x)) (sees t (newest x f))
      unfolding write_act
      rule_11 c s wf p arr h = last_own (write_act true true x f [] g wf p arr) (swap_last s wf p arr h) f
          (write_value true true x f [] g wf p arr c)

      pub rule_12 : T (only is_reg f) → (u : ℕ) → Triple P t (write true true x f) [] (both_a (sees t (C x)) (sees u (C x)))
          (sees u (chop (box (cov x)) (newest x f)))
      unfolding write_act
      rule_12 c u s wf p arr h =
          last_other (write_act true true x f [] g wf p arr) (swap_last s wf p arr h.0) f (write_value true true x f [] g wf p arr c) u
          (box (cov x))
          (covered P s p x (swap_last s wf p arr h.0) u h.1)

      pub rule_13 : (u : ℕ) (j : Interval) → T (only (not_word x) j)
          → Triple P t (write true true x f) [] (both_a (sees t (C x)) (both_a (sees u (C x)) (sees t j)))
          (sees u (chop (box (cov x)) (chop (box (unsync x)) j)))
      unfolding write_act
      rule_13 u j no-x s wf p arr h =
          last_sync (write_act true true x f [] g wf p arr) (swap_last s wf p arr h.0) refl j no-x
          (cover_sees P true x p s t j no-x h.1.1) u (box (cov x))
          (covered P s p x (swap_last s wf p arr h.0) u h.1.0)

    pub rule_9 : (rel swaps : Bool) → Good P (write rel swaps x f) [] → T (only is_reg f) → (u : ℕ) (e : Test) → T (only (not_flag x) e)
        → Triple P t (write rel swaps x f) [] (both_a (sees u (box e)) (sees u (box (replace (word_by x f) e)))) (sees u (box e))
    unfolding write_act
    rule_9 rel swaps g c u e no_flag s wf p arr h =
        nine (write_act rel swaps x f [] g wf p arr) f e no_flag (at P s) (cover_same P swaps x p s)
        (λ v. value_agree P.range (regs_same {ρ = at P s v} {σ = at P s (s.view t)} refl) f c) u h.0 h.1

  -- notes besides: what their registers are not in
  pub with_notes : (A : Touch) (ns : List Note) (a q : Assertion) → T (startless q) → T (only (regs_in (kept ns)) q) → Triple P t A [] a q
      → Triple P t A ns a q
  with_notes A ns a q z c prem s wf p arr h =
      regs_kept P (finish P A [] t p s) (λ r. worked_at P s t (noted ns r)) (upd s.point t (suc (s.point t))) (kept ns)
      (given_kept P s t ns) q z c (prem s wf p arr h)

  -- 50: notes of registers alone, by replacement
  pub rule_50 : (A : Touch) (ns : List Note) (a q : Assertion) → T (startless q) → T (all (λ (n : Note). only is_reg n.by) ns)
      → Triple P t A [] a (replace (notes ns) q) → Triple P t A ns a q
  rule_50 A ns a q z c prem s wf p arr h =
      subst (λ (g : ℕ → ℕ). True P (with_points (with_regs (memory P A t p s) g) (upd s.point t (suc (s.point t)))) q) (fun_ext same)
      (given_true P (finish P A [] t p s) t ns (upd s.point t (suc (s.point t))) (all_All _ ns c) q z (prem s wf p arr h))
    where
      same : (r : ℕ) → worked_at P (finish P A [] t p s) t (noted ns r) ≡ worked_at P s t (noted ns r)
      same r = value_agree P.range (regs_same {ρ = at P (finish P A [] t p s) ((finish P A [] t p s).view t)} {σ = at P s (s.view t)} refl) (noted ns r) (noted_all (λ f. T (only is_reg f)) (λ r. tt) ns (all_All _ ns c) r)

  -- 48, 49: a swap of n into x with the notes ns, after which F says what n was
  module _ (x : ℕ) (n F : Value) (ns : List Note) (g : Good P (write true true x n) ns)
      (says : (s : State) (p : ℕ) (v : View) → value P.range (at P (finish P (write true true x n) ns t p s) v) F ≡ worked_at P s t n)
    where
      -- what was stored, as a constant, is what F says
      as_said : (s : State) (p : ℕ) (l : List View) → Sat P.range (at P (finish P (write true true x n) ns t p s))
          (newest x (const (worked_at P s t n))) l
          → Sat P.range (at P (finish P (write true true x n) ns t p s)) (newest x F) l
      as_said s p l h = (
        h.0,
        All-map _ _ (λ v k. subst (λ (m : ℕ). T (eqb ((at P (finish P (write true true x n) ns t p s) v).word x) m)) (sym (says s p v)) k) l
            h.1,
      )

      -- and registers are not in that
      stored : (s : State) (p u : ℕ) (i : Interval) → T (only (regs_in (λ r. false)) i) → Sees P (memory P (write true true x n) t p s) u i
          → Sees P (finish P (write true true x n) ns t p s) u i
      stored s p u i c h =
          regs_kept P (memory P (write true true x n) t p s) (λ r. worked_at P s t (noted ns r)) (upd s.point t (suc (s.point t)))
          (λ r. false) (λ r k. absurd k)
          (sees u i) tt c h

      pub rule_48 : Triple P t (write true true x n) ns (sees t (C x)) (sees t (newest x F))
      unfolding write_act
      rule_48 s wf p arr h l pr =
          as_said s p l (stored s p t (newest x (const (worked_at P s t n))) tt
          (last_own (write_act true true x n ns g wf p arr) (swap_last x n s wf p arr h) (const (worked_at P s t n)) (λ v. refl)) l pr)

      pub rule_49 : (u : ℕ) → Triple P t (write true true x n) ns (both_a (sees t (C x)) (sees u (C x)))
          (sees u (chop (box (cov x)) (newest x F)))
      unfolding write_act
      rule_49 u s wf p arr h l pr =
          let k = stored s p u (chop (box (cov x)) (newest x (const (worked_at P s t n)))) tt
          (last_other (write_act true true x n ns g wf p arr) (swap_last x n s wf p arr h.0) (const (worked_at P s t n)) (λ v. refl) u
          (box (cov x))
          (covered P s p x (swap_last x n s wf p arr h.0) u h.1)) l pr in
          (k.0, k.1, as_said s p (drop k.0 l) k.2)
