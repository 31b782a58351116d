-- A write inserted behind a read_view one: what it does to views, prospects, the meaning of names and well-formedness.
use mathlib.Core.Path.{◌≡◌, refl, ap, ap₂, sym, ◌∙◌}
use mathlib.Core.Bool.{Bool, false, ◌&&◌, ◌||◌}
use mathlib.Core.List.{List, [], ◌∷◌, map}
use mathlib.Core.Logic.{◌≢◌}
use Prim.Native.Nat.{ℕ, zero, suc, ◌≤◌, ◌<◌}
use native.Mathlib.Omega.{arith}
use lib.Dec.{T, ltb, lt→ltb, ltb→lt}
use Rattle.logic.proofs.Agreement.{Same, transport, All-every}
use Rattle.semantics.proofs.Base.{bool_ext, upd_same, upd_other, by_word, upds, not_eqb, up_is, down_is}
use Rattle.semantics.proofs.Halves.{down_view, put}
use Rattle.semantics.proofs.Invariant.{Wf}
use Rattle.semantics.specs.Base.{Within}
use Rattle.semantics.specs.Formula.{Interval}
use Rattle.semantics.specs.Machine.{View, State, Write, Program, up, down, up_view, up_write, move_to, at, later}
use Rattle.semantics.specs.Names.{only, not_word, Name, n_reg, n_word, n_unsync, n_cov}
use Rattle.semantics.specs.Truth.{From, Prospect, Names, Sees}

-- a test is the other where each gives the other
pub same_test : (a b c d : ℕ) → (b < a → d < c) → (d < c → b < a) → ltb b a ≡ ltb d c
same_test a b c d f g =
    bool_ext (ltb b a) (ltb d c) (λ h. lt→ltb d c (f (ltb→lt b a h))) (λ h. lt→ltb b a (g (ltb→lt d c h)))

module _ (x p : ℕ) where
  -- an old stored view, after the insertion, against a new view; and before it, against the view that it stands for
  galois : (a v : View) (y : ℕ) → ltb (v y) (up_view x p a y) ≡ ltb (down_view x p v y) (a y)
  galois a v = by_word x _
      (simp upd_same (same_test (up p (a x)) (v x) (a x) (down p (v x)) (omega (arith, up_is p (a x), down_is p (v x)))
      (omega (arith, up_is p (a x), down_is p (v x)))))
      (λ y q. simp upd_other)

  later_down : (W : ℕ) (a v : View) → later W (up_view x p a) v ≡ later W a (down_view x p v)
  later_down zero a v = refl
  later_down (suc W) a v = ap₂ ◌||◌ (galois a v (suc W)) (later_down W a v)

  down_still : (v : View) (y : ℕ) → y ≢ x → down_view x p v y ≡ v y
  down_still v y q = upd_other v x (down p (v x)) y q

  down_mono : (v w : View) → ((y : ℕ) → v y ≤ w y) → (y : ℕ) → down_view x p v y ≤ down_view x p w y
  down_mono v w g = by_word x _ (simp upd_same (omega (arith, g x, down_is p (v x), down_is p (w x)))) (λ y q. simp upd_other (g y))

-- the name is of the word x
abbrev pub About : ℕ → Name → Type 0
About x (n_reg r) = ⊥
About x (n_word y) = y ≡ x
About x (n_unsync y) = y ≡ x
About x (n_cov y) = y ≡ x

not_about : (x : ℕ) (n : Name) → T (not_word x n) → About x n → ⊥
not_about x (n_reg r) h z = z
not_about x (n_word y) h z = not_eqb y x h z
not_about x (n_unsync y) h z = not_eqb y x h z
not_about x (n_cov y) h z = not_eqb y x h z

-- t, whose view names the write at p of x, inserts a write of n behind it
pub record Insertion (P : Program) (s : State) : Type 0 where
  pub t : ℕ
  pub x : ℕ
  pub p : ℕ
  pub n : ℕ
  pub releasing : Bool
  pub wf : Wf P s
  pub x_in : Within P.words x
  pub inside : p < s.size x
  pub here : s.view t x ≡ p
  pub small : n < P.range

abbrev pub result : {P : Program} {s : State} → Insertion P s → State
result {s = s} d = put d.releasing d.x d.n d.t d.p s

-- the old view that a new one stands for
abbrev pub old : {P : Program} {s : State} → Insertion P s → View → View
old d v = down_view d.x d.p v

abbrev pub new : {P : Program} {s : State} → Insertion P s → Write
new {s = s} d = record { value = d.n; releasing = d.releasing; covered = false; stored = move_to d.x d.p (s.view d.t) }

module _ {P : Program} {s : State} (d : Insertion P s) where
  -- the write that a new view names, if it is not the new one: the old write that the view stands for, moved
  row_old : (v : View) (y : ℕ) → (y ≡ d.x → v d.x ≢ suc d.p) → (result d).row y (v y) ≡ up_write d.x d.p (s.row y (old d v y))
  row_old v = by_word d.x (λ y. (y ≡ d.x → v d.x ≢ suc d.p)
      → (result d).row y (v y) ≡ up_write d.x d.p (s.row y (old d v y)))
      (λ f. let q : v d.x ≢ suc d.p = f refl in simp upds)
      (λ y q f. simp upds)

  pub row_new : (v : View) → v d.x ≡ suc d.p → (result d).row d.x (v d.x) ≡ new d
  row_new v q = simp (upds, q)

  -- a name stands at a new view for what it stood for at the old one, unless it is of x and the view names the new write
  pub result_same : (v : View) (n : Name) → (About d.x n → v d.x ≢ suc d.p) → Same (at P s (old d v)) (at P (result d) v) n
  result_same v (n_reg r) f = refl
  result_same v (n_word y) f = sym (ap (λ (w : Write). w.value) (row_old v y f))
  result_same v (n_cov y) f = sym (ap (λ (w : Write). w.covered) (row_old v y f))
  result_same v (n_unsync y) f =
      ap (λ (b : Bool). (s.row y (old d v y)).releasing && b) (sym (later_down d.x d.p P.words (s.row y (old d v y)).stored v))
      ∙ sym (ap (λ (w : Write). w.releasing && later P.words w.stored v) (row_old v y f))

  -- a prospect of the new state is one of the old state, its views taken for those that they stand for
  names_old : (v : View) → Names (result d).size v → Names s.size (old d v)
  names_old v h = by_word d.x _ (simp upd_same (omega (arith, d.inside, simp upd_same at (h d.x), down_is d.p (v d.x))))
      (λ y q. simp upd_other (simp upd_other at (h y)))

  from_old : (a b : View) → ((v : View) → ((y : ℕ) → a y ≤ v y) → (y : ℕ) → b y ≤ old d v y)
      → (l : List View) → From (result d).size a l → From s.size b (map (old d) l)
  from_old a b f [] h = tt
  from_old a b f (v ∷ l) h = (names_old v h.0, f v h.1, from_old v (old d v) (down_mono d.x d.p v) l h.2)

  view_old : (v : View) (u : ℕ) → ((y : ℕ) → (result d).view u y ≤ v y) → (y : ℕ) → s.view u y ≤ old d v y
  view_old v = by_word d.t _
      (λ f. by_word d.x _ (simp upds (omega (arith, simp upds at (f d.x), d.here, down_is d.p (v d.x))))
      (λ y q. simp upds (omega (arith, simp upds at (f y)))))
      (λ u qu f. by_word d.x _
      (simp upds (omega (arith, simp upds at (f d.x), up_is d.p (s.view u d.x), down_is d.p (v d.x))))
      (λ y q. simp upds (omega (arith, simp upds at (f y)))))

  pub result_prospect : (u : ℕ) (l : List View) → Prospect (result d).size ((result d).view u) l
      → Prospect s.size (s.view u) (map (old d) l)
  result_prospect u [] h = h
  result_prospect u (v ∷ l) h = from_old ((result d).view u) (s.view u) (λ w. view_old w u) (v ∷ l) h

  pub result_kept : (u : ℕ) (i : Interval) → T (only (not_word d.x) i) → Sees P s u i → Sees P (result d) u i
  result_kept u i no-x h l pr =
      transport P.range (not_word d.x) (at P s) (at P (result d)) (old d) i no-x l
      (All-every _
      (λ v. record {
        agree = record { same = λ n q. result_same v n (λ z. absurd (not_about d.x n q z)) };
        still = λ y q. down_still d.x d.p v y (not_eqb y d.x q);
      }) l)
      (h (map (old d) l) (result_prospect u l pr))

  -- well-formedness
  move_in : (y : ℕ) → move_to d.x d.p (s.view d.t) y < (result d).size y
  move_in = by_word d.x _ (simp upds (omega (arith, d.inside))) (λ y q. simp upds (d.wf.view_in d.t y))

  up_in : (v : View) → ((y : ℕ) → v y < s.size y) → (y : ℕ) → up_view d.x d.p v y < (result d).size y
  up_in v h = by_word d.x _ (simp upds (omega (arith, h d.x, up_is d.p (v d.x)))) (λ y q. simp upds (h y))

  down_in : (i : ℕ) → i ≢ suc d.p → i < (result d).size d.x → down d.p i < s.size d.x
  down_in i q h = omega (arith, d.inside, simp upds at h, down_is d.p i)

  pub result_wf : Wf P (result d)
  result_wf = record {
    outer = by_word d.x _ (λ h. absurd (h d.x_in)) (λ y q h. simp upds (d.wf.outer y h));
    view_in = by_word d.t _ (λ y. simp upds (move_in y)) (λ u q y. simp upds (up_in (s.view u) (d.wf.view_in u) y));
    stored_in = by_word d.x _
        (by_word (suc d.p) _ (λ z h. simp upds (move_in z))
        (λ i q z h. simp upds (up_in (s.row d.x (down d.p i)).stored
        (λ y. d.wf.stored_in d.x (down d.p i) y (down_in i q h)) z)))
        (λ y q i z h. simp upds (up_in (s.row y i).stored (λ w. d.wf.stored_in y i w (simp upds at h)) z));
    own = by_word d.x _
        (by_word (suc d.p) _ (λ h. simp upds) (λ i q h. simp upds
        (omega (
          arith,
          d.wf.own d.x (down d.p i) (down_in i q h),
          up_is d.p ((s.row d.x (down d.p i)).stored d.x),
          down_is d.p i,
        ))))
        (λ y q i h. simp upds (d.wf.own y i (simp upds at h)));
    small = by_word d.x _
        (by_word (suc d.p) _ (λ h. simp upds d.small) (λ i q h. simp upds (d.wf.small d.x (down d.p i) (down_in i q h))))
        (λ y q i h. simp upds (d.wf.small y i (simp upds at h)));
    reg_small = d.wf.reg_small;
  }
