-- Rule 56: as far as one word goes, the prospects of a thread are parts of one list, with repetitions: the positions from its own on.
use mathlib.Core.Path.{◌≡◌, refl, ap, ap₂, sym, ◌∙◌, subst}
use mathlib.Core.Bool.{Bool, true, false}
use mathlib.Core.List.{List, [], ◌∷◌}
use mathlib.Core.Logic.{◌⊎◌, inl, inr}
use Prim.Native.Nat.{ℕ, zero, suc, ◌+◌, ◌-◌, min, max, ◌≤◌, ◌<◌}
use native.Mathlib.Omega.{arith}
use lib.Dec.{T, eqb, ltb}
use borrow.Author.Tests.{eqb-true, ltb-true, ltb-false}
use lib.ListN.{take, drop}
use Rattle.semantics.specs.Base.{All, upd}
use Rattle.semantics.specs.Formula.{Interval, Formula.box, Formula.one, Formula.chop, Formula.both, Formula.either}
use Rattle.semantics.specs.Machine.{View, State, Program, at}
use Rattle.semantics.specs.Names.{Name, n_reg, n_word, n_unsync, n_cov, only}
use Rattle.semantics.specs.Truth.{Sat, From, Prospect, Sees}
use Rattle.semantics.proofs.Base.{upds, upd_same, by_word, and_left, holds_true, all_left, all_right, map_or}
use Rattle.semantics.proofs.Invariant.{Wf}
use Rattle.logic.proofs.Agreement.{Same, test_agree}
use Rattle.logic_further.specs.Further.{along}

module _ (x : ℕ) where
  -- the views name writes of x from position a on and before position b, none before its predecessor
  abbrev Rising : ℕ → ℕ → List View → Type 0
  Rising a b [] = Unit {0}
  Rising a b (w ∷ l) = (a ≤ w x) × (w x < b) × Rising (w x) b l

  from_lower : (a c b : ℕ) → c ≤ a → (l : List View) → Rising a b l → Rising c b l
  from_lower a c b h [] r = tt
  from_lower a c b h (w ∷ l) r = (omega (arith, r.0), r.1, r.2)

  -- cut at a position
  cut : (c a b : ℕ) (l : List View) → Rising a b l → (m : ℕ) × Rising a (min b c) (take m l) × Rising (max a c) b (drop m l)
  cut c a b [] r = (0, tt, tt)
  cut c a b (w ∷ l) r = go (ltb (w x) c) refl (cut c (w x) b l r.2)
    where
      go : (q : Bool) → ltb (w x) c ≡ q → (m : ℕ) × Rising (w x) (min b c) (take m l) × Rising (max (w x) c) b (drop m l)
          → (m : ℕ) × Rising a (min b c) (take m (w ∷ l)) × Rising (max a c) b (drop m (w ∷ l))
      go true e k = (
        suc k.0,
        (r.0, omega (arith, r.1, ltb-true (w x) c e), k.1),
        from_lower (max (w x) c) (max a c) b (omega (arith, r.0)) (drop k.0 l) k.2,
      )
      go false e k = (0, tt, (omega (arith, r.0, ltb-false (w x) c e), r.1, r.2))

  -- n views, of which each names the next position of x, from a on
  module _ (v : View) where
    unfoldable pub climb : ℕ → ℕ → List View
    climb a zero = []
    climb a (suc n) = upd v x a ∷ climb (suc a) n

    take_climb : (k a n : ℕ) → take k (climb a n) ≡ climb a (min k n)
    unfolding climb
    take_climb zero a n = ap (climb a) (let e : 0 ≡ min 0 n = omega arith in e)
    take_climb (suc k) a zero = ap (climb a) (let e : 0 ≡ min (suc k) 0 = omega arith in e)
    take_climb (suc k) a (suc n) =
        ap (λ (l : List View). upd v x a ∷ l) (take_climb k (suc a) n)
        ∙ ap (climb a) (let e : suc (min k n) ≡ min (suc k) (suc n) = omega arith in e)

    drop_climb : (k a n : ℕ) → drop k (climb a n) ≡ climb (a + k) (n - k)
    unfolding climb
    drop_climb zero a n = ap₂ climb (let e : a ≡ a + 0 = omega arith in e) (let e : n ≡ n - 0 = omega arith in e)
    drop_climb (suc k) a zero = ap (climb (a + suc k)) (let e : 0 ≡ 0 - suc k = omega arith in e)
    drop_climb (suc k) a (suc n) =
        drop_climb k (suc a) n
        ∙ ap₂ climb (let e : suc a + k ≡ a + suc k = omega arith in e) (let e : n - k ≡ suc n - suc k = omega arith in e)

    -- what holds of each of them holds at each position
    climb_at : (Q : View → Type 0) (n a : ℕ) → All Q (climb a n) → (q : ℕ) → a ≤ q → q < a + n → Q (upd v x q)
    unfolding climb
    climb_at Q zero a h q b c = absurd (omega arith)
    climb_at Q (suc n) a h q b c =
        by_word a (λ z. a ≤ z → z < a + suc n → Q (upd v x z)) (λ b c. h.0)
        (λ z d b c. climb_at Q n (suc a) h.1 z (omega arith) (omega arith)) q b c

    module _ (P : Program) (s : State) where
      -- at a view, the names along x are as at the view that names the same write of x
      same_along : (w : View) (n : Name) → T (along x n) → Same (at P s (upd v x (w x))) (at P s w) n
      same_along w (n_reg r) h = refl
      same_along w (n_word y) h =
          subst (λ (y : ℕ). (s.row y (upd v x (w x) y)).value ≡ (s.row y (w y)).value) (sym (eqb-true y x (holds_true (eqb y x) h)))
          (ap (λ (i : ℕ). (s.row x i).value) (upd_same v x (w x)))
      same_along w (n_unsync y) h = absurd h
      same_along w (n_cov y) h =
          subst (λ (y : ℕ). (s.row y (upd v x (w x) y)).covered ≡ (s.row y (w y)).covered) (sym (eqb-true y x (holds_true (eqb y x) h)))
          (ap (λ (i : ℕ). (s.row x i).covered) (upd_same v x (w x)))

      each : (Q Q' : View → Type 0) → ((w : View) → Q (upd v x (w x)) → Q' w) → (a n c b : ℕ) → a ≤ c → b ≤ a + n → All Q (climb a n)
          → (l : List View) → Rising c b l → All Q' l
      each Q Q' f a n c b ac bn h [] r = tt
      each Q Q' f a n c b ac bn h (w ∷ l) r = (
        f w (climb_at Q n a h (w x) (omega (arith, r.0)) (omega (arith, r.1))),
        each Q Q' f a n (w x) b (omega (arith, r.0)) bn h l r.2,
      )

      spread : (i : Interval) → T (only (along x) i) → (a n c b : ℕ) → a ≤ c → b ≤ a + n → Sat P.range (at P s) i (climb a n)
          → (l : List View) → Rising c b l → Sat P.range (at P s) i l
      spread (box e) k a n c b ac bn h l r =
          each _ _ (λ w q. subst T (test_agree P.range (record { same = same_along w }) e k) q) a n c b ac bn h l r
      spread (one y) k a n c b ac bn h l r =
          let ey : y ≡ x = eqb-true y x (holds_true (eqb y x) (and_left (eqb y x) true k)) in (
            h.0,
            each (λ w. w y ≡ h.0) (λ w. w y ≡ h.0)
                (λ w q. sym (subst (λ (y : ℕ). upd v x (w x) y ≡ w y) (sym ey) (upd_same v x (w x))) ∙ q) a n c b ac bn h.1 l r,
          )
      spread (chop i j) k a n c b ac bn h l r =
          let m = cut (a + h.0) c b l r in (
            m.0,
            spread i (search all_left) a (min h.0 n) c (min b (a + h.0)) ac (omega arith) (rw take_climb at h.1) (take m.0 l) m.1,
            spread j (search all_right) (a + h.0) (n - h.0) (max c (a + h.0)) b (omega arith) (omega arith) (rw drop_climb at h.2)
                (drop m.0 l) m.2,
          )
      spread (both i j) k a n c b ac bn h l r = (
        spread i (search all_left) a n c b ac bn h.0 l r,
        spread j (search all_right) a n c b ac bn h.1 l r,
      )
      spread (either i j) k a n c b ac bn (inl h) l r = inl (spread i (search all_left) a n c b ac bn h l r)
      spread (either i j) k a n c b ac bn (inr h) l r = inr (spread j (search all_right) a n c b ac bn h l r)

  -- a prospect rises, and the climb to the last write is a prospect
  rising : (size : ℕ → ℕ) (a : View) (l : List View) → From size a l → Rising (a x) (size x) l
  rising size a [] h = tt
  rising size a (w ∷ l) h = (h.1 x, h.0 x, rising size w l h.2)

  climb_from : (size : ℕ → ℕ) (v w : View) → ((y : ℕ) → v y < size y) → (n a : ℕ) → ((y : ℕ) → w y ≤ upd v x a y) → a + n ≤ size x
      → From size w (climb v a n)
  unfolding climb
  climb_from size v w inside zero a le top = tt
  climb_from size v w inside (suc n) a le top = (
    by_word x _ (simp upds (omega arith)) (λ y q. simp upds (inside y)),
    le,
    climb_from size v (upd v x a) inside n (suc a) (by_word x _ (simp upds (omega arith)) (λ y q. simp upds (omega arith))) (omega arith),
  )

  module _ {P : Program} {s : State} (wf : Wf P s) (u : ℕ) where
    abbrev steps : ℕ
    steps = s.size x - s.view u x

    pub climbed : Prospect s.size (s.view u) (climb (s.view u) (s.view u x) steps)
    unfolding climb
    climbed = go steps (omega (arith, wf.view_in u x)) (omega (arith, wf.view_in u x))
      where
        go : (n : ℕ) → 0 < n → s.view u x + n ≤ s.size x → Prospect s.size (s.view u) (climb (s.view u) (s.view u x) n)
        go zero b c = absurd (omega arith)
        go (suc n) b c = climb_from s.size (s.view u) (s.view u) (wf.view_in u) (suc n) (s.view u x)
            (by_word x _ (simp upds (omega arith)) (λ y q. simp upds (omega arith))) c

    pub seen : (i : Interval) → T (only (along x) i) → Sat P.range (at P s) i (climb (s.view u) (s.view u x) steps) → Sees P s u i
    seen i k h [] pr = elim pr [ ]
    seen i k h (w ∷ l) pr =
        spread (s.view u) P s i k (s.view u x) steps (s.view u x) (s.size x) (omega arith) (omega (arith, wf.view_in u x)) h (w ∷ l)
        (rising s.size (s.view u) (w ∷ l) pr)

    pub rule_56 : (i j : Interval) → T (only (along x) i) → T (only (along x) j) → Sees P s u (either i j) → Sees P s u i ⊎ Sees P s u j
    rule_56 i j k m h = map_or (seen i k) (seen j m) (h (climb (s.view u) (s.view u x) steps) climbed)
