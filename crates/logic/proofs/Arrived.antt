-- A thread picks its write first: the state in which it has arrived there is well-formed, and what was true is true there.
use mathlib.Core.Path.{◌≡◌, refl, subst}
use mathlib.Core.Bool.{Bool, true, false, cond, not, ◌&&◌}
use mathlib.Core.List.{List, [], ◌∷◌}
use Prim.Native.Nat.{ℕ, zero, suc, ◌-◌, ◌≤◌, ◌<◌}
use native.Mathlib.Omega.{arith}
use lib.Dec.{T, ltb, leb, ltb→lt, leb→le}
use Rattle.logic.proofs.Agreement.{agree_refl, keep, only_any}
use Rattle.semantics.proofs.Base.{upd_same, upds, by_word, and_left, and_right, not-true, later_not}
use Rattle.semantics.proofs.Halves.{Touch, Touch.none, Touch.load, Touch.write, pick, finish, may_pick}
use Rattle.logic.proofs.Intervals.{sat_drop}
use Rattle.semantics.proofs.Invariant.{Wf, view_wf}
use Rattle.semantics.specs.Base.{upd}
use Rattle.semantics.specs.Eval.{Env, test}
use Rattle.semantics.specs.Formula.{Test, Interval, Assertion, Formula.box, Formula.chop, Formula.one}
use Rattle.semantics.specs.Machine.{View, State, Program, at, later, join, with_view, read_view}
use Rattle.semantics.specs.Names.{startless, names}
use Rattle.semantics.specs.Replace.{Note}
use Rattle.semantics.specs.Truth.{Sat, True, Prospect, Sees}

-- t's view names the write at p of x, and all that this write stored if it acquires it
pub record Here (s : State) (acquires : Bool) (t x p : ℕ) : Type 0 where
  pub inside : p < s.size x
  pub here : s.view t x ≡ p
  pub has : (acquires && (s.row x p).releasing) ≡ true → (y : ℕ) → (s.row x p).stored y ≤ s.view t y

abbrev pub Arrived : Touch → ℕ → ℕ → State → Type 0
Arrived none t p s = Unit {0}
Arrived (load a x) t p s = Here s a t x p
Arrived (write rel swaps x f) t p s = Here s swaps t x p × ((s.row x p).covered ≡ false)

-- {a} c by t {b}: of every well-formed state in which t has arrived at its pick
abbrev pub Triple : Program → ℕ → Touch → List Note → Assertion → Assertion → Type 0
Triple P t A ns a b = (s : State) → Wf P s → (p : ℕ) → Arrived A t p s → True P s a → True P (finish P A ns t p s) b

-- once t has read_view, in s', the write that it may pick in s
pub record Moved (P : Program) (A : Touch) (t p : ℕ) (s s' : State) : Type 0 where
  pub wf : Wf P s'
  pub arrived : Arrived A t p s'
  pub points : s'.point ≡ s.point
  pub still : (q : Assertion) → T (startless q) → True P s q → True P s' q

module _ {P : Program} {s : State} (wf : Wf P s) (a : Bool) (t x p : ℕ) (ok : T (ltb p (s.size x) && leb (s.view t x) p)) where
  inside : p < s.size x
  inside = ltb→lt p (s.size x) (search and_left)

  after : s.view t x ≤ p
  after = leb→le (s.view t x) p (search and_right)

  abbrev v : View
  v = read_view s a t x p

  read_view_above : (y : ℕ) → s.view t y ≤ v y
  read_view_above y = go (a && (s.row x p).releasing)
    where
      go : (b : Bool) → s.view t y ≤ cond b (join (s.view t) (s.row x p).stored) (upd (s.view t) x p) y
      go true = omega arith
      go false = by_word x (λ y. s.view t y ≤ upd (s.view t) x p y) (simp upds after) (λ y q. simp upds (omega arith)) y

  read_view_in : (y : ℕ) → v y < s.size y
  read_view_in y = go (a && (s.row x p).releasing)
    where
      go : (b : Bool) → cond b (join (s.view t) (s.row x p).stored) (upd (s.view t) x p) y < s.size y
      go true = omega (arith, wf.view_in t y, wf.stored_in x p y inside)
      go false = by_word x (λ y. upd (s.view t) x p y < s.size y) (simp upds inside) (λ y q. simp upds (wf.view_in t y)) y

  read_view_at : v x ≡ p
  read_view_at = go (a && (s.row x p).releasing)
    where
      go : (b : Bool) → cond b (join (s.view t) (s.row x p).stored) (upd (s.view t) x p) x ≡ p
      go true = omega (arith, after, wf.own x p inside)
      go false = simp upds

  read_view_has : (a && (s.row x p).releasing) ≡ true → (y : ℕ) → (s.row x p).stored y ≤ v y
  read_view_has e y = rw e (omega arith)

  read_view_true : (q : Assertion) → T (startless q) → True P s q → True P (with_view s t v) q
  read_view_true q z h = keep P (λ n. true) s (with_view s t v) (λ u i c g l pr. g l (lower u l pr)) agree_refl q z (only_any (names q)) h
    where
      above : (u y : ℕ) → s.view u y ≤ upd s.view t v u y
      above = by_word t _ (λ y. simp upds (read_view_above y)) (λ u q y. simp upds (omega arith))

      lower : (u : ℕ) (l : List View) → Prospect s.size (upd s.view t v u) l → Prospect s.size (s.view u) l
      lower u [] pr = elim pr [ ]
      lower u (w ∷ l) pr = (pr.0, (λ y. omega (arith, above u y, pr.1 y)), pr.2)

  -- a load of x, or the same for a store and a swap
  read_view_moved : Moved P (load a x) t p s (with_view s t v)
  read_view_moved = record {
    wf = view_wf wf t v read_view_in;
    arrived = record { inside = inside; here = simp upds read_view_at; has = λ e y. simp upds (read_view_has e y) };
    points = refl;
    still = read_view_true;
  }

module _ {P : Program} {s : State} (wf : Wf P s) (t p : ℕ) where
  pub pick_moved : (A : Touch) → T (may_pick A t p s) → Moved P A t p s (pick A t p s)
  pick_moved none ok = record { wf = wf; arrived = tt; points = refl; still = λ q z h. h }
  pick_moved (load a x) ok = read_view_moved wf a t x p ok
  pick_moved (write rel swaps x f) ok =
      let k = read_view_moved wf swaps t x p (and_left (ltb p (s.size x) && leb (s.view t x) p) (not (s.row x p).covered) ok) in
      record { wf = k.wf; arrived = (k.arrived, not-true (s.row x p).covered (search and_right)); points = refl; still = k.still }

  -- the triple, of every permitted pick
  pub triple_moved : (A : Touch) (ns : List Note) (a b : Assertion) → Triple P t A ns a b → T (startless a) → T (may_pick A t p s)
      → True P s a → True P (finish P A ns t p (pick A t p s)) b
  triple_moved A ns a b tr z ok h = let k = pick_moved A ok in tr (pick A t p s) k.wf p k.arrived (k.still a z h)

-- 4, 5, 10: where the test fails at the thread's own view, the cut has nothing to its left
module _ {P : Program} {s : State} (wf : Wf P s) where
  cut_first : (ρ : View → Env) (e : Test) (i : Interval) (v : View) (l : List View) → test P.range (ρ v) e ≡ false
      → Sat P.range ρ (chop (box e) i) (v ∷ l) → Sat P.range ρ i (v ∷ l)
  cut_first ρ e i v l no-e (zero, h, g) = g
  cut_first ρ e i v l no-e (suc k, h, g) = absurd (subst T no-e h.0)

  pub head_off : (t : ℕ) (e : Test) (i : Interval) → test P.range (at P s (s.view t)) e ≡ false → Sees P s t (chop (box e) i)
      → Sees P s t i
  head_off t e i no-e h [] pr = elim pr [ ]
  head_off t e i no-e h (v ∷ l) pr =
      sat_drop P.range (at P s) i 1 (s.view t ∷ v ∷ l)
      (cut_first (at P s) e i (s.view t) (v ∷ l) no-e (h (s.view t ∷ v ∷ l) (wf.view_in t, (λ y. omega arith), pr)))

  -- the write that was acquired is no longer unsynchronized; the read_view one is not covered
  pub synced : {t x p : ℕ} → Here s true t x p → (at P s (s.view t)).unsync x ≡ false
  synced {t} {x} {p} k = rw k.here (go (s.row x p).releasing refl)
    where
      go : (b : Bool) → (s.row x p).releasing ≡ b → (b && later P.words (s.row x p).stored (s.view t)) ≡ false
      go true e = later_not P.words (s.row x p).stored (s.view t) (k.has e)
      go false e = refl

  pub bare : {a : Bool} {t x p : ℕ} → Here s a t x p → (s.row x p).covered ≡ false → (at P s (s.view t)).cov x ≡ false
  bare k e = rw k.here e

  -- a thread that sees one x has the last write of x in its view
  pub sees_last : (t x : ℕ) → Sees P s t (one x) → suc (s.view t x) ≡ s.size x
  sees_last t x h =
      go (h (s.view t ∷ upd (s.view t) x (s.size x - 1) ∷ []) (
        wf.view_in t,
        (λ y. omega arith),
        (
          by_word x _ (simp upds (omega (arith, wf.view_in t x))) (λ y q. simp upds (wf.view_in t y)),
          by_word x _ (simp upds (omega (arith, wf.view_in t x))) (λ y q. simp upds (omega arith)),
          tt,
        ),
      ))
    where
      go : Sat P.range (at P s) (one x) (s.view t ∷ upd (s.view t) x (s.size x - 1) ∷ []) → suc (s.view t x) ≡ s.size x
      go z = omega (arith, z.1.0, z.1.1.0, wf.view_in t x, upd_same (s.view t) x (s.size x - 1))
