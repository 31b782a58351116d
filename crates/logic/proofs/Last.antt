-- A write inserted behind the last one: what the rules 6, 7, 8 and 11, 12, 13 share.
use mathlib.Core.Path.{◌≡◌, refl, ap, sym, ◌∙◌, subst}
use mathlib.Core.Bool.{Bool, true, false, ◌&&◌}
use mathlib.Core.List.{List, [], ◌∷◌, map}
use mathlib.Core.Logic.{◌⊎◌, inl, inr}
use Prim.Native.Nat.{ℕ, suc, ◌≤◌}
use native.Mathlib.Omega.{arith}
use lib.Dec.{T, eqb, leb, eqb_refl}
use lib.ListN.{take, drop}
use borrow.Author.Tests.{leb-true, leb-false}
use Rattle.logic.proofs.Agreement.{transport, only_any}
use Rattle.semantics.proofs.Base.{by_word, upds, later_none, is_within, down_is}
use Rattle.semantics.proofs.Cuts.{All-map}
use Rattle.logic.proofs.Inserted.{Insertion, result, old, row_new, result_same, result_prospect, result_kept, result_wf}
use Rattle.logic.proofs.Intervals.{sat_empty}
use Rattle.semantics.proofs.Prospects.{from_take, from_drop, from_all}
use Rattle.semantics.specs.Base.{All, Within}
use Rattle.semantics.specs.Eval.{value, test}
use Rattle.semantics.specs.Formula.{Value, Interval, Formula.word, Formula.equal, Formula.unsync, Formula.box, Formula.chop}
use Rattle.logic.specs.Inference.{newest}
use Rattle.semantics.specs.Machine.{View, State, Write, Program, move_to, at, later}
use Rattle.semantics.specs.Names.{only, not_word, names}
use Rattle.semantics.specs.Truth.{Sat, From, Sees}

module _ {P : Program} {s : State} (d : Insertion P s) (last : suc d.p ≡ s.size d.x) where
  -- the list is cut where the new write comes in
  cut_new : (a : View) (l : List View) → From (result d).size a l
      → (k : ℕ) × All (λ v. v d.x ≤ d.p) (take k l) × All (λ v. v d.x ≡ suc d.p) (drop k l)
  cut_new a [] h = (0, tt, tt)
  cut_new a (v ∷ l) h = go (leb (v d.x) d.p) refl (cut_new v l h.2)
    where
      go : (b : Bool) → leb (v d.x) d.p ≡ b → (k : ℕ) × All (λ w. w d.x ≤ d.p) (take k l)
          × All (λ w. w d.x ≡ suc d.p) (drop k l)
          → (k : ℕ) × All (λ w. w d.x ≤ d.p) (take k (v ∷ l)) × All (λ w. w d.x ≡ suc d.p) (drop k (v ∷ l))
      go true e c = (suc c.0, (leb-true (v d.x) d.p e, c.1), c.2)
      go false e c = (
        0,
        tt,
        All-map _ _ (λ w g. omega (arith, leb-false (v d.x) d.p e, simp upds at (g.0 d.x), g.1 d.x)) (v ∷ l)
            ((h.0, λ y. omega arith), from_all (result d).size v l h.2),
      )

  -- a view that is not there yet is as it was
  old_still : (v : View) → v d.x ≤ d.p → (y : ℕ) → old d v y ≡ v y
  old_still v h = by_word d.x _ (simp upds (omega (arith, down_is d.p (v d.x)))) (λ y q. simp upds)

  -- before the new write comes in, what a thread saw
  old_part : (u : ℕ) (i : Interval) → Sees P s u i → (l : List View) → From (result d).size ((result d).view u) l
      → All (λ v. v d.x ≤ d.p) l → Sat P.range (at P (result d)) i l
  old_part u i h [] g a = sat_empty P.range (at P (result d)) i
  old_part u i h (v ∷ l) g a =
      transport P.range (λ n. true) (at P s) (at P (result d)) (old d) i (only_any (names i)) (v ∷ l)
      (All-map _ _
      (λ w k. record { agree = record { same = λ n q. result_same d w n (λ z. omega arith) }; still = λ y q. old_still w k y })
      (v ∷ l) a)
      (h (map (old d) (v ∷ l)) (result_prospect d u (v ∷ l) g))

  module _ (f : Value) (value-f : (v : View) → value P.range (at P (result d) v) f ≡ d.n) where
    -- from then on, the stored value
    new-value : (v : View) → v d.x ≡ suc d.p → T (test P.range (at P (result d) v) (equal (word d.x) f))
    new-value v q =
        subst (λ (n : ℕ). T (eqb n (value P.range (at P (result d) v) f)))
        (value-f v ∙ sym (ap (λ (w : Write). w.value) (row_new d v q)))
        (eqb_refl (value P.range (at P (result d) v) f))

    new_part : (l : List View) → All (λ v. v d.x ≡ suc d.p) l → Sat P.range (at P (result d)) (newest d.x f) l
    new_part l h = ((suc d.p, h), All-map _ _ new-value l h)

    -- 6, 11
    pub last_own : Sees P (result d) d.t (newest d.x f)
    last_own [] g = elim g [ ]
    last_own (v ∷ l) g =
        new_part (v ∷ l) (All-map _ _ (λ w h. omega (arith, simp upds at (h.0 d.x), simp upds at (h.1 d.x))) (v ∷ l)
        (from_all (result d).size ((result d).view d.t) (v ∷ l) g))

    -- 7, 12
    pub last_other : (u : ℕ) (i : Interval) → Sees P s u i → Sees P (result d) u (chop i (newest d.x f))
    last_other u i h [] g = elim g [ ]
    last_other u i h (v ∷ l) g =
        let c = cut_new ((result d).view u) (v ∷ l) g in (
          c.0,
          old_part u i h (take c.0 (v ∷ l)) (from_take (result d).size ((result d).view u) c.0 (v ∷ l) g) c.1,
          new_part (drop c.0 (v ∷ l)) c.2,
        )

  -- a view that names the new write and is not unsynchronized has all that the storing thread had
  module _ (r : d.releasing ≡ true) (j : Interval) (no-x : T (only (not_word d.x) j)) (h : Sees P s d.t j) where
    synced : (v : View) → v d.x ≡ suc d.p → (at P (result d) v).unsync d.x ≡ false → (y : ℕ) → (result d).view d.t y ≤ v y
    synced v e q y = go (is_within P.words y)
      where
        none_later : later P.words (move_to d.x d.p (s.view d.t)) v ≡ false
        none_later =
            sym (ap (λ (w : Write). w.releasing && later P.words w.stored v) (row_new d v e)
            ∙ ap (λ (b : Bool). b && later P.words (move_to d.x d.p (s.view d.t)) v) r) ∙ q

        go : Within P.words y ⊎ (Within P.words y → ⊥) → (result d).view d.t y ≤ v y
        go (inl k) = simp upds (later_none P.words (move_to d.x d.p (s.view d.t)) v none_later y k.0 k.1)
        go (inr k) = omega (arith, (result_wf d).view_in d.t y, (result_wf d).outer y k)

    sync_part : (a : View) (l : List View) → From (result d).size a l → All (λ v. v d.x ≡ suc d.p) l
        → Sat P.range (at P (result d)) (chop (box (unsync d.x)) j) l
    sync_part a [] g e = (0, tt, sat_empty P.range (at P (result d)) j)
    sync_part a (v ∷ l) g e = go ((at P (result d) v).unsync d.x) refl (sync_part v l g.2 e.1)
      where
        go : (b : Bool) → (at P (result d) v).unsync d.x ≡ b → Sat P.range (at P (result d)) (chop (box (unsync d.x)) j) l
            → Sat P.range (at P (result d)) (chop (box (unsync d.x)) j) (v ∷ l)
        go true q c = (suc c.0, (subst T (sym q) tt, c.1), c.2)
        go false q c = (0, tt, result_kept d d.t j no-x h (v ∷ l) (g.0, synced v e.0 q, g.2))

    -- 8, 13
    pub last_sync : (u : ℕ) (i : Interval) → Sees P s u i → Sees P (result d) u (chop i (chop (box (unsync d.x)) j))
    last_sync u i k [] g = elim g [ ]
    last_sync u i k (v ∷ l) g =
        let c = cut_new ((result d).view u) (v ∷ l) g in (
          c.0,
          old_part u i k (take c.0 (v ∷ l)) (from_take (result d).size ((result d).view u) c.0 (v ∷ l) g) c.1,
          sync_part ((result d).view u) (drop c.0 (v ∷ l)) (from_drop (result d).size ((result d).view u) c.0 (v ∷ l) g) c.2,
        )
