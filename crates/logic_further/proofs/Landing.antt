-- Rules 54 and 55: where a store lands among the writes that a thread sees.
use mathlib.Core.Path.{◌≡◌, refl, ap, sym, ◌∙◌, subst}
use mathlib.Core.Bool.{Bool, true, false}
use mathlib.Core.List.{List, [], ◌∷◌, ◌++◌, map, append_assoc, map-append}
use mathlib.Core.Logic.{◌≢◌, ◌⊎◌, inl, inr}
use Prim.Native.Nat.{ℕ, zero, suc, ◌+◌, ◌-◌, ◌≤◌, ◌<◌}
use native.Mathlib.Omega.{arith}
use lib.Dec.{T, eqb, ltb, leb, eqb_refl}
use borrow.Author.Tests.{ltb-true, ltb-false, leb-true, leb-false}
use lib.ListN.{take, drop, length, take-append-drop}
use lib.Seq.{drop-drop, take-append_seam, drop-append_seam, take-take}
use Rattle.semantics.specs.Base.{All, upd}
use Rattle.semantics.specs.Eval.{Env, value}
use Rattle.semantics.specs.Formula.{Value, Interval, Formula.box, Formula.one, Formula.chop, Formula.both, Formula.either, Formula.sees}
use Rattle.semantics.specs.Machine.{View, State, Write, Program, at, up, down, up_view, move_to, insert, with_view}
use Rattle.semantics.specs.Names.{names, only, is_reg}
use Rattle.semantics.specs.Truth.{Sat, From, Prospect, Names, Sees}
use Rattle.semantics.proofs.Base.{upds, upd_same, upd_other, by_word, up_is, down_is}
use Rattle.semantics.proofs.Cuts.{All-take, All-drop, All-join, All-map}
use Rattle.semantics.proofs.Halves.{Touch.write, worked_at, Good}
use Rattle.semantics.proofs.Invariant.{Wf, view_wf}
use Rattle.semantics.proofs.Prospects.{from_all, from_drop}
use Rattle.logic.specs.Inference.{newest}
use Rattle.logic.proofs.Agreement.{Agree, All-back, test_agree, value_agree, only_any, take_map, drop_map}
use Rattle.logic.proofs.Arrived.{Arrived, Triple, sees_last}
use Rattle.logic.proofs.Inserted.{Insertion, result, old, row_new, result_same, result_prospect}
use Rattle.logic.proofs.Intervals.{sat_empty, sat_take, sat_drop, rule_36}
use Rattle.logic.proofs.Last.{last_other}
use Rattle.logic.proofs.Registers.{regs_same, worked_small}
use Rattle.logic_further.proofs.Decided.{Decided, equal_decided, longest, Longest}

-- LISTS

all_and : (Q Q' : View → Type 0) (l : List View) → All Q l → All Q' l → All (λ v. Q v × Q' v) l
all_and Q Q' [] h g = tt
all_and Q Q' (v ∷ l) h g = ((h.0, g.0), all_and Q Q' l h.1 g.1)

all_before : (Q : View → Type 0) (l m : List View) → All Q (l ++ m) → All Q l
all_before Q [] m h = tt
all_before Q (v ∷ l) m h = (h.0, all_before Q l m h.1)

all_behind : (Q : View → Type 0) (l m : List View) → All Q (l ++ m) → All Q m
all_behind Q [] m h = h
all_behind Q (v ∷ l) m h = all_behind Q l m h.1

all_mapped : (Q : View → Type 0) (g : View → View) (l : List View) → All (λ v. Q (g v)) l → All Q (map g l)
all_mapped Q g [] h = tt
all_mapped Q g (v ∷ l) h = (h.0, all_mapped Q g l h.1)

-- a list from which the views from k on are all other ones than the first m have nothing there, if m goes beyond k
gone : (x n : ℕ) (l : List View) (k m : ℕ) → k < m → All (λ w. w x ≡ n) (take m l) → All (λ w. w x ≢ n) (drop k l) → drop k l ≡ []
gone x n [] zero m b h g = refl
gone x n [] (suc k) m b h g = refl
gone x n (w ∷ l) k zero b h g = absurd (omega arith)
gone x n (w ∷ l) zero (suc m) b h g = absurd (g.0 h.0)
gone x n (w ∷ l) (suc k) (suc m) b h g = gone x n l k m (omega arith) h.1 g

module _ (R : ℕ) (ρ : View → Env) where
  -- what comes behind the one write that c names
  behind_one : (x : ℕ) (i j : Interval) (c : View) (l : List View) (k : ℕ) → Sat R ρ (chop (both i (one x)) j) (c ∷ l)
      → All (λ w. w x ≢ c x) (drop k l) → Sat R ρ j (drop k l)
  behind_one x i j c l k (m, h, g) other = go (leb m (suc k)) refl m refl h g
    where
      beyond : (m : ℕ) → k < m → Sat R ρ (both i (one x)) (take (suc m) (c ∷ l)) → Sat R ρ j (drop k l)
      beyond m b h =
          let one-n = h.1 in
          subst (λ (z : List View). Sat R ρ j z)
          (sym (gone x (c x) l k m b (subst (λ (n : ℕ). All (λ w. w x ≡ n) (take m l)) (sym one-n.1.0) one-n.1.1) other))
          (sat_empty R ρ j)

      go : (b : Bool) → leb m (suc k) ≡ b → (m' : ℕ) → m' ≡ m → Sat R ρ (both i (one x)) (take m' (c ∷ l)) → Sat R ρ j (drop m' (c ∷ l))
          → Sat R ρ j (drop k l)
      go true e m' q h g =
          let s : m' + (suc k - m') ≡ suc k = omega (arith, leb-true m (suc k) e) in
          subst (λ (z : List View). Sat R ρ j z) (drop-drop (suc k - m') m' (c ∷ l) ∙ ap (λ (n : ℕ). drop n (c ∷ l)) s)
          (sat_drop R ρ j (suc k - m') (drop m' (c ∷ l)) g)
      go false e zero q h g = absurd (omega (arith, leb-false m (suc k) e))
      go false e (suc m') q h g = beyond m' (omega (arith, leb-false m (suc k) e)) h

  -- the two parts of a list
  chop_join : (i j : Interval) (a b : List View) → Sat R ρ i a → Sat R ρ j b → Sat R ρ (chop i j) (a ++ b)
  chop_join i j a b h g = (
    length a,
    subst (λ (z : List View). Sat R ρ i z) (sym (take-append_seam a b)) h,
    subst (λ (z : List View). Sat R ρ j z) (sym (drop-append_seam a b)) g,
  )

  -- where a beginning and one view more do not satisfy q, what comes behind that view satisfies j
  cut_off : (q j : Interval) (a : List View) (c : View) (b : List View) → (Sat R ρ q (a ++ (c ∷ [])) → ⊥)
      → Sat R ρ (chop q j) (a ++ (c ∷ b)) → Sat R ρ j b
  cut_off q j a c b no_more (k, h, g) = go (leb k (length a)) refl
    where
      whole : (a ++ (c ∷ [])) ++ b ≡ a ++ (c ∷ b)
      whole = append_assoc a (c ∷ []) b

      long : length (a ++ (c ∷ [])) ≡ suc (length a)
      long = count a
        where
          count : (a : List View) → length (a ++ (c ∷ [])) ≡ suc (length a)
          count [] = refl
          count (v ∷ a) = ap suc (count a)

      go : (r : Bool) → leb k (length a) ≡ r → Sat R ρ j b
      go true e =
          let s : k + (length (a ++ (c ∷ [])) - k) ≡ length (a ++ (c ∷ [])) = omega (arith, leb-true k (length a) e, long) in
          subst (λ (z : List View). Sat R ρ j z)
          (drop-drop (length (a ++ (c ∷ [])) - k) k (a ++ (c ∷ b)) ∙ ap (λ (n : ℕ). drop n (a ++ (c ∷ b))) s
          ∙ ap (drop (length (a ++ (c ∷ [])))) (sym whole) ∙ drop-append_seam (a ++ (c ∷ [])) b)
          (sat_drop R ρ j (length (a ++ (c ∷ [])) - k) (drop k (a ++ (c ∷ b))) g)
      go false e = absurd (no_more (subst (λ (z : List View). Sat R ρ q z)
          (take-take (length (a ++ (c ∷ []))) k (a ++ (c ∷ b)) (omega (arith, leb-false k (length a) e, long))
          ∙ ap (take (length (a ++ (c ∷ [])))) (sym whole) ∙ take-append_seam (a ++ (c ∷ [])) b)
          (sat_take R ρ q (length (a ++ (c ∷ []))) (take k (a ++ (c ∷ b))) h)))

-- PROSPECTS

module _ (size : ℕ → ℕ) where
  -- cut where a position of x is reached
  cut_at : (x c : ℕ) (a : View) (l : List View) → From size a l
      → (k : ℕ) × All (λ v. v x < c) (take k l) × All (λ v. c ≤ v x) (drop k l)
  cut_at x c a [] h = (0, tt, tt)
  cut_at x c a (v ∷ l) h = go (ltb (v x) c) refl (cut_at x c v l h.2)
    where
      go : (b : Bool) → ltb (v x) c ≡ b → (k : ℕ) × All (λ v. v x < c) (take k l) × All (λ v. c ≤ v x) (drop k l)
          → (k : ℕ) × All (λ v. v x < c) (take k (v ∷ l)) × All (λ v. c ≤ v x) (drop k (v ∷ l))
      go true e r = (suc r.0, (ltb-true (v x) c e, r.1), r.2)
      go false e r = (
        0,
        tt,
        (ltb-false (v x) c e, All-map _ _ (λ w g. omega (arith, ltb-false (v x) c e, g.1 x)) l (from_all size v l h.2)),
      )

  -- behind c the list may go on in another way
  graft : (b : View) (a : List View) (c : View) (e l : List View) → From size b (a ++ (c ∷ e)) → From size c l → From size b (a ++ (c ∷ l))
  graft b [] c e l h g = (h.0, h.1, g)
  graft b (v ∷ a) c e l h g = (h.0, h.1, graft v a c e l h.2 g)

  tail_from : (b : View) (a : List View) (c : View) (e : List View) → From size b (a ++ (c ∷ e)) → Names size c × From size c e
  tail_from b [] c e h = (h.0, h.2)
  tail_from b (v ∷ a) c e h = tail_from v a c e h.2

  to_prospect : (b : View) (a : List View) (c : View) (e : List View) → From size b (a ++ (c ∷ e)) → Prospect size b (a ++ (c ∷ e))
  to_prospect b [] c e h = h
  to_prospect b (v ∷ a) c e h = h

  to_from : (b : View) (l : List View) → Prospect size b l → From size b l
  to_from b [] h = elim h [ ]
  to_from b (v ∷ l) h = h

-- A WRITE INSERTED

module _ {P : Program} {s : State} (d : Insertion P s) where
  -- where a position of the old row stands in the new one
  abbrev lift : ℕ → ℕ → ℕ
  lift y m = upd (λ z. m) d.x (up d.p m) y

  -- a view that does not name the new write
  abbrev Away : View → Type 0
  Away v = v d.x ≢ suc d.p

  lifted : (v : View) → Away v → (y : ℕ) → v y ≡ lift y (old d v y)
  lifted v h = by_word d.x _
      (simp upds (omega (arith, up_is d.p (down d.p (v d.x)), down_is d.p (v d.x))))
      (λ y q. simp upds)

  old_at : (v : View) → old d v d.x ≡ down d.p (v d.x)
  old_at v = upd_same v d.x (down d.p (v d.x))

  same_old : (v : View) → Away v → Agree (λ n. true) (at P s (old d v)) (at P (result d) v)
  same_old v k = record { same = λ n z. result_same d v n (λ y. k) }

  -- what the old views satisfied, the new ones do
  sat_old : (i : Interval) (l : List View) → All Away l → Sat P.range (at P s) i (map (old d) l) → Sat P.range (at P (result d)) i l
  sat_old (box e) l a h =
      All-back _ _ _ (old d)
      (λ v k q. subst T (test_agree P.range (same_old v k) e (only_any (names e))) q)
      l a h
  sat_old (one y) l a h = (lift y h.0, All-back _ _ _ (old d) (λ v k q. lifted v k y ∙ ap (lift y) q) l a h.1)
  sat_old (chop i j) l a h = (
    h.0,
    sat_old i (take h.0 l) (All-take _ h.0 l a) (rw take_map at h.1),
    sat_old j (drop h.0 l) (All-drop _ h.0 l a) (rw drop_map at h.2),
  )
  sat_old (both i j) l a h = (sat_old i l a h.0, sat_old j l a h.1)
  sat_old (either i j) l a (inl h) = inl (sat_old i l a h)
  sat_old (either i j) l a (inr h) = inr (sat_old j l a h)

  module _ (f : Value) (value-f : (v : View) → value P.range (at P (result d) v) f ≡ d.n) where
    new_part : (l : List View) → All (λ v. v d.x ≡ suc d.p) l → Sat P.range (at P (result d)) (newest d.x f) l
    new_part l h = (
      (suc d.p, h),
      All-map _ _ (λ v q. subst (λ (n : ℕ). T (eqb n (value P.range (at P (result d) v) f)))
          (value-f v ∙ sym (ap (λ (w : Write). w.value) (row_new d v q))) (eqb_refl (value P.range (at P (result d) v) f))) l h,
    )

    -- 54
    pub lands_behind : (u : ℕ) (i : Interval) → Sees P s u (both (one d.x) i) → Sees P (result d) u (chop i (newest d.x f))
    lands_behind u i h = go (equal_decided (suc d.p) (s.size d.x))
      where
        own_last : suc (s.view u d.x) ≡ s.size d.x
        own_last = sees_last d.wf u d.x (λ l pr. (h l pr).0)

        beyond : suc d.p ≢ s.size d.x → (u : ℕ) → suc (s.view u d.x) ≡ s.size d.x → suc d.p < (result d).view u d.x
        beyond n = by_word d.t _ (λ e. absurd (n (omega (arith, d.here))))
            (λ u q e. simp upds (omega (arith, n, d.inside, up_is d.p (s.view u d.x))))

        go : Decided (suc d.p ≡ s.size d.x) → Sees P (result d) u (chop i (newest d.x f))
        go (inl e) = last_other d e f value-f u i (λ l pr. (h l pr).1)
        go (inr n) = λ l pr. rule_36 P.range (at P (result d)) i (newest d.x f) l
            (sat_old i l
            (All-map _ _ (λ w g e. omega (arith, beyond n u own_last, g.1 d.x)) l
            (from_all (result d).size ((result d).view u) l (to_from (result d).size ((result d).view u) l pr)))
            (h (map (old d) l) (result_prospect d u l pr)).1)

    module _ (i j : Interval) where
      abbrev first_then : Interval
      first_then = chop (both i (one d.x)) j

      -- from the new write on: behind it, what came behind the first write
      tail : (l : List View) (k : ℕ) → All (λ v. suc d.p ≤ v d.x) l → All (λ v. v d.x < suc (suc d.p)) (take k l)
          → All (λ v. suc (suc d.p) ≤ v d.x) (drop k l) → Sat P.range (at P s) first_then (map (old d) l)
          → Sat P.range (at P (result d)) (chop (newest d.x f) j) l ⊎ All Away l
      tail [] k a b c h = inr tt
      tail (n ∷ l) zero a b c h = inr (All-map _ _ (λ v g e. omega arith) (n ∷ l) c)
      tail (n ∷ l) (suc k) a b c h = inl (
        suc k,
        new_part (n ∷ take k l) (All-map _ _ (λ v g. omega (arith, g.0, g.1)) (n ∷ take k l)
            (all_and _ _ (n ∷ take k l) (All-take _ (suc k) (n ∷ l) a) b)),
        sat_old j (drop k l) (All-map _ _ (λ v g e. omega arith) (drop k l) c)
            (rw drop_map at (behind_one P.range (at P s) d.x i j (old d n) (map (old d) l) k h
            (rw drop_map (all_mapped _ (old d) (drop k l) (All-map _ _ (λ v g e. omega (
              arith,
              g,
              old_at v,
              old_at n,
              down_is d.p (v d.x),
              down_is d.p (n d.x),
              b.0,
              a.0,
              e,
            )) (drop k l) c))))),
      )

      -- 55, of the acting thread itself
      pub lands_own : Sees P s d.t first_then → (l : List View) → Prospect (result d).size ((result d).view d.t) l
          → Sat P.range (at P (result d)) (chop i (chop (newest d.x f) j)) l
      lands_own h [] pr = elim pr [ ]
      lands_own h (v ∷ l) pr =
          let c = cut_at (result d).size d.x (suc (suc d.p)) ((result d).view d.t) (v ∷ l) pr in
          let after = from_all (result d).size ((result d).view d.t) (v ∷ l) pr in (
            0,
            sat_empty P.range (at P (result d)) i,
            (
              c.0,
              new_part (take c.0 (v ∷ l)) (All-map _ _ (λ w g. omega (arith, g.0, simp upds at (g.1.1 d.x))) (take c.0 (v ∷ l))
                  (all_and _ _ (take c.0 (v ∷ l)) c.1 (All-take _ c.0 (v ∷ l) after))),
              sat_old j (drop c.0 (v ∷ l)) (All-map _ _ (λ w g e. omega arith) (drop c.0 (v ∷ l)) c.2)
                  (rw drop_map at (behind_one P.range (at P s) d.x i j (s.view d.t) (map (old d) (v ∷ l)) c.0
                  (h (s.view d.t ∷ map (old d) (v ∷ l)) (d.wf.view_in d.t, (λ y. omega arith), result_prospect d d.t (v ∷ l) pr))
                  (rw drop_map (all_mapped _ (old d) (drop c.0 (v ∷ l)) (All-map _ _ (λ w g e. omega (
                    arith,
                    g,
                    old_at w,
                    down_is d.p (w d.x),
                    d.here,
                    e,
                  )) (drop c.0 (v ∷ l)) c.2))))),
            ),
          )

      away_before : (m : List View) → All (λ w. w d.x < suc d.p) m → All Away m
      away_before m a = All-map _ _ (λ w g e. omega arith) m a

      -- 55, of another thread, if the views before the new write name one write
      found : (a : View) (l : List View) (k : ℕ) → From (result d).size a l → All (λ v. v d.x < suc d.p) (take k l)
          → All (λ v. suc d.p ≤ v d.x) (drop k l) → Sat P.range (at P s) first_then (map (old d) l)
          → Sat P.range (at P s) (both i (one d.x)) (map (old d) (take k l))
          → Sat P.range (at P (result d)) (chop i (chop (newest d.x f) j)) l
      found a l k fr b c h q =
          let r = cut_at (result d).size d.x (suc (suc d.p)) a (drop k l) (from_drop (result d).size a k l fr) in
          go (tail (drop k l) r.0 c r.1 r.2 (rw drop_map at (sat_drop P.range (at P s) first_then k (map (old d) l) h)))
        where
          go : Sat P.range (at P (result d)) (chop (newest d.x f) j) (drop k l) ⊎ All Away (drop k l)
              → Sat P.range (at P (result d)) (chop i (chop (newest d.x f) j)) l
          go (inl z) = (k, sat_old i (take k l) (away_before (take k l) b) q.0, z)
          go (inr z) =
              let r = sat_old first_then l (All-join Away k l (away_before (take k l) b) z) h in
              (r.0, r.1.0, (0, sat_empty P.range (at P (result d)) (newest d.x f), r.2))

      -- what the premise gives of a view c before the new write: l' from c on, if every prospect of c satisfied j
      abbrev pub Later : Interval → Type 0
      Later l' =
          (c : View) (e : List View) → c d.x ≤ d.p → Names (result d).size c → From (result d).size c e
          → ((z : List View) → From s.size (old d c) z → Sat P.range (at P s) j z)
          → Sat P.range (at P (result d)) l' (c ∷ e)

      -- 55, of another thread, if they do not: c is the first view that is too much
      missed : (l' : Interval) (u : ℕ) (b : List View) (c : View) (e : List View) → c d.x < suc d.p
          → All (λ v. v d.x < suc d.p) b → From (result d).size ((result d).view u) (b ++ (c ∷ e))
          → Sat P.range (at P s) (both i (one d.x)) (map (old d) b)
          → (Sat P.range (at P s) (both i (one d.x)) (map (old d) b ++ (old d c ∷ [])) → ⊥)
          → Sees P s u first_then → Later l' → Sat P.range (at P (result d)) (chop i l') (b ++ (c ∷ e))
      missed l' u b c e cx bx fr hb no_more h later =
          let t = tail_from (result d).size ((result d).view u) b c e fr in
          let pr = to_from s.size (s.view u) (map (old d) (b ++ (c ∷ e)))
          (result_prospect d u (b ++ (c ∷ e)) (to_prospect (result d).size ((result d).view u) b c e fr)) in
          chop_join P.range (at P (result d)) i l' b (c ∷ e) (sat_old i b (away_before b bx) hb.0)
          (later c e (omega arith) t.0 t.1 (λ z fz.
          cut_off P.range (at P s) (both i (one d.x)) j (map (old d) b) (old d c) z no_more
          (h (map (old d) b ++ (old d c ∷ z)) (to_prospect s.size (s.view u) (map (old d) b) (old d c) z
          (graft s.size (s.view u) (map (old d) b) (old d c) (map (old d) e) z
          (subst (λ (y : List View). From s.size (s.view u) y) (map-append (old d) b (c ∷ e)) pr) fz)))))

      pub lands_other : (l' : Interval) (u : ℕ) → Sees P s u first_then → Later l'
          → Sees P (result d) u (either (chop i (chop (newest d.x f) j)) (chop i l'))
      lands_other l' u h later [] pr = elim pr [ ]
      lands_other l' u h later (v ∷ l) pr =
          let c = cut_at (result d).size d.x (suc d.p) ((result d).view u) (v ∷ l) pr in
          go c.0 c.1 c.2 (longest P.range (at P s) (both i (one d.x)) (old d) (take c.0 (v ∷ l)))
        where
          go : (k : ℕ) → All (λ w. w d.x < suc d.p) (take k (v ∷ l)) → All (λ w. suc d.p ≤ w d.x) (drop k (v ∷ l))
              → Sat P.range (at P s) (both i (one d.x)) (map (old d) (take k (v ∷ l)))
              ⊎ Longest P.range (at P s) (both i (one d.x)) (old d) (take k (v ∷ l))
              → Sat P.range (at P (result d)) (either (chop i (chop (newest d.x f) j)) (chop i l')) (v ∷ l)
          go k a b (inl q) =
              inl (found ((result d).view u) (v ∷ l) k pr a b (h (map (old d) (v ∷ l)) (result_prospect d u (v ∷ l) pr)) q)
          go k a b (inr (m, c, e, eq, hb, no_more)) =
              let whole : v ∷ l ≡ m ++ (c ∷ (e ++ drop k (v ∷ l))) =
              sym (take-append-drop k (v ∷ l)) ∙ ap (λ (z : List View). z ++ drop k (v ∷ l)) eq ∙ append_assoc m (c ∷ e) (drop k (v ∷ l)) in
              let low = subst (All (λ w. w d.x < suc d.p)) eq a in
              inr (subst (λ (z : List View). Sat P.range (at P (result d)) (chop i l') z) (sym whole)
              (missed l' u m c (e ++ drop k (v ∷ l)) (all_behind _ m (c ∷ e) low).0 (all_before _ m (c ∷ e) low)
              (subst (λ (z : List View). From (result d).size ((result d).view u) z) whole pr) hb no_more h later))

-- THE RULES

module _ (P : Program) (t x u : ℕ) (rel : Bool) (f : Value) (g : Good P (write rel false x f) []) (plain : T (only is_reg f)) where
  module _ {s : State} (wf : Wf P s) (p : ℕ) (arr : Arrived (write rel false x f) t p s) where
    abbrev stored : Insertion P s
    stored = record {
      t = t;
      x = x;
      p = p;
      n = worked_at P s t f;
      releasing = rel;
      wf = wf;
      x_in = g.0;
      inside = arr.0.inside;
      here = arr.0.here;
      small = worked_small P s t [] wf f g.1;
    }

    stored_value : (v : View) → value P.range (at P (result stored) v) f ≡ worked_at P s t f
    stored_value v = value_agree P.range (regs_same {ρ = at P (result stored) v} {σ = at P s (s.view t)} refl) f plain

  pub rule_54 : (i : Interval) → Triple P t (write rel false x f) [] (sees u (both (one x) i)) (sees u (chop i (newest x f)))
  rule_54 i s wf p arr h = lands_behind (stored wf p arr) f (stored_value wf p arr) u i h

  module _ (i j l : Interval) (prem : Triple P t (write rel false x f) [] (sees u j) (sees u l)) where
    -- the premise, at the state in which u has the view that c stands for
    module _ (s : State) (wf : Wf P s) (p : ℕ) (arr : Arrived (write rel false x f) t p s) (n : u ≢ t) where
      -- how the memory looks after the step, from the view z of t
      abbrev from_view : View → View → Env
      from_view z = at P (insert rel x (value P.range (at P s z) f) t p z s)

      later : Later (stored wf p arr) f (stored_value wf p arr) i j l
      later c e cx names fr every =
          subst (λ (z : View). Sat P.range (from_view z) l (c ∷ e)) (upd_other s.view u (old (stored wf p arr) c) t (λ q. n (sym q)))
          (prem (with_view s u (old (stored wf p arr) c)) (view_wf wf u (old (stored wf p arr) c) names_old) p arrived every_there (c ∷ e)
          (names, below, fr))
        where
          names_old : (y : ℕ) → old (stored wf p arr) c y < s.size y
          names_old = by_word x _ (simp upds (omega (arith, down_is p (c x), cx, arr.0.inside))) (λ y q. simp upds (simp upds at (names y)))

          arrived : Arrived (write rel false x f) t p (with_view s u (old (stored wf p arr) c))
          arrived = (
            record {
              inside = arr.0.inside;
              here = ap (λ (z : View). z x) (upd_other s.view u (old (stored wf p arr) c) t (λ q. n (sym q))) ∙ arr.0.here;
              has = λ q y. absurd (false_true q);
            },
            arr.1,
          )
            where
              false_true : false ≡ true → ⊥
              false_true q = subst T (sym q) tt

          every_there : Sees P (with_view s u (old (stored wf p arr) c)) u j
          every_there [] pr = elim pr [ ]
          every_there (w ∷ z) pr = every (w ∷ z) (subst (λ (y : View). From s.size y (w ∷ z)) (upd_same s.view u (old (stored wf p arr) c)) pr)

          below : (y : ℕ) → upd (λ a. up_view x p (upd s.view u (old (stored wf p arr) c) a)) t
              (move_to x p (upd s.view u (old (stored wf p arr) c) t)) u y ≤ c y
          below = by_word x _ (simp upds (omega (arith, cx, up_is p (down p (c x)), down_is p (c x)))) (λ y q. simp upds (omega arith))

    pub rule_55 : Triple P t (write rel false x f) [] (sees u (chop (both i (one x)) j))
        (sees u (either (chop i (chop (newest x f) j)) (chop i l)))
    rule_55 s wf p arr h = go (equal_decided u t)
      where
        go : Decided (u ≡ t) → Sees P (result (stored wf p arr)) u (either (chop i (chop (newest x f) j)) (chop i l))
        go (inl e) = subst (λ (a : ℕ). Sees P s a (chop (both i (one x)) j)
            → Sees P (result (stored wf p arr)) a (either (chop i (chop (newest x f) j)) (chop i l))) (sym e)
            (λ k m pr. inl (lands_own (stored wf p arr) f (stored_value wf p arr) i j k m pr)) h
        go (inr n) = lands_other (stored wf p arr) f (stored_value wf p arr) i j l u h (later s wf p arr n)
