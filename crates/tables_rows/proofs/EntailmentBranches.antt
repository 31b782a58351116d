-- Entailment at a row: the ways through the functions, one law for each.
use Prim.Native.Nat.{ℕ, suc, ◌+◌, ◌-◌, ◌≤◌, ◌<◌}
use mathlib.Core.Path.{◌≡◌, refl, ap, ap₂, ◌∙◌}
use mathlib.Core.List.{List, [], ◌∷◌}
use mathlib.Core.Bool.{Bool, true, false, cond}
use native.Mathlib.Omega.{arith}
use lib.ListN.{get_or, take}
use lib.Dec.{eqb}
use Rattle.std.specs.Borrow.{Bor}
use Rattle.formula.specs.Tree.{parse_tree}
use Rattle.tables_columns.specs.declared.slot.Slot.{Slot}
use Rattle.tables_columns.specs.Gather.{Gathered, keys, view, gather_t}
use Rattle.tables_columns.proofs.GatherBranches.{kept_none}
use Rattle.tables_columns.specs.Column.{deny_of, denied}
use Rattle.tables_digits.specs.SlotColumn.{row_in}
use Rattle.tables_columns.proofs.ColumnLists.{column_same}
use Rattle.tables_digits.specs.ValueColumn.{row_value, column_of}
use Rattle.tables_rows.specs.Entailment.{ImpT, pair_in, pair_at, imp_of, imps_from, premises_from, imp_at, imp_fails, gather_imp, gather_imps, gather_all}
use Rattle.tables_digits.specs.declared.value_column.Reading.{Reading}
use Rattle.tables_rows.specs.declared.entailment.Implication.{Implication}
use Rattle.tables_rows.specs.declared.entailment.Pairs.{Pairs}
use Rattle.tables_rows.specs.declared.entailment.Pairs.TheVariants.{Joined, Apart}
use Rattle.tables_rows.specs.declared.entailment.Task.{Task}
use Rattle.tables_digits.proofs.ValueBranches.{column_value}

-- an implication from one list, and from two
module _ (p : Pairs) (i : ℕ) where
  pub pair_joined : (l : Bor (List Implication)) (x : Implication) → p ≡ Joined l → x ≡ pair_in l.now i → x ≡ pair_at p i
  unfolding pair_at
  pair_joined l x d e = rw d e

  pub pair_apart : (l r : Bor (List ℕ)) (a b : ℕ) → p ≡ Apart l r → a ≡ get_or l.now i 0 → b ≡ get_or r.now i 0
      → ◌≡◌ {A = Implication} (record { left = a; right = b }) (pair_at p i)
  unfolding pair_at
  pair_apart l r a b d ea eb = rw (d, ea, eb)

pub ruleset pair_at_branches = (pair_joined, pair_apart)

-- the premises one after the other
module _ (s : List ℕ) (pairs : ℕ → Implication) (t : Task) where
  abbrev prems : ℕ → List ImpT
  prems = premises_from s pairs t

  abbrev imp : ℕ → ImpT
  imp = imp_of s pairs t

  from_step : (i d : ℕ) → imps_from s pairs t i (suc d) ≡ imp i ∷ imps_from s pairs t (suc i) d
  unfolding imps_from
  from_step i d = refl

  pub prems_step : (i : ℕ) → i < t.premises → prems i ≡ imp (i + 1) ∷ prems (i + 1)
  unfolding premises_from
  prems_step i h =
      let e : t.premises - i ≡ suc (t.premises - (i + 1)) = omega arith in
      let f : suc (i + 1) ≡ i + 1 + 1 = omega arith in
      rw (e, from_step, f)

  pub prems_end : (i : ℕ) → t.premises ≤ i → prems i ≡ []
  unfolding premises_from imps_from
  prems_end i h = let e : t.premises - i ≡ 0 = omega arith in rw e

  module _ (w : Reading) (q : List Slot) (ms : List ℕ) (n : ℕ) where
    abbrev holds : ℕ → ImpT → Bool
    holds i = imp_at s w q (row_in ms i)

    -- an implication fails where the left side is true and the right side is not
    pub imp-fails : (i : ℕ) (x : Implication) (a b o : List ℕ) → x ≡ pairs i
        → take n a ≡ column_of s w q ms n (parse_tree s t.left x.left).tree
        → take n b ≡ column_of s w q ms n (parse_tree s t.right x.right).tree → take n o ≡ denied n a b → take n o ≡ imp_fails s w q ms n (imp i)
    unfolding deny_of denied imp_fails imp_at imp_of
    imp-fails i u a b o eu ea eb eo = eo ∙ column_same (λ (k : ℕ). cond (eqb (get_or a k 0) 1) (cond (eqb (get_or b k 0) 1) 0 1) 0)
        (λ (k : ℕ). cond (holds k (imp i)) 0 1) n (λ k h.
        ap₂ (λ (x y : ℕ). cond (eqb x 1) (cond (eqb y 1) 0 1) 0)
        (column_value s w q ms n (parse_tree s t.left u.left).tree a ea k h
        ∙ ap (λ (x : Implication). row_value s w q (row_in ms k) (parse_tree s t.left x.left).tree) eu)
        (column_value s w q ms n (parse_tree s t.right u.right).tree b eb k h
        ∙ ap (λ (x : Implication). row_value s w q (row_in ms k) (parse_tree s t.right x.right).tree) eu)
        ∙ go (eqb (row_value s w q (row_in ms k) (imp i).left) 1) (eqb (row_value s w q (row_in ms k) (imp i).right) 1))
      where
        go : (x y : Bool) → ◌≡◌ {A = ℕ} (cond x (cond y 0 1) 0) (cond (cond x y true) 0 1)
        go true y = refl
        go false y = refl

pub ruleset imp_fails_branches = (imp-fails)

-- the leaves of implications
pub gather-imp : (s : List ℕ) (pairs : ℕ → Implication) (t : Task) (i w n m k : ℕ) (x : Implication) (q q₂ q₃ : List Slot) → x ≡ pairs i
    → view s m q₂ ≡ gather_t w (parse_tree s t.right x.right).tree (view s n q)
    → view s k q₃ ≡ gather_t w (parse_tree s t.left x.left).tree (view s m q₂)
    → view s k q₃ ≡ gather_imp w (imp_of s pairs t i) (view s n q)
unfolding gather_imp imp_of
gather-imp s pairs t i w n m k x q q₂ q₃ ex eh ek = ek ∙ rw (eh, ex)

pub ruleset imp_gathered = (gather-imp)

module _ (s : List ℕ) (pairs : ℕ → Implication) (t : Task) (w : ℕ) where
  imps_step : (p : ImpT) (ps : List ImpT) (m : Gathered) → gather_imps w (p ∷ ps) m ≡ gather_imp w p (gather_imps w ps m)
  unfolding gather_imps
  imps_step p ps m = refl

  pub all_begin : (q : List Slot) → view s 0 q ≡ gather_imps w (premises_from s pairs t t.premises) (keys [])
  unfolding view gather_imps
  all_begin q =
      let h : t.premises ≤ t.premises = omega arith in
      rw (kept_none, prems_end s pairs t t.premises h)

  pub all_next : (i k n m : ℕ) (q q₂ : List Slot) → i ≤ t.premises → 0 < i → k ≡ i
      → view s n q ≡ gather_imps w (premises_from s pairs t i) (keys [])
      → view s m q₂ ≡ gather_imp w (imp_of s pairs t k) (view s n q)
      → view s m q₂ ≡ gather_imps w (premises_from s pairs t (i - 1)) (keys [])
  all_next i k n m q q₂ l z ek e f =
      let b : i - 1 < t.premises = omega arith in
      let d : i - 1 + 1 ≡ i = omega arith in
      f ∙ rw (ek, e, prems_step s pairs t (i - 1) b, imps_step, d)

  pub all_end : (i n m : ℕ) (q q₂ : List Slot) → i ≤ 0 → view s n q ≡ gather_imps w (premises_from s pairs t i) (keys [])
      → view s m q₂ ≡ gather_imp w (imp_of s pairs t 0) (view s n q)
      → view s m q₂ ≡ gather_all s pairs t w
  unfolding gather_all
  all_end i n m q q₂ z e f = let d : i ≡ 0 = omega arith in f ∙ rw (e, d)

  -- without premises
  pub all_alone : (m : ℕ) (q q₂ : List Slot) → t.premises ≡ 0 → view s m q₂ ≡ gather_imp w (imp_of s pairs t 0) (view s 0 q)
      → view s m q₂ ≡ gather_all s pairs t w
  all_alone m q q₂ z f = all_end 0 0 m q q₂ (omega arith)
      (all_begin q ∙ ap (λ (i : ℕ). gather_imps w (premises_from s pairs t i) (keys [])) z) f

pub ruleset all_bits_gathered = (all_begin, all_next, all_end)
