-- Views, and the write with which a row starts: the ways through the functions, one law for each.
use Prim.Native.Nat.{ℕ, ◌+◌, ◌-◌, ◌≤◌, ◌<◌, max}
use mathlib.Core.Path.{◌≡◌, ap, sym, ◌∙◌}
use mathlib.Core.List.{List, ◌∷◌, ◌++◌}
use native.Mathlib.Omega.{arith}
use native.Mathlib.Numerals.{add-one}
use lib.ListN.{length, get_or, set, take, drop, replicate, length-replicate}
use lib.Seq.{take-suc-set, take-length, append_snoc}
use Rattle.limits.proofs.BranchTests.{tests}
use Rattle.std.proofs.lemmas.List.{get_or-append_right, get_or-drop, drop_more, set-append_right, drop_all, append-nil}
use Rattle.tables_columns.specs.Column.{column}
use Rattle.tables_columns.proofs.ColumnLists.{column_none, column_step, column_length}
use Rattle.replay_memory.specs.View.{up, position_in, with_position, up_view, joined_to, joined}
use Rattle.replay_memory.specs.declared.view.View.{View}

pub view_up : (v r : View) (k p a b : ℕ) → a ≡ position_in v k → b ≡ up p a → r ≡ with_position v k b → r ≡ up_view k p v
unfolding up_view
view_up v r k p a b e d h = rw (← e, ← d) h

-- one more place of a list written
pub column_set : {A : Type 0} (f : ℕ → A) (a : List A) (i n : ℕ) (x : A) → i < n → length a ≡ n → take i a ≡ column f i → x ≡ f i
    → take (i + 1) (set a i x) ≡ column f (i + 1)
column_set f a i n x h l e d = rw (add-one i) (take-suc-set a i x (omega arith) ∙ rw (e, d, column_step f i))

-- all of them
pub column_whole : {A : Type 0} (f : ℕ → A) (a : List A) (i n : ℕ) → i ≤ n → n ≤ i → length a ≡ n → take i a ≡ column f i → a ≡ column f n
column_whole f a i n h k l e =
    let q : i ≡ n = omega arith in
    sym (take-length a) ∙ ap (λ (j : ℕ). take j a) l ∙ rw q at e

-- a list of which the first i places have the values of f, the others those of l
unfoldable pub walked : {A : Type 0} → (ℕ → A) → List A → ℕ → List A
walked f l i = column f i ++ drop i l

module _ {A : Type 0} (f : ℕ → A) (l : List A) where
  pub walk_begin : l ≡ walked f l 0
  unfolding walked
  walk_begin = rw (column_none f)

  -- the place that comes next has what it had
  pub walk_read : (i : ℕ) (d : A) → get_or (walked f l i) i d ≡ get_or l i d
  unfolding walked
  walk_read i d =
      get_or-append_right (column f i) (drop i l) i i d (column_length f i) (omega arith) ∙ get_or-drop i l (i - i) d
      ∙ ap (λ (j : ℕ). get_or l j d) (omega arith)

  pub walk_more : (i : ℕ) (x : A) → i < length l → x ≡ f i → set (walked f l i) i x ≡ walked f l (i + 1)
  unfolding walked
  walk_more i x h e =
      let none : i - i ≡ 0 = omega arith in
      ap (λ (r : List A). set (column f i ++ r) i x) (drop_more l i x h)
      ∙ set-append_right (column f i) (get_or l i x ∷ drop (i + 1) l) i i x (column_length f i) (omega arith)
      ∙ ap (λ (j : ℕ). column f i ++ set (get_or l i x ∷ drop (i + 1) l) j x) none
      ∙ ap (λ (y : A). column f i ++ y ∷ drop (i + 1) l) e ∙ sym (append_snoc (column f i) (f i) (drop (i + 1) l))
      ∙ ap (λ (r : List A). r ++ drop (i + 1) l) (sym (ap (column f) (add-one i) ∙ column_step f i))

  pub walk_end : (n : ℕ) → length l ≡ n → walked f l n ≡ column f n
  unfolding walked
  walk_end n e = rw (drop_all n l (omega arith)) (append-nil (column f n))

pub repeated : {A : Type 0} (n : ℕ) (x : A) → length (replicate n x) ≡ n
repeated n x = length-replicate n x

module _ (v w : View) where
  abbrev later : ℕ → ℕ
  later i = max (get_or v.at i 0) (get_or w.at i 0)

  -- the join of two views on their first i words, the rest of the first one's
  abbrev pub join_to : ℕ → List ℕ
  join_to i = walked later v.at i

  pub join_begin : v.at ≡ join_to 0
  join_begin = walk_begin later v.at

  pub join_more : (a : List ℕ) (i x : ℕ) → i < 8 → length v.at ≡ 8 → a ≡ join_to i → x ≡ later i → set a i x ≡ join_to (i + 1)
  join_more a i x h n e d = rw e (walk_more later v.at i x (omega arith) d)

  pub join_end : (r : View) (i : ℕ) → r.at ≡ join_to i → length v.at ≡ 8 → i ≤ 8 → 8 ≤ i → r ≡ joined v w
  unfolding joined joined_to
  join_end r i e n x y = ap (λ (b : List ℕ). record { at = b }) (e ∙ ap join_to (omega arith) ∙ walk_end later v.at 8 n)

pub ruleset join_branches = (join_begin, join_more, join_end)

pub ruleset joins = (join_branches, tests)
