-- What is gathered in the slots are the distinct leaves, in the order of the logic; and too many for the slots are too many rows.
use Prim.Native.Nat.{ℕ, zero, suc, ◌*◌, ◌^◌, ◌≤◌, ◌<◌}
use mathlib.Core.Path.{◌≡◌, refl, ap, ap₂, sym, ◌∙◌}
use mathlib.Core.List.{List, [], ◌∷◌, ◌++◌, append_assoc}
use mathlib.Core.Bool.{Bool, true, false, cond, ◌||◌, ◌&&◌}
use native.Mathlib.Omega.{arith}
use native.Mathlib.Nat.{mul_comm, mul-le-mul, pow-suc}
use lib.ListN.{length}
use lib.Dec.{eqb, ltb, leb}
use borrow.Author.Tests.{lt-ltb, le-ltb, ltb-true, ltb-false, lt-leb}
use Rattle.semantics.specs.Code
use Rattle.semantics.specs.Code.{byte}
use Rattle.logic.specs.Rows.{is_in, distinct, all_rows, row_count}
use Rattle.logic.proofs.Rows.{Equality}
use Rattle.semantics.proofs.Base.{is_true}
use Rattle.formula.specs.Codes.{member}
use Rattle.formula.specs.Tree.{Tree, none, node}
use Rattle.formula_compare.specs.Same.{same_tree}
use Rattle.formula_trees.proofs.TreeAgree.{tree_eq, tree_refl}
use Rattle.tables_columns.specs.Slots.{slots}
use Rattle.tables_columns.specs.Gather.{Gathered, many, keys, leaves_t, put_t, gather_t}
use Rattle.tables_columns.specs.Count.{choices_by, choices_t}
use Rattle.tables_columns.proofs.GatherBranches.{put_keys, gather_node}
use Rattle.tables_rows.specs.Entailment.{ImpT, entails_t, leaves_all, gather_imp, gather_imps}
use Rattle.tables_rows.specs.EveryRow.{every_by}
use Rattle.tables_digits.specs.declared.value_column.Reading.{Reading}

-- a key is among the distinct ones if it is among all
module _ {K : Type 0} {eq : K → K → Bool} (E : Equality eq) where
  in_step : (m n : K) (l : List K) → is_in eq m (n ∷ l) ≡ (eq m n || is_in eq m l)
  unfolding is_in
  in_step m n l = refl

  distinct_step : (n : K) (l : List K) → distinct eq (n ∷ l) ≡ cond (is_in eq n l) (distinct eq l) (n ∷ distinct eq l)
  unfolding distinct
  distinct_step n l = refl

  distinct_none : distinct eq [] ≡ []
  unfolding distinct
  distinct_none = refl

  in_distinct : (m : K) (l : List K) → is_in eq m (distinct eq l) ≡ is_in eq m l
  in_distinct m [] = ap (is_in eq m) distinct_none
  in_distinct m (n ∷ l) = go (is_in eq n l) (eq m n) refl refl (in_distinct m l)
    where
      go : (a b : Bool) → is_in eq n l ≡ a → eq m n ≡ b → is_in eq m (distinct eq l) ≡ is_in eq m l
          → is_in eq m (distinct eq (n ∷ l)) ≡ is_in eq m (n ∷ l)
      go true true ea eb ih =
          let e : is_in eq m l ≡ true = ap (λ (k : K). is_in eq k l) (E.equal m n (is_true eb)) ∙ ea in
          rw (distinct_step n l, ea, in_step m n l, eb) (ih ∙ e)
      go true false ea eb ih = rw (distinct_step n l, ea, in_step m n l, eb) ih
      go false b ea eb ih = rw (distinct_step n l, ea, in_step m n (distinct eq l), in_step m n l, ih)

pub trees_equal : Equality same_tree
trees_equal = record { equal = tree_eq; self = tree_refl }

-- what fits in the slots
abbrev pub cut : List Tree → Gathered
cut l = cond (ltb slots (length l)) many (keys l)

abbrev each : List Tree → List Tree
each = distinct same_tree

put_many : (t : Tree) → put_t t many ≡ many
unfolding put_t
put_many none = refl
put_many (node c o l r) = refl

put_cut : (c o : ℕ) (l r : Tree) (m : List Tree) → put_t (node c o l r) (cut (each m)) ≡ cut (each (node c o l r ∷ m))
put_cut c o l r m = go (ltb slots (length (each m))) (is_in same_tree t m) (ltb (length (each m)) slots) refl refl refl
  where
    t : Tree
    t = node c o l r

    go : (a b d : Bool) → ltb slots (length (each m)) ≡ a → is_in same_tree t m ≡ b → ltb (length (each m)) slots ≡ d
        → put_t t (cut (each m)) ≡ cut (each (t ∷ m))
    go true true d ea eb ed = rw (ea, put_many, distinct_step trees_equal t m, eb, ea)
    go true false d ea eb ed =
        let h : slots < suc (length (each m)) = omega (arith, ltb-true slots (length (each m)) ea) in
        rw (ea, put_many, distinct_step trees_equal t m, eb, lt-ltb slots (suc (length (each m))) h)
    go false true d ea eb ed = rw (ea, put_keys, in_distinct trees_equal t m, eb, distinct_step trees_equal t m, eb, ea)
    go false false true ea eb ed =
        let h : suc (length (each m)) ≤ slots = omega (arith, ltb-true (length (each m)) slots ed) in
        rw (ea, put_keys, in_distinct trees_equal t m, eb, ed, distinct_step trees_equal t m, eb, le-ltb slots (suc (length (each m))) h)
    go false false false ea eb ed =
        let h : slots < suc (length (each m)) = omega (arith, ltb-false (length (each m)) slots ed) in
        rw (ea, put_keys, in_distinct trees_equal t m, eb, ed, distinct_step trees_equal t m, eb, lt-ltb slots (suc (length (each m))) h)

leaves_node : (w c o : ℕ) (l r : Tree) → leaves_t w (node c o l r) ≡ cond (member w c) (node c o l r ∷ []) (leaves_t w l ++ leaves_t w r)
unfolding leaves_t
leaves_node w c o l r = refl

gather_cut : (w : ℕ) (t : Tree) (m : List Tree) → gather_t w t (cut (each m)) ≡ cut (each (leaves_t w t ++ m))
unfolding gather_t leaves_t
gather_cut w none m = refl
gather_cut w (node c o l r) m = gather_node w c o l r (cut (each m))
    ∙ go (member w c) refl (gather_cut w r m) (gather_cut w l (leaves_t w r ++ m))
  where
    go : (b : Bool) → member w c ≡ b → gather_t w r (cut (each m)) ≡ cut (each (leaves_t w r ++ m))
        → gather_t w l (cut (each (leaves_t w r ++ m))) ≡ cut (each (leaves_t w l ++ (leaves_t w r ++ m)))
        → cond (member w c) (put_t (node c o l r) (cut (each m))) (gather_t w l (gather_t w r (cut (each m)))) ≡ cut
        (each (leaves_t w (node c o l r) ++ m))
    go true e f g = rw (leaves_node, e) (put_cut c o l r m)
    go false e f g = rw (leaves_node, e) (ap (gather_t w l) f ∙ g
        ∙ ap (λ (k : List Tree). cut (each k)) (sym (append_assoc (leaves_t w l) (leaves_t w r) m)))

imp_cut : (w : ℕ) (p : ImpT) (m : List Tree) → gather_imp w p (cut (each m)) ≡ cut
    (each ((leaves_t w p.left ++ leaves_t w p.right) ++ m))
unfolding gather_imp
imp_cut w p m =
    ap (gather_t w p.left) (gather_cut w p.right m)
    ∙ gather_cut w p.left (leaves_t w p.right ++ m)
    ∙ ap (λ (k : List Tree). cut (each k)) (sym (append_assoc (leaves_t w p.left) (leaves_t w p.right) m))

none_cut : keys [] ≡ cut (each [])
unfolding distinct
none_cut = refl

pub imps_cut : (w : ℕ) (ps : List ImpT) → gather_imps w ps (keys []) ≡ cut (each (leaves_all w ps))
unfolding gather_imps
imps_cut w [] = none_cut
imps_cut w (p ∷ ps) = ap (gather_imp w p) (imps_cut w ps) ∙ imp_cut w p (leaves_all w ps)

-- of more leaves than slots there are too many rows
module _ (R : ℕ) (two : 2 ≤ R) where
  pub choices_two : (t : Tree) → 2 ≤ choices_t R t
  unfolding choices_t choices_by
  choices_two none = omega arith
  choices_two (node c o l r) = two_pick (eqb c (byte Code.reg)) (two_pick (eqb c (byte Code.word)) (omega arith))
    where
      two_pick : (b : Bool) {n : ℕ} → 2 ≤ n → 2 ≤ cond b R n
      two_pick true h = two
      two_pick false h = h

  pub rows_power : (n : ℕ) (l : List Tree) → n ≤ length l → 2 ^ n ≤ row_count same_tree (choices_t R) l
  rows_power zero [] h = omega arith
  rows_power zero (t ∷ l) h = let e = mul-le-mul (choices_two t) (rows_power zero l (omega arith)) in omega arith
  rows_power (suc n) [] h = absurd (omega arith)
  rows_power (suc n) (t ∷ l) h = let e = mul-le-mul (choices_two t) (rows_power n l (omega arith)) in let p = pow-suc 2 n in omega arith

  pub every_cut : (limit : ℕ) → limit ≤ 4096 → (l : List Tree) (w : Reading) → w.range ≡ R → (ps : List ImpT) (c : ImpT)
      → every_by (cut l) w limit ps c ≡ (leb (row_count same_tree (choices_t w.range) l) limit
      && all_rows same_tree (choices_t w.range) l (entails_t w ps c) (λ u. 0))
  every_cut limit h l w e ps c = go (ltb slots (length l)) refl
    where
      go : (b : Bool) → ltb slots (length l) ≡ b → every_by (cut l) w limit ps
          c ≡ (leb (row_count same_tree (choices_t w.range) l) limit
          && all_rows same_tree (choices_t w.range) l (entails_t w ps c) (λ u. 0))
      go true d =
          let k : 13 ≤ length l = omega (arith, ltb-true slots (length l) d) in
          let p : limit < row_count same_tree (choices_t R) l = omega (arith, rows_power 13 l k) in
          rw (d, e, lt-leb (row_count same_tree (choices_t R) l) limit p)
      go false d = rw d

-- two values have two choices each
pub two_choices : (t : Tree) → choices_t 2 t ≡ 2
unfolding choices_t choices_by
two_choices none = refl
two_choices (node c o l r) = go (eqb c (byte Code.reg)) (eqb c (byte Code.word))
  where
    go : (a b : Bool) → cond a 2 (cond {A = ℕ} b 2 2) ≡ 2
    go true b = refl
    go false true = refl
    go false false = refl

pub two_rows : (l : List Tree) → row_count same_tree (choices_t 2) l ≡ 2 ^ length l
two_rows [] = refl
two_rows (t ∷ l) = ap₂ (λ (a b : ℕ). a * b) (two_choices t) (two_rows l) ∙ mul_comm 2 (2 ^ length l) ∙ sym (pow-suc 2 (length l))
