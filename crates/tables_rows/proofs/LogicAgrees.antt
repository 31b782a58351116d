-- The link to the logic: by rows and by truth table of formulas' trees are the logic's own. One fact on rows serves both, `embedded`.
use Prim.Native.Nat.{ℕ, zero, suc, ◌+◌, ◌*◌, ◌^◌, ◌≤◌, ◌<◌}
use mathlib.Core.Path.{◌≡◌, refl, ap, ap₂, sym, ◌∙◌, subst, fun_ext}
use mathlib.Core.List.{List, [], ◌∷◌, ◌++◌, map}
use mathlib.Core.Bool.{Bool, true, false, cond, not, ◌&&◌, ◌||◌}
use native.Mathlib.Omega.{arith}
use native.Mathlib.Nat.{pow-suc, pow-le-pow_right, mul_comm, mod-lt}
use native.Mathlib.Decide.{ℕ_discrete}
use lib.ListN.{length}
use lib.Dec.{T, eqb, ltb, leb, ltb→lt, leb→le, le→leb}
use borrow.Author.Tests.{le-ltb, leb-false}
use Rattle.semantics.specs.Base.{all}
use Rattle.semantics.specs.Code
use Rattle.semantics.specs.Code.{byte}
use Rattle.semantics.specs.Eval.{Env, value, test, bounded}
use Rattle.semantics.specs.Formula.{Formula, Value, Test, Assertion, Formula.const, Formula.reg, Formula.word, Formula.sum, Formula.equal, Formula.less, Formula.and, Formula.or, Formula.unsync, Formula.cov, Formula.sees, Formula.both_a, Formula.either_a, Formula.start, Formula.holds}
use Rattle.semantics.specs.Limits
use Rattle.semantics.specs.Names.{Name, n_reg, n_word, n_unsync, n_cov, Name-discrete, names}
use Rattle.logic.specs.Rows.{choose, is_in, distinct, all_below, all_rows, row_count, every_row, same_name, meaning, choices, entailed_by_rows}
use Rattle.logic.specs.Table
use Rattle.logic.specs.Table.{Imp, Leaf, l_assertion, l_test, same_leaf, in_row, imp_row, entailed_by_table}
use Rattle.semantics.proofs.Base.{bool_ext, is_true, and_left, and_right}
use Rattle.formula.specs.Codes.{member}
use Rattle.formula.specs.Tree.{Tree, none, node}
use Rattle.formula_compare.specs.Same.{same_tree}
use Rattle.formula_trees.specs.ToTree.{to_tree}
use Rattle.formula_trees.proofs.TreeAgree.{to_tree_same, tree_eq, tree_refl}
use Rattle.tables_columns.specs.Gather.{leaves_t}
use Rattle.tables_columns.specs.Count.{choices_by, choices_t}
use Rattle.tables_columns.specs.Combine.{sum_of, combine}
use Rattle.tables_columns.proofs.CombineBranches.{sum_modulo}
use Rattle.tables_digits.specs.ValueColumn.{value_t}
use Rattle.tables_rows.specs.Entailment.{ImpT, imp_t, entails_t, leaves_all}
use Rattle.tables_bits.specs.TruthTable.{by_leaves}
use Rattle.tables_rows.specs.ByRows.{by_names, rows_t, table_t}
use Rattle.tables_rows.proofs.DistinctLeaves.{choices_two, two_choices}
use Rattle.tables_rows.proofs.ChoicesTried.{below_same}

map_join : {A B : Type 0} (g : A → B) (l m : List A) → map g (l ++ m) ≡ map g l ++ map g m
map_join g [] m = refl
map_join g (x ∷ l) m = ap (λ (k : List _). g x ∷ k) (map_join g l m)

join_none : {A : Type 0} (l : List A) → l ++ [] ≡ l
join_none [] = refl
join_none (x ∷ l) = ap (λ (k : List _). x ∷ k) (join_none l)

-- only rows whose values are below their choices are tried
module _ {K : Type 0} (eq : K → K → Bool) (equal : (a b : K) → T (eq a b) → a ≡ b) (c : K → ℕ) where
  abbrev Below : (K → ℕ) → Type 0
  Below ν = (k : K) → ν k < c k

  chosen_below : (ν : K → ℕ) (n : K) (v : ℕ) → Below ν → v < c n → Below (choose eq ν n v)
  unfolding choose
  chosen_below ν n v small h k = go (eq k n) refl
    where
      go : (b : Bool) → eq k n ≡ b → cond b v (ν k) < c k
      go true e = let q : c k ≡ c n = ap c (equal k n (is_true e)) in omega arith
      go false e = small k

  rows_below : (f g : (K → ℕ) → Bool) → ((ν : K → ℕ) → Below ν → f ν ≡ g ν) → (l : List K) (ν : K → ℕ) → Below ν
      → all_rows eq c l f ν ≡ all_rows eq c l g ν
  rows_below f g say [] ν small = say ν small
  rows_below f g say (n ∷ l) ν small =
      below_same (c n) (λ v. all_rows eq c l f (choose eq ν n v)) (λ v. all_rows eq c l g (choose eq ν n v))
      (λ v h. rows_below f g say l (choose eq ν n v) (chosen_below ν n v small h))

-- keys that stand for others, one for one: what is counted and tried over the ones is over the others
module _ {K L : Type 0} (eqK : K → K → Bool) (eqL : L → L → Bool) (g : K → L) (alike : (a b : K) → eqL (g a) (g b) ≡ eqK a b) where
  in_map : (m : K) (l : List K) → is_in eqL (g m) (map g l) ≡ is_in eqK m l
  unfolding is_in
  in_map m [] = refl
  in_map m (n ∷ l) = ap₂ (λ (a b : Bool). a || b) (alike m n) (in_map m l)

  distinct_map : (l : List K) → distinct eqL (map g l) ≡ map g (distinct eqK l)
  unfolding distinct
  distinct_map [] = refl
  distinct_map (n ∷ l) = ap₂ (λ (b : Bool) (k : List L). cond b k (g n ∷ k)) (in_map n l) (distinct_map l) ∙ go (is_in eqK n l)
    where
      go : (b : Bool) → cond b (map g (distinct eqK l)) (g n ∷ map g (distinct eqK l)) ≡ map g
          (cond b (distinct eqK l) (n ∷ distinct eqK l))
      go true = refl
      go false = refl

  module _ (cK : K → ℕ) (cL : L → ℕ) (as_many : (k : K) → cL (g k) ≡ cK k) where
    count_map : (l : List K) → row_count eqL cL (map g l) ≡ row_count eqK cK l
    count_map [] = refl
    count_map (n ∷ l) = ap₂ (λ (a b : ℕ). a * b) (as_many n) (count_map l)

    module _ (f : (L → ℕ) → Bool) (h : (K → ℕ) → Bool) (say : (ν : L → ℕ) → f ν ≡ h (λ k. ν (g k))) where
      rows_map : (l : List K) (ν : L → ℕ) → all_rows eqL cL (map g l) f ν ≡ all_rows eqK cK l h (λ k. ν (g k))
      unfolding choose
      rows_map [] ν = say ν
      rows_map (n ∷ l) ν =
          ap₂ all_below (as_many n)
          (fun_ext (λ k. rows_map l (choose eqL ν (g n) k)
          ∙ ap (all_rows eqK cK l h) (fun_ext (λ m. ap (λ (b : Bool). cond b k (ν (g m))) (alike m n)))))

      pub embedded : (l : List K) → every_row eqL cL (map g l) f ≡ every_row eqK cK l h
      embedded l = ap (λ (k : List L). all_rows eqL cL k f (λ x. 0)) (distinct_map l) ∙ rows_map (distinct eqK l) (λ x. 0)

    pub embedded_count : (l : List K) → row_count eqL cL (distinct eqL (map g l)) ≡ row_count eqK cK (distinct eqK l)
    embedded_count l = ap (row_count eqL cL) (distinct_map l) ∙ count_map (distinct eqK l)

-- names and their trees
name_to_tree : Name → Tree
name_to_tree (n_reg r) = node (byte Code.reg) r none none
name_to_tree (n_word x) = node (byte Code.word) x none none
name_to_tree (n_unsync x) = node (byte Code.unsync) x none none
name_to_tree (n_cov x) = node (byte Code.cov) x none none

name_of : Tree → Name
name_of none = n_reg 0
name_of (node c o l r) = cond (eqb c (byte Code.reg)) (n_reg o)
    (cond (eqb c (byte Code.word)) (n_word o) (cond (eqb c (byte Code.unsync)) (n_unsync o) (n_cov o)))

name-of : (n : Name) → name_of (name_to_tree n) ≡ n
unfolding name_to_tree name_of
name-of (n_reg r) = refl
name-of (n_word x) = refl
name-of (n_unsync x) = refl
name-of (n_cov x) = refl

name_alike : (m n : Name) → same_tree (name_to_tree m) (name_to_tree n) ≡ same_name m n
unfolding same_name
name_alike m n = go (Name-discrete ℕ_discrete m n)
  where
    go : (d : Dec (m ≡ n)) → same_tree (name_to_tree m) (name_to_tree n) ≡ elim d as (λ x. Bool) [ yes q ↦ true | no q ↦ false ]
    go (yes q) = bool_ext (same_tree (name_to_tree m) (name_to_tree n)) true (λ h. tt)
        (λ h. subst (λ (k : Name). T (same_tree (name_to_tree m) (name_to_tree k))) q (tree_refl (name_to_tree m)))
    go (no q) = bool_ext (same_tree (name_to_tree m) (name_to_tree n)) false
        (λ h. q (sym (name-of m) ∙ ap name_of (tree_eq (name_to_tree m) (name_to_tree n) h) ∙ name-of n)) (λ h. absurd h)

name_choices : (R : ℕ) (n : Name) → choices_t R (name_to_tree n) ≡ choices R n
unfolding choices_t choices_by name_to_tree
name_choices R (n_reg r) = refl
name_choices R (n_word x) = refl
name_choices R (n_unsync x) = refl
name_choices R (n_cov x) = refl

module _ (R : ℕ) where
  abbrev N : ℕ
  N = (by_names R).leaves

  names_value : (a : Value) → leaves_t N (to_tree a) ≡ map name_to_tree (names a)
  unfolding leaves_t member name_to_tree
  names_value (const n) = refl
  names_value (reg r) = refl
  names_value (word x) = refl
  names_value (sum a b) = ap₂ (λ (l m : List Tree). l ++ m) (names_value a) (names_value b) ∙ sym (map_join name_to_tree (names a) (names b))

  names_test : (e : Test) → leaves_t N (to_tree e) ≡ map name_to_tree (names e)
  unfolding leaves_t member name_to_tree
  names_test Formula.false = refl
  names_test (equal a b) = ap₂ (λ (l m : List Tree). l ++ m) (names_value a) (names_value b) ∙ sym (map_join name_to_tree (names a) (names b))
  names_test (less a b) = ap₂ (λ (l m : List Tree). l ++ m) (names_value a) (names_value b) ∙ sym (map_join name_to_tree (names a) (names b))
  names_test (Formula.not e) = ap (λ (l : List Tree). l ++ []) (names_test e) ∙ join_none (map name_to_tree (names e))
  names_test (and e f) = ap₂ (λ (l m : List Tree). l ++ m) (names_test e) (names_test f) ∙ sym (map_join name_to_tree (names e) (names f))
  names_test (or e f) = ap₂ (λ (l m : List Tree). l ++ m) (names_test e) (names_test f) ∙ sym (map_join name_to_tree (names e) (names f))
  names_test (unsync x) = refl
  names_test (cov x) = refl

-- tests by their numbers: 1 for true
bit : (b : Bool) → eqb (cond {A = ℕ} b 1 0) 1 ≡ b
bit true = refl
bit false = refl

bit_not : (b : Bool) → eqb (cond {A = ℕ} b 0 1) 1 ≡ not b
bit_not true = refl
bit_not false = refl

bit-and : (b : Bool) (n : ℕ) → eqb (cond b n 0) 1 ≡ (b && eqb n 1)
bit-and true n = refl
bit-and false n = refl

bit-or : (b : Bool) (n : ℕ) → eqb (cond b 1 n) 1 ≡ (b || eqb n 1)
bit-or true n = refl
bit-or false n = refl

-- values below the choices, and constants below the range
module _ (R : ℕ) (ν : Tree → ℕ) (small : (u : Tree) → ν u < choices_t R u) where
  abbrev ρ : Env
  ρ = meaning (λ n. ν (name_to_tree n))

  abbrev v : Tree → ℕ
  v = value_t (by_names R) ν

  value_below : (a : Value) → T (bounded R a) → value R ρ a < R
  unfolding name_to_tree choices_t choices_by
  value_below (const n) h = ltb→lt n R h
  value_below (reg r) h = small (name_to_tree (n_reg r))
  value_below (word x) h = small (name_to_tree (n_word x))
  value_below (sum a b) h = mod-lt (value R ρ a + value R ρ b) (let s = small (name_to_tree (n_reg 0)) in omega arith)

  to_tree_value : (a : Value) → T (bounded R a) → v (to_tree a) ≡ value R ρ a
  unfolding value_t combine member name_to_tree
  to_tree_value (const n) h = refl
  to_tree_value (reg r) h = refl
  to_tree_value (word x) h = refl
  to_tree_value (sum a b) h =
      ap₂ (sum_of R) (to_tree_value a (search and_left)) (to_tree_value b (search and_right))
      ∙ sum_modulo R (value R ρ a) (value R ρ b) (value_below a (search and_left)) (value_below b (search and_right))

  to_tree_test : (e : Test) → T (bounded R e) → eqb (v (to_tree e)) 1 ≡ test R ρ e
  unfolding value_t combine member name_to_tree
  to_tree_test Formula.false h = refl
  to_tree_test (equal a b) h = bit (eqb (v (to_tree a)) (v (to_tree b)))
      ∙ ap₂ eqb (to_tree_value a (search and_left)) (to_tree_value b (search and_right))
  to_tree_test (less a b) h = bit (ltb (v (to_tree a)) (v (to_tree b)))
      ∙ ap₂ ltb (to_tree_value a (search and_left)) (to_tree_value b (search and_right))
  to_tree_test (Formula.not e) h = bit_not (eqb (v (to_tree e)) 1) ∙ ap not (to_tree_test e h)
  to_tree_test (and e f) h = bit-and (eqb (v (to_tree e)) 1) (v (to_tree f))
      ∙ ap₂ (λ (a b : Bool). a && b) (to_tree_test e (search and_left)) (to_tree_test f (search and_right))
  to_tree_test (or e f) h = bit-or (eqb (v (to_tree e)) 1) (v (to_tree f))
      ∙ ap₂ (λ (a b : Bool). a || b) (to_tree_test e (search and_left)) (to_tree_test f (search and_right))
  to_tree_test (unsync x) h = refl
  to_tree_test (cov x) h = refl

pub to_tree_rows : (R : ℕ) → 2 ≤ R → (e f : Test) → T (bounded R e) → T (bounded R f) → rows_t R (to_tree e) (to_tree f) ≡ entailed_by_rows R e f
unfolding rows_t
to_tree_rows R two e f he hf =
    rw (le-ltb R 2 two)
    (ap₂ (λ (a b : Bool). a && b)
    (ap (λ (l : List Tree). leb (row_count same_tree (choices_t R) (distinct same_tree l)) Limits.rows) listed
    ∙ ap (λ (n : ℕ). leb n Limits.rows) (embedded_count same_name same_tree name_to_tree name_alike (choices R) (choices_t R) (name_choices R)
    (names e ++ names f)))
    (ap (λ (l : List Tree). every_row same_tree (choices_t R) l (entails_t (by_names R) [] c)) listed
    ∙ rows_below same_tree tree_eq (choices_t R) (entails_t (by_names R) [] c) plainly said
    (distinct same_tree (map name_to_tree (names e ++ names f))) (λ u. 0) (λ u. omega (arith, choices_two R two u))
    ∙ embedded same_name same_tree name_to_tree name_alike (choices R) (choices_t R) (name_choices R) plainly
    (λ ν. not (test R (meaning ν) e) || test R (meaning ν) f) (λ ν. refl) (names e ++ names f)))
  where
    -- the two tests, read plainly
    plainly : (Tree → ℕ) → Bool
    plainly ν = not (test R (meaning (λ n. ν (name_to_tree n))) e) || test R (meaning (λ n. ν (name_to_tree n))) f

    c : ImpT
    c = record { left = to_tree e; right = to_tree f }

    said : (ν : Tree → ℕ) → ((u : Tree) → ν u < choices_t R u) → entails_t (by_names R) [] c ν ≡ plainly ν
    said ν small = ap₂ (λ (a b : Bool). not a || b) (to_tree_test R ν small e he) (to_tree_test R ν small f hf)

    listed : leaves_all (by_names R).leaves (c ∷ []) ≡ map name_to_tree (names e ++ names f)
    listed = join_none (leaves_t (by_names R).leaves (to_tree e) ++ leaves_t (by_names R).leaves (to_tree f))
        ∙ ap₂ (λ (l m : List Tree). l ++ m) (names_test R e) (names_test R f) ∙ sym (map_join name_to_tree (names e) (names f))

-- leaves and their trees
leaf_to_tree : Leaf → Tree
leaf_to_tree (l_assertion a) = to_tree a
leaf_to_tree (l_test e) = to_tree e

-- an assertion's code is above a test's
code_of : Tree → ℕ
code_of none = 0
code_of (node c o l r) = c

assertion_code : (a : Assertion) → 24 ≤ code_of (to_tree a)
unfolding code_of
assertion_code (sees t i) = omega arith
assertion_code (both_a a b) = omega arith
assertion_code (either_a a b) = omega arith
assertion_code start = omega arith
assertion_code (holds e) = omega arith

test_code : (e : Test) → code_of (to_tree e) < 24
unfolding code_of
test_code Formula.false = omega arith
test_code (equal a b) = omega arith
test_code (less a b) = omega arith
test_code (Formula.not e) = omega arith
test_code (and e f) = omega arith
test_code (or e f) = omega arith
test_code (unsync x) = omega arith
test_code (cov x) = omega arith

leaf_alike : (a b : Leaf) → same_tree (leaf_to_tree a) (leaf_to_tree b) ≡ same_leaf a b
unfolding same_leaf leaf_to_tree
leaf_alike (l_assertion a) (l_assertion b) = to_tree_same a b
leaf_alike (l_assertion a) (l_test f) =
    bool_ext (same_tree (to_tree a) (to_tree f)) false
    (λ h. let e = ap code_of (tree_eq (to_tree a) (to_tree f) h) in omega (arith, assertion_code a, test_code f)) (λ h. absurd h)
leaf_alike (l_test e) (l_assertion b) =
    bool_ext (same_tree (to_tree e) (to_tree b)) false
    (λ h. let d = ap code_of (tree_eq (to_tree e) (to_tree b) h) in omega (arith, assertion_code b, test_code e)) (λ h. absurd h)
leaf_alike (l_test e) (l_test f) = to_tree_same e f

abbrev C : ℕ
C = by_leaves.leaves

leaves_test : (e : Test) → leaves_t C (to_tree e) ≡ map leaf_to_tree (Table.leaves_t e)
unfolding leaves_t member leaf_to_tree
leaves_test Formula.false = refl
leaves_test (equal a b) = refl
leaves_test (less a b) = refl
leaves_test (Formula.not e) = ap (λ (l : List Tree). l ++ []) (leaves_test e) ∙ join_none (map leaf_to_tree (Table.leaves_t e))
leaves_test (and e f) = ap₂ (λ (l m : List Tree). l ++ m) (leaves_test e) (leaves_test f)
    ∙ sym (map_join leaf_to_tree (Table.leaves_t e) (Table.leaves_t f))
leaves_test (or e f) = ap₂ (λ (l m : List Tree). l ++ m) (leaves_test e) (leaves_test f)
    ∙ sym (map_join leaf_to_tree (Table.leaves_t e) (Table.leaves_t f))
leaves_test (unsync x) = refl
leaves_test (cov x) = refl

leaves_assertion : (a : Assertion) → leaves_t C (to_tree a) ≡ map leaf_to_tree (Table.leaves a)
unfolding leaves_t member leaf_to_tree
leaves_assertion (sees t i) = refl
leaves_assertion (both_a a b) = ap₂ (λ (l m : List Tree). l ++ m) (leaves_assertion a) (leaves_assertion b)
    ∙ sym (map_join leaf_to_tree (Table.leaves a) (Table.leaves b))
leaves_assertion (either_a a b) = ap₂ (λ (l m : List Tree). l ++ m) (leaves_assertion a) (leaves_assertion b)
    ∙ sym (map_join leaf_to_tree (Table.leaves a) (Table.leaves b))
leaves_assertion start = refl
leaves_assertion (holds e) = ap (λ (l : List Tree). l ++ []) (leaves_test e) ∙ join_none (map leaf_to_tree (Table.leaves_t e))

abbrev pub imp_to_tree : Imp → ImpT
imp_to_tree p = record { left = to_tree p.left; right = to_tree p.right }

leaves_all_lem : (ps : List Imp) → leaves_all C (map imp_to_tree ps) ≡ map leaf_to_tree (Table.leaves_all ps)
leaves_all_lem [] = refl
leaves_all_lem (p ∷ ps) =
    ap₂ (λ (l m : List Tree). l ++ m)
    (ap₂ (λ (l m : List Tree). l ++ m) (leaves_assertion p.left) (leaves_assertion p.right)
    ∙ sym (map_join leaf_to_tree (Table.leaves p.left) (Table.leaves p.right)))
    (leaves_all_lem ps)
    ∙ sym (map_join leaf_to_tree (Table.leaves p.left ++ Table.leaves p.right) (Table.leaves_all ps))

module _ (ν : Tree → ℕ) where
  abbrev at : Leaf → ℕ
  at l = ν (leaf_to_tree l)

  abbrev tv : Tree → ℕ
  tv = value_t by_leaves ν

  table_test : (e : Test) → eqb (tv (to_tree e)) 1 ≡ Table.table_t (λ e. eqb (at (l_test e)) 1) e
  unfolding value_t combine member leaf_to_tree
  table_test Formula.false = refl
  table_test (equal a b) = refl
  table_test (less a b) = refl
  table_test (Formula.not e) = bit_not (eqb (tv (to_tree e)) 1) ∙ ap not (table_test e)
  table_test (and e f) = bit-and (eqb (tv (to_tree e)) 1) (tv (to_tree f)) ∙ ap₂ (λ (a b : Bool). a && b) (table_test e) (table_test f)
  table_test (or e f) = bit-or (eqb (tv (to_tree e)) 1) (tv (to_tree f)) ∙ ap₂ (λ (a b : Bool). a || b) (table_test e) (table_test f)
  table_test (unsync x) = refl
  table_test (cov x) = refl

  table_assertion : (a : Assertion) → eqb (tv (to_tree a)) 1 ≡ in_row at a
  unfolding value_t combine member leaf_to_tree
  table_assertion (sees t i) = refl
  table_assertion (both_a a b) = bit-and (eqb (tv (to_tree a)) 1) (tv (to_tree b))
      ∙ ap₂ (λ (a b : Bool). a && b) (table_assertion a) (table_assertion b)
  table_assertion (either_a a b) = bit-or (eqb (tv (to_tree a)) 1) (tv (to_tree b))
      ∙ ap₂ (λ (a b : Bool). a || b) (table_assertion a) (table_assertion b)
  table_assertion start = refl
  table_assertion (holds e) = table_test e

  table_imp : (p : Imp) → imp_t by_leaves ν (imp_to_tree p) ≡ imp_row at p
  table_imp p = ap₂ (λ (a b : Bool). not a || b) (table_assertion p.left) (table_assertion p.right)

  table_all : (ps : List Imp) → all (imp_t by_leaves ν) (map imp_to_tree ps) ≡ all (imp_row at) ps
  table_all [] = refl
  table_all (p ∷ ps) = ap₂ (λ (a b : Bool). a && b) (table_imp p) (table_all ps)

-- ten leaves of two choices each: so many rows
module _ {K : Type 0} (eq : K → K → Bool) where
  power : (l : List K) → row_count eq (λ k. 2) l ≡ 2 ^ length l
  power [] = refl
  power (k ∷ l) = ap (λ (n : ℕ). 2 * n) (power l) ∙ mul_comm 2 (2 ^ length l) ∙ sym (pow-suc 2 (length l))

power_limit : (n m : ℕ) → leb (2 ^ n) (2 ^ m) ≡ leb n m
power_limit n m = bool_ext (leb (2 ^ n) (2 ^ m)) (leb n m) (λ h. go (leb n m) refl (leb→le (2 ^ n) (2 ^ m) h))
    (λ h. le→leb (2 ^ n) (2 ^ m) (pow-le-pow_right (omega arith) (leb→le n m h)))
  where
    positive : (m : ℕ) → 1 ≤ 2 ^ m
    positive zero = omega arith
    positive (suc m) = omega (arith, pow-suc 2 m, positive m)

    go : (b : Bool) → leb n m ≡ b → 2 ^ n ≤ 2 ^ m → T b
    go true e h = tt
    go false e h =
        let k : suc m ≤ n = leb-false n m e in
        let p : 2 ^ suc m ≤ 2 ^ n = pow-le-pow_right (omega arith) k in
        omega (arith, pow-suc 2 m, positive m)

pub to_tree_table : (ps : List Imp) (c : Imp) → table_t (map imp_to_tree ps) (imp_to_tree c) ≡ entailed_by_table ps c
unfolding table_t
to_tree_table ps c =
    ap₂ (λ (a b : Bool). a && b)
    (ap (λ (l : List Tree). leb (row_count same_tree (choices_t 2) (distinct same_tree l)) (2 ^ Limits.leaves)) (leaves_all_lem (c ∷ ps))
    ∙ ap (λ (n : ℕ). leb n (2 ^ Limits.leaves)) (embedded_count same_leaf same_tree leaf_to_tree leaf_alike (λ l. 2) (choices_t 2)
    (λ l. two_choices (leaf_to_tree l)) (Table.leaves_all (c ∷ ps)) ∙ power same_leaf (distinct same_leaf (Table.leaves_all (c ∷ ps))))
    ∙ power_limit (length (distinct same_leaf (Table.leaves_all (c ∷ ps)))) Limits.leaves)
    (ap (λ (l : List Tree). every_row same_tree (choices_t 2) l (entails_t by_leaves (map imp_to_tree ps) (imp_to_tree c))) (leaves_all_lem (c ∷ ps))
    ∙ embedded same_leaf same_tree leaf_to_tree leaf_alike (λ l. 2) (choices_t 2) (λ l. two_choices (leaf_to_tree l))
    (entails_t by_leaves (map imp_to_tree ps) (imp_to_tree c)) (λ ν. not (all (imp_row ν) ps) || imp_row ν c)
    (λ ν. ap₂ (λ (a b : Bool). not a || b) (table_all ν ps) (table_imp ν c)) (Table.leaves_all (c ∷ ps)))
