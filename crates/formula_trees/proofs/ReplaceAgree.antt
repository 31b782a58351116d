-- Replacement in trees is replacement in formulas, whatever the sort.
use mathlib.Core.Path.{◌≡◌, refl, ap, ap₂, ◌∙◌}
use mathlib.Core.Bool.{Bool, true, false, cond}
use mathlib.Core.List.{List, [], ◌∷◌, map}
use Prim.Native.Nat.{ℕ}
use lib.Dec.{eqb}
use Rattle.semantics.specs.Base.{upd}
use Rattle.semantics.specs.Code
use Rattle.semantics.specs.Code.{byte}
use Rattle.semantics.specs.Formula.{Sort, Formula, Value, Formula.const, Formula.reg, Formula.word, Formula.sum, Formula.equal, Formula.less, Formula.and, Formula.or, Formula.unsync, Formula.cov, Formula.box, Formula.one, Formula.chop, Formula.both, Formula.either, Formula.sees, Formula.both_a, Formula.either_a, Formula.start, Formula.holds}
use Rattle.semantics.specs.Replace.{Note, Sub, replace, noted, notes, reg_by, word_by}
use Rattle.formula.specs.Tree.{Tree, none, node}
use Rattle.formula_compare.specs.declared.replace.Name.TheVariants as Name
use Rattle.formula_compare.specs.Replace.{is_name, replace_t, is_named, one_name, named}
use Rattle.formula_trees.specs.ToTree.{to_tree, note_t}

-- τ stands for the trees of what σ puts for each name
module _ (τ : ℕ → ℕ → Tree) (σ : Sub) (on-reg : (r : ℕ) → τ (byte Code.reg) r ≡ to_tree (σ.reg r))
    (on_word : (x : ℕ) → τ (byte Code.word) x ≡ to_tree (σ.word x)) where
  pub replaced : {s : Sort} (f : Formula s) → replace_t τ (to_tree f) ≡ to_tree (replace σ f)
  unfolding replace_t is_name
  replaced (const n) = refl
  replaced (reg n) = on-reg n
  replaced (word n) = on_word n
  replaced (sum f g) = ap₂ (node (byte Code.sum) 0) (replaced f) (replaced g)
  replaced Formula.false = refl
  replaced (equal f g) = ap₂ (node (byte Code.equal) 0) (replaced f) (replaced g)
  replaced (less f g) = ap₂ (node (byte Code.less) 0) (replaced f) (replaced g)
  replaced (Formula.not f) = ap (λ t. node (byte Code.not) 0 t none) (replaced f)
  replaced (and f g) = ap₂ (node (byte Code.and) 0) (replaced f) (replaced g)
  replaced (or f g) = ap₂ (node (byte Code.or) 0) (replaced f) (replaced g)
  replaced (unsync n) = refl
  replaced (cov n) = refl
  replaced (box f) = ap (λ t. node (byte Code.box) 0 t none) (replaced f)
  replaced (one n) = refl
  replaced (chop f g) = ap₂ (node (byte Code.chop) 0) (replaced f) (replaced g)
  replaced (both f g) = ap₂ (node (byte Code.both) 0) (replaced f) (replaced g)
  replaced (either f g) = ap₂ (node (byte Code.either) 0) (replaced f) (replaced g)
  replaced (sees n f) = ap (λ t. node (byte Code.sees) n t none) (replaced f)
  replaced (both_a f g) = ap₂ (node (byte Code.both_a) 0) (replaced f) (replaced g)
  replaced (either_a f g) = ap₂ (node (byte Code.either_a) 0) (replaced f) (replaced g)
  replaced start = refl
  replaced (holds f) = ap (λ t. node (byte Code.holds) 0 t none) (replaced f)

to_tree_if : (b : Bool) (v w : Value) → cond b (to_tree v) (to_tree w) ≡ to_tree (cond b v w)
to_tree_if true v w = refl
to_tree_if false v w = refl

-- a register by a value; a word by a value
pub to_tree_reg : (r : ℕ) {s : Sort} (v : Value) (f : Formula s)
    → replace_t (one_name (Name.Register r) (to_tree v)) (to_tree f) ≡ to_tree (replace (reg_by r v) f)
unfolding one_name is_named upd
to_tree_reg r v f = replaced (one_name (Name.Register r) (to_tree v)) (reg_by r v) (λ q. to_tree_if (eqb q r) v (reg q)) (λ x. refl) f

pub to_tree_word : (x : ℕ) {s : Sort} (v : Value) (f : Formula s)
    → replace_t (one_name (Name.Word x) (to_tree v)) (to_tree f) ≡ to_tree (replace (word_by x v) f)
unfolding one_name is_named upd
to_tree_word x v f = replaced (one_name (Name.Word x) (to_tree v)) (word_by x v) (λ r. refl) (λ y. to_tree_if (eqb y x) v (word y)) f

-- several registers at once
noted_reg : (ns : List Note) (q : ℕ) → named (map note_t ns) (byte Code.reg) q ≡ to_tree (noted ns q)
unfolding is_named upd
noted_reg [] q = refl
noted_reg (n ∷ l) q = ap (cond (eqb q n.to) (to_tree n.by)) (noted_reg l q) ∙ to_tree_if (eqb q n.to) n.by (noted l q)

noted_word : (ns : List Note) (x : ℕ) → named (map note_t ns) (byte Code.word) x ≡ to_tree (word x)
unfolding is_named
noted_word [] x = refl
noted_word (n ∷ l) x = noted_word l x

pub to_tree_notes : (ns : List Note) {s : Sort} (f : Formula s) → replace_t (named (map note_t ns)) (to_tree f) ≡ to_tree (replace (notes ns) f)
to_tree_notes ns f = replaced (named (map note_t ns)) (notes ns) (noted_reg ns) (noted_word ns) f
