-- What does not occur in a formula's tree: the names that a formula may not have, whatever the sort; start.
use mathlib.Core.Path.{◌≡◌, refl, ap, sym, ◌∙◌}
use mathlib.Core.Bool.{Bool, true, false, not, ◌&&◌, cond}
use mathlib.Core.List.{List, [], ◌∷◌, ◌++◌}
use Prim.Native.Nat.{ℕ}
use lib.Dec.{eqb}
use Rattle.semantics.specs.Base.{all}
use Rattle.semantics.specs.Code
use Rattle.semantics.specs.Code.{byte}
use Rattle.semantics.specs.Formula.{Sort, Formula, Value, Test, Interval, Assertion, Formula.const, Formula.reg, Formula.word, Formula.sum, Formula.equal, Formula.less, Formula.and, Formula.or, Formula.unsync, Formula.cov, Formula.box, Formula.one, Formula.chop, Formula.both, Formula.either, Formula.sees, Formula.both_a, Formula.either_a, Formula.start, Formula.holds}
use Rattle.semantics.specs.Names.{Name, n_reg, n_word, n_unsync, n_cov, names, only, not_reg, not_word, not_flag, is_reg, startless}
use Rattle.formula.specs.Codes.{member}
use Rattle.formula.specs.Tree.{none, node}
use Rattle.formula_compare.specs.Occurs
use Rattle.formula_compare.specs.Occurs.{is_queried, occurs, register, word_any_role, flag, shared}
use Rattle.formula_compare.specs.declared.occurs.Query.{Query}
use Rattle.formula_trees.specs.ToTree.{to_tree}

pub all_join : (ok : Name → Bool) (l m : List Name) → all ok (l ++ m) ≡ all ok l && all ok m
all_join ok [] m = refl
all_join ok (n ∷ l) m = ap (λ b. ok n && b) (all_join ok l m) ∙ assoc (ok n) (all ok l) (all ok m)
  where
    assoc : (a b c : Bool) → (a && (b && c)) ≡ ((a && b) && c)
    assoc true b c = refl
    assoc false b c = refl

-- what is sought are the names that do not pass, each in its role
pub record Is (w : Query) (owners : List ℕ) (ok : Name → Bool) : Type 0 where
  pub const : (n : ℕ) → is_queried w owners (byte Code.const) n ≡ false
  pub reg : (n : ℕ) → is_queried w owners (byte Code.reg) n ≡ not (ok (n_reg n))
  pub word : (n : ℕ) → is_queried w owners (byte Code.word) n ≡ not (ok (n_word n))
  pub sum : is_queried w owners (byte Code.sum) 0 ≡ false
  pub falsehood : is_queried w owners (byte Code.false) 0 ≡ false
  pub equal : is_queried w owners (byte Code.equal) 0 ≡ false
  pub less : is_queried w owners (byte Code.less) 0 ≡ false
  pub negation : is_queried w owners (byte Code.not) 0 ≡ false
  pub and : is_queried w owners (byte Code.and) 0 ≡ false
  pub or : is_queried w owners (byte Code.or) 0 ≡ false
  pub unsync : (n : ℕ) → is_queried w owners (byte Code.unsync) n ≡ not (ok (n_unsync n))
  pub cov : (n : ℕ) → is_queried w owners (byte Code.cov) n ≡ not (ok (n_cov n))
  pub box : is_queried w owners (byte Code.box) 0 ≡ false
  pub one : (n : ℕ) → is_queried w owners (byte Code.one) n ≡ not (ok (n_word n))
  pub chop : is_queried w owners (byte Code.chop) 0 ≡ false
  pub both : is_queried w owners (byte Code.both) 0 ≡ false
  pub either : is_queried w owners (byte Code.either) 0 ≡ false
  pub sees : (n : ℕ) → is_queried w owners (byte Code.sees) n ≡ false
  pub both_a : is_queried w owners (byte Code.both_a) 0 ≡ false
  pub either_a : is_queried w owners (byte Code.either_a) 0 ≡ false
  pub start : is_queried w owners (byte Code.start) 0 ≡ false
  pub holds : is_queried w owners (byte Code.holds) 0 ≡ false

leaf_name : (a b : Bool) → a ≡ not b → cond a true (cond false true false) ≡ not (b && true)
leaf_name a true e = rw e
leaf_name a false e = rw e

leaf_other : (a : Bool) → a ≡ false → cond a true (cond false true false) ≡ not true
leaf_other a e = rw e

one-part : (a b c : Bool) → a ≡ false → b ≡ not c → cond a true (cond b true false) ≡ not c
one-part a b true e d = rw (e, d)
one-part a b false e d = rw (e, d)

two-parts : (a b c d e : Bool) → a ≡ false → b ≡ not d → c ≡ not e → cond a true (cond b true c) ≡ not (d && e)
two-parts a b c true e p q r = rw (p, q, r)
two-parts a b c false e p q r = rw (p, q)

module _ (w : Query) (owners : List ℕ) (ok : Name → Bool) (is : Is w owners ok) where
  part : {r : Sort} (c n : ℕ) (f : Formula r) → is_queried w owners c n ≡ false → occurs w owners (to_tree f) ≡ not (only ok f)
      → occurs w owners (node c n (to_tree f) none) ≡ not (only ok f)
  unfolding occurs
  part c n f e h = one-part (is_queried w owners c n) (occurs w owners (to_tree f)) (only ok f) e h

  parts : {r : Sort} (c : ℕ) (f g : Formula r) → is_queried w owners c 0 ≡ false → occurs w owners (to_tree f) ≡ not (only ok f)
      → occurs w owners (to_tree g) ≡ not (only ok g)
      → occurs w owners (node c 0 (to_tree f) (to_tree g)) ≡ not (all ok (names f ++ names g))
  unfolding occurs
  parts c f g e h k =
      two-parts (is_queried w owners c 0) (occurs w owners (to_tree f)) (occurs w owners (to_tree g)) (only ok f) (only ok g) e h k
      ∙ ap not (sym (all_join ok (names f) (names g)))

  pub absent : {s : Sort} (f : Formula s) → occurs w owners (to_tree f) ≡ not (only ok f)
  unfolding occurs
  absent (const n) = leaf_other (is_queried w owners (byte Code.const) n) (is.const n)
  absent (reg n) = leaf_name (is_queried w owners (byte Code.reg) n) (ok (n_reg n)) (is.reg n)
  absent (word n) = leaf_name (is_queried w owners (byte Code.word) n) (ok (n_word n)) (is.word n)
  absent (sum f g) = parts (byte Code.sum) f g is.sum (absent f) (absent g)
  absent Formula.false = leaf_other (is_queried w owners (byte Code.false) 0) is.falsehood
  absent (equal f g) = parts (byte Code.equal) f g is.equal (absent f) (absent g)
  absent (less f g) = parts (byte Code.less) f g is.less (absent f) (absent g)
  absent (Formula.not f) = part (byte Code.not) 0 f is.negation (absent f)
  absent (and f g) = parts (byte Code.and) f g is.and (absent f) (absent g)
  absent (or f g) = parts (byte Code.or) f g is.or (absent f) (absent g)
  absent (unsync n) = leaf_name (is_queried w owners (byte Code.unsync) n) (ok (n_unsync n)) (is.unsync n)
  absent (cov n) = leaf_name (is_queried w owners (byte Code.cov) n) (ok (n_cov n)) (is.cov n)
  absent (box f) = part (byte Code.box) 0 f is.box (absent f)
  absent (one n) = leaf_name (is_queried w owners (byte Code.one) n) (ok (n_word n)) (is.one n)
  absent (chop f g) = parts (byte Code.chop) f g is.chop (absent f) (absent g)
  absent (both f g) = parts (byte Code.both) f g is.both (absent f) (absent g)
  absent (either f g) = parts (byte Code.either) f g is.either (absent f) (absent g)
  absent (sees n f) = part (byte Code.sees) n f (is.sees n) (absent f)
  absent (both_a f g) = parts (byte Code.both_a) f g is.both_a (absent f) (absent g)
  absent (either_a f g) = parts (byte Code.either_a) f g is.either_a (absent f) (absent g)
  absent start = leaf_other (is_queried w owners (byte Code.start) 0) is.start
  absent (holds f) = part (byte Code.holds) 0 f is.holds (absent f)

not_not : (b : Bool) → b ≡ not (not b)
not_not true = refl
not_not false = refl

-- the register r; the word x in any role; a flag of x; anything but registers
register_is : (r : ℕ) → Is (register r) [] (not_reg r)
unfolding is_queried member
register_is r = record {
  const = λ n. refl;
  reg = λ n. not_not (eqb n r);
  word = λ n. refl;
  sum = refl;
  falsehood = refl;
  equal = refl;
  less = refl;
  negation = refl;
  and = refl;
  or = refl;
  unsync = λ n. refl;
  cov = λ n. refl;
  box = refl;
  one = λ n. refl;
  chop = refl;
  both = refl;
  either = refl;
  sees = λ n. refl;
  both_a = refl;
  either_a = refl;
  start = refl;
  holds = refl;
}

word_is : (x : ℕ) → Is (word_any_role x) [] (not_word x)
unfolding is_queried member
word_is x = record {
  const = λ n. refl;
  reg = λ n. refl;
  word = λ n. not_not (eqb n x);
  sum = refl;
  falsehood = refl;
  equal = refl;
  less = refl;
  negation = refl;
  and = refl;
  or = refl;
  unsync = λ n. not_not (eqb n x);
  cov = λ n. not_not (eqb n x);
  box = refl;
  one = λ n. not_not (eqb n x);
  chop = refl;
  both = refl;
  either = refl;
  sees = λ n. refl;
  both_a = refl;
  either_a = refl;
  start = refl;
  holds = refl;
}

flag_is : (x : ℕ) → Is (flag x) [] (not_flag x)
unfolding is_queried member
flag_is x = record {
  const = λ n. refl;
  reg = λ n. refl;
  word = λ n. refl;
  sum = refl;
  falsehood = refl;
  equal = refl;
  less = refl;
  negation = refl;
  and = refl;
  or = refl;
  unsync = λ n. not_not (eqb n x);
  cov = λ n. not_not (eqb n x);
  box = refl;
  one = λ n. refl;
  chop = refl;
  both = refl;
  either = refl;
  sees = λ n. refl;
  both_a = refl;
  either_a = refl;
  start = refl;
  holds = refl;
}

shared_is : Is shared [] is_reg
unfolding is_queried member
shared_is = record {
  const = λ n. refl;
  reg = λ n. refl;
  word = λ n. refl;
  sum = refl;
  falsehood = refl;
  equal = refl;
  less = refl;
  negation = refl;
  and = refl;
  or = refl;
  unsync = λ n. refl;
  cov = λ n. refl;
  box = refl;
  one = λ n. refl;
  chop = refl;
  both = refl;
  either = refl;
  sees = λ n. refl;
  both_a = refl;
  either_a = refl;
  start = refl;
  holds = refl;
}

pub no_register : (r : ℕ) {s : Sort} (f : Formula s) → occurs (register r) [] (to_tree f) ≡ not (only (not_reg r) f)
no_register r f = absent (register r) [] (not_reg r) (register_is r) f

pub no_word : (x : ℕ) {s : Sort} (f : Formula s) → occurs (word_any_role x) [] (to_tree f) ≡ not (only (not_word x) f)
no_word x f = absent (word_any_role x) [] (not_word x) (word_is x) f

pub no_flag : (x : ℕ) {s : Sort} (f : Formula s) → occurs (flag x) [] (to_tree f) ≡ not (only (not_flag x) f)
no_flag x f = absent (flag x) [] (not_flag x) (flag_is x) f

pub no_shared : {s : Sort} (f : Formula s) → occurs shared [] (to_tree f) ≡ not (only is_reg f)
no_shared f = absent shared [] is_reg shared_is f

-- start: in assertions only
neither : (a b : Bool) → a ≡ false → b ≡ false → cond a true b ≡ false
neither a b e d = rw (e, d)

pub no_start_value : (f : Value) → occurs Occurs.start [] (to_tree f) ≡ false
unfolding occurs is_queried member
no_start_value (const n) = refl
no_start_value (reg n) = refl
no_start_value (word n) = refl
no_start_value (sum f g) = neither (occurs Occurs.start [] (to_tree f)) (occurs Occurs.start [] (to_tree g)) (no_start_value f)
    (no_start_value g)

pub no_start_test : (f : Test) → occurs Occurs.start [] (to_tree f) ≡ false
unfolding occurs is_queried member
no_start_test Formula.false = refl
no_start_test (equal f g) = neither (occurs Occurs.start [] (to_tree f)) (occurs Occurs.start [] (to_tree g)) (no_start_value f)
    (no_start_value g)
no_start_test (less f g) = neither (occurs Occurs.start [] (to_tree f)) (occurs Occurs.start [] (to_tree g)) (no_start_value f)
    (no_start_value g)
no_start_test (Formula.not f) = neither (occurs Occurs.start [] (to_tree f)) false (no_start_test f) refl
no_start_test (and f g) = neither (occurs Occurs.start [] (to_tree f)) (occurs Occurs.start [] (to_tree g)) (no_start_test f)
    (no_start_test g)
no_start_test (or f g) = neither (occurs Occurs.start [] (to_tree f)) (occurs Occurs.start [] (to_tree g)) (no_start_test f) (no_start_test g)
no_start_test (unsync n) = refl
no_start_test (cov n) = refl

pub no_start_interval : (f : Interval) → occurs Occurs.start [] (to_tree f) ≡ false
unfolding occurs is_queried member
no_start_interval (box f) = neither (occurs Occurs.start [] (to_tree f)) false (no_start_test f) refl
no_start_interval (one n) = refl
no_start_interval (chop f g) = neither (occurs Occurs.start [] (to_tree f)) (occurs Occurs.start [] (to_tree g)) (no_start_interval f)
    (no_start_interval g)
no_start_interval (both f g) = neither (occurs Occurs.start [] (to_tree f)) (occurs Occurs.start [] (to_tree g)) (no_start_interval f)
    (no_start_interval g)
no_start_interval (either f g) = neither (occurs Occurs.start [] (to_tree f)) (occurs Occurs.start [] (to_tree g)) (no_start_interval f)
    (no_start_interval g)

either_start : (a b c d : Bool) → a ≡ not c → b ≡ not d → cond a true b ≡ not (c && d)
either_start a b true d e h = rw e h
either_start a b false d e h = rw e

pub no_start : (a : Assertion) → occurs Occurs.start [] (to_tree a) ≡ not (startless a)
unfolding occurs is_queried member
no_start (sees n f) = neither (occurs Occurs.start [] (to_tree f)) false (no_start_interval f) refl
no_start (both_a f g) = either_start (occurs Occurs.start [] (to_tree f)) (occurs Occurs.start [] (to_tree g)) (startless f) (startless g)
    (no_start f) (no_start g)
no_start (either_a f g) = either_start (occurs Occurs.start [] (to_tree f)) (occurs Occurs.start [] (to_tree g)) (startless f) (startless g)
    (no_start f) (no_start g)
no_start start = refl
no_start (holds f) = neither (occurs Occurs.start [] (to_tree f)) false (no_start_test f) refl
