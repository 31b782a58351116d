-- The constructors by their shape: a code with no part, one part or two; what each of a formula's readings makes of it.
use mathlib.Core.Path.{◌≡◌, refl, ap}
use mathlib.Core.Bool.{Bool, true, false, ◌&&◌, cond}
use mathlib.Core.List.{List, ◌∷◌, ◌++◌}
use Prim.Native.Nat.{ℕ, zero, suc, ◌/◌, max}
use lib.Dec.{T, eqb, leb, leb-zero, leb-suc-suc, eqb-suc-zero}
use Rattle.semantics.specs.Base.{all, within}
use Rattle.semantics.specs.Code
use Rattle.semantics.specs.Code.{byte}
use Rattle.semantics.specs.Formula.{Sort, Formula, encode, nesting, Formula.const, Formula.reg, Formula.word, Formula.sum, Formula.equal, Formula.less, Formula.and, Formula.or, Formula.unsync, Formula.cov, Formula.box, Formula.one, Formula.chop, Formula.both, Formula.either, Formula.sees, Formula.both_a, Formula.either_a, Formula.start, Formula.holds}
use Rattle.semantics.specs.Names.{names, is_reg}
use Rattle.formula.specs.Codes.{value, test, reg_value, reg_test, has_operand, part_count, part_place, fits_at}
use Rattle.formula.specs.Tree.{none, node}
use Rattle.formula.specs.Reader.{in_range}
use Rattle.formula.specs.declared.reader.Counts.{Counts}
use Rattle.formula_trees.specs.ToTree.{to_tree}
use Rattle.formula_trees.specs.Place.{place, alone, in_counts}
use Rattle.formula_trees.proofs.OccursAgree.{all_join}

-- what follows a code: its operand, if it has one
abbrev pub after : ℕ → ℕ → List ℕ → List ℕ
after c o l = c ∷ cond (has_operand c) (o ∷ l) l

abbrev pub operand : ℕ → ℕ → ℕ
operand c o = cond (has_operand c) o 0

abbrev pub ranged : Counts → ℕ → ℕ → Bool
ranged n c o = cond (has_operand c) (in_range n c o) true

pub record Leaf (c : ℕ) (p : Sort) : Type 0 where
  pub make : ℕ → Formula p
  pub tree : (o : ℕ) → to_tree (make o) ≡ node c (operand c o) none none
  pub bytes : (o : ℕ) (l : List ℕ) → encode (make o) l ≡ after c o l
  pub deep : (o : ℕ) → nesting (make o) ≡ 1
  pub counted : (n : Counts) (o : ℕ) → in_counts n (make o) ≡ ranged n c o
  pub eighth : c / 8 ≡ place false p
  pub parts : part_count c ≡ 0
  pub fits : (r : Bool) (o : ℕ) → T (alone r (make o)) → fits_at c (place r p) ≡ true

-- `inner`: whether registers must be alone in the part
pub record One (c : ℕ) (p q : Sort) : Type 0 where
  pub inner : Bool → Bool
  pub make : ℕ → Formula q → Formula p
  pub tree : (o : ℕ) (f : Formula q) → to_tree (make o f) ≡ node c (operand c o) (to_tree f) none
  pub bytes : (o : ℕ) (f : Formula q) (l : List ℕ) → encode (make o f) l ≡ after c o (encode f l)
  pub deep : (o : ℕ) (f : Formula q) → nesting (make o f) ≡ suc (nesting f)
  pub counted : (n : Counts) (o : ℕ) (f : Formula q) → in_counts n (make o f) ≡ ranged n c o && in_counts n f
  pub lone : (r : Bool) (o : ℕ) (f : Formula q) → alone r (make o f) ≡ alone (inner r) f
  pub eighth : c / 8 ≡ place false p
  pub parts : part_count c ≡ 1
  pub fits : (r : Bool) → fits_at c (place r p) ≡ true
  pub inside : (r : Bool) → part_place c (place r p) ≡ place (inner r) q

pub record Two (c : ℕ) (p q : Sort) : Type 0 where
  pub bare : has_operand c ≡ false
  pub make : Formula q → Formula q → Formula p
  pub tree : (o : ℕ) (f g : Formula q) → to_tree (make f g) ≡ node c (operand c o) (to_tree f) (to_tree g)
  pub bytes : (o : ℕ) (f g : Formula q) (l : List ℕ) → encode (make f g) l ≡ after c o (encode f (encode g l))
  pub deep : (f g : Formula q) → nesting (make f g) ≡ suc (max (nesting f) (nesting g))
  pub counted : (n : Counts) (f g : Formula q) → in_counts n (make f g) ≡ in_counts n f && in_counts n g
  pub lone : (r : Bool) (f g : Formula q) → alone r (make f g) ≡ alone r f && alone r g
  pub eighth : c / 8 ≡ place false p
  pub parts : part_count c ≡ 2
  pub fits : (r : Bool) → fits_at c (place r p) ≡ true
  pub inside : (r : Bool) → part_place c (place r p) ≡ place r q

-- from 1 to a count
pub from_one : (m o : ℕ) → within m o ≡ cond (eqb o 0) false (leb o m)
from_one m zero = refl
from_one m (suc o) = rw (eqb-suc-zero o, leb-suc-suc 0 o, leb-zero o)

pub lone_two : {p : Sort} (r : Bool) (f g : Formula p)
    → cond r (all is_reg (names f ++ names g)) true ≡ cond r (all is_reg (names f)) true && cond r (all is_reg (names g)) true
lone_two true f g = all_join is_reg (names f) (names g)
lone_two false f g = refl

-- a code that does not fit where registers are alone
pub unfit : (c p q : ℕ) → fits_at c q ≡ true → (r : Bool) (o : ℕ) → T (cond r false true) → fits_at c (cond r p q) ≡ true
unfit c p q e true o h = absurd h
unfit c p q e false o h = e

abbrev pub const_leaf : Leaf (byte Code.const) Sort.value
unfolding has_operand in_range part_count part_place fits_at
const_leaf = record {
  make = const;
  tree = λ o. refl;
  bytes = λ o l. refl;
  deep = λ o. refl;
  counted = λ n o. refl;
  eighth = refl;
  parts = refl;
  fits = λ r o h. elim r as (λ k. fits_at (byte Code.const) (place k Sort.value) ≡ true) [ true ↦ refl | false ↦ refl ];
}

abbrev pub reg_leaf : Leaf (byte Code.reg) Sort.value
unfolding has_operand in_range part_count part_place fits_at
reg_leaf = record {
  make = reg;
  tree = λ o. refl;
  bytes = λ o l. refl;
  deep = λ o. refl;
  counted = λ n o. from_one n.registers o;
  eighth = refl;
  parts = refl;
  fits = λ r o h. elim r as (λ k. fits_at (byte Code.reg) (place k Sort.value) ≡ true) [ true ↦ refl | false ↦ refl ];
}

abbrev pub word_leaf : Leaf (byte Code.word) Sort.value
unfolding has_operand in_range part_count part_place fits_at
word_leaf = record {
  make = word;
  tree = λ o. refl;
  bytes = λ o l. refl;
  deep = λ o. refl;
  counted = λ n o. from_one n.words o;
  eighth = refl;
  parts = refl;
  fits = unfit (byte Code.word) reg_value value refl;
}

abbrev pub falsehood_leaf : Leaf (byte Code.false) Sort.test
unfolding has_operand in_range part_count part_place fits_at
falsehood_leaf = record {
  make = λ o. Formula.false;
  tree = λ o. refl;
  bytes = λ o l. refl;
  deep = λ o. refl;
  counted = λ n o. refl;
  eighth = refl;
  parts = refl;
  fits = λ r o h. elim r as (λ k. fits_at (byte Code.false) (place k Sort.test) ≡ true) [ true ↦ refl | false ↦ refl ];
}

abbrev pub unsync_leaf : Leaf (byte Code.unsync) Sort.test
unfolding has_operand in_range part_count part_place fits_at
unsync_leaf = record {
  make = unsync;
  tree = λ o. refl;
  bytes = λ o l. refl;
  deep = λ o. refl;
  counted = λ n o. from_one n.words o;
  eighth = refl;
  parts = refl;
  fits = unfit (byte Code.unsync) reg_test test refl;
}

abbrev pub cov_leaf : Leaf (byte Code.cov) Sort.test
unfolding has_operand in_range part_count part_place fits_at
cov_leaf = record {
  make = cov;
  tree = λ o. refl;
  bytes = λ o l. refl;
  deep = λ o. refl;
  counted = λ n o. from_one n.words o;
  eighth = refl;
  parts = refl;
  fits = unfit (byte Code.cov) reg_test test refl;
}

abbrev pub one_leaf : Leaf (byte Code.one) Sort.interval
unfolding has_operand in_range part_count part_place fits_at
one_leaf = record {
  make = one;
  tree = λ o. refl;
  bytes = λ o l. refl;
  deep = λ o. refl;
  counted = λ n o. from_one n.words o;
  eighth = refl;
  parts = refl;
  fits = λ r o h. refl;
}

abbrev pub start_leaf : Leaf (byte Code.start) Sort.assertion
unfolding has_operand in_range part_count part_place fits_at
start_leaf = record {
  make = λ o. start;
  tree = λ o. refl;
  bytes = λ o l. refl;
  deep = λ o. refl;
  counted = λ n o. refl;
  eighth = refl;
  parts = refl;
  fits = λ r o h. refl;
}

abbrev pub negation_one : One (byte Code.not) Sort.test Sort.test
unfolding has_operand in_range part_count part_place fits_at
negation_one = record {
  inner = λ r. r;
  make = λ o. Formula.not;
  tree = λ o f. refl;
  bytes = λ o f l. refl;
  deep = λ o f. refl;
  counted = λ n o f. refl;
  lone = λ r o f. refl;
  eighth = refl;
  parts = refl;
  fits = λ r. elim r as (λ k. fits_at (byte Code.not) (place k Sort.test) ≡ true) [ true ↦ refl | false ↦ refl ];
  inside = λ r. elim r as (λ k. part_place (byte Code.not) (place k Sort.test) ≡ place k Sort.test) [ true ↦ refl | false ↦ refl ];
}

abbrev pub box_one : One (byte Code.box) Sort.interval Sort.test
unfolding has_operand in_range part_count part_place fits_at
box_one = record {
  inner = λ r. false;
  make = λ o. box;
  tree = λ o f. refl;
  bytes = λ o f l. refl;
  deep = λ o f. refl;
  counted = λ n o f. refl;
  lone = λ r o f. refl;
  eighth = refl;
  parts = refl;
  fits = λ r. refl;
  inside = λ r. refl;
}

abbrev pub sees_one : One (byte Code.sees) Sort.assertion Sort.interval
unfolding has_operand in_range part_count part_place fits_at
sees_one = record {
  inner = λ r. false;
  make = sees;
  tree = λ o f. refl;
  bytes = λ o f l. refl;
  deep = λ o f. refl;
  counted = λ n o f. ap (λ b. b && in_counts n f) (from_one n.threads o);
  lone = λ r o f. refl;
  eighth = refl;
  parts = refl;
  fits = λ r. refl;
  inside = λ r. refl;
}

abbrev pub holds_one : One (byte Code.holds) Sort.assertion Sort.test
unfolding has_operand in_range part_count part_place fits_at
holds_one = record {
  inner = λ r. true;
  make = λ o. holds;
  tree = λ o f. refl;
  bytes = λ o f l. refl;
  deep = λ o f. refl;
  counted = λ n o f. refl;
  lone = λ r o f. refl;
  eighth = refl;
  parts = refl;
  fits = λ r. refl;
  inside = λ r. refl;
}

abbrev pub sum_two : Two (byte Code.sum) Sort.value Sort.value
unfolding has_operand part_count part_place fits_at
sum_two = record {
  bare = refl;
  make = sum;
  tree = λ o f g. refl;
  bytes = λ o f g l. refl;
  deep = λ f g. refl;
  counted = λ n f g. refl;
  lone = lone_two;
  eighth = refl;
  parts = refl;
  fits = λ r. elim r as (λ k. fits_at (byte Code.sum) (place k Sort.value) ≡ true) [ true ↦ refl | false ↦ refl ];
  inside = λ r. elim r as (λ k. part_place (byte Code.sum) (place k Sort.value) ≡ place k Sort.value) [ true ↦ refl | false ↦ refl ];
}

abbrev pub equal_two : Two (byte Code.equal) Sort.test Sort.value
unfolding has_operand part_count part_place fits_at
equal_two = record {
  bare = refl;
  make = equal;
  tree = λ o f g. refl;
  bytes = λ o f g l. refl;
  deep = λ f g. refl;
  counted = λ n f g. refl;
  lone = lone_two;
  eighth = refl;
  parts = refl;
  fits = λ r. elim r as (λ k. fits_at (byte Code.equal) (place k Sort.test) ≡ true) [ true ↦ refl | false ↦ refl ];
  inside = λ r. elim r as (λ k. part_place (byte Code.equal) (place k Sort.test) ≡ place k Sort.value) [ true ↦ refl | false ↦ refl ];
}

abbrev pub less_two : Two (byte Code.less) Sort.test Sort.value
unfolding has_operand part_count part_place fits_at
less_two = record {
  bare = refl;
  make = less;
  tree = λ o f g. refl;
  bytes = λ o f g l. refl;
  deep = λ f g. refl;
  counted = λ n f g. refl;
  lone = lone_two;
  eighth = refl;
  parts = refl;
  fits = λ r. elim r as (λ k. fits_at (byte Code.less) (place k Sort.test) ≡ true) [ true ↦ refl | false ↦ refl ];
  inside = λ r. elim r as (λ k. part_place (byte Code.less) (place k Sort.test) ≡ place k Sort.value) [ true ↦ refl | false ↦ refl ];
}

abbrev pub and_two : Two (byte Code.and) Sort.test Sort.test
unfolding has_operand part_count part_place fits_at
and_two = record {
  bare = refl;
  make = and;
  tree = λ o f g. refl;
  bytes = λ o f g l. refl;
  deep = λ f g. refl;
  counted = λ n f g. refl;
  lone = lone_two;
  eighth = refl;
  parts = refl;
  fits = λ r. elim r as (λ k. fits_at (byte Code.and) (place k Sort.test) ≡ true) [ true ↦ refl | false ↦ refl ];
  inside = λ r. elim r as (λ k. part_place (byte Code.and) (place k Sort.test) ≡ place k Sort.test) [ true ↦ refl | false ↦ refl ];
}

abbrev pub or_two : Two (byte Code.or) Sort.test Sort.test
unfolding has_operand part_count part_place fits_at
or_two = record {
  bare = refl;
  make = or;
  tree = λ o f g. refl;
  bytes = λ o f g l. refl;
  deep = λ f g. refl;
  counted = λ n f g. refl;
  lone = lone_two;
  eighth = refl;
  parts = refl;
  fits = λ r. elim r as (λ k. fits_at (byte Code.or) (place k Sort.test) ≡ true) [ true ↦ refl | false ↦ refl ];
  inside = λ r. elim r as (λ k. part_place (byte Code.or) (place k Sort.test) ≡ place k Sort.test) [ true ↦ refl | false ↦ refl ];
}

abbrev pub chop_two : Two (byte Code.chop) Sort.interval Sort.interval
unfolding has_operand part_count part_place fits_at
chop_two = record {
  bare = refl;
  make = chop;
  tree = λ o f g. refl;
  bytes = λ o f g l. refl;
  deep = λ f g. refl;
  counted = λ n f g. refl;
  lone = λ r f g. refl;
  eighth = refl;
  parts = refl;
  fits = λ r. refl;
  inside = λ r. refl;
}

abbrev pub both_two : Two (byte Code.both) Sort.interval Sort.interval
unfolding has_operand part_count part_place fits_at
both_two = record {
  bare = refl;
  make = both;
  tree = λ o f g. refl;
  bytes = λ o f g l. refl;
  deep = λ f g. refl;
  counted = λ n f g. refl;
  lone = λ r f g. refl;
  eighth = refl;
  parts = refl;
  fits = λ r. refl;
  inside = λ r. refl;
}

abbrev pub either_two : Two (byte Code.either) Sort.interval Sort.interval
unfolding has_operand part_count part_place fits_at
either_two = record {
  bare = refl;
  make = either;
  tree = λ o f g. refl;
  bytes = λ o f g l. refl;
  deep = λ f g. refl;
  counted = λ n f g. refl;
  lone = λ r f g. refl;
  eighth = refl;
  parts = refl;
  fits = λ r. refl;
  inside = λ r. refl;
}

abbrev pub both_a_two : Two (byte Code.both_a) Sort.assertion Sort.assertion
unfolding has_operand part_count part_place fits_at
both_a_two = record {
  bare = refl;
  make = both_a;
  tree = λ o f g. refl;
  bytes = λ o f g l. refl;
  deep = λ f g. refl;
  counted = λ n f g. refl;
  lone = λ r f g. refl;
  eighth = refl;
  parts = refl;
  fits = λ r. refl;
  inside = λ r. refl;
}

abbrev pub either_a_two : Two (byte Code.either_a) Sort.assertion Sort.assertion
unfolding has_operand part_count part_place fits_at
either_a_two = record {
  bare = refl;
  make = either_a;
  tree = λ o f g. refl;
  bytes = λ o f g l. refl;
  deep = λ f g. refl;
  counted = λ n f g. refl;
  lone = λ r f g. refl;
  eighth = refl;
  parts = refl;
  fits = λ r. refl;
  inside = λ r. refl;
}

-- to show a thing of every formula, show it of each shape
pub by_shape : (P : (s : Sort) → Formula s → Type 0) → ((c : ℕ) (p : Sort) (t : Leaf c p) (o : ℕ) → P p (t.make o))
    → ((c : ℕ) (p q : Sort) (t : One c p q) (o : ℕ) (f : Formula q) → P q f → P p (t.make o f))
    → ((c : ℕ) (p q : Sort) (t : Two c p q) (f g : Formula q) → P q f → P q g → P p (t.make f g)) → {s : Sort} (f : Formula s) → P s f
unfolding has_operand in_range part_count part_place fits_at
by_shape P l u b (const n) = l _ _ const_leaf n
by_shape P l u b (reg n) = l _ _ reg_leaf n
by_shape P l u b (word n) = l _ _ word_leaf n
by_shape P l u b (sum f g) = b _ _ _ sum_two f g (by_shape P l u b f) (by_shape P l u b g)
by_shape P l u b Formula.false = l _ _ falsehood_leaf 0
by_shape P l u b (equal f g) = b _ _ _ equal_two f g (by_shape P l u b f) (by_shape P l u b g)
by_shape P l u b (less f g) = b _ _ _ less_two f g (by_shape P l u b f) (by_shape P l u b g)
by_shape P l u b (Formula.not f) = u _ _ _ negation_one 0 f (by_shape P l u b f)
by_shape P l u b (and f g) = b _ _ _ and_two f g (by_shape P l u b f) (by_shape P l u b g)
by_shape P l u b (or f g) = b _ _ _ or_two f g (by_shape P l u b f) (by_shape P l u b g)
by_shape P l u b (unsync n) = l _ _ unsync_leaf n
by_shape P l u b (cov n) = l _ _ cov_leaf n
by_shape P l u b (box f) = u _ _ _ box_one 0 f (by_shape P l u b f)
by_shape P l u b (one n) = l _ _ one_leaf n
by_shape P l u b (chop f g) = b _ _ _ chop_two f g (by_shape P l u b f) (by_shape P l u b g)
by_shape P l u b (both f g) = b _ _ _ both_two f g (by_shape P l u b f) (by_shape P l u b g)
by_shape P l u b (either f g) = b _ _ _ either_two f g (by_shape P l u b f) (by_shape P l u b g)
by_shape P l u b (sees n f) = u _ _ _ sees_one n f (by_shape P l u b f)
by_shape P l u b (both_a f g) = b _ _ _ both_a_two f g (by_shape P l u b f) (by_shape P l u b g)
by_shape P l u b (either_a f g) = b _ _ _ either_a_two f g (by_shape P l u b f) (by_shape P l u b g)
by_shape P l u b start = l _ _ start_leaf 0
by_shape P l u b (holds f) = u _ _ _ holds_one 0 f (by_shape P l u b f)
