-- The matcher finds a filling exactly if there is one that has what was taken before.
use mathlib.Core.Path.{◌≡◌, refl, sym, ◌∙◌, subst}
use mathlib.Core.Bool.{Bool, true, false}
use mathlib.Core.Option.{Option, none, some}
use Prim.Native.Nat.{ℕ, ◌-◌}
use native.Mathlib.Omega.{arith}
use lib.Dec.{T, eqb, ltb, leb, eqb→eq, eqb_refl}
use Rattle.semantics.specs.Base.{upd}
use Rattle.semantics.proofs.Base.{upd_same, upd_other, by_word}
use Rattle.formula.specs.Tree.{Tree, Tree.node}
use Rattle.formula_compare.specs.Same.{same_tree}
use Rattle.formula_match.specs.Template.{first_hole, first_number, Holes, operand_t, inst_t}
use Rattle.formula_match.specs.Match.{Taken, and_then, when, take_tree, take_num, take_operand, is_node, match_t}
use Rattle.formula.specs.Codes.{has_operand}
use Rattle.formula_trees.proofs.TreeAgree.{tree_eq, tree_refl}

-- the filling has what was taken
pub record Has (c : Holes) (b : Taken) : Type 0 where
  pub num : (j n : ℕ) → b.num j ≡ some n → c.num j ≡ n
  pub tree : (j : ℕ) (u : Tree) → b.tree j ≡ some u → c.tree j ≡ u

pub then_some : {A B Z : Type 0} (o : Option A) (f : A → Option B) (z : B) → and_then o f ≡ some z
    → ((a : A) → o ≡ some a → f a ≡ some z → Z) → Z
then_some {A} {B} {Z} none f z e k = let q : ◌≡◌ {A = ℕ} 0 1 = cc in absurd (omega arith)
then_some (some a) f z e k = k a refl e

pub when_some : {A : Type 0} (b : Bool) (a z : A) → when b a ≡ some z → T b × (a ≡ z)
when_some true a z e = (tt, cc)
when_some false a z e = let q : ◌≡◌ {A = ℕ} 0 1 = cc in absurd (omega arith)

some_eq : {A : Type 0} (a z : A) → some a ≡ some z → a ≡ z
some_eq a z e = cc

module _ (c : Holes) where
  -- what is taken before is had, and the part is filled
  tree_sound : (j : ℕ) (u : Tree) (b z : Taken) (o : Option Tree) → b.tree j ≡ o → take_tree j u b o ≡ some z → Has c z
      → Has c b × (c.tree j ≡ u)
  tree_sound j u b z none q e h =
      let k : Has c (record { num = b.num; tree = upd b.tree j (some u) }) = subst (Has c) (sym (some_eq _ z e)) h in (
        record {
          num = k.num;
          tree = by_word j (λ i. (v : Tree) → b.tree i ≡ some v → c.tree i ≡ v) (λ v p. clash v (sym q ∙ p))
              (λ i n v p. k.tree i v (upd_other b.tree j (some u) i n ∙ p));
        },
        k.tree j u (upd_same b.tree j (some u)),
      )
    where
      clash : (v : Tree) → none ≡ some v → c.tree j ≡ v
      clash v p = let q : ◌≡◌ {A = ℕ} 0 1 = cc in absurd (omega arith)
  tree_sound j u b z (some v) q e h =
      let r = when_some (same_tree v u) b z e in
      let k : Has c b = subst (Has c) (sym r.1) h in
      (k, k.tree j v q ∙ tree_eq v u r.0)

  num_sound : (j n : ℕ) (b z : Taken) (o : Option ℕ) → b.num j ≡ o → take_num j n b o ≡ some z → Has c z → Has c b × (c.num j ≡ n)
  num_sound j n b z none q e h =
      let k : Has c (record { num = upd b.num j (some n); tree = b.tree }) = subst (Has c) (sym (some_eq _ z e)) h in (
        record {
          num = by_word j (λ i. (v : ℕ) → b.num i ≡ some v → c.num i ≡ v) (λ v p. clash v (sym q ∙ p))
              (λ i m v p. k.num i v (upd_other b.num j (some n) i m ∙ p));
          tree = k.tree;
        },
        k.num j n (upd_same b.num j (some n)),
      )
    where
      clash : (v : ℕ) → none ≡ some v → c.num j ≡ v
      clash v p = let q : ◌≡◌ {A = ℕ} 0 1 = cc in absurd (omega arith)
  num_sound j n b z (some m) q e h =
      let r = when_some (eqb m n) b z e in
      let k : Has c b = subst (Has c) (sym r.1) h in
      (k, k.num j m q ∙ eqb→eq m n r.0)

  operand_sound : (d o n : ℕ) (b z : Taken) → take_operand d o n b ≡ some z → Has c z → Has c b × (operand_t c d o ≡ n)
  operand_sound d o n b z e h = go (has_operand d) (ltb o first_number) e
    where
      go : (i j : Bool) → ◌≡◌ {A = Option Taken} (elim i
          [ false ↦ when (eqb 0 n) b | true ↦ elim j [ true ↦ take_num o n b (b.num o) | false ↦ when (eqb (o - first_number) n) b ] ])
          (some z)
          → Has c b × (◌≡◌ {A = ℕ} (elim i [ false ↦ 0 | true ↦ elim j [ true ↦ c.num o | false ↦ o - first_number ] ]) n)
      go false j e = let r = when_some (eqb 0 n) b z e in (subst (Has c) (sym r.1) h, eqb→eq 0 n r.0)
      go true true e = num_sound o n b z (b.num o) refl e h
      go true false e = let r = when_some (eqb (o - first_number) n) b z e in
          (subst (Has c) (sym r.1) h, eqb→eq (o - first_number) n r.0)

  pub match_sound : (t u : Tree) (b z : Taken) → match_t t u b ≡ some z → Has c z → Has c b × (inst_t c t ≡ u)
  unfolding match_t
  match_sound Tree.none Tree.none b z e h = (subst (Has c) (sym (some_eq b z e)) h, refl)
  match_sound Tree.none (node i n m s) b z e h = let q : ◌≡◌ {A = ℕ} 0 1 = cc in absurd (omega arith)
  match_sound (node d o l r) u b z e h = go (leb first_hole d) u e (λ m b z e h. match_sound l m b z e h)
      (λ m b z e h. match_sound r m b z e h)
    where
      go : (x : Bool) (u : Tree)
          → ◌≡◌ {A = Option Taken}
          (elim x [
            | true ↦ take_tree (d - first_hole) u b (b.tree (d - first_hole))
            | false ↦ is_node u
                (λ e n m s. and_then (when (eqb d e) b) (λ b₀. and_then (take_operand d o n b₀)
                (λ b₁. and_then (match_t l m b₁) (λ b₂. match_t r s b₂))))
          ]) (some z)
          → ((m : Tree) (b z : Taken) → match_t l m b ≡ some z → Has c z → Has c b × (inst_t c l ≡ m))
          → ((m : Tree) (b z : Taken) → match_t r m b ≡ some z → Has c z → Has c b × (inst_t c r ≡ m))
          → Has c b
          × (◌≡◌ {A = Tree} (elim x [ true ↦ c.tree (d - first_hole) | false ↦ node d (operand_t c d o) (inst_t c l) (inst_t c r) ]) u)
      go true u e il ir = tree_sound (d - first_hole) u b z (b.tree (d - first_hole)) refl e h
      go false Tree.none e il ir = let q : ◌≡◌ {A = ℕ} 0 1 = cc in absurd (omega arith)
      go false (node i n m s) e il ir =
          then_some (when (eqb d i) b) _ z e λ b₀ e₀ k₀.
          then_some (take_operand d o n b₀) _ z k₀ λ b₁ e₁ k₁.
          then_some (match_t l m b₁) _ z k₁ λ b₂ e₂ k₂.
          let x₂ = ir s b₂ z k₂ h in
          let x₁ = il m b₁ b₂ e₂ x₂.0 in
          let x₀ = operand_sound d o n b₀ b₁ e₁ x₁.0 in
          let y = when_some (eqb d i) b b₀ e₀ in
          (subst (Has c) (sym y.1) x₀.0, same_node (eqb→eq d i y.0) x₀.1 x₁.1 x₂.1)
        where
          same_node : d ≡ i → operand_t c d o ≡ n → inst_t c l ≡ m → inst_t c r ≡ s
              → node d (operand_t c d o) (inst_t c l) (inst_t c r) ≡ node i n m s
          same_node a b c d = cc

  -- a filling that has what was taken: the match goes through, and the filling has what it takes
  pub record Goes (b : Option Taken) : Type 0 where
    pub to : Taken
    pub is : b ≡ some to
    pub has : Has c to

  pub goes_then : (o : Option Taken) (f : Taken → Option Taken) → Goes o → ((z : Taken) → Has c z → Goes (f z)) → Goes (and_then o f)
  goes_then o f g k = subst (λ (w : Option Taken). Goes (and_then w f)) (sym g.is) (k g.to g.has)

  pub goes_when : (x : Bool) (b : Taken) → T x → Has c b → Goes (when x b)
  goes_when true b t h = record { to = b; is = refl; has = h }
  goes_when false b t h = absurd t

  tree_goes : (j : ℕ) (b : Taken) (o : Option Tree) → b.tree j ≡ o → Has c b → Goes (take_tree j (c.tree j) b o)
  tree_goes j b none q h = record {
    to = record { num = b.num; tree = upd b.tree j (some (c.tree j)) };
    is = refl;
    has =
        record {
          num = h.num;
          tree = by_word j (λ i. (v : Tree) → upd b.tree j (some (c.tree j)) i ≡ some v → c.tree i ≡ v)
              (λ v p. some_eq (c.tree j) v (sym (upd_same b.tree j (some (c.tree j))) ∙ p))
              (λ i n v p. h.tree i v (sym (upd_other b.tree j (some (c.tree j)) i n) ∙ p));
        };
  }
  tree_goes j b (some v) q h = goes_when (same_tree v (c.tree j)) b
      (subst (λ (w : Tree). T (same_tree v w)) (sym (h.tree j v q)) (tree_refl v)) h

  num_goes : (j : ℕ) (b : Taken) (o : Option ℕ) → b.num j ≡ o → Has c b → Goes (take_num j (c.num j) b o)
  num_goes j b none q h = record {
    to = record { num = upd b.num j (some (c.num j)); tree = b.tree };
    is = refl;
    has =
        record {
          num = by_word j (λ i. (v : ℕ) → upd b.num j (some (c.num j)) i ≡ some v → c.num i ≡ v)
              (λ v p. some_eq (c.num j) v (sym (upd_same b.num j (some (c.num j))) ∙ p))
              (λ i n v p. h.num i v (sym (upd_other b.num j (some (c.num j)) i n) ∙ p));
          tree = h.tree;
        };
  }
  num_goes j b (some v) q h = goes_when (eqb v (c.num j)) b (subst (λ (w : ℕ). T (eqb v w)) (sym (h.num j v q)) (eqb_refl v)) h

  operand_goes : (d o : ℕ) (b : Taken) → Has c b → Goes (take_operand d o (operand_t c d o) b)
  operand_goes d o b h = go (has_operand d) (ltb o first_number)
    where
      go : (i j : Bool) → Goes (elim i as (λ z. Option Taken) [
        | false ↦ when
            (eqb 0 (elim i as (λ z. ℕ) [ false ↦ 0 | true ↦ elim j as (λ z. ℕ) [ true ↦ c.num o | false ↦ o - first_number ] ])) b
        | true ↦
            elim j as (λ z. Option Taken) [
              | true ↦ take_num o
                  (elim i as (λ z. ℕ) [ false ↦ 0 | true ↦ elim j as (λ z. ℕ) [ true ↦ c.num o | false ↦ o - first_number ] ]) b
                  (b.num o)
              | false ↦ when (eqb (o - first_number)
                  (elim i as (λ z. ℕ) [ false ↦ 0 | true ↦ elim j as (λ z. ℕ) [ true ↦ c.num o | false ↦ o - first_number ] ])) b
            ]
      ])
      go false j = goes_when (eqb 0 0) b tt h
      go true true = num_goes o b (b.num o) refl h
      go true false = goes_when (eqb (o - first_number) (o - first_number)) b (eqb_refl (o - first_number)) h

  pub match_goes : (t : Tree) (b : Taken) → Has c b → Goes (match_t t (inst_t c t) b)
  unfolding match_t
  match_goes Tree.none b h = record { to = b; is = refl; has = h }
  match_goes (node d o l r) b h = go (leb first_hole d) (λ b h. match_goes l b h) (λ b h. match_goes r b h)
    where
      go : (x : Bool) → ((b : Taken) → Has c b → Goes (match_t l (inst_t c l) b)) → ((b : Taken) → Has c b → Goes (match_t r (inst_t c r) b))
          → Goes
          (elim x as (λ z. Option Taken) [
            | true ↦ take_tree (d - first_hole)
                (elim x as (λ z. Tree) [ true ↦ c.tree (d - first_hole) | false ↦ node d (operand_t c d o) (inst_t c l) (inst_t c r) ]) b
                (b.tree (d - first_hole))
            | false ↦ is_node (elim x as (λ z. Tree)
                [ true ↦ c.tree (d - first_hole) | false ↦ node d (operand_t c d o) (inst_t c l) (inst_t c r) ])
                (λ e n m s. and_then (when (eqb d e) b) (λ b₀. and_then (take_operand d o n b₀)
                (λ b₁. and_then (match_t l m b₁) (λ b₂. match_t r s b₂))))
          ])
      go true il ir = tree_goes (d - first_hole) b (b.tree (d - first_hole)) refl h
      go false il ir =
          goes_then (when (eqb d d) b) _ (goes_when (eqb d d) b (eqb_refl d) h) λ b₀ h₀.
          goes_then (take_operand d o (operand_t c d o) b₀) _ (operand_goes d o b₀ h₀) λ b₁ h₁.
          goes_then (match_t l (inst_t c l) b₁) _ (il b₁ h₁) λ b₂ h₂.
          ir b₂ h₂
