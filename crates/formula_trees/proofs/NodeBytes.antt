-- A code that fits is one of its place's; what a node's own bytes are if they have no fault.
use mathlib.Core.Path.{◌≡◌, refl, ap, sym, ◌∙◌, subst}
use mathlib.Core.Bool.{Bool, true, false, false≢true, cond}
use mathlib.Core.List.{List, [], ◌∷◌}
use Prim.Native.Nat.{ℕ, zero, suc, ◌+◌, ◌<◌}
use native.Mathlib.Numerals.{add-one, sub-one}
use native.Mathlib.Omega.{arith}
use lib.ListN.{length, get_or, drop}
use lib.Seq.{drop-cons}
use lib.Dec.{T, eqb, ltb}
use borrow.Author.Tests.{eqb-true, ltb-true, lt-ltb}
use Rattle.semantics.specs.Base.{All}
use Rattle.semantics.specs.Code.{Code, byte}
use Rattle.formula.specs.Codes.{among, value, test, interval, assertion, reg_value, reg_test, codes_at, fits_at, has_operand, part_count, part_place}
use Rattle.formula.specs.Tree.{node_at, parse_tree}
use Rattle.formula.specs.Reader.{malformed, range, in_range, operand_fault, head_fault, first, fault_at}
use Rattle.formula.proofs.ReaderBranches.{fault_step}
use Rattle.formula.specs.declared.node.Node.{Node}
use Rattle.formula.specs.declared.reader.Counts.{Counts}
use Rattle.formula_trees.proofs.Constructors.{after, operand, ranged}

-- one fact more
infixr 10 ◌▹◌
abbrev pub ◌▹◌ : {A B : Type 0} → A → B → A × B
a ▹ b = (a, b)

-- a fact at each code of a list is one at a byte among them; at each code of each place, one at a code that fits
by_code : (Q : ℕ → Type 0) (l : List Code) → All (λ k. Q (byte k)) l → (c : ℕ) → among c l ≡ true → Q c
by_code Q [] q c h = absurd (false≢true h)
by_code Q (k ∷ l) q c h = go (eqb c (byte k)) refl h (λ g. by_code Q l q.1 c g)
  where
    go : (b : Bool) → eqb c (byte k) ≡ b → cond b true (among c l) ≡ true → (among c l ≡ true → Q c) → Q c
    go true e h ih = subst Q (sym (eqb-true c (byte k) e)) q.0
    go false e h ih = ih h

module _ (Q : ℕ → ℕ → Type 0) where
  abbrev pub Each : ℕ → Type 0
  Each p = All (λ k. Q p (byte k)) (codes_at p)

  module _ (p c : ℕ) where
    at_place : (q : ℕ) (l : List Code) → Each q → (among c l ≡ true → Q p c) → among c (cond (eqb p q) (codes_at q) l) ≡ true → Q p c
    at_place q l a ih = go (eqb p q) refl
      where
        go : (b : Bool) → eqb p q ≡ b → among c (cond b (codes_at q) l) ≡ true → Q p c
        go true e h = subst (λ z. Q z c) (sym (eqb-true p q e)) (by_code (Q q) (codes_at q) a c h)
        go false e h = ih h

    pub by_place : Each value → Each test → Each interval → Each assertion → Each reg_value → Each reg_test → fits_at c p ≡ true → Q p c
    unfolding fits_at
    by_place v t i a w u =
        at_place value _ v
        (at_place test _ t
        (at_place interval _ i (at_place assertion _ a (at_place reg_value _ w (at_place reg_test _ u (λ h. absurd (false≢true h)))))))

-- the first fault
pub first_left : (a b : ℕ) → first a b ≡ 0 → a ≡ 0
first_left a b = go (eqb a 0) refl
  where
    go : (c : Bool) → eqb a 0 ≡ c → cond c b a ≡ 0 → a ≡ 0
    go true e h = eqb-true a 0 e
    go false e h = h

pub first_right : (a b : ℕ) → first a b ≡ 0 → b ≡ 0
first_right a b h = let e : a ≡ 0 = first_left a b h in rw e at h

pub head_fine : (s : List ℕ) (n : Counts) (k p at : ℕ) → fault_at s n k p at ≡ 0 → head_fault s n p at ≡ 0
unfolding fault_at
head_fine s n zero p at h = absurd (omega arith)
head_fine s n (suc k) p at h = first_left (head_fault s n p at) _ h

pub drop_next : (s : List ℕ) (at : ℕ) → at < length s → drop at s ≡ get_or s at 0 ∷ drop (at + 1) s
drop_next s at h = rw add-one (drop-cons s at 0 h)

-- the node of a code with its operand, before position m
abbrev pub node_of : ℕ → ℕ → ℕ → Node
node_of c o m = record { code = c; operand = operand c o; parts = part_count c; next = m }

-- the first fault of a node's parts
abbrev pub parts_fault : List ℕ → Counts → ℕ → ℕ → Node → ℕ
parts_fault s n k p d =
    cond (eqb d.parts 0) 0
    (first (fault_at s n k (part_place d.code p) d.next)
    (cond (eqb d.parts 1) 0 (fault_at s n k (part_place d.code p) (parse_tree s k d.next).end)))

pub fault_parts : (s : List ℕ) (n : Counts) (k p at : ℕ)
    → fault_at s n (suc k) p at ≡ first (head_fault s n p at) (parts_fault s n k p (node_at s at))
fault_parts s n k p at = let e = fault_step s n (suc k) p at (omega arith) in rw (sub-one (suc k)) at e

-- a node's own bytes
module _ (s : List ℕ) (n : Counts) (p at : ℕ) (h : head_fault s n p at ≡ 0) where
  abbrev pub c : ℕ
  c = get_or s at 0

  abbrev pub o : ℕ
  o = get_or s (at + 1) 0

  abbrev pub next : ℕ
  next = cond (has_operand c) (at + 2) (at + 1)

  pub head : (at < length s) × (fits_at c p ≡ true) × (cond (has_operand c) (operand_fault s n c (at + 1)) 0 ≡ 0)
  unfolding head_fault
  head = go (ltb at (length s)) (fits_at c p) refl refl h
    where
      go : (a b : Bool) → ltb at (length s) ≡ a → fits_at c p ≡ b
          → cond a (cond b (cond (has_operand c) (operand_fault s n c (at + 1)) 0) malformed) malformed ≡ 0
          → (at < length s) × (fits_at c p ≡ true) × (cond (has_operand c) (operand_fault s n c (at + 1)) 0 ≡ 0)
      go true true d e h = (ltb-true at (length s) d, e, h)
      go true false d e h = absurd (omega arith)
      go false b d e h = absurd (omega arith)

  operand_fine : operand_fault s n c (at + 1) ≡ 0 → (at + 1 < length s) × (in_range n c o ≡ true)
  unfolding operand_fault
  operand_fine = go (ltb (at + 1) (length s)) (in_range n c o) refl refl
    where
      go : (a b : Bool) → ltb (at + 1) (length s) ≡ a → in_range n c o ≡ b → cond a (cond b 0 range) malformed ≡ 0
          → (at + 1 < length s) × (in_range n c o ≡ true)
      go true true d e h = (ltb-true (at + 1) (length s) d, e)
      go true false d e h = absurd (omega arith)
      go false b d e h = absurd (omega arith)

  pub own_node : node_at s at ≡ node_of c o next
  unfolding node_at
  own_node = rw (lt-ltb at (length s) head.0) (go (has_operand c))
    where
      go : (b : Bool)
          → ◌≡◌ {A = Node} (cond b (record { code = c; operand = o; parts = part_count c; next = at + 2 })
          (record { code = c; operand = 0; parts = part_count c; next = at + 1 }))
          (record { code = c; operand = cond b o 0; parts = part_count c; next = cond b (at + 2) (at + 1) })
      go true = refl
      go false = refl

  pub own_bytes : drop at s ≡ after c o (drop next s)
  own_bytes = go (has_operand c) head.2
    where
      go : (b : Bool) → cond b (operand_fault s n c (at + 1)) 0 ≡ 0
          → drop at s ≡ c ∷ cond b (o ∷ drop (cond b (at + 2) (at + 1)) s) (drop (cond b (at + 2) (at + 1)) s)
      go true e =
          let two : at + 1 + 1 ≡ at + 2 = omega arith in
          drop_next s at head.0 ∙ ap (λ (l : List ℕ). c ∷ l)
          (drop_next s (at + 1) (operand_fine e).0 ∙ ap (λ (i : ℕ). o ∷ drop i s) two)
      go false e = drop_next s at head.0

  pub own_range : T (ranged n c o)
  own_range = go (has_operand c) head.2
    where
      go : (b : Bool) → cond b (operand_fault s n c (at + 1)) 0 ≡ 0 → T (cond b (in_range n c o) true)
      go true e = rw (operand_fine e).1 tt
      go false e = tt
