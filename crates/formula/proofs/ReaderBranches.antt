-- The ways through the reader, one law for each.
use Prim.Native.Nat.{ℕ, zero, suc, ◌+◌, ◌-◌, ◌≤◌, ◌<◌}
use mathlib.Core.Path.{◌≡◌, refl, ap, sym, ◌∙◌}
use mathlib.Core.List.{List}
use mathlib.Core.Bool.{Bool, true, false, cond}
use native.Mathlib.Numerals.{sub-one}
use native.Mathlib.Omega.{arith}
use lib.ListN.{length, get_or}
use lib.Dec.{ltb, eqb}
use borrow.Author.Tests.{lt-ltb, le-ltb, eq-eqb, ne_eqb, eqb-true, ltb-true}
use Rattle.limits.specs.Limits.{nesting}
use Rattle.formula.specs.Codes.{fits_at, has_operand, part_count, part_place}
use Rattle.formula.specs.Tree.{node_at, parse_tree}
use Rattle.formula.specs.Reader.{range, malformed, limit, answer, in_range, operand_fault, operand_answer, head_fault, head_answer, first, part_fault, fault_at, read_answer, sort_from, fault_named, reading_from}
use Rattle.formula.specs.declared.node.Node.{Node}
use Rattle.formula.specs.declared.reader.Counts.{Counts}
use Rattle.std.specs.Prelude.{Ok, Err}
use Rattle.formula.specs.declared.reader.Fault.{Fault}
use Rattle.formula.specs.declared.reader.Fault.TheVariants.{Malformed}
use Rattle.formula.proofs.NodeBranches.{parse_step}
use Rattle.limits.proofs.BranchTests.{lower, tests}

module _ (s : List ℕ) (n : Counts) (c at : ℕ) where
  pub operand_past : length s ≤ at → malformed ≡ operand_answer s n c at
  unfolding operand_answer operand_fault
  operand_past h = rw (le-ltb _ _ h)

  module _ (g : Bool) (h : at < length s) (e : g ≡ in_range n c (get_or s at 0)) where
    pub operand_range : g ≡ false → range ≡ operand_answer s n c at
    unfolding operand_answer operand_fault
    operand_range d = rw (lt-ltb _ _ h, ← e, d)

    pub operand_fine : g ≡ true → at + 9 ≡ operand_answer s n c at
    unfolding operand_answer operand_fault
    operand_fine d = rw (lt-ltb _ _ h, ← e, d) (omega arith)

module _ (s : List ℕ) (n : Counts) (p at : ℕ) where
  pub head_past : length s ≤ at → malformed ≡ head_answer s n p at
  unfolding head_answer head_fault
  head_past h = rw (le-ltb _ _ h)

  module _ (f : Bool) (h : at < length s) (ef : f ≡ fits_at (get_or s at 0) p) where
    pub head_unfit : f ≡ false → malformed ≡ head_answer s n p at
    unfolding head_answer head_fault
    head_unfit d = rw (lt-ltb _ _ h, ← ef, d)

    module _ (o : Bool) (d : f ≡ true) (eo : o ≡ has_operand (get_or s at 0)) where
      pub head_plain : o ≡ false → at + 9 ≡ head_answer s n p at
      unfolding head_answer head_fault node_at
      head_plain z = rw (lt-ltb _ _ h, ← ef, d, ← eo, z) (omega arith)

      pub head_operand : (r : ℕ) → o ≡ true → r ≡ operand_answer s n (get_or s at 0) (at + 1) → r ≡ head_answer s n p at
      unfolding head_answer head_fault node_at operand_answer
      head_operand r z e = rw (lt-ltb _ _ h, ← ef, d, ← eo, z)
          (e ∙ ap (λ (i : ℕ). answer (operand_fault s n (get_or s at 0) (at + 1)) i) (omega arith))

pub ruleset reader_branches = (operand_past, operand_range, operand_fine, head_past, head_unfit, head_plain, head_operand)

-- what an answer says
module _ (r f e : ℕ) (small : f < limit) (a : r ≡ answer f e) where
  said_fault : r < limit → (f ≡ r) × (eqb f 0 ≡ false)
  said_fault l = go (eqb f 0) refl a
    where
      go : (b : Bool) → eqb f 0 ≡ b → r ≡ cond b (e + limit) f → (f ≡ r) × (eqb f 0 ≡ false)
      go true d q = absurd (omega arith)
      go false d q = (sym q, d)

  said_end : limit ≤ r → (f ≡ 0) × (r - limit ≡ e)
  said_end l = go (eqb f 0) refl a
    where
      go : (b : Bool) → eqb f 0 ≡ b → r ≡ cond b (e + limit) f → (f ≡ 0) × (r - limit ≡ e)
      go true d q = (eqb-true f 0 d, omega arith)
      go false d q = absurd (omega arith)

-- faults are below the limit
small_pick : (b : Bool) (x y : ℕ) → x < limit → y < limit → cond b x y < limit
small_pick true x y h g = h
small_pick false x y h g = g

small_part : (f : ℕ → ℕ) (b : Bool) (at : ℕ) → ((q : ℕ) → f q < limit) → part_fault f b at < limit
small_part f true at h = h at
small_part f false at h = omega arith

head_small : (s : List ℕ) (n : Counts) (p at : ℕ) → head_fault s n p at < limit
unfolding head_fault operand_fault
head_small s n p at =
    small_pick (ltb at (length s)) _ _
    (small_pick (fits_at (get_or s at 0) p) _ _
    (small_pick (has_operand (get_or s at 0)) _ _
    (small_pick (ltb (at + 1) (length s)) _ _ (small_pick (in_range n (get_or s at 0) (get_or s (at + 1) 0)) _ _ (omega arith) (omega arith))
    (omega arith))
    (omega arith))
    (omega arith))
    (omega arith)

pub fault_small : (s : List ℕ) (n : Counts) (k p at : ℕ) → fault_at s n k p at < limit
unfolding fault_at
fault_small s n zero p at = omega arith
fault_small s n (suc k) p at =
    small_pick (eqb (head_fault s n p at) 0) _ _
    (small_pick (eqb (part_fault (λ q. fault_at s n k (part_place (node_at s at).code p) q) (ltb 0 (node_at s at).parts) (node_at s at).next)
    0) _ _
    (small_part (λ q. fault_at s n k (part_place (node_at s at).code p) (parse_tree s k q).end) (ltb 1 (node_at s at).parts)
    (node_at s at).next (λ q. fault_small s n k (part_place (node_at s at).code p) (parse_tree s k q).end))
    (small_part (λ q. fault_at s n k (part_place (node_at s at).code p) q) (ltb 0 (node_at s at).parts) (node_at s at).next
    (λ q. fault_small s n k (part_place (node_at s at).code p) q)))
    (head_small s n p at)

pub fault_step : (s : List ℕ) (n : Counts) (k p at : ℕ) → (k ≡ 0 → ⊥)
    → fault_at s n k p at ≡ first (head_fault s n p at)
    (cond (eqb (node_at s at).parts 0) 0 (first (fault_at s n (k - 1) (part_place (node_at s at).code p) (node_at s at).next)
    (cond (eqb (node_at s at).parts 1) 0 (fault_at s n (k - 1) (part_place (node_at s at).code p)
    (parse_tree s (k - 1) (node_at s at).next).end))))
unfolding fault_at
fault_step s n zero p at h = absurd (h refl)
fault_step s n (suc k) p at h =
    rw (sub-one (suc k))
    (ap (first (head_fault s n p at)) (by_count (λ q. fault_at s n k (part_place (node_at s at).code p) q)
    (λ q. fault_at s n k (part_place (node_at s at).code p) (parse_tree s k q).end) (node_at s at).parts (node_at s at).next))
  where
    by_count : (f g : ℕ → ℕ) (c at : ℕ) → first (part_fault f (ltb 0 c) at) (part_fault g (ltb 1 c) at) ≡ cond (eqb c 0) 0
        (first (f at) (cond (eqb c 1) 0 (g at)))
    by_count f g zero at = refl
    by_count f g (suc zero) at = refl
    by_count f g (suc (suc c)) at =
        let a : 0 < suc (suc c) = omega arith in
        let b : 1 < suc (suc c) = omega arith in
        let d : suc (suc c) ≡ 0 → ⊥ = omega arith in
        let e : suc (suc c) ≡ 1 → ⊥ = omega arith in
        rw (lt-ltb _ _ a, lt-ltb _ _ b, ne_eqb _ _ d, ne_eqb _ _ e)

-- a node without a fault of its own is inside
inside : (s : List ℕ) (n : Counts) (p at : ℕ) → head_fault s n p at ≡ 0 → at < length s
unfolding head_fault
inside s n p at = go (ltb at (length s)) refl
  where
    go : (b : Bool) → ltb at (length s) ≡ b → cond b
        (cond (fits_at (get_or s at 0) p) (cond (has_operand (get_or s at 0)) (operand_fault s n (get_or s at 0) (at + 1)) 0) malformed)
        malformed ≡ 0 → at < length s
    go true e h = ltb-true at (length s) e
    go false e h = absurd (omega arith)

-- the node there
node_inside : (s : List ℕ) (at : ℕ) → at < length s → ((node_at s at).code ≡ get_or s at 0) × ((node_at s at).parts ≡ part_count (get_or s at 0))
unfolding node_at
node_inside s at h = rw (lt-ltb _ _ h) (go (has_operand (get_or s at 0)))
  where
    n : Bool → Node
    n b = cond b (record { code = get_or s at 0; operand = get_or s (at + 1) 0; parts = part_count (get_or s at 0); next = at + 2 })
        (record { code = get_or s at 0; operand = 0; parts = part_count (get_or s at 0); next = at + 1 })

    go : (b : Bool) → ((n b).code ≡ get_or s at 0) × ((n b).parts ≡ part_count (get_or s at 0))
    go true = (refl, refl)
    go false = (refl, refl)

pub read_inside : (s : List ℕ) (n : Counts) (p at h : ℕ) → h ≡ head_answer s n p at → limit ≤ h → at < length s
unfolding head_answer
read_inside s n p at h e l = inside s n p at (said_end h (head_fault s n p at) (node_at s at).next (head_small s n p at) e l).0

module _ (s : List ℕ) (n : Counts) (k p at : ℕ) where
  pub read_zero : k ≡ 0 → malformed ≡ read_answer s n k p at
  unfolding read_answer fault_at
  read_zero z = rw z

  module _ (h : ℕ) (z : k ≡ 0 → ⊥) (e : h ≡ head_answer s n p at) where
    head_said : (h < limit → (head_fault s n p at ≡ h) × (eqb (head_fault s n p at) 0 ≡ false))
        × (limit ≤ h → (head_fault s n p at ≡ 0) × (h - limit ≡ (node_at s at).next))
    unfolding head_answer
    head_said = (
      said_fault h (head_fault s n p at) (node_at s at).next (head_small s n p at) e,
      said_end h (head_fault s n p at) (node_at s at).next (head_small s n p at) e,
    )

    pub read_head : h < limit → h ≡ read_answer s n k p at
    unfolding read_answer
    read_head l = let q = head_said.0 l in rw (fault_step s n k p at z, q.1) (rw q.1 (sym q.0))

    module _ (c w : ℕ) (l : limit ≤ h) (ec : c ≡ part_count (get_or s at 0)) where
      own : head_fault s n p at ≡ 0
      own = (head_said.1 l).0

      next : h - limit ≡ (node_at s at).next
      next = (head_said.1 l).1

      count : (node_at s at).parts ≡ c
      count = (node_inside s at (inside s n p at own)).1 ∙ sym ec

      code : (node_at s at).code ≡ get_or s at 0
      code = (node_inside s at (inside s n p at own)).0

      pub read_leaf : c ≡ 0 → h ≡ read_answer s n k p at
      unfolding read_answer
      read_leaf d = rw (fault_step s n k p at z, own, count, d, parse_step s k at z, count, d) (omega (arith, next))

      module _ (g : ℕ) (b : c ≡ 0 → ⊥) (ew : w ≡ part_place (get_or s at 0) p) (eg : g ≡ read_answer s n (k - 1) w (h - limit)) where
        abbrev fa : ℕ
        fa = fault_at s n (k - 1) w (node_at s at).next

        abbrev en : ℕ
        en = (parse_tree s (k - 1) (node_at s at).next).end

        is : g ≡ answer fa en
        unfolding read_answer
        is = eg ∙ rw next refl

        pub read_one : c ≡ 1 → g ≡ read_answer s n k p at
        unfolding read_answer
        read_one o = rw (fault_step s n k p at z, parse_step s k at z, own, count, o, code, ← ew) (is ∙ same fa en)
          where
            same : (f e : ℕ) → answer f e ≡ answer (first f 0) e
            same f e = go (eqb f 0) refl
              where
                go : (b : Bool) → eqb f 0 ≡ b → answer f e ≡ answer (first f 0) e
                go true d = rw (eqb-true f 0 d)
                go false d = simp d

        pub read_part : (c ≡ 1 → ⊥) → g < limit → g ≡ read_answer s n k p at
        unfolding read_answer
        read_part o f =
            let q = said_fault g fa en (fault_small s n (k - 1) w (node_at s at).next) is f in
            rw (fault_step s n k p at z, own, count, ne_eqb _ _ b, code, ← ew, q.1) (rw q.1 (sym q.0))

        pub read_two : (r : ℕ) → limit ≤ g → (c ≡ 1 → ⊥) → r ≡ read_answer s n (k - 1) w (g - limit) → r ≡ read_answer s n k p at
        unfolding read_answer
        read_two r f o er =
            let q = said_end g fa en (fault_small s n (k - 1) w (node_at s at).next) is f in
            let t₀ : 0 < c = omega arith in
            let t₁ : 1 < c = omega arith in
            rw (
              fault_step s n k p at z,
              parse_step s k at z,
              own,
              count,
              ne_eqb _ _ b,
              ne_eqb _ _ o,
              code,
              ← ew,
              lt-ltb _ _ t₀,
              lt-ltb _ _ t₁,
              q.0,
            ) (er ∙ rw q.1 refl)

pub ruleset read_at_branches = (read_zero, read_head, read_inside, read_leaf, read_part, read_one, read_two, lower)

-- a body from a position on
pub body_past : (s : List ℕ) (n : Counts) (at : ℕ) → length s ≤ at → Err Malformed ≡ reading_from s n at
unfolding head_fault
body_past s n at h = rw (fault_step s n nesting (sort_from s at) at (λ (e : 16 ≡ 0). omega arith), le-ltb _ _ h)

module _ (s : List ℕ) (n : Counts) (at e : ℕ) (is : e ≡ read_answer s n nesting (sort_from s at) at) where
  abbrev fault : ℕ
  fault = fault_at s n nesting (sort_from s at) at

  abbrev end : ℕ
  end = (parse_tree s nesting at).end

  pub body_fault : (f : Fault) → e < limit → f ≡ fault_named e → Err f ≡ reading_from s n at
  unfolding read_answer
  body_fault f l d = let q = said_fault e fault end (fault_small s n nesting (sort_from s at) at) is l in rw (q.1, q.0, d)

  module _ (l : limit ≤ e) where
    ended : (fault ≡ 0) × (e - limit ≡ end)
    unfolding read_answer
    ended = said_end e fault end (fault_small s n nesting (sort_from s at) at) is l

    pub body_formula : e - limit ≡ length s → Ok (sort_from s at) ≡ reading_from s n at
    body_formula d = rw (ended.0, eq-eqb _ _ (sym ended.1 ∙ d))

    pub body_over : (e - limit ≡ length s → ⊥) → Err Malformed ≡ reading_from s n at
    body_over d = rw (ended.0, ne_eqb _ _ (λ (z : end ≡ length s). d (ended.1 ∙ z)))

pub ruleset read_record_branches = (body_past, body_fault, body_formula, body_over)

-- what the reader is proved by
pub ruleset reader_ways = (reader_branches, read_at_branches, read_record_branches, tests)
