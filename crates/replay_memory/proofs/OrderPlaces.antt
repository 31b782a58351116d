-- Where rows begin in the table, and the places of two writes.
use Prim.Native.Nat.{ℕ, zero, suc, ◌+◌, ◌%◌, ◌≤◌, ◌<◌}
use mathlib.Core.Path.{◌≡◌, refl, ap, sym, ◌∙◌}
use mathlib.Core.Bool.{Bool, true, false}
use mathlib.Core.List.{List}
use mathlib.Core.Logic.{◌≢◌}
use native.Mathlib.Omega.{arith}
use native.Mathlib.Nat.{mod-eq_of_lt}
use native.Mathlib.Numerals.{add-one}
use lib.Dec.{eqb, ltb}
use lib.ListN.{length, get_or, set}
use lib.Seq.{get_or-set_same, get_or-set_other}
use borrow.Author.Tests.{eqb-true, eqb-false, ltb-true, ltb-false}
use Rattle.limits.proofs.BranchTests.{tests}
use Rattle.replay_memory.specs.Write.{no_write, covered_write}
use Rattle.replay_memory.specs.Memory.{first, index_of, write_at, covering, memory_of}
use Rattle.replay_memory.specs.declared.write.Write.{Write}
use Rattle.replay_memory.specs.declared.memory.MemoryShape.{MemoryShape}

-- the ways through the loop that sums up
module _ (l : List ℕ) where
  pub first_none : 0 ≡ first l 0
  unfolding first
  first_none = refl

  pub first_next : (k : ℕ) → first l (suc k) ≡ first l k + get_or l k 0
  unfolding first
  first_next k = refl

  pub first_more : (k a v : ℕ) → a ≡ first l k → v ≡ get_or l k 0 → a + v ≡ first l (k + 1)
  first_more k a v e d = rw (add-one k, first_next k, e, d)

  pub first_all : (k n a : ℕ) → k ≤ n → n ≤ k → a ≡ first l k → a ≡ first l n
  first_all k n a h g e = let q : k ≡ n = omega arith in rw q at e

pub ruleset first_of_branches = (first_none, first_more, first_all)

pub index_made : (l : List ℕ) (k p a : ℕ) → a ≡ first l (k % 8) → (a + p) % 72 ≡ index_of l k p
unfolding index_of
index_made l k p a e = rw e

pub write_covered : (g : MemoryShape) (l : List Write) (k p i : ℕ) → i ≡ index_of g.sizes k p
    → memory_of g (set l i (record {
      value = (get_or l i no_write).value;
      releasing = (get_or l i no_write).releasing;
      covered = true;
      stored = (get_or l i no_write).stored;
    })) ≡ covering (memory_of g l) k p
unfolding covering memory_of covered_write write_at
write_covered g l k p i e = rw e

module _ (l : List ℕ) where
  -- a row ends where later ones begin, or before
  pub row_ends : (n k : ℕ) → k < n → first l k + get_or l k 0 ≤ first l n
  row_ends zero k h = absurd (omega arith)
  row_ends (suc n) k h = go (ltb k n) refl (row_ends n k)
    where
      go : (b : Bool) → ltb k n ≡ b → (k < n → first l k + get_or l k 0 ≤ first l n) → first l k + get_or l k 0 ≤ first l (suc n)
      go true e f = omega (arith, f (ltb-true k n e), first_next l n)
      go false e f = let q : k ≡ n = omega (arith, ltb-false k n e) in rw q (omega (arith, first_next l n))

  -- two positions have two places
  pub apart : (j i k p : ℕ) → i < get_or l j 0 → p < get_or l k 0 → (j ≡ k → i ≡ p → ⊥) → first l j + i ≢ first l k + p
  apart j i k p h g differ e = go (eqb j k) (ltb j k) refl refl
    where
      go : (b c : Bool) → eqb j k ≡ b → ltb j k ≡ c → ⊥
      go true c eb ec = let q : j ≡ k = eqb-true j k eb in differ q (omega (arith, ap (first l) q))
      go false true eb ec = omega (arith, row_ends k j (ltb-true j k ec))
      go false false eb ec =
          let q : k ≤ j = ltb-false j k ec in
          let n : j ≢ k = eqb-false j k eb in
          omega (arith, row_ends j k (omega arith))

  module _ (few : first l 8 ≤ 72) where
    pub place : (k p : ℕ) → k < 8 → p < get_or l k 0 → index_of l k p ≡ first l k + p
    unfolding index_of
    place k p h g = rw (mod-eq_of_lt h) (mod-eq_of_lt (omega (arith, row_ends 8 k h)))

  module _ (k v : ℕ) where
    -- a row's size changed: those up to it begin where they began, those behind it as much later as it is longer
    pub begins_same : (j : ℕ) → j ≤ k → first (set l k v) j ≡ first l j
    begins_same zero h = sym (first_none (set l k v)) ∙ first_none l
    begins_same (suc j) h =
        let n : j ≢ k = λ (z : j ≡ k). omega arith in
        first_next (set l k v) j ∙ rw (begins_same j (omega arith), get_or-set_other l k j v 0 n, first_next l j)

    pub begins_later : (j : ℕ) → k < j → k < length l → first (set l k v) j + get_or l k 0 ≡ first l j + v
    begins_later zero h g = absurd (omega arith)
    begins_later (suc j) h g = rw (first_next (set l k v) j, first_next l j) (go (eqb j k) refl (begins_later j))
      where
        go : (b : Bool) → eqb j k ≡ b → (k < j → k < length l → first (set l k v) j + get_or l k 0 ≡ first l j + v)
            → first (set l k v) j + get_or (set l k v) j 0 + get_or l k 0 ≡ first l j + get_or l j 0 + v
        go true e f = let q : j ≡ k = eqb-true j k e in rw (q, begins_same k (omega arith), get_or-set_same l k v 0 g) (omega arith)
        go false e f =
            let n : j ≢ k = eqb-false j k e in
            rw (get_or-set_other l k j v 0 n) (omega (arith, f (omega arith) g))

pub ruleset orders = (first_of_branches, index_made, write_covered, tests)
