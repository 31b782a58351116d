-- Threads: the ways through the functions, one law for each.
use Prim.Native.Nat.{ℕ, zero, suc, ◌+◌, ◌-◌, ◌*◌, ◌≤◌, ◌<◌}
use mathlib.Core.Path.{◌≡◌, refl, ap, sym, ◌∙◌}
use mathlib.Core.List.{List, [], ◌∷◌}
use mathlib.Core.Bool.{Bool, true, false, cond}
use native.Mathlib.Numerals.{sub-one}
use native.Mathlib.Omega.{arith}
use lib.ListN.{length, get_or, drop, get_or-eq_default}
use lib.Seq.{drop-drop, get_or-drop}
use Rattle.image_header.specs.declared.instruction.Instruction.{Instruction}
use Rattle.image_header.specs.Instruction.{twofold, instruction_size, instruction}
use Rattle.image_header.specs.Thread.{last_point, cut, begins, instructions, nothing, thread_size}
use Rattle.limits.proofs.BranchTests.{tests}

-- the instructions of a thread

pub last_none : (b : List ℕ) (n : ℕ) → n ≡ get_or b 0 0 → n ≡ 0 → 0 ≡ last_point b
unfolding last_point
last_none b n e z = omega arith

pub last-is : (b : List ℕ) (n : ℕ) → n ≡ get_or b 0 0 → n - 1 ≡ last_point b
unfolding last_point
last-is b n e = rw e

cut_length : (n : ℕ) (l : List ℕ) → length (cut n l) ≡ n
unfolding cut
cut_length zero l = refl
cut_length (suc n) l = ap suc (cut_length n (drop (instruction_size (get_or l 0 0)) l))

-- the iterator's step

pub left_none : (n : ℕ) (l : List ℕ) → n ≡ 0 → cut n l ≡ []
unfolding cut
left_none n l e = rw e

pub left_some : (n : ℕ) (l m : List ℕ) (i : Instruction) (k : ℕ) → (n ≡ 0 → ⊥) → i ≡ instruction l → k ≡ instruction_size i.operation
    → m ≡ drop k l
    → cut n l ≡ i ∷ cut (n - 1) m
unfolding cut instruction
left_some zero l m i k h e d f = absurd (h refl)
left_some (suc n) l m i k h e d f = rw (sub-one (suc n), f, d, e)

pub ruleset next_branches = (left_none, left_some)

pub begins_zero : (l : List ℕ) → begins l 0 ≡ 0
unfolding begins
begins_zero l = refl

-- an instruction more, in front
pub begins_behind : (l : List ℕ) (p : ℕ) → begins l (suc p) ≡ instruction_size (get_or l 0 0) + begins
    (drop (instruction_size (get_or l 0 0)) l) p
unfolding begins
begins_behind l zero = omega arith
begins_behind l (suc p) = go (instruction_size (get_or l 0 0)) (begins l (suc p)) (begins (drop (instruction_size (get_or l 0 0)) l) p)
    (begins_behind l p)
  where
    go : (k a b : ℕ) → a ≡ k + b → a + instruction_size (get_or l a 0) ≡ k + (b + instruction_size (get_or (drop k l) b 0))
    go k a b e = rw (e, get_or-drop k l b 0) (omega arith)

cut_at : (n : ℕ) (l : List ℕ) (p : ℕ) → p < n → get_or (cut n l) p nothing ≡ instruction (drop (begins l p) l)
unfolding cut
cut_at zero l p h = absurd (omega arith)
cut_at (suc n) l zero h = begins_none
  where
    begins_none : instruction l ≡ instruction (drop (begins l 0) l)
    begins_none = rw (begins_zero l)
cut_at (suc n) l (suc p) h =
    cut_at n (drop (instruction_size (get_or l 0 0)) l) p (omega arith)
    ∙ (rw (drop-drop (begins (drop (instruction_size (get_or l 0 0)) l) p) (instruction_size (get_or l 0 0)) l, ← begins_behind l p))

pub instructions_length : (b : List ℕ) → length (instructions b) ≡ last_point b
unfolding instructions
instructions_length b = cut_length (last_point b) (drop 1 b)

module _ (b : List ℕ) (last p : ℕ) (e : last ≡ last_point b) where
  pub at_past : last ≤ p → nothing ≡ get_or (instructions b) p nothing
  at_past h = let q : length (instructions b) ≤ p = rw (instructions_length b, ← e) h in
      sym (get_or-eq_default (instructions b) nothing q)

  pub at_in : (l m : List ℕ) (at : ℕ) (r : Instruction) → p < last → l ≡ drop 1 b → at ≡ begins l p → m ≡ drop at l → r ≡ instruction m
      → r ≡ get_or (instructions b) p nothing
  unfolding instructions
  at_in l m at r h d f k g = let q : p < last_point b = rw (← e) h in rw (cut_at (last_point b) (drop 1 b) p q, ← d, ← f, ← k) g

  pub at_known : p < last → last < 256 → p < 256
  at_known h k = omega arith

pub size_of : (b l : List ℕ) (last n : ℕ) → last ≡ last_point b → l ≡ drop 1 b → n ≡ begins l last → 1 + n ≡ thread_size b
unfolding thread_size
size_of b l last n e d f = rw (f, d, e)

pub ruleset thread_threading = (last_none, last-is, at_past, at_in, at_known, size_of)

-- the walk over the instructions

pub walk_start : (l : List ℕ) → 0 ≡ begins l 0
walk_start l = sym (begins_zero l)

pub walk_more : (l : List ℕ) (i at o n : ℕ) → at ≡ begins l i → o ≡ get_or l at 0 → n ≡ instruction_size o → at + n ≡ begins l (i + 1)
unfolding begins
walk_more l i at o n e d f = go (i + 1) (omega arith)
  where
    go : (j : ℕ) → j ≡ suc i → at + n ≡ begins l j
    go j q = rw (q, f, d, e)

pub walk_all : (l : List ℕ) (i p at : ℕ) → p ≤ i → i ≤ p → at ≡ begins l i → at ≡ begins l p
walk_all l i p at h g e = let q : i ≡ p = omega arith in rw (← q) e

pub ruleset begins_at_branches = (walk_start, walk_more, walk_all)

-- sizes are at most ten bytes
begins_low : (l : List ℕ) (p : ℕ) → begins l p ≤ 10 * p
unfolding begins instruction_size
begins_low l zero = omega arith
begins_low l (suc p) = go (twofold (get_or l (begins l p) 0)) (begins_low l p)
  where
    go : (b : Bool) → begins l p ≤ 10 * p → begins l p + cond b 10 5 ≤ 10 * suc p
    go true h = omega arith
    go false h = omega arith

pub begins_few : (l : List ℕ) (p at : ℕ) → p < 256 → at ≡ begins l p → at ≤ 2550
begins_few l p at h e = let q = begins_low l p in omega arith

pub from_behind : (b l : List ℕ) (p at o n : ℕ) → l ≡ drop 1 b → at ≡ begins (drop 1 b) p → o ≡ get_or l at 0 → n ≡ instruction_size o
    → at + n ≡ begins (drop 1 b) (p + 1)
from_behind b l p at o n d e f g = walk_more (drop 1 b) p at o n e (rw (← d) f) g

pub from_in : (b l m : List ℕ) (last p at : ℕ) (r : Instruction) → last ≡ last_point b → p < last → l ≡ drop 1 b → at ≡ begins (drop 1 b) p
    → m ≡ drop at l
    → r ≡ instruction m → r ≡ get_or (instructions b) p nothing
from_in b l m last p at r e h d f k g = at_in b last p e l m at r h d (rw d f) k g

pub from_walked : (b l : List ℕ) (p at : ℕ) → l ≡ drop 1 b → at ≡ begins l p → at ≡ begins (drop 1 b) p
from_walked b l p at d e = rw (← d) e

pub from_start : (b : List ℕ) → 0 ≡ begins (drop 1 b) 0
from_start b = walk_start (drop 1 b)

pub ruleset thread_going = (begins_few, from_behind, from_in, from_walked, from_start)

pub ruleset thread_search = (thread_going, thread_threading, tests)
