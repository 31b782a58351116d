-- Sums over instructions and over threads.
use Prim.Native.Nat.{ℕ, zero, suc, ◌+◌, ◌-◌, ◌*◌, ◌^◌, ◌≤◌, ◌<◌}
use mathlib.Core.Path.{◌≡◌, refl, ◌∙◌}
use mathlib.Core.List.{List, [], ◌∷◌}
use mathlib.Core.Bool.{Bool, true, false}
use native.Mathlib.Numerals.{add-one}
use native.Mathlib.Nat.{mul-le-mul, mul-add, add-mul}
use native.Mathlib.Omega.{arith}
use lib.Dec.{eqb}
use lib.ListN.{length, get_or}
use Rattle.std.specs.List.{filter}
use Rattle.std.proofs.Common.{Fits, w8}
use Rattle.logic.specs.Opcode as Opcode
use Rattle.image_header.specs.declared.sizes.Sizes.{Sizes}
use Rattle.image_header.specs.declared.instruction.Instruction.{Instruction}
use Rattle.image_header.specs.Thread.{last_point, instructions}
use Rattle.image_header.proofs.ThreadBranches.{instructions_length}
use Rattle.image_bodies.specs.RecordPlaces.{thread_body}
use Rattle.image_bodies.specs.declared.point_counts.PointCounts.{PointCounts}
use Rattle.image_bodies.specs.PointCounts.{is_branch, branches, tallied, thread_counts, plus, point_counts_to, point_counts, Small, obligations_by, obligation_count}

-- branches of a thread

-- the instruction is a branch
abbrev pub branch : Instruction → Bool
branch i = eqb i.operation Opcode.branch

pub branches_filter : (l : List Instruction) → length (filter branch l) ≡ branches l
unfolding branches is_branch
branches_filter [] = refl
branches_filter (i ∷ l) = go (branch i) refl (branches_filter l)
  where
    go : (b : Bool) → branch i ≡ b → length (filter branch l) ≡ branches l → length (filter branch (i ∷ l)) ≡ is_branch i + branches l
    go true e h = rw e (omega (arith, h))
    go false e h = rw e (omega (arith, h))

pub branches_low : (l : List Instruction) → branches l ≤ length l
unfolding branches is_branch
branches_low [] = omega arith
branches_low (i ∷ l) = go (branch i) refl (branches_low l)
  where
    go : (b : Bool) → branch i ≡ b → branches l ≤ length l → is_branch i + branches l ≤ suc (length l)
    go true e h = rw e (omega (arith, h))
    go false e h = rw e (omega (arith, h))

pub instructions_few : (b : List ℕ) → Fits w8 (get_or b 0 0) → length (instructions b) < 2 ^ 64
unfolding last_point
instructions_few b h = rw (instructions_length b) (omega (arith, h))

-- the point_counts of a thread

small_product : (a b m : ℕ) → a ≤ m → b ≤ m → a * b ≤ m * m
small_product a b m h g = mul-le-mul h g

pub own_fits : (m n : ℕ) → m < 256 → (m + 1) * (m - n) < 2 ^ 64
own_fits m n h = omega (arith, small_product (m + 1) (m - n) 256 (omega arith) (omega arith))

pub thread_small : (b : List ℕ) (m n : ℕ) → m ≡ last_point b → m < 256 → n ≤ last_point b → Small 1 (tallied m n)
thread_small b m n e h g = record {
  points = omega arith;
  steps = omega arith;
  actions = omega arith;
  own = omega (arith, small_product (m + 1) (m - n) 256 (omega arith) (omega arith));
}

-- the point_counts of all threads

pub small_none : Small 0 (record { points = 0; steps = 0; actions = 0; own = 0 })
small_none = record { points = omega arith; steps = omega arith; actions = omega arith; own = omega arith }

pub sum_more : (z : Sizes) (l : List (List ℕ)) (t : ℕ) (b : List ℕ) (c d r : PointCounts) → c ≡ point_counts_to z l t
    → b ≡ get_or l (z.formulas + (t + 1)) [] → d ≡ thread_counts b → r ≡ plus c d → r ≡ point_counts_to z l (t + 1)
unfolding point_counts_to thread_body
sum_more z l t b c d r ec eb ed er = er ∙ (rw (add-one t, ec, ed, eb, add-one t))

pub small_more : (t : ℕ) (c d r : PointCounts) → Small t c → Small 1 d → r ≡ plus c d → Small (t + 1) r
small_more t c d r h g e = rw e (record { points = omega arith; steps = omega arith; actions = omega arith; own = omega arith })

pub sum_all : (z : Sizes) (l : List (List ℕ)) (t n : ℕ) (c : PointCounts) → n ≡ z.threads → t ≤ n → n ≤ t → c ≡ point_counts_to z l t → c ≡ point_counts z l
unfolding point_counts
sum_all z l t n c e h g d = let q : t ≡ z.threads = omega arith in rw q at d

pub small_all : (t n : ℕ) (c : PointCounts) → n < 256 → t ≤ n → Small t c → Small 256 c
small_all t n c e h g = record { points = omega arith; steps = omega arith; actions = omega arith; own = omega arith }

-- the number of obligations

own_below : (z : Sizes) (l : List (List ℕ)) (t : ℕ) → (point_counts_to z l t).own ≤ (point_counts_to z l t).points * (point_counts_to z l t).actions
unfolding point_counts_to thread_counts
own_below z l zero = omega arith
own_below z l (suc t) = go (point_counts_to z l t) (own_below z l t) (thread_counts (thread_body z l (suc t))) refl
  where
    go : (c : PointCounts) → c.own ≤ c.points * c.actions → (d : PointCounts) → d.own ≡ d.points * d.actions
        → (plus c d).own ≤ (plus c d).points * (plus c d).actions
    go c h d e = rw (
      add-mul c.points d.points (c.actions + d.actions),
      mul-add c.points c.actions d.actions,
      mul-add d.points c.actions d.actions,
    ) (omega arith)

module _ (z : Sizes) (l : List (List ℕ)) (c : PointCounts) where
  pub own_least : c ≡ point_counts z l → c.own ≤ c.points * c.actions
  unfolding point_counts
  own_least e = rw e (own_below z l z.threads)

  pub count_is : (r : ℕ) → c ≡ point_counts z l → r ≡ obligations_by z.threads c → r ≡ obligation_count z l
  unfolding obligation_count
  count_is r e d = d ∙ (rw e)

pub product_fits : (c : PointCounts) → Small 256 c → c.points * c.actions < 2 ^ 64
product_fits c h = omega (arith, small_product c.points c.actions 65536 (omega arith) (omega arith))

pub count_fits : (c : PointCounts) (n : ℕ) → n < 256 → Small 256 c → n + c.steps + (c.points * c.actions - c.own) < 2 ^ 64
count_fits c n e h = omega (arith, small_product c.points c.actions 65536 (omega arith) (omega arith))

pub ruleset sums = (
  own_fits,
  thread_small,
  small_none,
  sum_more,
  small_more,
  sum_all,
  small_all,
  own_least,
  product_fits,
  count_fits,
)
