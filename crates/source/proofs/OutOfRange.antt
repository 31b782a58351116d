-- Sources that are not in range, each for one reason: what a weaker definition would let pass.
use mathlib.Core.Path.{◌≡◌, refl}
use mathlib.Core.Bool.{true}
use mathlib.Core.List.{List, [], ◌∷◌}
use mathlib.Core.Logic.{◌⊎◌, inl, inr}
use Prim.Native.Nat.{ℕ, ◌≤◌}
use native.Mathlib.Omega.{arith}
use Rattle.semantics.specs.Formula.{Sort, Formula}
use Rattle.limits.specs.Numbers.{nth}
use Rattle.source.specs.Source.{Listed, Instruction, Instruction.assign, Instruction.store, Instruction.branch, Instruction.exchange, Point, Claimed, Source}
use Rattle.source.specs.Prefix.{nodes}
use Rattle.source.specs.Written.{assertions}
use Rattle.source.specs.Meaning.{as_value, as_assertion, listed, value, assertion, thread_at, claims_of}
use Rattle.source.specs.InRange.{Proper, InRange}

-- a formula with its sort
abbrev sorted : (s : Sort) → Formula s → Listed
sorted s f = record { sort = s; formula = f }

-- true of every state
abbrev always : Listed
always = sorted Sort.assertion (Formula.holds (Formula.not Formula.false))

-- two threads with a register each, one word, range 4; formula 1 is `always`, formula 2 is given; the points of thread 1 and the claims are
abbrev made : Listed → List Point → List Claimed → Source
made f ps cs = record {
  range = 4;
  start_values = 0 ∷ [];
  registers = record { owner = 1; cleared = true } ∷ record { owner = 2; cleared = true } ∷ [];
  formulas = always ∷ f ∷ [];
  threads = record { points = ps; last = 1 } ∷ record { points = []; last = 1 } ∷ [];
  lines = [];
  named = [];
  claims = cs;
}

-- one point with this instruction
abbrev doing : Listed → Instruction → Source
doing f i = made f (record { assertion = 1; instruction = i } ∷ []) []

-- a header with this range, this start value of its word and this owner of its register; one thread
abbrev headed : ℕ → ℕ → ℕ → Source
headed values start owner = record {
  range = values;
  start_values = start ∷ [];
  registers = record { owner = owner; cleared = true } ∷ [];
  formulas = always ∷ [];
  threads = record { points = []; last = 1 } ∷ [];
  lines = [];
  named = [];
  claims = [];
}

-- "the range, 2 to 16 values"
one_value : InRange (headed 1 0 1) → ⊥
one_value h = let q = h.fewest in omega (arith, q)

seventeen_values : InRange (headed 17 0 1) → ⊥
seventeen_values h = let q = h.most in omega (arith, q)

-- "Constants and start values must be below it"
start_value : InRange (headed 4 4 1) → ⊥
start_value h = let q = h.start-values.0 in omega (arith, q)

-- a register of thread 2, where there is one thread
owner_absent : InRange (headed 4 0 2) → ⊥
owner_absent h = let q = h.owners.0.1 in omega (arith, q)

constant : InRange (made (sorted Sort.value (Formula.const 4)) [] []) → ⊥
unfolding nodes
constant h = let q = h.constants.1.0.0 refl in omega (arith, q)

-- word 2 of one
word : InRange (doing (sorted Sort.value (Formula.const 0)) (store 2 2)) → ⊥
unfolding Proper thread_at nth
word h = let q = (h.instructions 1 0 (omega arith, omega arith) (omega arith)).0.1 in omega (arith, q)

-- thread 1 assigns to the register of thread 2
foreign_register : InRange (doing (sorted Sort.value (Formula.const 0)) (assign (record { to = 2; by = 2 }))) → ⊥
unfolding Proper thread_at nth
foreign_register h = let q = (h.instructions 1 0 (omega arith, omega arith) (omega arith)).0.1 in omega (arith, q)

-- thread 1 stores what is in the register of thread 2
foreign_operand : InRange (doing (sorted Sort.value (Formula.reg 2)) (store 1 2)) → ⊥
unfolding Proper thread_at nth listed value as_value nodes
foreign_operand h = go (h.instructions 1 0 (omega arith, omega arith) (omega arith)).1.1.0
  where
    go : (◌≡◌ {A = ℕ} 1 0) ⊎ ((◌≡◌ {A = ℕ} 1 1) × (((1 ≤ 2) × (2 ≤ 2)) × (◌≡◌ {A = ℕ} 2 1))) → ⊥
    go (inl e) = omega (arith, e)
    go (inr e) = let q = e.1.1 in omega (arith, q)

-- an instruction's formula that reads a word
word_operand : InRange (doing (sorted Sort.value (Formula.word 1)) (store 1 2)) → ⊥
unfolding Proper thread_at nth listed value as_value nodes
word_operand h = go (h.instructions 1 0 (omega arith, omega arith) (omega arith)).1.1.0
  where
    go : (◌≡◌ {A = ℕ} 2 0) ⊎ ((◌≡◌ {A = ℕ} 2 1) × (((1 ≤ 1) × (1 ≤ 2)) × (◌≡◌ {A = ℕ} 1 1))) → ⊥
    go (inl e) = omega (arith, e)
    go (inr e) = let q = e.0 in omega (arith, q)

-- the operand of an exchange names its result register
result_operand : InRange (doing (sorted Sort.value (Formula.reg 1)) (exchange 1 1 2)) → ⊥
unfolding Proper thread_at nth listed value as_value nodes
result_operand h = (h.instructions 1 0 (omega arith, omega arith) (omega arith)).3.0 refl refl

-- a branch past the last point
target : InRange (doing (sorted Sort.test Formula.false) (branch 2 2)) → ⊥
unfolding Proper thread_at nth assertions
target h = let q = (h.instructions 1 0 (omega arith, omega arith) (omega arith)).0 in omega (arith, q)

-- start in an outline
started : InRange (made (sorted Sort.assertion Formula.start)
    (record { assertion = 2; instruction = assign (record { to = 1; by = 2 }) } ∷ []) []) → ⊥
unfolding thread_at nth assertions listed assertion as_assertion
started h = (h.outline 1 0 ((omega arith, omega arith), omega arith)).1

-- a claim about one thread
one_thread : InRange (made always [] (record { claim = record { thread = 1; point = 0; other = 1; other_point = 0 }; line = 0 } ∷ [])) → ⊥
unfolding claims_of
one_thread h = h.claims.0.2 refl

-- a claim about a point that is not there
no-point : InRange (made always [] (record { claim = record { thread = 1; point = 1; other = 2; other_point = 0 }; line = 0 } ∷ [])) → ⊥
unfolding claims_of thread_at nth assertions
no-point h = let q = h.claims.0.0.1 in omega (arith, q)
