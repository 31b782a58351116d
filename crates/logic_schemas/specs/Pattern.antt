-- Schemas (patterns): formulas with holes, by sort; what fills the holes; a pattern filled.
use Rattle.std.specs.Prelude.{ℕ}
use Rattle.semantics.specs.Formula.{Sort, Formula, Value, Test, Interval, Assertion}

-- schematic numbers: the thread, word and register of the instruction; u and y stand for any
pub data Num : Type 0 where
  t x r u y : Num

-- a formula with holes
pub data Pattern : Sort → Type 0 where
  -- any formula of the sort, by the hole's number
  any_a : ℕ → Pattern Sort.assertion
  any_i : ℕ → Pattern Sort.interval
  any_e : ℕ → Pattern Sort.test
  any_v : ℕ → Pattern Sort.value
  -- the instruction's formula
  f : Pattern Sort.value
  -- the constructors of formulas, with schematic numbers
  const : ℕ → Pattern Sort.value
  reg word : Num → Pattern Sort.value
  equal : Pattern Sort.value → Pattern Sort.value → Pattern Sort.test
  and : Pattern Sort.test → Pattern Sort.test → Pattern Sort.test
  unsync cov : Num → Pattern Sort.test
  box : Pattern Sort.test → Pattern Sort.interval
  one : Num → Pattern Sort.interval
  chop both either : Pattern Sort.interval → Pattern Sort.interval → Pattern Sort.interval
  sees : Num → Pattern Sort.interval → Pattern Sort.assertion
  both_a either_a : Pattern Sort.assertion → Pattern Sort.assertion → Pattern Sort.assertion
  start : Pattern Sort.assertion
  holds : Pattern Sort.test → Pattern Sort.assertion

-- what is given with a line: thread, word, register and formula of its instruction
pub record Given : Type 0 where
  pub t : ℕ
  pub x : ℕ
  pub r : ℕ
  pub f : Value

-- what fills the holes, a formula for each hole number of each sort: the matching substitution
pub record Fill : Type 0 where
  pub u : ℕ
  pub y : ℕ
  pub assertion : ℕ → Assertion
  pub interval : ℕ → Interval
  pub test : ℕ → Test
  pub value : ℕ → Value

module _ (g : Given) (σ : Fill) where
  -- the number that a schematic number stands for
  abbrev pub number : Num → ℕ
  number t = g.t
  number x = g.x
  number r = g.r
  number u = σ.u
  number y = σ.y

  -- the instance of the pattern: its holes filled
  abbrev pub inst : {s : Sort} → Pattern s → Formula s
  inst (any_a k) = σ.assertion k
  inst (any_i k) = σ.interval k
  inst (any_e k) = σ.test k
  inst (any_v k) = σ.value k
  inst f = g.f
  inst (const n) = Formula.const n
  inst (reg n) = Formula.reg (number n)
  inst (word n) = Formula.word (number n)
  inst (equal p q) = Formula.equal (inst p) (inst q)
  inst (and p q) = Formula.and (inst p) (inst q)
  inst (unsync n) = Formula.unsync (number n)
  inst (cov n) = Formula.cov (number n)
  inst (box p) = Formula.box (inst p)
  inst (one n) = Formula.one (number n)
  inst (chop p q) = Formula.chop (inst p) (inst q)
  inst (both p q) = Formula.both (inst p) (inst q)
  inst (either p q) = Formula.either (inst p) (inst q)
  inst (sees n p) = Formula.sees (number n) (inst p)
  inst (both_a p q) = Formula.both_a (inst p) (inst q)
  inst (either_a p q) = Formula.either_a (inst p) (inst q)
  inst start = Formula.start
  inst (holds p) = Formula.holds (inst p)
