-- The formula bytes: a code for each kind of formula, by sort.
use Rattle.std.specs.Prelude.{ℕ}

-- the page's "formula bytes (decimal)", a line for each sort: values, tests, intervals, assertions
pub data Code : Type 0 where
  const reg word sum : Code
  false equal less not and or unsync cov : Code
  box one chop both either : Code
  sees both_a either_a start holds : Code

-- the byte that a formula of the kind begins with
abbrev pub byte : Code → ℕ
byte const = 0
byte reg = 1
byte word = 2
byte sum = 3
byte false = 8
byte equal = 9
byte less = 10
byte not = 11
byte and = 12
byte or = 13
byte unsync = 14
byte cov = 15
byte box = 16
byte one = 17
byte chop = 18
byte both = 19
byte either = 20
byte sees = 24
byte both_a = 25
byte either_a = 26
byte start = 27
byte holds = 28
