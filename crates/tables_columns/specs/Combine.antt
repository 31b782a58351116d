-- A node's value from the values of its parts; of a test, 1 for true.
use Rattle.std.specs.Prelude.{ℕ, ◌+◌, ◌-◌, cond, eqb, ltb}
use Rattle.semantics.specs.Code
use Rattle.semantics.specs.Code.{byte}

-- the sum modulo the range R, of values below it
unfoldable pub sum_of : ℕ → ℕ → ℕ → ℕ
sum_of R a b = cond (ltb a (R - b)) (a + b) (a - (R - b))

-- the value of a node with the code c and the operand o whose parts have the values a and b
unfoldable pub combine : ℕ → ℕ → ℕ → ℕ → ℕ → ℕ
combine R c o a b =
    cond (eqb c (byte Code.const)) o
    (cond (eqb c (byte Code.sum)) (sum_of R a b)
    (cond (eqb c (byte Code.equal)) (cond (eqb a b) 1 0)
    (cond (eqb c (byte Code.less)) (cond (ltb a b) 1 0)
    (cond (eqb c (byte Code.not)) (cond (eqb a 1) 0 1)
    (cond (eqb c (byte Code.and)) (cond (eqb a 1) b 0)
    (cond (eqb c (byte Code.or)) (cond (eqb a 1) 1 b)
    (cond (eqb c (byte Code.both_a)) (cond (eqb a 1) b 0)
    (cond (eqb c (byte Code.either_a)) (cond (eqb a 1) 1 b) (cond (eqb c (byte Code.holds)) a 0)))))))))
