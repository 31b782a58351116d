-- Values and replacements worked out by hand.
use mathlib.Core.Path.{◌≡◌, refl}
use mathlib.Core.Bool.{true, false}
use mathlib.Core.List.{[], ◌∷◌}
use Rattle.semantics.specs.Base.{upd}
use Rattle.semantics.specs.Formula.{Value, Formula.const, Formula.reg, Formula.word, Formula.sum, Formula.equal, Formula.less}
use Rattle.semantics.specs.Eval.{Env, on_regs, value, test}
use Rattle.semantics.specs.Replace.{replace, reg_by, word_by, notes}

-- 4 and 3 in registers 1 and 2, of 5, 8 and 16 values
abbrev four_three : Env
four_three = on_regs (upd (upd (λ r. 0) 1 4) 2 3)

abbrev total : Value
total = sum (reg 1) (reg 2)

of_5 : value 5 four_three total ≡ 2
unfolding upd
of_5 = refl

of_7 : value 7 four_three total ≡ 0
unfolding upd
of_7 = refl

of_16 : value 16 four_three (sum total (sum total (const 3))) ≡ 1
unfolding upd
of_16 = refl

-- equality and order, both ways
equal_not : test 8 four_three (equal (reg 1) (reg 2)) ≡ false
unfolding upd
equal_not = refl

less_not : test 8 four_three (less (reg 1) (reg 2)) ≡ false
unfolding upd
less_not = refl

less_so : test 8 four_three (less (reg 2) (reg 1)) ≡ true
unfolding upd
less_so = refl

-- registers 1 and 2 change places, so that neither feeds the other
swapped : replace (notes (record { to = 1; by = reg 2 } ∷ record { to = 2; by = reg 1 } ∷ [])) (less (reg 1) (sum (reg 2) (word 1)))
    ≡ less (reg 2) (sum (reg 1) (word 1))
unfolding upd
swapped = refl

-- one register, one word: the other of each stays
register_only : replace (reg_by 1 (word 1)) (equal (reg 1) (sum (reg 2) (word 1))) ≡ equal (word 1) (sum (reg 2) (word 1))
unfolding upd
register_only = refl

word_only : replace (word_by 1 (reg 1)) (equal (word 1) (sum (word 2) (reg 1))) ≡ equal (reg 1) (sum (word 2) (reg 1))
unfolding upd
word_only = refl
