-- A computed run with pairs and two assignments at once, worked out by hand: an access and its notes are one step,
-- and every formula is worked out before it.
use mathlib.Core.Path.{◌≡◌, refl}
use mathlib.Core.Bool.{true, false, not}
use mathlib.Core.List.{List, [], ◌∷◌, map}
use Prim.Native.Nat.{ℕ}
use lib.Dec.{eqb}
use Rattle.semantics.specs.Base.{upd}
use Rattle.semantics.specs.Formula.{Value, Formula.const, Formula.reg, Formula.sum, Formula.less, Formula.both_a, Formula.holds}
use Rattle.semantics.specs.Replace.{Note, replace, notes}
use Rattle.semantics.specs.Machine.{Program, Mode.store, Mode.swap, Access.none, Access.write, Instr, Instr.act, Step, begin, run, up, down}
use Rattle.logic.specs.Statement.{triple, pair}
use Rattle.logic.specs.Obligations.{step, interference, interferences, wants}
use Rattle.semantics.specs.EveryRun.{Outline}
use Rattle.semantics.proofs.Computed.{yes_no, draw, picture, write_of, by, nothing, at_points}
use Rattle.logic.proofs.Acting.{actor}

unfoldable pub note : ℕ → Value → Note
note r f = record { to = r; by = f }

-- Register 2 starts anywhere, registers 1 and 3 at 0.
-- Thread 1 stores register 1 + 3 to word 1 and notes register 1 := register 1 + (register 2 + 3);
-- stores register 2 to word 2, releasing, and notes register 2 := register 2 + register 1; trades registers 1 and 2
unfoldable pub trader : List Instr
trader =
    act (write (store false) 1 (sum (reg 1) (const 3))) (note 1 (sum (reg 1) (sum (reg 2) (const 3))) ∷ [])
    ∷ act (write (store true) 2 (reg 2)) (note 2 (sum (reg 2) (reg 1)) ∷ [])
    ∷ act none (note 1 (reg 2) ∷ note 2 (reg 1) ∷ [])
    ∷ []

-- Thread 2 swaps register 3 + 1 into word 2 and notes register 3 := register 3 + 6;
-- swaps register 3 into it and notes register 3 := register 3 + 4
unfoldable pub swapper : List Instr
swapper =
    act (write swap 2 (sum (reg 3) (const 1))) (note 3 (sum (reg 3) (const 6)) ∷ [])
    ∷ act (write swap 2 (reg 3)) (note 3 (sum (reg 3) (const 4)) ∷ [])
    ∷ []

unfoldable pub paired : Program
paired = record {
  threads = 2;
  words = 2;
  range = 8;
  init = λ x. 0;
  cleared = λ r. not (eqb r 2);
  points = upd (λ t. 3) 1 4;
  code = upd (upd (λ t k. nothing) 1 (at_points trader)) 2 (at_points swapper);
}

in_pairs : List Step
in_pairs =
    by 1 1  -- refused: word 1 has no write at 1 yet
    ∷ by 1 0  -- stores 0 + 3, and register 1 becomes 0 + (4 + 3)
    ∷ by 2 0  -- swaps 0 + 1 in, covers the first write of word 2, and register 3 becomes 0 + 6
    ∷ by 1 0  -- refused: a pair picks as its first half does, and that write is covered
    ∷ by 1 1  -- stores 4, releasing, and register 2 becomes 4 + 7, which is 3
    ∷ by 1 1  -- refused: two assignments pick 0
    ∷ by 1 0  -- 7 and 3 become 3 and 7
    ∷ by 1 0  -- refused: three instructions, three points before the last
    ∷ by 2 2  -- swaps 6 in behind the 4: its stored view is joined in; register 3 becomes 6 + 4, which is 2
    ∷ []

-- register 2 begins with 12 modulo 8; what is given for registers 1 and 3 does not count
traded : picture (run paired (begin paired (λ r. 12)) in_pairs) ≡ record {
  rows =
      (write_of 0 0 0 (0 ∷ 0 ∷ []) ∷ write_of 3 0 0 (1 ∷ 0 ∷ []) ∷ [])
      ∷ (write_of 0 0 1 (0 ∷ 0 ∷ []) ∷ write_of 1 1 0 (0 ∷ 1 ∷ []) ∷ write_of 4 1 1 (1 ∷ 2 ∷ []) ∷ write_of 6 1 0 (1 ∷ 3 ∷ []) ∷ [])
      ∷ [];
  views = (1 ∷ 2 ∷ []) ∷ (1 ∷ 3 ∷ []) ∷ (0 ∷ 0 ∷ []) ∷ [];
  registers = 3 ∷ 7 ∷ 2 ∷ [];
  points = 3 ∷ 2 ∷ 0 ∷ [];
}
unfolding yes_no draw picture write_of by nothing at_points note trader swapper paired in_pairs upd up down
traded = refl

-- before the trade
before_trade : map (run paired (begin paired (λ r. 12)) (by 1 0 ∷ by 1 0 ∷ [])).reg (1 ∷ 2 ∷ 3 ∷ []) ≡ 7 ∷ 3 ∷ 0 ∷ []
unfolding by nothing at_points note trader swapper paired upd up down
before_trade = refl

-- REPLACEMENT of both at once: what the trade takes to register 1 < register 2
at_once : replace (notes (note 1 (reg 2) ∷ note 2 (reg 1) ∷ [])) (holds (less (reg 1) (reg 2))) ≡ holds (less (reg 2) (reg 1))
unfolding note upd
at_once = refl

-- WHAT IS GOALS: of a pair, a statement about its whole; of two assignments, a triple
pair_wanted : (O : Outline) → wants paired O (step 1 1) ≡ pair 1 1 (O 1 1) (O 1 2)
unfolding nothing at_points note trader swapper paired upd
pair_wanted O = refl

pair_kept : (O : Outline) → wants paired O (interference 2 0 1 1) ≡ pair 1 1 (both_a (O 2 0) (O 1 1)) (O 2 0)
unfolding nothing at_points note trader swapper paired upd
pair_kept O = refl

trade_wanted : (O : Outline) → wants paired O (step 1 2) ≡ triple 1 2 (O 1 2) (O 1 3)
unfolding nothing at_points note trader swapper paired upd
trade_wanted O = refl

-- CLASS 4: each pair is one actor, and so are two assignments
pairs_act : map actor (interferences paired) ≡ 0 ∷ 0 ∷ 0 ∷ 1 ∷ 1 ∷ 1 ∷ 2 ∷ 2 ∷ 2 ∷ 0 ∷ 0 ∷ 0 ∷ 0 ∷ 1 ∷ 1 ∷ 1 ∷ 1 ∷ []
unfolding nothing at_points note trader swapper paired upd
pairs_act = refl
