-- A run across, worked out by hand: message passing, handed over while the flag is there and not yet seen. Memory, views and registers
-- stay; points are mapped.
use mathlib.Core.Path.{◌≡◌, refl}
use mathlib.Core.Bool.{true, false}
use mathlib.Core.List.{List, [], ◌∷◌}
use Rattle.semantics.specs.Base.{upd}
use Rattle.semantics.specs.Formula.{Formula.const}
use Rattle.semantics.specs.Machine.{Program, Access.none, Access.load, Instr, Instr.act, Step, run, up, down}
use Rattle.semantics.proofs.Computed.{begun, picture, draw, yes_no, write_of, by, nothing, at_points, sender, receiver, message_passing}
use Rattle.handover_spec.specs.Handover.{NewPoint, handed, across}

-- the new code: thread 1 has nothing left to do; thread 2 clears register 2, loads the flag into register 1, then the message into
-- register 2
unfoldable taker : List Instr
taker = act none (record { to = 2; by = const 0 } ∷ []) ∷ act (load true 1 2) [] ∷ act (load false 2 1) [] ∷ []

unfoldable taking : Program
taking = record {
  threads = 2;
  words = 2;
  range = 8;
  init = λ x. 0;
  cleared = λ r. true;
  points = upd (upd (λ t. 1) 1 1) 2 4;
  code = upd (upd (λ t k. nothing) 1 (at_points [])) 2 (at_points taker);
}

-- thread 2 goes on at point 1 from its point 0; all others at point 0
unfoldable onward : NewPoint
onward = upd (λ t k. 0) 2 (upd (λ k. 0) 0 1)

unfoldable sent : List Step
sent =
    by 2 0  -- reads the flag's first write: 0
    ∷ by 1 0  -- stores the message behind its first write
    ∷ by 2 0  -- the branch goes back
    ∷ by 1 0  -- stores the flag behind its first write, with the view that names both new writes
    ∷ []

between : picture (handed onward (run message_passing (begun message_passing) sent)) ≡ record {
  rows =
      (write_of 0 0 0 (0 ∷ 0 ∷ []) ∷ write_of 1 0 0 (1 ∷ 0 ∷ []) ∷ [])
      ∷ (write_of 0 0 0 (0 ∷ 0 ∷ []) ∷ write_of 1 1 0 (1 ∷ 1 ∷ []) ∷ [])
      ∷ [];
  views = (1 ∷ 1 ∷ []) ∷ (0 ∷ 0 ∷ []) ∷ (0 ∷ 0 ∷ []) ∷ [];
  registers = 0 ∷ 0 ∷ 0 ∷ [];
  points = 0 ∷ 1 ∷ 0 ∷ [];
}
unfolding draw yes_no picture write_of by nothing at_points sender receiver message_passing onward sent upd up down
between = refl

unfoldable taken : List Step
taken =
    by 1 0  -- refused: thread 1 has no instruction now
    ∷ by 2 1  -- acquires the flag: its stored view is joined in
    ∷ by 2 0  -- refused: the message's first write is before the view now
    ∷ by 2 1  -- reads the message
    ∷ []

after : picture (across message_passing taking onward (begun message_passing) sent taken) ≡ record {
  rows =
      (write_of 0 0 0 (0 ∷ 0 ∷ []) ∷ write_of 1 0 0 (1 ∷ 0 ∷ []) ∷ [])
      ∷ (write_of 0 0 0 (0 ∷ 0 ∷ []) ∷ write_of 1 1 0 (1 ∷ 1 ∷ []) ∷ [])
      ∷ [];
  views = (1 ∷ 1 ∷ []) ∷ (1 ∷ 1 ∷ []) ∷ (0 ∷ 0 ∷ []) ∷ [];
  registers = 1 ∷ 1 ∷ 0 ∷ [];
  points = 0 ∷ 3 ∷ 0 ∷ [];
}
unfolding draw yes_no picture write_of by nothing at_points sender receiver message_passing taker taking onward sent taken upd up down
after = refl
