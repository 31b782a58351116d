-- An instruction: the ways through the functions, one law for each.
use Prim.Native.Nat.{ℕ, zero, suc}
use mathlib.Core.Path.{◌≡◌, refl}
use mathlib.Core.List.{List}
use mathlib.Core.Bool.{Bool, true, false, not}
use lib.Dec.{eqb}
use native.Mathlib.Omega.{arith}
use borrow.Author.Tests.{eq-eqb, ne_eqb, le-leb, lt-leb}
use Rattle.logic.specs.Opcode as Opcode
use lib.ListN.{get_or, drop}
use Rattle.limits.specs.Numbers.{le16, within}
use Rattle.image_frames.proofs.Branches.Checks.{joined}
use Rattle.image_header.specs.declared.sizes.Sizes.{Sizes}
use Rattle.image_header.specs.declared.instruction.Half.{Half}
use Rattle.image_header.specs.declared.instruction.Instruction.{Instruction}
use Rattle.image_header.specs.declared.instruction.Fields.{Fields}
use Rattle.image_header.specs.Instruction.{twofold, instruction_size, half, no_half, second_half, instruction, fields_of, fields_fit, half_fits, second_fits, ranged}

module _ (b : List ℕ) (o x y f : ℕ) (eo : o ≡ get_or b 0 0) (ex : x ≡ get_or b 1 0) (ey : y ≡ get_or b 2 0) (ef : f ≡ le16 (drop 3 b)) where
  pub half_is : record { operation = o; a = x; b = y; formula = f } ≡ half b
  unfolding half
  half_is = rw (eo, ex, ey, ef)

  pub read_is : (h : Half) → h ≡ second_half o b → record { operation = o; a = x; b = y; formula = f; second = h } ≡ instruction b
  unfolding instruction
  read_is h eh = rw (eh, eo, ex, ey, ef)

module _ (op : ℕ) (t : Bool) (e : t ≡ twofold op) where
  pub size_two : t ≡ true → 10 ≡ instruction_size op
  unfolding instruction_size
  size_two h = rw (← e, h)

  pub size_one : t ≡ false → 5 ≡ instruction_size op
  unfolding instruction_size
  size_one h = rw (← e, h)

  pub second_there : (b l : List ℕ) (h : Half) → t ≡ true → l ≡ drop 5 b → h ≡ half l → h ≡ second_half op b
  unfolding second_half
  second_there b l h d m g = rw (← e, d, ← m) g

  pub second_none : (b : List ℕ) → t ≡ false → no_half ≡ second_half op b
  unfolding second_half
  second_none b d = rw (← e, d)

pub ruleset instruction_branches = (half_is, read_is, size_two, size_one, second_there, second_none)

-- a number that has to be 0
pub within_zero : (n : ℕ) → within 0 0 n ≡ eqb n 0
unfolding within
within_zero zero = refl
within_zero (suc n) = let q : suc n ≡ 0 → ⊥ = omega arith in
    rw (le-leb 0 (suc n) (omega arith), lt-leb (suc n) 0 (omega arith), ne_eqb (suc n) 0 q)

pub ruleset half_fits_search = (within_zero, joined)

module _ (i : Instruction) (z : Sizes) (t : Bool) (e : t ≡ twofold i.operation) where
  pub second_alone : t ≡ false → true ≡ second_fits z i
  unfolding second_fits
  second_alone h = rw (← e, h)

  module _ (w : t ≡ true) (f : Bool) (ef : f ≡ half_fits z i.second) where
    pub second_faulty : f ≡ false → false ≡ second_fits z i
    unfolding second_fits
    second_faulty h = rw (← e, w, ← ef, h)

    pub second_differs : f ≡ true → i.operation ≡ Opcode.assign_two → not (eqb i.a i.second.a) ≡ second_fits z i
    unfolding second_fits
    second_differs h o = rw (← e, w, ← ef, h, eq-eqb _ _ o)

    pub second_noted : f ≡ true → (i.operation ≡ Opcode.assign_two → ⊥) → true ≡ second_fits z i
    unfolding second_fits
    second_noted h o = rw (← e, w, ← ef, h, ne_eqb _ _ o)

pub ruleset second_fits_branches = (second_alone, second_faulty, second_differs, second_noted)

module _ (i : Instruction) (last : ℕ) (z : Sizes) (f : Fields) (g : Bool) (e : f ≡ fields_of i.operation last z)
    (d : g ≡ fields_fit i f) where
  pub fits_none : g ≡ false → false ≡ ranged last z i
  unfolding ranged
  fits_none h = rw (← e, ← d, h)

  pub fits_second : (r : Bool) → g ≡ true → r ≡ second_fits z i → r ≡ ranged last z i
  unfolding ranged
  fits_second r h k = rw (← e, ← d, h) k

pub ruleset instruction_fits_branches = (fits_none, fits_second)
