-- One read, and filling by reads.
use mathlib.Core.Path.{◌≡◌, refl, sym, subst}
use mathlib.Core.Bool.{Bool, true, false, cond}
use mathlib.Core.List.{List, ◌++◌}
use Prim.Native.Nat.{ℕ, ◌+◌, ◌-◌, ◌≤◌, ◌<◌}
use native.Mathlib.Omega.{arith}
use lib.Dec.{eqb}
use lib.ListN.{length, take}
use lib.Seq.{take_at, length-take-le}
use borrow.Author.Tests.{eq-eqb, ne_eqb, eqb-false}
use Rattle.std.specs.Prelude.{Option, Some, None, Result, Ok, Err, IfOk}
use Rattle.std.specs.declared.io.Error.{Error}
use Rattle.input.proofs.Counting.{prefix_len_of_le}
use Rattle.input.specs.Filled.{Fits}
use Rattle.input.specs.Reached.{reached_by, Goes}
use Rattle.input.specs.declared.Filled.{Filled}
use Rattle.input.specs.declared.Filled.TheVariants.{Full, Ended}

module _ (done : ℕ) (read : Result ℕ Error) where
  pub reached_failed : (e : Error) → read ≡ Err e → Err e ≡ reached_by read done
  unfolding reached_by
  reached_failed e q = rw q

  pub reached_end : (more : ℕ) → read ≡ Ok more → more ≡ 0 → Ok None ≡ reached_by read done
  unfolding reached_by
  reached_end more q z = rw (q, eq-eqb _ _ z)

  pub reached_more : (more : ℕ) → read ≡ Ok more → (more ≡ 0 → ⊥) → Ok (Some (done + more)) ≡ reached_by read done
  unfolding reached_by
  reached_more more q z = rw (q, ne_eqb _ _ z)

goes_by : (done room : ℕ) (read : Result ℕ Error) → IfOk read (λ more. done + more ≤ room) → Goes (reached_by read done) done room
unfolding reached_by Goes
goes_by done room (Err e) h = tt
goes_by done room (Ok more) h = go (eqb more 0) (λ e. eqb-false more 0 e)
  where
    go : (z : Bool) → (z ≡ false → more ≡ 0 → ⊥) → Goes (cond z (Ok None) (Ok (Some (done + more)))) done room
    go true n = tt
    go false n = let m : more ≡ 0 → ⊥ = n refl in (omega arith, h)

-- a read goes no further than there is room
pub goes : (done room : ℕ) (read : Result ℕ Error) (r : Result (Option ℕ) Error) → r ≡ reached_by read done
    → IfOk read (λ more. done + more ≤ room) → Goes r done room
goes done room read r e h = subst (λ x. Goes x done room) (sym e) (goes_by done room read h)

-- what is read behind a part leaves the part as it was
pub front_kept : (n : ℕ) (l rest : List ℕ) → n ≤ length l → take n (take n l ++ rest) ≡ take n l
front_kept n l rest h = take_at (take n l) rest n (length-take-le n l h)

pub ruleset reached_by_branches = (reached_failed, reached_end, reached_more)

module _ (r : Result (Option ℕ) Error) (done room : ℕ) (g : Goes r done room) where
  more_within : (end : ℕ) → r ≡ Ok (Some end) → (done < end) × (end ≤ room)
  unfolding Goes
  more_within end e = subst (λ x. Goes x done room) e g

  more_grows : (end : ℕ) → r ≡ Ok (Some end) → done < end
  more_grows end e = (more_within end e).0

  pub more_fits : (end : ℕ) → r ≡ Ok (Some end) → end ≤ room
  more_fits end e = (more_within end e).1

  -- what is left to fill is less after it
  pub less_left : (end was : ℕ) → r ≡ Ok (Some end) → room ≡ was → done < was → room - end < was - done
  less_left end was e q h = let g = more_grows end e in omega arith

-- at the input's end the buffer is not full
pub ended_fits : (l : List ℕ) (done : ℕ) → done < length l → Fits (Ok (Ended done)) l
unfolding Fits
ended_fits l done h = (h, prefix_len_of_le done l (omega arith))

pub full_fits : (l : List ℕ) → Fits (Ok Full) l
unfolding Fits
full_fits l = tt

pub failed_fits : (l : List ℕ) (e : Error) → Fits (Err e) l
unfolding Fits
failed_fits l e = tt

pub ruleset fill_branches = (less_left, more_fits, ended_fits, full_fits, failed_fits)
