-- What a check that is passed has found.
use mathlib.Core.Path.{◌≡◌, refl}
use mathlib.Core.Bool.{Bool, true, false}
use Prim.Native.Nat.{ℕ}
use native.Mathlib.Omega.{arith}
use Rattle.image_frames.specs.Fault.{unless, also, Checked, passed}
use Rattle.image_frames.specs.declared.fault.Fault.{Fault}
use Rattle.std.specs.Prelude.{Ok, Err}

pub faulty_passed : (f : Fault) → Err f ≡ passed → ⊥
faulty_passed f e = let q : ◌≡◌ {A = ℕ} 0 1 = cc in omega arith

pub unless_passed : (b : Bool) (f : Fault) (c : Checked) → unless b f c ≡ passed → (b ≡ true) × (c ≡ passed)
unfolding unless
unless_passed true f c e = (refl, e)
unless_passed false f c e = absurd (faulty_passed f e)

pub also_passed : (c d : Checked) → also c d ≡ passed → (c ≡ passed) × (d ≡ passed)
unfolding also
also_passed (Ok _) d e = (refl, e)
also_passed (Err f) d e = absurd (faulty_passed f e)
