-- A record that is a list of numbers.
use Rattle.std.specs.Prelude.{List, ℕ, ◌*◌, eqb, length}
use Rattle.limits.specs.Numbers.{numbers, within, every}
use Rattle.image_frames.specs.Fault.{unless, Checked, passed}
use Rattle.image_frames.specs.declared.fault.Fault.TheVariants.{Body, Number}

-- n numbers from lo to hi and nothing else: code 5, then code 6
unfoldable pub exactly : ℕ → ℕ → ℕ → List ℕ → Checked
exactly n lo hi b = unless (eqb (length b) (2 * n)) Body (unless (every (within lo hi) (numbers n b)) Number passed)
