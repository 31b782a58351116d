-- Accepted images and their sizes.
use Rattle.std.specs.Prelude.{◌≡◌, List, ℕ, Some}
use Rattle.image_header.specs.declared.sizes.Sizes.{Sizes}
use Rattle.checker_spec.specs.Acceptance.{acceptance}
use Rattle.trim_spec.specs.Canonical.{Bytes}

-- the bytes s are an accepted image with sizes z
pub record Accepted (s : List ℕ) (z : Sizes) : Type 0 where
  pub bytes : Bytes s
  pub granted : acceptance s ≡ Some z
