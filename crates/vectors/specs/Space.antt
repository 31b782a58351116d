-- Space for the body of a case.
use Rattle.std.specs.Prelude.{ℕ, ◌+◌, ◌*◌}
use Rattle.limits.specs.Limits.{image_bytes}

-- two images, each with a byte more than it may have
abbrev pub space_bytes : ℕ
space_bytes = 2 * (image_bytes + 1)
