use Rattle.std.proofs.Common.{◌≡◌, ◌-◌, ◌+◌, drop}
use Rattle.image_frames.specs.Records.{bodies}
use Rattle.image.specs.Decode.{record_count, first_fault}
use Rattle.image.proofs.decode.check_bodies.Given as goal

abbrev pub invariant-loop-i : goal.invariant-loop-i
invariant-loop-i l =
    let z = l.formulas.sizes in
    let b = bodies l.formulas.image.now in
    first_fault l.threads z b 1 (record_count z) b ≡ first_fault l.threads z b (l.i-counter + 1) (record_count z - l.i-counter) (drop l.i-counter b)
