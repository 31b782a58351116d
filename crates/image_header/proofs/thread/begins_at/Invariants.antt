use Rattle.std.proofs.Common.{◌≡◌, ◌*◌, ◌≤◌}
use Rattle.image_header.specs.Thread.{begins}
use Rattle.image_header.proofs.thread.begins_at.Given as goal

abbrev pub invariant-loop : goal.invariant-loop
invariant-loop l = (l.at ≡ begins l.body l.counter) × (l.at ≤ 10 * l.counter)
