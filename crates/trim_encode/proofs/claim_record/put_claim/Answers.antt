use Rattle.trim_encode.proofs.RecordPieces.{claim_put, claim_size}
use Rattle.limits.proofs.BranchTests.{tests}
use native.Mathlib.Omega.{arith}
use Rattle.trim_encode.proofs.claim_record.put_claim.Goals as goal

pub put_byte-requires : goal.put_byte-requires
put_byte-requires c =
    let e = claim_size c.args.lines.now c.args.body.now in
    omega (arith, e, c.requires)

pub put_five-requires : goal.put_five-requires
put_five-requires c =
    let e = claim_size c.args.lines.now c.args.body.now in
    omega (arith, e, c.requires, c.put_byte.ensures.end, c.put_byte.ensures.long)

pub returns : goal.returns
returns c = search (claim_put, tests)
