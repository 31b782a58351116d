use Rattle.rules_justified.specs.Marks.{as_marks}
use Rattle.obligations.proofs.ClaimBranches.{Borne}
use Rattle.obligations.proofs.claims.denied_of.Given as goal

-- the claims before claim i are borne out
abbrev pub invariant-loop-i : goal.invariant-loop-i
invariant-loop-i l = Borne l.certificate.records.now.image.now l.certificate.records.now.sizes (as_marks l.certificate.marks.now) l.i
