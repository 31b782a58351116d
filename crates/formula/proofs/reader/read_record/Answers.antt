use Rattle.formula.proofs.ReaderBranches.{body_formula}
use Rattle.formula.proofs.reader.read_record.Goals as goal

pub returns-then-end-body : goal.returns-then-end-body
returns-then-end-body c =
    body_formula c.args.body.now c.args.counts c.args.at _ c.read_at-end.ensures c.if-end-lt-LIMIT.false c.if-end-body.true
