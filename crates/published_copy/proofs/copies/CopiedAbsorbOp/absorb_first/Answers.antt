use Rattle.std.proofs.Common.{◌≡◌, ◌+◌, ◌∷◌, ◌++◌, [], arith}
use Rattle.published_copy.specs.declared.entries.Entry.TheVariants.{Made}
use Rattle.published_copy.specs.Entries.{made, weight}
use Rattle.published_copy.proofs.EntryLaws.{settled}
use Rattle.published_copy.proofs.copies.CopiedAbsorbOp.absorb_first.Goals as goal

pub returns-then-weight-operation-2-clause-absorbed :
    goal.returns-then-weight-operation-2-clause-absorbed
returns-then-weight-operation-2-clause-absorbed c =
    let op = c.args.operation.now in
    let saw = c.weighed-weight in
    let more : weight saw.result.1.log ≡ weight op.seen.log + 1 = omega (arith, saw.ensures.weight, op.weighs, c.if-weight-operation.true, c.if-weight-operation-2.true) in
    let log : saw.result.1.log ≡ op.seen.log ++ Made ∷ [] = settled op.seen.log saw.result.1.log saw.ensures.begins more in
    λ i. record {
      state = c.make.ensures.state i;
      limits = c.args.self.now.limits;
      length = op.length;
      number = (saw.ensures.book i).number;
      log_name = (saw.ensures.book i).log_name;
      cells_name = (saw.ensures.book i).cells_name;
      list = made (log i);
      replies = c.make.ensures.replies i;
    }
