use Rattle.label_intern.proofs.WaysLemmas.{own_order}
use Rattle.label_intern.proofs.pool.Labels.order.Goals as goal

pub returns-then-a-b : goal.returns-then-a-b
returns-then-a-b c = own_order c.args.self.now c.args.a.0 c.args.b.0 c.if-a-b.true
