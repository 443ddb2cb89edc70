use Rattle.std.proofs.Common.{sym, arith}
use Rattle.call_records.proofs.CallLemmas.{none_at}
use Rattle.call_records.proofs.asking.call_into.Goals as goal

pub returns-in_default : goal.returns-in_default
returns-in_default c = sym (none_at c.args.request.now.call c.args.request.now (λ some. omega arith))
