use Rattle.hidden_replies.proofs.Telling.{told_all}
use Rattle.hidden_replies.proofs.hidden.hidden_replies.Goals as goal

pub returns-in-Some-clause-told : goal.returns-in-Some-clause-told
returns-in-Some-clause-told c =
    told_all c.args.label.now c.args.audited.now.bytes.now c.in_ok-dump.dump.now c.in_ok-told.field-0 c.in-Some.told
    c.in_ok-dump.ensures.dump c.in_ok-told.ensures.told c.in_ok-told.ensures.exact c.in-Some.is
