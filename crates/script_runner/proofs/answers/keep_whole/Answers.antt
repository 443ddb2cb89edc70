use Rattle.std.proofs.Common.{rules, ◌≡◌, length}
use Rattle.script_runner.proofs.AnswerLaws.{reply_kept, reply_stays}
use Rattle.script_runner.proofs.answers.keep_whole.Goals as goal

pub returns-clause-stay : goal.returns-clause-stay
returns-clause-stay c bytes =
    reply_stays bytes c.args.whole.now.items c.push.new.self.items c.args.reply.now c.in_ok-push.ensures.items

pub returns-clause-kept : goal.returns-clause-kept
returns-clause-kept c bytes =
    let at : c.len-place.result ≡ length c.args.whole.now.items = search rules in
    reply_kept bytes c.args.whole.now.items c.push.new.self.items c.args.reply.now c.len-place.result at c.in_ok-push.ensures.items
