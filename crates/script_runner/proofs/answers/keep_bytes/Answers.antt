use Rattle.std.proofs.Common.{rules, ◌≡◌, length}
use Rattle.script_runner.proofs.AnswerLaws.{bytes_kept, bytes_stay}
use Rattle.script_runner.proofs.answers.keep_bytes.Goals as goal

pub returns-clause-stay : goal.returns-clause-stay
returns-clause-stay c whole =
    bytes_stay c.args.kept.now.items c.push.new.self.items c.args.bytes.now whole c.in_ok-push.ensures.items

pub returns-clause-kept : goal.returns-clause-kept
returns-clause-kept c whole =
    let at : c.len-place.result ≡ length c.args.kept.now.items = search rules in
    bytes_kept c.args.kept.now.items c.push.new.self.items c.args.bytes.now whole c.len-place.result at c.in_ok-push.ensures.items
