use Rattle.script_runner.proofs.SharedLaws.{left_more, passes_more}
use Rattle.script_runner.proofs.shared_play.add_left.Goals as goal

pub returns-clause-left : goal.returns-clause-left
returns-clause-left g c before are =
    left_more before c.args.left.now.items c.push.new.self.items c.args.worker c.leave-own.result.0 are c.leave-own.ensures.left
    c.in_ok-push.ensures.items

pub returns-clause-seen : goal.returns-clause-seen
returns-clause-seen g c before are =
    passes_more before c.args.passes.now.items c.push-2.new.self.items c.args.worker c.leave-own.result.1 are c.leave-own.ensures.seen
    c.in_ok-push-2.ensures.items
