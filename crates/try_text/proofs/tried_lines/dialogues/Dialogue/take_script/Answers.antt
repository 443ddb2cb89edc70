use Rattle.std.proofs.Common.{◌≡◌, sym, ◌∙◌}
use Rattle.try_text.proofs.DialogueLaws.{taken_more}
use Rattle.try_text.proofs.tried_lines.dialogues.Dialogue.take_script.Goals as goal

pub invariant_of-self-2 : goal.invariant_of-self-2
invariant_of-self-2 c =
    taken_more c.self.inside.limits c.self.inside.lines.items c.reserve.new.self.items c.push_reserved.new.self.items
    c.args.script c.in-Ok.question c.in_ok-reply.reply c.binds_of-binds.result c.if_made.result c.self.inside.current
    c.answer.new.self c.self.invariant c.in-Ok.ensures c.in_ok-reply.ensures.reply c.in_ok-reply.ensures.ok
    c.binds_of-binds.ensures c.if_made.ensures c.reserve.ensures.items c.push_reserved.ensures.items
