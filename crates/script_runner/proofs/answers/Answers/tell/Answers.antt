use Rattle.std.proofs.Common.{◌∙◌, ◌++◌, ◌∷◌, [], Ok, ap}
use Rattle.script_rules.specs.Lines.{told}
use Rattle.script_runner.specs.Answers.{LineAnswers}
use Rattle.script_runner.proofs.AnswerLaws.{asked_stay, told_more}
use Rattle.script_runner.proofs.answers.Answers.tell.Goals as goal

pub returns-clause-told : goal.returns-clause-told
returns-clause-told c =
    told_more c.self.inside.bytes.items c.keep.new.kept.items c.self.inside.replies.items c.keep.new.whole.items c.keep.ensures.stay
    c.self.inside.lines.items c.note_line.new.lines.items (record { number = c.args.number; answer = c.in_ok-answer.answer })
    (Ok c.args.reply.now) c.self.invariant.told c.in_ok-note_line.ensures.ok c.in_ok-answer.ensures.kept.1
    ∙ ap (λ (k : LineAnswers). k.told ++ told c.args.number (Ok c.args.reply.now) ∷ []) c.self.view_is

pub returns-clause-reads : goal.returns-clause-reads
returns-clause-reads c =
    asked_stay c.self.inside.bytes.items c.keep.new.kept.items c.self.inside.replies.items c.keep.new.whole.items c.keep.ensures.stay
    c.self.inside.asked.items c.self.invariant.read ∙ ap (λ (k : LineAnswers). k.reads) c.self.view_is
