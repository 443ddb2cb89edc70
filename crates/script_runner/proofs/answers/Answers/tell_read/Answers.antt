use Rattle.std.proofs.Common.{◌∙◌, ◌++◌, ◌∷◌, [], Ok, ap, length, sym, subst}
use Rattle.std.specs.List.{AllByRecursion}
use Rattle.script_rules.specs.Lines.{seen, told}
use Rattle.script_runner.specs.Answers.{IsThere, LineAnswers}
use Rattle.script_runner.specs.declared.answers.AskedQuery.{AskedQuery}
use Rattle.script_runner.specs.declared.answers.ToldLine.{ToldLine}
use Rattle.script_runner.proofs.AnswerLaws.{asked_more, asked_there_more, lines_there, lines_there_more, replies_more, told_more}
use Rattle.script_runner.proofs.answers.Answers.tell_read.Goals as goal

pub returns-clause-told : goal.returns-clause-told
returns-clause-told c =
    told_more c.self.inside.bytes.items c.keep.new.kept.items c.self.inside.replies.items c.keep.new.whole.items c.keep.ensures.stay
    c.self.inside.lines.items c.note_line.new.lines.items (record { number = c.args.number; answer = c.in_ok-answer.answer })
    (Ok c.args.reply.now) c.self.invariant.told c.in_ok-note_line.ensures.ok c.in_ok-answer.ensures.kept.1
    ∙ ap (λ (k : LineAnswers). k.told ++ told c.args.number (Ok c.args.reply.now) ∷ []) c.self.view_is

pub returns-clause-reads : goal.returns-clause-reads
returns-clause-reads c =
    asked_more c.self.inside.bytes.items c.keep.new.kept.items c.self.inside.replies.items c.keep.new.whole.items c.keep.ensures.stay
    c.self.inside.asked.items c.note_read.new.asked.items
    (record { length = c.args.length; query = c.args.query.now; answer = c.in_ok-answer.answer }) c.args.reply.now
    c.self.invariant.read c.in_ok-note_read.ensures.ok c.in_ok-answer.ensures.kept.2
    ∙ ap (λ (k : LineAnswers). k.reads ++ seen c.args.length c.args.query.now c.args.reply.now ∷ []) c.self.view_is

pub invariant_of-self-in_err-note_line : goal.invariant_of-self-in_err-note_line
invariant_of-self-in_err-note_line c =
    let q : AskedQuery = record { length = c.args.length; query = c.args.query.now; answer = c.in_ok-answer.answer } in
    record {
      told = subst (AllByRecursion (λ (l : ToldLine). IsThere (length c.keep.new.kept.items) (length c.keep.new.whole.items) l.answer))
          (sym c.in_err-note_line.ensures.err)
          (lines_there c.self.inside.bytes.items c.keep.new.kept.items c.self.inside.replies.items c.keep.new.whole.items
          c.keep.ensures.stay c.self.inside.lines.items c.self.invariant.told);
      read = asked_there_more c.self.inside.bytes.items c.keep.new.kept.items c.self.inside.replies.items c.keep.new.whole.items
          c.keep.ensures.stay c.self.inside.asked.items c.note_read.new.asked.items q c.self.invariant.read c.in_ok-note_read.ensures.ok
          c.in_ok-answer.ensures.kept.0;
      replies = replies_more c.keep.new.kept.items c.keep.new.whole.items c.self.inside.asked.items c.note_read.new.asked.items q
          c.args.reply.now c.self.invariant.replies c.in_ok-note_read.ensures.ok c.in_ok-answer.ensures.kept.1;
    }

pub invariant_of-self-2 : goal.invariant_of-self-2
invariant_of-self-2 c =
    let q : AskedQuery = record { length = c.args.length; query = c.args.query.now; answer = c.in_ok-answer.answer } in
    let line : ToldLine = record { number = c.args.number; answer = c.in_ok-answer.answer } in
    record {
      told = lines_there_more c.self.inside.bytes.items c.keep.new.kept.items c.self.inside.replies.items c.keep.new.whole.items
          c.keep.ensures.stay c.self.inside.lines.items c.note_line.new.lines.items line c.self.invariant.told c.in_ok-note_line.ensures.ok
          c.in_ok-answer.ensures.kept.0;
      read = asked_there_more c.self.inside.bytes.items c.keep.new.kept.items c.self.inside.replies.items c.keep.new.whole.items
          c.keep.ensures.stay c.self.inside.asked.items c.note_read.new.asked.items q c.self.invariant.read c.in_ok-note_read.ensures.ok
          c.in_ok-answer.ensures.kept.0;
      replies = replies_more c.keep.new.kept.items c.keep.new.whole.items c.self.inside.asked.items c.note_read.new.asked.items q
          c.args.reply.now c.self.invariant.replies c.in_ok-note_read.ensures.ok c.in_ok-answer.ensures.kept.1;
    }
