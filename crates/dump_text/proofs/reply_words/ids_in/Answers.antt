use Rattle.std.proofs.Common.{arith}
use Rattle.dump_text.proofs.ReplyLemmas.{no_id}
use Rattle.dump_text.proofs.reply_words.ids_in.Goals as goal

pub returns-in_default-clause-none : goal.returns-in_default-clause-none
returns-in_default-clause-none c = λ ids e.
    no_id c.args.args.now c.loop-place.place c.index-args-place.result ids (omega arith) c.index-args-place.is e c.in_default.ensures.none
