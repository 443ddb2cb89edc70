use Rattle.dump_text.proofs.ReplyLemmas.{NoneBefore}
use Rattle.dump_text.proofs.reply_reading.read_listed.Given as goal

abbrev pub invariant-loop-count : goal.invariant-loop-count
invariant-loop-count l = NoneBefore l.text l.count
