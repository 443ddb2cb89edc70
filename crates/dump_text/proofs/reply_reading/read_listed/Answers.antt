use Rattle.std.proofs.Common.{refl}
use Rattle.dump_text.proofs.ReplyLemmas.{list_found, list_not}
use Rattle.dump_text.proofs.reply_reading.read_listed.Goals as goal

pub returns-in-Some : goal.returns-in-Some
returns-in-Some c = list_found c.args.text.now _ c.in_ok-listed.field-0 c.in-Some.listed c.in-Some.is c.in_ok-listed.ensures

pub loop-count-preserved : goal.loop-count-preserved
loop-count-preserved c =
    list_not c.args.text.now c.loop-count.count _ c.in_ok-listed.field-0 c.in_default.is refl c.in_ok-listed.ensures c.loop-count.invariant
